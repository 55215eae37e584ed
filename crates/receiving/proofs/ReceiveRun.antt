-- What receive writes of its input, whatever sizes the reads come in and whatever room each call has, also before the input ends.
-- Assumes nothing.
use mathlib.Core.Path.{◌≡◌, refl, sym, ap, subst, ◌∙◌}
use mathlib.Core.Logic.{◌⊎◌, inl, inr}
use mathlib.Core.Bool.{not}
use mathlib.Core.List.{List, [], ◌∷◌, ◌++◌, append_assoc, append-nil, flat_map}
use Prim.Native.Nat.{ℕ, ◌*◌, ◌^◌, ◌≤◌, ◌<◌}
use native.Mathlib.Omega.{arith}
use lib.IntN.{ℤ}
use lib.ListN.{length, take, drop, length-append, take-append-drop, drop_of_length-le}
use Rattle.machine.specs.Runs.{Machine, run, Each}
use Rattle.machine.proofs.Parts.{run_joined, given_joined, each_front}
use Rattle.machine.proofs.Simulation.{runs_related}
use Rattle.shaping.specs.Rate.{Rate, at48}
use Rattle.shaping.specs.Taps.{taps}
use Rattle.shaping.proofs.RateFacts.{facts48}
use Rattle.search.specs.declared.Reply.{Reply}
use Rattle.search.proofs.AgeInPass.{by_test}
use Rattle.demodulator.specs.Record.{fresh}
use Rattle.demodulator.specs.Singles.{reply, Said}
use Rattle.demodulator_run.specs.Rules.{History, After, start, answered, single, said_all}
use Rattle.demodulator_run.specs.Represents.{Represents}
use Rattle.demodulator_run.proofs.Whole.{stands_start}
use Rattle.listening.specs.Listener.{Rule, listed_of, listed_in, listener, calls, own_record}
use Rattle.listening.specs.Verdict.{verdict}
use Rattle.listening.specs.Rules.{rules_at}
use Rattle.listening.proofs.Listener.{calls_offers}
use Rattle.listening.proofs.Agreement.{listens, same_offers}
use Rattle.receiving.specs.declared.Receiving.{Receiving}
use Rattle.receiving.specs.Pairs.{samples_of, odd_of, waiting}
use Rattle.receiving.specs.Text.{lines_of, text_from}
use Rattle.receiving.specs.Hear.{most_samples}
use Rattle.receiving.specs.Caller.{Bytes, Read, Caller, Short, fresh_caller, input, given, intake_at, calling, caller_after, text_of, consumed_by}
use Rattle.receiving.specs.Rules.{rules48, received_text}
use Rattle.receiving.proofs.BytePairs.{samples_joined}
use Rattle.receiving.proofs.Lines.{text_joined}
use Rattle.receiving.proofs.AnyReads.{any_reads}
use Rattle.receiving.proofs.WholeReads.{whole_reads}
use Rattle.receiving.proofs.NextCall.{SixteenBits, bytes_fit, next_taken}

abbrev rules_listener : Machine History ℤ Said
rules_listener = listener rules48 verdict

-- ---- the record and the rules from a fresh start
alike_from_start : (xs : List ℤ) → SixteenBits xs
    → (text_from own_record (fresh 48000) xs ≡ text_from rules48 start xs) × Represents at48 (run (listener own_record verdict) (fresh 48000) xs) (run rules_listener start xs)
alike_from_start xs g =
    (ap lines_of (same_offers at48 facts48 verdict xs g), (runs_related (listens at48 facts48 verdict) xs g (fresh 48000) start (stands_start at48 facts48)).represents)

-- ---- two parts of the input
text_cut : (xs ys : List ℕ) → received_text (xs ++ ys) ≡ received_text xs ++ text_from rules48 (run rules_listener start (samples_of xs)) (samples_of (waiting (odd_of xs) ++ ys))
unfolding received_text
text_cut xs ys = ap (text_from rules48 start) (samples_joined xs ys) ∙ text_joined rules48 start (samples_of xs) (samples_of (waiting (odd_of xs) ++ ys))

-- ---- as a list of calls, each sample and after an offer its reply: the lines of the accepted offers among the answers to them
module _ (R : Rate) where
  -- a reply is answered with no offer
  pub no_offer : (rule : Rule) (h : History) (r : Reply) → listed_in rule ((rules_at R).says h (reply r)) ≡ []
  unfolding single answered listed_of
  no_offer rule h r = by_test (λ (a : After). listed_in rule a.said ≡ []) (not h.control.owed) _ _ (λ _. refl) (λ _. refl)

pub text_of_calls : (bytes : List ℕ) → received_text bytes ≡ lines_of (flat_map (listed_in verdict) (said_all taps 10 (calls rules48 verdict start (samples_of bytes))))
unfolding received_text
text_of_calls bytes =
    ap lines_of (sym (calls_offers rules48 verdict (no_offer at48 verdict) (samples_of bytes) start))

-- ---- any reads
-- The text is that of the rules' run over the samples of all consumed bytes, and the record holds what the rules have heard.
-- A last odd byte is held: it adds no sample and no text. What was not consumed is the rest of the input.
pub record Receives (reads : List Read) : Type 0 where
  pub cut : consumed_by fresh_caller reads ++ (caller_after fresh_caller reads).unused ≡ input reads
  pub text : text_of fresh_caller reads ≡ received_text (consumed_by fresh_caller reads)
  pub represents : Represents at48 (caller_after fresh_caller reads).receiving.demodulator (run rules_listener start (samples_of (consumed_by fresh_caller reads)))
  pub odd : (caller_after fresh_caller reads).receiving.odd ≡ odd_of (consumed_by fresh_caller reads)

pub receive_run : (reads : List Read) → Bytes (input reads) → Receives reads
unfolding received_text
receive_run reads b =
    let made = any_reads reads fresh_caller in
    let first : List ℕ = consumed_by fresh_caller reads in
    let fits : Bytes first = each_front (λ (b : ℕ). b < 256) first (caller_after fresh_caller reads).unused (subst Bytes (sym made.cut) b) in
    let same = alike_from_start (samples_of first) (bytes_fit first fits) in
    record {
      cut = made.cut;
      text = made.text ∙ same.0;
      represents = rw made.leaves same.1;
      odd = ap (λ (q : Receiving). q.odd) made.leaves;
    }

-- ---- reads as the program has them: the text is that of the whole input, also where a sample was refused
pub record ReceivesWhole (reads : List Read) : Type 0 where
  pub text : text_of fresh_caller reads ≡ received_text (input reads)
  pub represents : Represents at48 (caller_after fresh_caller reads).receiving.demodulator (run rules_listener start (samples_of (input reads)))

pub receive_whole : (reads : List Read) → Short reads → Bytes (input reads) → ReceivesWhole reads
unfolding received_text
receive_whole reads short b =
    let made = whole_reads reads fresh_caller refl short in
    let same = alike_from_start (samples_of (input reads)) (bytes_fit (input reads) b) in
    record { text = made.text ∙ same.0; represents = rw made.leaves same.1 }

-- and within 2^63 samples nothing is left unused
none_unused : (back front : List Read) → (caller_after fresh_caller front).unused ≡ [] → Short back → Bytes (input (front ++ back)) → length (samples_of (input (front ++ back))) ≤ 2 ^ 63 → (caller_after fresh_caller (front ++ back)).unused ≡ []
unfolding Each flat_map run
none_unused [] front none short b l = rw (append-nil front) none
none_unused (r ∷ back) front none short b l =
    let c : Caller = caller_after fresh_caller front in
    let here : List ℕ = input front ++ r.bytes in
    let whole : input (front ++ (r ∷ back)) ≡ here ++ input back = given_joined (λ (r : Read). r.bytes) front (r ∷ back) ∙ sym (append_assoc (input front) r.bytes (input back)) in
    let fewer : length (samples_of here) ≤ 2 ^ 63 =
    omega (arith, ap (λ (q : List ℕ). length (samples_of q)) whole, ap length (samples_joined here (input back)) ∙ length-append (samples_of here) (samples_of (waiting (odd_of here) ++ input back))) in
    let few : length (given c r) ≤ 2 * most_samples = rw none short.0.0 in
    let took : (intake_at c r).consumed ≡ length (given c r) = (next_taken front r (each_front (λ (b : ℕ). b < 256) here (input back) (subst Bytes whole b)) fewer).1 few short.0.1 in
    let out : length (given c r) ≤ (intake_at c r).consumed = omega arith in
    let gone : (caller_after fresh_caller (front ++ (r ∷ []))).unused ≡ [] = ap (λ (d : Caller). d.unused) (run_joined calling front (r ∷ []) fresh_caller) ∙ drop_of_length-le (given c r) out in
    let same : front ++ (r ∷ back) ≡ (front ++ (r ∷ [])) ++ back = sym (append_assoc front (r ∷ []) back) in
    subst (λ (q : List Read). (caller_after fresh_caller q).unused ≡ []) (sym same)
    (none_unused back (front ++ (r ∷ [])) gone short.1 (subst (λ (q : List Read). Bytes (input q)) same b) (subst (λ (q : List Read). length (samples_of (input q)) ≤ 2 ^ 63) same l))

consumed_all : (reads : List Read) → Bytes (input reads) → (caller_after fresh_caller reads).unused ≡ [] → consumed_by fresh_caller reads ≡ input reads
consumed_all reads b none = sym (append-nil (consumed_by fresh_caller reads)) ∙ ap (λ (l : List ℕ). consumed_by fresh_caller reads ++ l) (sym none) ∙ (receive_run reads b).cut

pub all_taken : (reads : List Read) → Short reads → Bytes (input reads) → length (samples_of (input reads)) ≤ 2 ^ 63 → ((caller_after fresh_caller reads).unused ≡ []) × ((caller_after fresh_caller reads).receiving.odd ≡ odd_of (input reads))
unfolding run
all_taken reads short b l =
    let none = none_unused reads [] refl short b l in
    (none, (receive_run reads b).odd ∙ ap odd_of (consumed_all reads b none))

-- ---- the sizes of the reads make no difference: to any two ways that are the program's, or that leave nothing unused
abbrev pub Whole : List Read → Type 0
Whole reads = Short reads ⊎ ((caller_after fresh_caller reads).unused ≡ [])

whole_text : (reads : List Read) → Whole reads → Bytes (input reads) → text_of fresh_caller reads ≡ received_text (input reads)
whole_text reads w b =
    elim w [
      | inl short ↦ (receive_whole reads short b).text
      | inr none ↦ (receive_run reads b).text ∙ ap received_text (consumed_all reads b none)
    ]

pub sizes_alike : (reads others : List Read) → Whole reads → Whole others → Bytes (input reads) → input reads ≡ input others → text_of fresh_caller reads ≡ text_of fresh_caller others
sizes_alike reads others v w b e = whole_text reads v b ∙ ap received_text e ∙ sym (whole_text others w (rw e at b))

-- ---- a part of the input
-- What was written after some of the reads is the beginning of the whole text, whatever the other reads bring.
pub output_prefix : (front back : List Read) → Bytes (input front) → (rest : List ℕ) × (received_text (input (front ++ back)) ≡ text_of fresh_caller front ++ rest)
output_prefix front back b =
    let so_far = receive_run front b in
    let first : List ℕ = consumed_by fresh_caller front in
    let later : List ℕ = (caller_after fresh_caller front).unused ++ input back in
    let cut : input (front ++ back) ≡ first ++ later = given_joined (λ (r : Read). r.bytes) front back ∙ ap (λ (l : List ℕ). l ++ input back) (sym so_far.cut) ∙ append_assoc first (caller_after fresh_caller front).unused (input back) in
    let rest : List ℕ = text_from rules48 (run rules_listener start (samples_of first)) (samples_of (waiting (odd_of first) ++ later)) in
    (rest, ap received_text cut ∙ text_cut first later ∙ ap (λ (l : List ℕ). l ++ rest) (sym so_far.text))

-- And so it is where a write fails after some of its bytes.
pub failed_write : (front back : List Read) → Bytes (input front) → (k : ℕ) → (rest : List ℕ) × (received_text (input (front ++ back)) ≡ take k (text_of fresh_caller front) ++ rest)
failed_write front back b k =
    let written : List ℕ = text_of fresh_caller front in
    let begins = output_prefix front back b in
    (drop k written ++ begins.0, begins.1 ∙ ap (λ (l : List ℕ). l ++ begins.0) (sym (take-append-drop k written)) ∙ append_assoc (take k written) (drop k written) begins.0)
