-- The next call after any reads since a fresh start: it is answered as the rules say, and leaves what they say. Assumes nothing.
use Rattle.std.specs.Prelude.{Option}
use mathlib.Core.Path.{◌≡◌, sym, ap, subst, ◌∙◌}
use mathlib.Core.Bool.{true, cond}
use mathlib.Core.List.{List, [], ◌∷◌, ◌++◌, append_assoc}
use Prim.Native.Nat.{ℕ, ◌+◌, ◌*◌, ◌^◌, ◌≤◌}
use native.Mathlib.Omega.{arith}
use borrow.Author.Rules.{sfits_of}
use borrow.Author.Tests.{eq-eqb}
use lib.Dec.{ltb}
use lib.IntN.{ℤ}
use lib.ListN.{length, take, drop, length-append, take-append-drop}
use mir.Syntax.{w16}
use mir.Val.{SFits}
use Rattle.machine.specs.Runs.{run, answers, Each}
use Rattle.machine.proofs.Parts.{answers_long, each_front, each_back}
use Rattle.machine.proofs.Simulation.{runs_related, answers_alike}
use Rattle.shaping.specs.Rate.{Rate, rate_of, at48}
use Rattle.shaping.proofs.RateFacts.{facts48}
use Rattle.demodulator.specs.declared.SoftDemodulator.{SoftDemodulator}
use Rattle.demodulator.specs.Record.{fresh}
use Rattle.demodulator.specs.Fit.{record_fit_lem}
use Rattle.demodulator.specs.Calls.{nothing}
use Rattle.demodulator.specs.Singles.{Said}
use Rattle.demodulator_run.specs.Rules.{History, start}
use Rattle.demodulator_run.specs.Represents.{Represents}
use Rattle.demodulator_run.proofs.Whole.{Stands, stands_fit, stands_own, stands_start}
use Rattle.house.proofs.Samples.{sample_fits}
use Rattle.listening.specs.Listener.{listener, own_record}
use Rattle.listening.specs.Verdict.{verdict}
use Rattle.listening.proofs.Agreement.{listens, offers_agree}
use Rattle.listening.proofs.OwedReply.{NotRefused, untroubled, between_start}
use Rattle.receiving.specs.declared.Receiving.{Receiving}
use Rattle.receiving.specs.Pairs.{samples_of, odd_of, waiting}
use Rattle.receiving.specs.Text.{lines_of, text_from, go_in, batch_of, told_to}
use Rattle.receiving.specs.Hear.{most_samples, looked, samples_in_lem, consumed_of, Intake, intake_of, empty_told}
use Rattle.receiving.specs.Caller.{Bytes, Read, Caller, fresh_caller, input, given, intake_at, caller_after, consumed_by}
use Rattle.receiving.specs.Rules.{rules48, rules_intake}
use Rattle.receiving.proofs.BytePairs.{samples_joined}
use Rattle.receiving.proofs.FedCount.{told_nothing, all_in}
use Rattle.receiving.proofs.AnyReads.{samples_cut, any_reads}
use Rattle.receiving.proofs.WholeReads.{few_samples, looked_all}

-- ---- bytes make samples that a caller can give
abbrev pub SixteenBits : List ℤ → Type 0
SixteenBits = Each (SFits w16)

pub bytes_fit : (bytes : List ℕ) → Bytes bytes → SixteenBits (samples_of bytes)
unfolding Each samples_of
bytes_fit [] b = tt
bytes_fit (x ∷ []) b = tt
bytes_fit (low ∷ high ∷ bytes) b = (sfits_of (sample_fits low high b.0 b.1.0), bytes_fit bytes b.1.1)

-- ---- a call of the record and one of the rules
-- a call with no sample is not refused
empty_alike : (m : SoftDemodulator) (h : History) → Stands at48 facts48 m h → empty_told m ≡ nothing
empty_alike m h s =
    let fit : record_fit_lem (rate_of m.rate).p m ≡ true =
    subst (λ (Q : Rate). record_fit_lem Q.p m ≡ true) (sym (stands_own at48 facts48 m h s)) (stands_fit at48 facts48 m h s).for_query in
    rw fit

pub record SameIntake (f : Intake SoftDemodulator) (g : Intake History) : Type 0 where
  pub answers : f.answer ≡ g.answer
  pub consumes : f.consumed ≡ g.consumed
  pub text : f.text ≡ g.text
  pub odd : f.odd ≡ g.odd
  pub represents : Represents at48 f.state g.state

same_intake : (m : SoftDemodulator) (h : History) (odd : Option ℕ) (bytes : List ℕ) (places : ℕ) → Stands at48 facts48 m h
    → SixteenBits (samples_in_lem odd bytes)
    → SameIntake (intake_of own_record empty_told m odd bytes places) (rules_intake h odd bytes places)
unfolding intake_of batch_of
same_intake m h odd bytes places s g =
    let xs : List ℤ = samples_in_lem odd bytes in
    let said = answers_alike (listens at48 facts48 verdict) xs g m h s in
    let empty = empty_alike m h s in
    let n : ℕ = go_in (answers (listener own_record verdict) m xs) places in
    let front = each_front (SFits w16) (take n xs) (drop n xs) (subst SixteenBits (sym (take-append-drop n xs)) g) in
    let counted = ap (λ (l : List Said). go_in l places) said in
    record {
      answers = λ i. told_to (empty i) (said i);
      consumes = λ i. consumed_of odd bytes (told_to (empty i) (said i)) (counted i);
      text = ap lines_of (offers_agree at48 facts48 verdict (take n xs) front m h s) ∙ ap (λ (k : ℕ). text_from rules48 h (take k xs)) counted;
      odd = λ i. odd_of (waiting odd ++ take (consumed_of odd bytes (told_to (empty i) (said i)) (counted i)) bytes);
      represents = subst (λ (k : ℕ). Represents at48 (run (listener own_record verdict) m (take n xs)) (run (listener rules48 verdict) h (take k xs))) counted (runs_related (listens at48 facts48 verdict) (take n xs) front m h s).represents;
    }

-- ---- after any reads
module _ (reads : List Read) (r : Read) (b : Bytes (input reads ++ r.bytes)) where
  abbrev c : Caller
  c = caller_after fresh_caller reads

  abbrev before : List ℕ
  before = consumed_by fresh_caller reads

  abbrev odd : Option ℕ
  odd = c.receiving.odd

  abbrev seen : List ℕ
  seen = looked (given c r) r.places

  abbrev unseen : List ℕ
  unseen = drop (cond (ltb r.places 97) 0 (2 * most_samples)) (given c r)

  abbrev xs : List ℤ
  xs = samples_of before

  abbrev ys : List ℤ
  ys = samples_in_lem odd seen

  abbrev zs : List ℤ
  zs = samples_in_lem (odd_of (waiting odd ++ seen)) unseen

  made_odd : odd ≡ odd_of before
  made_odd = ap (λ (q : Receiving). q.odd) (any_reads reads fresh_caller).leaves

  made_record : c.receiving.demodulator ≡ run (listener own_record verdict) (fresh 48000) xs
  made_record = ap (λ (q : Receiving). q.demodulator) (any_reads reads fresh_caller).leaves

  samples : samples_of (input reads ++ r.bytes) ≡ xs ++ (ys ++ zs)
  samples =
      let all-cut : before ++ given c r ≡ input reads ++ r.bytes = sym (append_assoc before c.unused r.bytes) ∙ ap (λ (l : List ℕ). l ++ r.bytes) (any_reads reads fresh_caller).cut in
      ap samples_of (sym all-cut)
      ∙ samples_joined before (given c r)
      ∙ ap (λ (o : Option ℕ). xs ++ samples_in_lem o (given c r)) (sym made_odd)
      ∙ ap (λ (l : List ℕ). xs ++ samples_in_lem odd l) (sym (take-append-drop (cond (ltb r.places 97) 0 (2 * most_samples)) (given c r)))
      ∙ ap (λ (l : List ℤ). xs ++ l) (samples_cut odd seen unseen)

  fits : SixteenBits (xs ++ (ys ++ zs))
  fits = subst SixteenBits samples (bytes_fit (input reads ++ r.bytes) b)

  fits_now : SixteenBits ys
  fits_now = each_front (SFits w16) ys zs (each_back (SFits w16) xs (ys ++ zs) fits)

  stands : Stands at48 facts48 c.receiving.demodulator (run (listener rules48 verdict) start xs)
  stands = rw made_record (runs_related (listens at48 facts48 verdict) xs (each_front (SFits w16) xs (ys ++ zs) fits) (fresh 48000) start (stands_start at48 facts48))

  pub hear_run : SameIntake (intake_at c r) (rules_intake (run (listener rules48 verdict) start xs) odd seen r.places)
  hear_run = same_intake c.receiving.demodulator (run (listener rules48 verdict) start xs) odd seen r.places stands fits_now

  -- ---- within 2^63 samples
  module _ (l : length (samples_of (input reads ++ r.bytes)) ≤ 2 ^ 63) where
    calm : Each NotRefused (answers (listener rules48 verdict) (run (listener rules48 verdict) start xs) ys)
    calm =
        let long : length xs + length ys ≤ 2 ^ 63 = omega (arith, ap length samples ∙ length-append xs (ys ++ zs), length-append ys zs) in
        (untroubled at48 verdict ys _ (0 + length xs) (untroubled at48 verdict xs start 0 between_start (omega arith)).1 (omega arith)).0

    -- no sample is refused, neither for a reply that is owed; and with room for a line of each the call consumes all
    pub next_taken : ((intake_at c r).answer ≡ nothing) × (length (given c r) ≤ 2 * most_samples → 97 * most_samples ≤ r.places → (intake_at c r).consumed ≡ length (given c r))
    unfolding intake_of batch_of
    next_taken =
        let same = hear_run in
        let said = answers (listener rules48 verdict) (run (listener rules48 verdict) start xs) ys in
        let told : told_to nothing said ≡ nothing = told_nothing said calm in (
          same.answers ∙ told,
          λ few enough.
              let whole : seen ≡ given c r = looked_all (given c r) r.places few (omega arith) in
              let short : length seen ≤ 2 * most_samples = rw whole few in
              let long : length said ≡ length ys = answers_long (listener rules48 verdict) ys _ in
              let all : go_in said r.places ≡ length ys = all_in said calm r.places (omega (arith, long, few_samples odd seen short)) ∙ long in
              same.consumes ∙ rw (told, eq-eqb (go_in said r.places) (length ys) all) (ap length whole),
        )
