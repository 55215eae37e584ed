-- What `hear` promises, from what its parts promise. Assumes nothing.
use Rattle.std.specs.Prelude.{Option, Result, Ok, Err}
use Rattle.protocol.specs.declared.Refusal.{Refusal}
use mathlib.Core.Path.{◌≡◌, refl, sym, ap, ◌∙◌}
use mathlib.Core.Logic.{◌⊎◌, inl, inr}
use mathlib.Core.Bool.{true, false, not, true≢false}
use mathlib.Core.List.{List, [], ◌++◌}
use Rattle.std.specs.Result.{is_ok}
use Prim.Native.Nat.{ℕ, ◌-◌, ◌*◌, ◌≤◌, ◌<◌}
use native.Mathlib.Omega.{arith}
use borrow.Author.Tests.{eq-eqb, ne_eqb, lt-ltb, ltb-true, ltb-false}
use lib.Dec.{ltb}
use lib.IntN.{ℤ}
use lib.ListN.{length, take, drop, length-append}
use lib.Seq.{take_all, take-length, length-take-le}
use Rattle.search.proofs.AgeInPass.{by_test}
use Rattle.demodulator.specs.declared.SoftDemodulator.{SoftDemodulator}
use Rattle.demodulator.specs.Calls.{is_refusal}
use Rattle.demodulator_laws.proofs.SampleFits.{either}
use Rattle.listening.specs.Listener.{own_record}
use Rattle.receiving.specs.declared.Receiving.{Receiving}
use Rattle.receiving.specs.declared.AfterBytes.{AfterBytes}
use Rattle.receiving.specs.declared.pairs.Paired.{Paired}
use Rattle.receiving.specs.declared.pairs.Part.{Part}
use Rattle.receiving.specs.declared.windows.Heard.{Heard}
use Rattle.receiving.specs.Pairs.{odd_of, waiting}
use Rattle.receiving.specs.Text.{Batch, batch_of}
use Rattle.receiving.specs.Hear.{most_samples, looked, samples_in_lem, consumed_of, intake_of, empty_told, record_intake, receipt_paper, HearSays}
use Rattle.receiving.specs.Parts.{is_admitted_lem, looks_at, PairsUp, ConsumesPart, record_told, record_batch, HearsAll}
use Rattle.receiving.proofs.BytePairs.{no_samples}
use Rattle.receiving.proofs.FedCount.{told_none, batch_none}
use Rattle.receiving.proofs.ConsumedBytes.{part_odd, most, consumed_most}

-- ---- the bytes that are looked at
module _ (bytes : List ℕ) (places : ℕ) where
  pub looked_is : take (looks_at (length bytes) places) bytes ≡ looked bytes places
  looked_is =
      by_test (λ (k : ℕ). take k bytes ≡ looked bytes places) (ltb places 97) _ _
      (λ e. rw e)
      (λ e. rw e
      (by_test (λ (k : ℕ). take k bytes ≡ take (2 * most_samples) bytes) (ltb (length bytes) (2 * most_samples)) _ _
      (λ f. let few : length bytes ≤ 2 * most_samples = omega (arith, ltb-true (length bytes) (2 * most_samples) f) in take-length bytes ∙ sym (take_all (2 * most_samples) bytes few)) (λ f. refl)))

  pub looks_most : looks_at (length bytes) places ≤ length bytes
  looks_most =
      by_test (λ (k : ℕ). k ≤ length bytes) (ltb places 97) _ _ (λ _. omega arith)
      (λ _. by_test (λ (k : ℕ). k ≤ length bytes) (ltb (length bytes) (2 * most_samples)) _ _ (λ _. omega arith) (λ f. ltb-false (length bytes) (2 * most_samples) f))

  pub looks_few : looks_at (length bytes) places ≤ 2 * most_samples
  looks_few =
      by_test (λ (k : ℕ). k ≤ 2 * most_samples) (ltb places 97) _ _ (λ _. omega arith)
      (λ _. by_test (λ (k : ℕ). k ≤ 2 * most_samples) (ltb (length bytes) (2 * most_samples)) _ _ (λ f. omega (arith, ltb-true (length bytes) (2 * most_samples) f)) (λ _. omega arith))

  looked_long : length (looked bytes places) ≡ looks_at (length bytes) places
  looked_long = sym (ap length looked_is) ∙ length-take-le (looks_at (length bytes) places) bytes looks_most

-- as many bytes as are looked at, and the samples that they are paired to
module _ (bytes : List ℕ) (places n : ℕ) (is : n ≡ looks_at (length bytes) places) where
  pub seen_few : n ≤ 2 * most_samples
  seen_few = rw is (looks_few bytes places)

  pub seen_long : length (take n bytes) ≡ n
  seen_long = length-take-le n bytes (rw is (looks_most bytes places))

  seen_is : take n bytes ≡ looked bytes places
  seen_is = ap (λ (k : ℕ). take k bytes) is ∙ looked_is bytes places

  pub looked_all : n ≡ length (looked bytes places)
  looked_all = sym seen_long ∙ ap length seen_is

  pub paired_looked : {odd : Option ℕ} {room samples : List ℤ} {p : Paired} → PairsUp odd (take n bytes) room p samples → PairsUp odd (looked bytes places) room p samples
  paired_looked paired = rw seen_is at paired

module _ {odd : Option ℕ} {bytes : List ℕ} {room samples : List ℤ} {p : Paired} (paired : PairsUp odd bytes room p samples) where
  pub count_fits : p.count ≤ length samples
  count_fits = omega (arith, paired.same_room, paired.count)

  pub samples_long : length (take p.count samples) ≡ p.count
  samples_long = length-take-le p.count samples count_fits

-- without room for a line there is no sample
pub no_room_none : (odd : Option ℕ) (bytes : List ℕ) (places : ℕ) → places < 97 → samples_in_lem odd (looked bytes places) ≡ []
no_room_none odd bytes places l = rw (lt-ltb places 97 l) (no_samples odd)

pub by_room : (places : ℕ) (xs : List ℤ) → 1 ≤ length xs → (places < 97 → xs ≡ []) → 97 ≤ places
by_room places xs some none =
    elim (either (ltb places 97)) [
      | inl t ↦ absurd (omega (arith, ap length (none (ltb-true places 97 t))))
      | inr t ↦ ltb-false places 97 t
    ]

-- ---- the promise
pub admitted_ok : (a : Result Unit Refusal) → is_admitted_lem a ≡ is_ok a
admitted_ok (Err why) = refl
admitted_ok (Ok _) = refl

refusal_told : (a : Result Unit Refusal) → is_refusal (receipt_paper a) ≡ not (is_admitted_lem a)
refusal_told (Err why) = refl
refusal_told (Ok _) = refl

module _ (r : Receiving) (bytes lines : List ℕ) (room samples : List ℤ) (p : Paired) (a : Heard (Result Unit Refusal)) (after : List ℕ)
    (paired : PairsUp r.odd (looked bytes (length lines)) room p samples)
    (hears : HearsAll r.demodulator (take p.count samples) lines a after) where
  abbrev m : SoftDemodulator
  m = r.demodulator

  abbrev seen : List ℕ
  seen = looked bytes (length lines)

  abbrev xs : List ℤ
  xs = samples_in_lem r.odd seen

  all : HearsAll m xs lines a after
  all = rw paired.samples at hears

  pub count_long : p.count ≡ length xs
  count_long = sym (length-take-le p.count samples (omega (arith, paired.same_room, paired.count))) ∙ ap length paired.samples

  pub fed_most : a.fed ≤ length xs
  unfolding batch_of
  fed_most = rw all.feeds (most own_record empty_told m r.odd seen (length lines))

  in_words : (consumed : ℕ) (odd : Option ℕ) → consumed ≡ consumed_of r.odd seen (record_told m xs) a.fed → odd ≡ odd_of (waiting r.odd ++ take consumed seen)
      → HearSays r bytes lines (record { answer = a.answer; consumed = consumed; written = a.written; receiving = record { demodulator = a.demodulator; odd = odd } }) after
  unfolding intake_of
  in_words consumed odd e f =
      let counted : consumed ≡ consumed_of r.odd seen (record_told m xs) (record_batch m xs (length lines)).count = e ∙ ap (consumed_of r.odd seen (record_told m xs)) all.feeds in
      record {
        answers = all.answers;
        consumes = counted;
        counts = all.counts;
        leaves = λ i. record { demodulator = all.leaves i; odd = (f ∙ ap (λ (k : ℕ). odd_of (waiting r.odd ++ take k seen)) counted) i };
        writes = all.writes;
      }

  told_refusal : is_refusal (record_told m xs) ≡ not (is_admitted_lem a.answer)
  told_refusal = ap is_refusal (sym all.answers) ∙ refusal_told a.answer

  -- all samples went in
  pub whole_says : is_admitted_lem a.answer ≡ true → a.fed ≡ p.count → (consumed : ℕ) → consumed ≡ length seen
      → HearSays r bytes lines (record { answer = a.answer; consumed = consumed; written = a.written; receiving = record { demodulator = a.demodulator; odd = p.odd } }) after
  whole_says admitted e consumed long =
      in_words consumed p.odd (long ∙ rw (told_refusal, admitted, eq-eqb a.fed (length xs) (e ∙ count_long))) (paired.left_over ∙ rw (long, take-length seen))

  -- or not
  pub part_says : (q : Part) → ConsumesPart r.odd a.fed q → (is_admitted_lem a.answer ≡ false) ⊎ (a.fed ≡ p.count → ⊥)
      → HearSays r bytes lines (record { answer = a.answer; consumed = q.consumed; written = a.written; receiving = record { demodulator = a.demodulator; odd = q.odd } }) after
  part_says q part why =
      let short : is_refusal (record_told m xs) ≡ false → a.fed ≡ length xs → ⊥ = λ t.
      elim why [
        | inl refused ↦ absurd (true≢false (sym (told_refusal ∙ ap not refused) ∙ t))
        | inr other ↦ λ e. other (e ∙ sym count_long)
      ] in
      let counted : 2 * a.fed - length (waiting r.odd) ≡ consumed_of r.odd seen (record_told m xs) a.fed =
      by_test (λ (k : ℕ). 2 * a.fed - length (waiting r.odd) ≡ k) (is_refusal (record_told m xs)) _ _
      (λ t. let none_fed : a.fed ≡ 0 = all.feeds ∙ ap (λ (b : Batch SoftDemodulator). b.count) (batch_none own_record m xs (length lines) (told_none (empty_told m) _ (length lines) t)) in omega arith)
      (λ t. rw (ne_eqb a.fed (length xs) (short t))) in
      in_words q.consumed q.odd (part.bytes ∙ counted) (part.held ∙ sym (rw part.bytes (part_odd r.odd seen a.fed fed_most)))

-- ---- what a caller may read of the room, and drop of the bytes
pub written_fits : (r : Receiving) (bytes lines : List ℕ) (a : AfterBytes) (after : List ℕ) → HearSays r bytes lines a after → a.written ≤ length after
written_fits r bytes lines a after says =
    let text = (record_intake r bytes (length lines)).text in
    omega (arith, says.counts, ap length says.writes ∙ length-append text (drop (length text) lines))

pub consumed_fits : (r : Receiving) (bytes lines : List ℕ) (a : AfterBytes) (after : List ℕ) → HearSays r bytes lines a after → a.consumed ≤ length bytes
consumed_fits r bytes lines a after says =
    let places : ℕ = length lines in
    omega (arith, says.consumes, consumed_most own_record empty_told r.demodulator r.odd (looked bytes places) places, looked_long bytes places, looks_most bytes places)
