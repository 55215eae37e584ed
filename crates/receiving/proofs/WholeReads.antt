-- Reads as the program has them, from any record: each is consumed whole, or the next sample is refused, and so would any other be.
-- Either way the text is that of the whole input. Assumes nothing.
use Rattle.std.specs.Prelude.{Option}
use mathlib.Core.Path.{◌≡◌, refl, sym, ap, subst, ◌∙◌}
use mathlib.Core.Logic.{◌⊎◌, inl, inr}
use mathlib.Core.Bool.{Bool, true, false, cond, false≢true}
use mathlib.Core.List.{List, [], ◌∷◌, ◌++◌, append-nil}
use Prim.Native.Nat.{ℕ, ◌-◌, ◌*◌, ◌≤◌}
use native.Mathlib.Omega.{arith}
use borrow.Author.Tests.{eq-eqb, le-ltb}
use lib.IntN.{ℤ}
use lib.ListN.{length, length-append, drop_of_length-le}
use lib.Seq.{take_all}
use Rattle.machine.specs.Runs.{run, answers, Each}
use Rattle.shaping.specs.Rate.{rate_of}
use Rattle.protocol.specs.Refusals.{bare}
use Rattle.demodulator.specs.declared.SoftDemodulator.{SoftDemodulator}
use Rattle.demodulator.specs.Fit.{unfit_number, record_fit_lem, fit_for_sample_lem}
use Rattle.demodulator.specs.Calls.{refusal, nothing, is_refusal, Left, demodulated}
use Rattle.demodulator.specs.Singles.{blank}
use Rattle.demodulator_laws.proofs.SampleFits.{either}
use Rattle.demodulator_laws.proofs.SampleComes.{silent, offering, stuck, comes}
use Rattle.listening.specs.Listener.{own_record}
use Rattle.listening.proofs.FirstSample.{left_by_sample, after_reply, RefusesAll, Stuck, run_stuck}
use Rattle.receiving.specs.declared.Receiving.{Receiving}
use Rattle.receiving.specs.Pairs.{waiting}
use Rattle.receiving.specs.Text.{go_in, Batch, told_to}
use Rattle.receiving.specs.Hear.{most_samples, looked, samples_in_lem, intake_of, empty_told}
use Rattle.receiving.specs.Parts.{record_told, record_batch}
use Rattle.receiving.specs.Caller.{Read, Caller, Short, input, given, after, caller_after, text_of, consumed_by}
use Rattle.receiving.proofs.BytePairs.{one_waits}
use Rattle.receiving.proofs.Lines.{line_short}
use Rattle.receiving.proofs.FedCount.{told_none, none, batch_none}
use Rattle.receiving.proofs.FedStretch.{line_after, batch_at, stuck_batch, stuck_text}
use Rattle.receiving.proofs.ConsumedBytes.{samples_long}
use Rattle.receiving.proofs.AnyReads.{text_by, made_of, text_cut, made_cut, any_reads}

-- ---- with room for a line of each sample: all go in, or the record then refuses each
abbrev AllIn : List ℤ → Batch SoftDemodulator → Type 0
AllIn xs b = (b.count ≡ length xs) ⊎ Stuck b.state

all_in : (xs : List ℤ) (m : SoftDemodulator) (places : ℕ) → 97 * length xs ≤ places → AllIn xs (record_batch m xs places)
unfolding answers go_in
all_in [] m places enough = rw (batch_none own_record m [] places refl) (inl refl)
all_in (x ∷ xs) m places enough =
    let goes_in : (l : Left) → left_by_sample m x ≡ l → is_refusal l.answer ≡ false → AllIn (x ∷ xs) (record_batch m (x ∷ xs) places) = λ l e fine.
    subst (AllIn (x ∷ xs)) (sym (batch_at m x xs l e places (omega arith) fine))
    (elim (all_in xs (after_reply l) (places - length (line_after l)) (omega (arith, line_short l.answer l.room))) [
      | inl all ↦ inl (omega arith)
      | inr s ↦ inr s
    ]) in
    elim (comes (rate_of m.rate) m x blank) [
      | silent m' e ↦ goes_in _ e refl
      | offering o m' window e ↦ goes_in _ e refl
      | stuck number e all ↦ rw (stuck_batch number m all (x ∷ xs) places) (inr (number, all))
    ]

-- ---- a call
unfit_stuck : (m : SoftDemodulator) → record_fit_lem (rate_of m.rate).p m ≡ false → RefusesAll (unfit_number m) m
unfolding demodulated fit_for_sample_lem
unfit_stuck m e y = rw e

-- refused with no sample: the record is unfit
unfit_told : (m : SoftDemodulator) (xs : List ℤ) → length xs ≡ 0 → is_refusal (record_told m xs) ≡ true → record_fit_lem (rate_of m.rate).p m ≡ false
unfolding answers told_to
unfit_told m [] none = by_fitness (record_fit_lem (rate_of m.rate).p m)
  where
    by_fitness : (b : Bool) → is_refusal (cond b nothing (refusal (bare (unfit_number m)))) ≡ true → b ≡ false
    by_fitness true e = absurd (false≢true e)
    by_fitness false e = refl
unfit_told m (x ∷ xs) none = absurd (omega arith)

module _ (m : SoftDemodulator) (odd : Option ℕ) (bytes : List ℕ) (places : ℕ) (enough : 97 * length (samples_in_lem odd bytes) ≤ places) where
  call_whole : ((intake_of own_record empty_told m odd bytes places).consumed ≡ length bytes)
      ⊎ Stuck (intake_of own_record empty_told m odd bytes places).state
  unfolding intake_of
  call_whole =
      let xs : List ℤ = samples_in_lem odd bytes in
      let b : Batch SoftDemodulator = record_batch m xs places in
      elim (all_in xs m places enough) [
        | inr s ↦ inr s
        | inl all ↦ elim (either (is_refusal (record_told m xs))) [
          | inr fine ↦ inl (rw (fine, eq-eqb b.count (length xs) all))
          | inl bad ↦
              let no_more : b ≡ none m = batch_none own_record m xs places (told_none (empty_told m) _ places bad) in
              let empty : length xs ≡ 0 = sym all ∙ ap (λ (c : Batch SoftDemodulator). c.count) no_more in
              inr (unfit_number m, rw no_more (unfit_stuck m (unfit_told m xs empty bad)))
        ]
      ]

-- ---- a read as the program has it
pub few_samples : (odd : Option ℕ) (bytes : List ℕ) → length bytes ≤ 2 * most_samples → 97 * length (samples_in_lem odd bytes) ≤ 97 * most_samples
few_samples odd bytes l = omega (arith, samples_long (waiting odd ++ bytes), length-append (waiting odd) bytes, one_waits odd)

pub looked_all : (bytes : List ℕ) (places : ℕ) → length bytes ≤ 2 * most_samples → 97 ≤ places → looked bytes places ≡ bytes
looked_all bytes places few enough = rw (le-ltb places 97 enough) (take_all (2 * most_samples) bytes few)

abbrev pub WholeOrStuck : Caller → Type 0
WholeOrStuck c = (c.unused ≡ []) ⊎ Stuck c.receiving.demodulator

read_whole : (c : Caller) (r : Read) → c.unused ≡ [] → length r.bytes ≤ 2 * most_samples → 97 * most_samples ≤ r.places → WholeOrStuck (after c r)
read_whole c r none few enough =
    let all : List ℕ = given c r in
    let short : length all ≤ 2 * most_samples = rw none few in
    let seen : looked all r.places ≡ all = looked_all all r.places short (omega arith) in
    rw seen
    (elim (call_whole c.receiving.demodulator c.receiving.odd all r.places (omega (arith, few_samples c.receiving.odd all short))) [
      | inl e ↦
          let out : length all ≤ (intake_of own_record empty_told c.receiving.demodulator c.receiving.odd all r.places).consumed = omega arith in
          inl (drop_of_length-le all out)
      | inr s ↦ inr s
    ])

stuck_on : (reads : List Read) (c : Caller) (number : ℕ) → RefusesAll number c.receiving.demodulator → RefusesAll number (caller_after c reads).receiving.demodulator
stuck_on reads c number s =
    let same : (caller_after c reads).receiving.demodulator ≡ c.receiving.demodulator =
    ap (λ (q : Receiving). q.demodulator) (any_reads reads c).leaves ∙ run_stuck number c.receiving.demodulator s (samples_in_lem c.receiving.odd (consumed_by c reads)) in
    subst (RefusesAll number) (sym same) s

pub reads_end : (reads : List Read) (c : Caller) → c.unused ≡ [] → Short reads → WholeOrStuck (caller_after c reads)
unfolding Each run
reads_end [] c none short = inl none
reads_end (r ∷ reads) c none short =
    elim (read_whole c r none short.0.0 short.0.1) [
      | inl more ↦ reads_end reads (after c r) more short.1
      | inr s ↦ inr (s.0, stuck_on reads (after c r) s.0 s.1)
    ]

-- ---- so the text is that of all bytes, and the record too
pub record MadeWhole (c : Caller) (reads : List Read) : Type 0 where
  pub text : text_of c reads ≡ text_by c.receiving (input reads)
  pub leaves : (caller_after c reads).receiving.demodulator ≡ (made_of c.receiving (input reads)).demodulator

pub whole_reads : (reads : List Read) (c : Caller) → c.unused ≡ [] → Short reads → MadeWhole c reads
whole_reads reads c none short =
    let made = any_reads reads c in
    let q : Receiving = c.receiving in
    let first : List ℕ = consumed_by c reads in
    let later : List ℕ = (caller_after c reads).unused in
    let cut : first ++ later ≡ input reads = made.cut ∙ ap (λ (l : List ℕ). l ++ input reads) none in
    elim (reads_end reads c none short) [
      | inl e ↦
          let same : first ≡ input reads = sym (append-nil first) ∙ ap (λ (l : List ℕ). first ++ l) (sym e) ∙ cut in
          record { text = made.text ∙ ap (text_by q) same; leaves = ap (λ (p : Receiving). p.demodulator) (made.leaves ∙ ap (made_of q) same) }
      | inr s ↦
          let there : SoftDemodulator = (made_of q first).demodulator in
          let refuses : RefusesAll s.0 there = subst (RefusesAll s.0) (ap (λ (p : Receiving). p.demodulator) made.leaves) s.1 in
          let silent-on : text_by (made_of q first) later ≡ [] = stuck_text s.0 there refuses (samples_in_lem (made_of q first).odd later) in
          let stays : (made_of (made_of q first) later).demodulator ≡ there = run_stuck s.0 there refuses (samples_in_lem (made_of q first).odd later) in
          record {
            text = made.text ∙ sym (ap (text_by q) (sym cut) ∙ text_cut q first later ∙ ap (λ (l : List ℕ). text_by q first ++ l) silent-on ∙ append-nil (text_by q first));
            leaves = ap (λ (p : Receiving). p.demodulator) made.leaves ∙ sym (ap (λ (p : Receiving). p.demodulator) (ap (made_of q) (sym cut) ∙ made_cut q first later) ∙ stays);
          }
    ]
