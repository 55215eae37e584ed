-- A refused call with bytes changes nothing and consumes nothing; any other consumes a byte at least, where there is one and room
-- for a line. At a rate that is none every call is refused. Assumes nothing.
use Rattle.std.specs.Prelude.{Option, Err}
use mathlib.Core.Path.{◌≡◌, sym, ap, ◌∙◌}
use mathlib.Core.Bool.{false}
use mathlib.Core.List.{List, [], ◌∷◌, flat_map}
use Prim.Native.Nat.{ℕ, ◌≤◌}
use native.Mathlib.Omega.{arith}
use borrow.Author.Tests.{eqb-false}
use lib.Dec.{eqb}
use lib.IntN.{ℤ}
use lib.ListN.{length}
use Rattle.machine.specs.Runs.{Machine, run, answers}
use Rattle.machine.proofs.Parts.{answers_long}
use Rattle.shaping.specs.Rate.{rate_fit, rate_of}
use Rattle.protocol.specs.declared.Refusal.{Refusal}
use Rattle.protocol.specs.Refusals.{PaperRefusal, bare, on_paper}
use Rattle.search.proofs.AgeInPass.{by_test}
use Rattle.demodulator.specs.declared.SoftDemodulator.{SoftDemodulator}
use Rattle.demodulator.specs.Fit.{record_fit_lem}
use Rattle.demodulator.specs.Calls.{Paper, refusal, is_refusal, refused}
use Rattle.demodulator.specs.Singles.{Single, Said, blank}
use Rattle.demodulator.proofs.CallCases.{sample_other_rate}
use Rattle.listening.specs.Listener.{listener, own_record}
use Rattle.listening.specs.Verdict.{verdict}
use Rattle.receiving.specs.declared.Receiving.{Receiving}
use Rattle.receiving.specs.declared.AfterBytes.{AfterBytes}
use Rattle.receiving.specs.Text.{lines_of, go_in, batch_of, told_to}
use Rattle.receiving.specs.Hear.{looked, samples_in_lem, Intake, intake_of, empty_told, record_intake, receipt_paper, HearSays}
use Rattle.receiving.specs.Parts.{record_told}
use Rattle.receiving.proofs.BytePairs.{odd_alone, one_waits}
use Rattle.receiving.proofs.FedCount.{told_none, told_some}
use Rattle.receiving.proofs.FedStretch.{told_at}
use Rattle.receiving.proofs.ConsumedBytes.{most}

-- ---- of any receiver
module _ {S : Type 0} (m : Machine S Single Said) (empty : S → Paper) (s : S) (odd : Option ℕ) (bytes : List ℕ) (places : ℕ) where
  abbrev said : List Said
  said = answers (listener m verdict) s (samples_in_lem odd bytes)

  abbrev call : Intake S
  call = intake_of m empty s odd bytes places

  pub refused_intake : (number : PaperRefusal) → call.answer ≡ refusal number → call ≡ record { answer = refusal number; consumed = 0; text = []; state = s; odd = odd }
  unfolding intake_of batch_of run answers lines_of flat_map
  refused_intake number e =
      let none : go_in said places ≡ 0 = told_none (empty s) said places (ap is_refusal e) in
      rw (e, none) (λ i. record { answer = refusal number; consumed = 0; text = []; state = s; odd = odd_alone odd i })

  -- and one that is not refused consumes a byte at least, where there is one and there is room for a line
  pub takes_some : 97 ≤ places → 1 ≤ length bytes → is_refusal call.answer ≡ false → 1 ≤ call.consumed
  unfolding intake_of batch_of
  takes_some enough some e =
      let n : ℕ = go_in said places in
      let xs : List ℤ = samples_in_lem odd bytes in
      rw e
      (by_test (λ (t : ℕ). 1 ≤ t) (eqb n (length xs)) _ _ (λ _. some)
      (λ t.
      let more : 1 ≤ length said = omega (arith, answers_long (listener m verdict) xs s, most m empty s odd bytes places, eqb-false n (length xs) t) in
      omega (arith, told_some (empty s) said places enough e more, one_waits odd)))

-- ---- "Every refusal returns its number only, with record and buffers as they were.", of the promise
pub record Unmoved (r : Receiving) (lines : List ℕ) (a : AfterBytes) (after : List ℕ) : Type 0 where
  pub consumes : a.consumed ≡ 0
  pub writes_none : a.written ≡ 0
  pub leaves : a.receiving ≡ r
  pub room : after ≡ lines

pub refused_hear : (r : Receiving) (bytes lines : List ℕ) (a : AfterBytes) (after : List ℕ) (number : PaperRefusal) → HearSays r bytes lines a after → receipt_paper a.answer ≡ refusal number → Unmoved r lines a after
refused_hear r bytes lines a after number says told =
    let e = refused_intake own_record empty_told r.demodulator r.odd (looked bytes (length lines)) (length lines) number (sym says.answers ∙ told) in
    record { consumes = says.consumes ∙ rw e; writes_none = says.counts ∙ rw e; leaves = says.leaves ∙ rw e; room = says.writes ∙ rw e }

-- and there is such an answer wherever the call is refused
pub refused_says : (r : Receiving) (bytes lines : List ℕ) (why : Refusal) → (record_intake r bytes (length lines)).answer ≡ refusal (on_paper why) → HearSays r bytes lines (record { answer = Err why; consumed = 0; written = 0; receiving = r }) lines
refused_says r bytes lines why e =
    let same = refused_intake own_record empty_told r.demodulator r.odd (looked bytes (length lines)) (length lines) (on_paper why) e in
    record { answers = rw same; consumes = rw same; counts = rw same; leaves = rw same; writes = rw same }

-- ---- 15: "any rate but the two, checked first", whatever the bytes and the room, also where no sample is given
told_other : (m : SoftDemodulator) → rate_fit m.rate ≡ false → (xs : List ℤ) → record_told m xs ≡ refusal (bare 15)
unfolding answers told_to record_fit_lem
told_other m e [] = rw e
told_other m e (x ∷ xs) = told_at m x xs (refused 15 m blank) (sample_other_rate (rate_of m.rate) m x blank e)

pub other_rate_lem : (r : Receiving) (bytes : List ℕ) (places : ℕ) → rate_fit r.demodulator.rate ≡ false
    → record_intake r bytes places ≡ record { answer = refusal (bare 15); consumed = 0; text = []; state = r.demodulator; odd = r.odd }
unfolding intake_of
other_rate_lem r bytes places e =
    refused_intake own_record empty_told r.demodulator r.odd (looked bytes places) places (bare 15)
    (told_other r.demodulator e (samples_in_lem r.odd (looked bytes places)))
