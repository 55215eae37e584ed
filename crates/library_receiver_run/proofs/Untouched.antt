-- "Every refusal returns its number only, with record and buffers as they were": a call whose code is 100 and above leaves every lent place.
-- Of any memory, made up too. Assumes nothing.
use mathlib.Core.Path.{◌≡◌, refl, sym, ap, ◌∙◌}
use mathlib.Core.Logic.{inl, inr}
use Prim.Native.Nat.{◌≤◌}
use lib.Dec.{eqb}
use Rattle.shaping.specs.Rate.{rate_of}
use Rattle.protocol.specs.Refusals.{PaperRefusal}
use Rattle.demodulator.specs.declared.SoftDemodulator.{SoftDemodulator}
use Rattle.demodulator.specs.Calls.{Paper, refusal}
use Rattle.demodulator_laws.proofs.SampleFits.{either}
use Rattle.demodulator_run.specs.Calls.{Told}
use Rattle.demodulator_run.proofs.Refused.{refused_record}
use Rattle.demodulator_run.proofs.Refused.{lent_with as roomWith}
use Rattle.library_layout.specs.Layout.{record_code_lem}
use Rattle.library_receiver.specs.Memory.{Memory, record_in, lent_as, Export, feeds, replies, asks, lent_with, called, told_after, gain_after, laid_after, Coded, memory_says, memory_next}
use Rattle.library_receiver.specs.Promises.{Says}
use Rattle.library_receiver.proofs.RefusalCodes.{paper_refused}
use Rattle.library_receiver_run.specs.Runs.{call_of, Untouched}
use Rattle.library_receiver_run.proofs.Answers.{called_told}

same_room : (e : Export) → roomWith (call_of e) ≡ (lent_with e).room
same_room (feeds xs lent) = refl
same_room (replies accepted) = refl
same_room asks = refl

module _ (m : Memory) (e : Export) where
  abbrev d : SoftDemodulator
  d = record_in m

  room_kept : (number : PaperRefusal) → (called d e).answer ≡ refusal number → (called d e).room ≡ (lent_with e).room
  room_kept number is =
      let told = called_told d e in
      let said = ap (λ (t : Told). t.answer) (sym told) ∙ is in
      let kept = (refused_record (rate_of d.rate) d (call_of e) number said).1 in
      ap (λ (t : Told). t.room) told ∙ ap (λ (t : Told). t.room) kept ∙ same_room e

  pub refused_untouched : 100 ≤ (memory_says m e).code → Untouched m e (memory_says m e) (memory_next m e)
  unfolding memory_says memory_next
  refused_untouched =
      elim (either (eqb (record_code_lem m.numbers) 0)) [
        | inr other ↦ rw other (λ l. record { memory = refl; lent = refl })
        | inl ours ↦ rw ours (λ l.
            let (number, is) = paper_refused (called d e).answer l in
            let room = room_kept number is in
            let told = ap (λ (a : Paper). told_after a (called d e).fed (lent_with e).told) is in
            let gain = ap (λ (a : Paper). gain_after a (lent_with e).gain) is in
            record {
              memory = ap (λ (a : Paper). laid_after a m (called d e).state) is;
              lent = λ i. lent_as (room i) (told i) (gain i);
            })
      ]

-- so of what an export promises
pub refused_export : (m : Memory) (e : Export) (a : Coded) (after : Memory) → Says m e a after → 100 ≤ a.code → Untouched m e a after
refused_export m e a after p big =
    let u = refused_untouched m e (rw (ap (λ (x : Coded). x.code) p.answers) at big) in
    record { memory = p.leaves ∙ u.memory; lent = ap (λ (x : Coded). x.lent) p.answers ∙ u.lent }
