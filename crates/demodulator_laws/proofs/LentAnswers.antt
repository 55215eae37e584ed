-- The promises of the calls over a lent window and ring fix the answer, all parts of the record and the room: the promises on the record do.
-- Assumes nothing.
use Rattle.std.specs.Prelude.{Bool, Result}
use Rattle.demodulator.specs.declared.After.{After}
use Rattle.protocol.specs.declared.Refusal.{Refusal}
use mathlib.Core.Path.{◌≡◌, ap}
use mathlib.Core.List.{List}
use Prim.Native.Nat.{ℕ}
use lib.IntN.{ℤ}
use lib.Ieee.{Float}
use Rattle.search.specs.declared.Control.{Control}
use Rattle.search.specs.declared.Reply.{Reply}
use Rattle.demodulator.specs.declared.AfterStretch.{AfterStretch}
use Rattle.demodulator.specs.declared.lent.FedLent.{FedLent}
use Rattle.demodulator.specs.declared.lent.RepliedLent.{RepliedLent}
use Rattle.demodulator.specs.Record.{assembled}
use Rattle.demodulator.specs.Lent.{stretch_of, reply_of, FeedLentSays, ReplyLentSays, CarrierLentSays}
use Rattle.demodulator.proofs.OnlyAnswer.{reply_only_answer, data_carrier_detect_only_answer}
use Rattle.demodulator.proofs.FeedSteps.{feed_only_answer}

-- all that a stretch leaves, but for the window and the ring
abbrev fed_parts : AfterStretch → FedLent
fed_parts t = record {
  answer = t.answer;
  fed = t.fed;
  filter_cursor = t.demodulator.filter_cursor;
  rx_cursor = t.demodulator.rx_cursor;
  control = t.demodulator.control;
}

abbrev replied_parts : After Unit → RepliedLent
replied_parts t = record { answer = t.answer; control = t.demodulator.control }

module _ (rate : ℕ) (window : List ℤ) (ring : List Float) (windowCursor ringCursor : ℕ) (c : Control) where
  pub feed_lent_only_answer : (xs : List ℤ) (room : List Float) (r s : FedLent) (window₁ window₂ : List ℤ) (ring₁ ring₂ room₁ room₂ : List Float)
      → FeedLentSays rate window ring windowCursor ringCursor c xs room r window₁ ring₁ room₁
      → FeedLentSays rate window ring windowCursor ringCursor c xs room s window₂ ring₂ room₂
      → (r ≡ s) × (window₁ ≡ window₂) × (ring₁ ≡ ring₂) × (room₁ ≡ room₂)
  feed_lent_only_answer xs room r s window₁ window₂ ring₁ ring₂ room₁ room₂ p q =
      let same = feed_only_answer (assembled rate window windowCursor ring ringCursor c) xs room (stretch_of rate window₁ ring₁ r) (stretch_of rate window₂ ring₂ s) room₁ room₂ p q in
      (ap fed_parts same.0, ap (λ (t : AfterStretch). t.demodulator.filter_win) same.0, ap (λ (t : AfterStretch). t.demodulator.rx_win) same.0, same.1)

  pub reply_lent_only_answer : (reply : Reply) (r s : RepliedLent) → ReplyLentSays rate window ring windowCursor ringCursor c reply r
      → ReplyLentSays rate window ring windowCursor ringCursor c reply s → r ≡ s
  reply_lent_only_answer reply r s p q =
      let left = reply_of rate window ring windowCursor ringCursor in
      ap replied_parts (reply_only_answer (assembled rate window windowCursor ring ringCursor c) reply (left r) (left s) p q)

  pub carrier_lent_only_answer : (r s : Result Bool Refusal) → CarrierLentSays rate window windowCursor ringCursor c r → CarrierLentSays rate window windowCursor ringCursor c s → r ≡ s
  carrier_lent_only_answer r s p q = data_carrier_detect_only_answer (assembled rate window windowCursor ring ringCursor c) r s (p ring) (q ring)
