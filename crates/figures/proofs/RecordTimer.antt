-- What a sample and a reply do to the record's carrier timer. Assumes nothing.
use Rattle.std.specs.Prelude.{Option, Some, None}
use mathlib.Core.Path.{◌≡◌, refl, sym, ◌∙◌, subst}
use mathlib.Core.Logic.{◌⊎◌, inl, inr}
use mathlib.Core.Bool.{false, not, true≢false}
use mathlib.Core.List.{List, []}
use Prim.Native.Nat.{ℕ, ◌+◌, ◌*◌, ◌^◌, ◌≤◌, ◌<◌}
use native.Mathlib.Omega.{arith}
use borrow.Author.Tests.{ltb-true, eqb-false}
use lib.Dec.{ltb, eqb}
use lib.IntN.{ℤ}
use lib.ListN.{length}
use lib.Ieee.{Float}
use Rattle.shaping.specs.Rate.{Rate}
use Rattle.search.specs.declared.Control.{Control}
use Rattle.search.specs.declared.Reply.{Reply}
use Rattle.search.specs.declared.Reply.TheVariants.{Accepted, Rejected}
use Rattle.search.specs.Turn.{Outcome, quiet, offer, cleared, owing, control_of, sampled, replied}
use Rattle.search.proofs.AgeInPass.{by_test}
use Rattle.demodulator.specs.declared.SoftDemodulator.{SoftDemodulator}
use Rattle.demodulator.specs.Spans.{eight}
use Rattle.demodulator.specs.Record.{back, stored}
use Rattle.demodulator.specs.Fit.{fit_for_sample_lem, fit_for_reply_lem}
use Rattle.demodulator.specs.Calls.{is_refusal, Left, finished, admitted_by, demodulated, answered}
use Rattle.figures.proofs.CarrierTimer.{Lasts, Kept, searched_kept, sampled_kept}

-- ---- a sample that is not refused
module _ (R : Rate) (small : R.p ≤ 10) (m : SoftDemodulator) (x : ℤ) (room : List Float) (few : m.control.sample ≤ 2 ^ 63) where
  abbrev n : ℕ
  n = m.control.sample + 1

  abbrev KeptBy : Left → Type 0
  KeptBy l = is_refusal l.answer ≡ false → Kept R.p n (cleared n m.control.dcd) l.demodulator.control

  finished_kept : (o : Outcome) → Kept R.p n (cleared n m.control.dcd) (control_of o) → KeptBy (finished R.p (stored R m x) room o)
  finished_kept (quiet c) K e = K
  finished_kept (offer shown c) K e = K

  pub sample_kept : KeptBy (demodulated R m x room)
  unfolding demodulated admitted_by
  sample_kept =
      by_test KeptBy (not (fit_for_sample_lem R.p m)) _ _ (λ _ e. absurd (true≢false e))
      (λ _. by_test KeptBy m.control.owed _ _ (λ _ e. absurd (true≢false e))
      (λ _. by_test KeptBy (ltb (length room) 192) _ _ (λ _ e. absurd (true≢false e))
      (λ _. by_test KeptBy (eqb m.control.sample (2 ^ 63)) _ _ (λ _ e. absurd (true≢false e))
      (λ q. let other = eqb-false m.control.sample (2 ^ 63) q in
      finished_kept (sampled R.p (eight R.p (back R.p (stored R m x))) m.control)
      (sampled_kept R.p small (eight R.p (back R.p (stored R m x))) m.control (omega arith))))))

-- ---- a reply
module _ (p : ℕ) (small : p ≤ 10) (m : SoftDemodulator) (few : m.control.sample ≤ 2 ^ 63) where
  abbrev KeptReply : SoftDemodulator → Type 0
  KeptReply l = Kept p m.control.sample m.control.dcd l.control

  replied_kept : (r : Reply) → Kept p m.control.sample m.control.dcd (replied p (eight p (back p m)) r m.control)
  unfolding replied
  replied_kept Accepted = record { count = refl; timer = inl refl }
  replied_kept Rejected =
      searched_kept p m.control.sample small few m.control.dcd (eight p (back p m)) (owing false m.control) (record { count = refl; timer = inl refl })

  pub reply_kept : (r : Reply) → KeptReply (answered p m r []).demodulator
  unfolding answered
  reply_kept r =
      by_test (λ (l : Left). KeptReply l.demodulator) (not (fit_for_reply_lem p m)) _ _ (λ _. record { count = refl; timer = inl refl })
      (λ _. by_test (λ (l : Left). KeptReply l.demodulator) (not m.control.owed) _ _ (λ _. record { count = refl; timer = inl refl })
      (λ _. replied_kept r))

-- ---- up to sample `end`: a timer that lasts to it goes on doing so, and one that is off stays off or lasts to it
module _ (p end n : ℕ) (t : Option ℕ) (c : Control) (below : n < end) (near : end ≤ n + 1 + 24 * p) (K : Kept p (n + 1) (cleared (n + 1) t) c) where
  cleared_lasts : (u : Option ℕ) → Lasts end u → Lasts end (cleared (n + 1) u)
  unfolding cleared
  cleared_lasts None h = absurd h
  cleared_lasts (Some e) h =
      by_test (Lasts end) (ltb e (n + 1)) None (Some e) (λ q. let under = ltb-true e (n + 1) q in absurd (omega arith)) (λ q. h)

  longer : (u : Option ℕ) → Lasts (n + 1 + 24 * p) u → Lasts end u
  longer None h = absurd h
  longer (Some e) h = omega arith

  pub lasts_on : Lasts end t → Lasts end c.dcd
  lasts_on h = elim K.timer [ inl e ↦ subst (Lasts end) (sym e) (cleared_lasts t h) | inr l ↦ longer c.dcd l ]

  pub off_or_lasts : cleared (n + 1) t ≡ None → (c.dcd ≡ None) ⊎ Lasts end c.dcd
  off_or_lasts e = elim K.timer [ inl q ↦ inl (q ∙ e) | inr l ↦ inr (longer c.dcd l) ]
