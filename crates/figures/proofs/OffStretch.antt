-- The carrier over a stretch of at most 24 symbols whose timer is off, or at its end, before it: where it is off after it too, it is held after no
-- sample but the last, whose reply may have set it. Over the record. Assumes nothing.
use Rattle.std.specs.Prelude.{Option, None}
use mathlib.Core.Path.{◌≡◌, refl, sym, ap, subst, ◌∙◌}
use mathlib.Core.Logic.{inl, inr}
use mathlib.Core.Bool.{Bool, true, false, cond}
use mathlib.Core.List.{List, [], ◌∷◌, map}
use Prim.Native.Nat.{ℕ, suc, ◌+◌, ◌-◌, ◌^◌, ◌≤◌}
use native.Mathlib.Omega.{arith}
use lib.Dec.{eqb}
use lib.IntN.{ℤ}
use lib.ListN.{take}
use lib.Ieee.{Float}
use Rattle.machine.specs.Runs.{run}
use Rattle.shaping.specs.Rate.{rate_of}
use Rattle.protocol.specs.Refusals.{bare}
use Rattle.search.specs.Turn.{cleared}
use Rattle.demodulator.specs.declared.SoftDemodulator.{SoftDemodulator}
use Rattle.demodulator.specs.declared.Offer.{Offer}
use Rattle.demodulator.specs.Calls.{refusal, nothing, frame, timer_held, Left}
use Rattle.demodulator.specs.Singles.{blank}
use Rattle.demodulator.specs.Feed.{Stretch, stops_before, fed_from, rest_from}
use Rattle.demodulator_laws.proofs.SampleComes.{Comes, silent, offering, stuck, comes, fed_silent, fed_offering, fed_stuck}
use Rattle.listening.specs.Listener.{listed_of, reply_to, own_record}
use Rattle.listening.specs.Verdict.{verdict}
use Rattle.listening.specs.Listen.{left_by_stretch}
use Rattle.listening.proofs.FirstSample.{left_by_sample, after_reply, same_rate}
use Rattle.figures.specs.FullList.{bit, record_held}
use Rattle.figures.proofs.CarrierTimer.{Lasts}
use Rattle.figures.proofs.HeldStretch.{held_in, held_at, held_none, Ready, next_ready, next_off, Held, lasting_stretch}

module _ (end : ℕ) (last : end ≤ 2 ^ 63) where
  pub record Unheld (n : ℕ) (m : SoftDemodulator) (xs : List ℤ) (f : Stretch SoftDemodulator) : Type 0 where
    pub least : n ≤ f.fed
    pub none : f.state.control.dcd ≡ None → held_in m (take (f.fed - n) xs) ≡ bit (record_held (left_by_stretch f))

  off_not : (t : Option ℕ) → Lasts end t → t ≡ None → ⊥
  off_not t h e = subst (Lasts end) e h

  off_cleared : (k : ℕ) (t : Option ℕ) → t ≡ None → cleared k t ≡ None
  unfolding cleared
  off_cleared k t e = rw e

  module _ (n : ℕ) (m : SoftDemodulator) (x : ℤ) (xs : List ℤ) (ready : Ready end last m (x ∷ xs)) (expired : cleared (m.control.sample + 1) m.control.dcd ≡ None) where
    unheld_silent : (m' : SoftDemodulator) (f : Stretch SoftDemodulator) → (m'.control.dcd ≡ None → Unheld (n + 1) m' xs f)
        → (Lasts end m'.control.dcd → Held end last (n + 1) m' xs f)
        → left_by_sample m x ≡ record { answer = nothing; demodulator = m'; room = blank } → Unheld n m (x ∷ xs) f
    unfolding listed_of run
    unheld_silent m' f off on e = elim (next_off end last m x xs ready _ e refl expired) [
      | inl gone ↦
          let g = off gone in
          let l = g.least in
          let one_more : f.fed - n ≡ suc (f.fed - (n + 1)) = omega arith in
          let silent-here : timer_held m'.control.dcd ≡ false = ap timer_held gone in
          let none_here : 0 + held_in m' (take (f.fed - (n + 1)) xs) ≡ held_in m' (take (f.fed - (n + 1)) xs) = omega arith in
          record { least = omega arith; none = λ q. rw (one_more, held_at m x (take (f.fed - (n + 1)) xs) _ e, silent-here) (none_here ∙ g.none q) }
      | inr lasts ↦
          let g = on lasts in
          let l = g.least in
          record { least = omega arith; none = λ q. absurd (off_not f.state.control.dcd g.stays q) }
    ]

    unheld_offering : (o : Offer) (m' : SoftDemodulator) (window : List Float) → left_by_sample m x ≡ record { answer = frame o; demodulator = m'; room = window }
        → Unheld n m (x ∷ xs) (record { answer = frame o; fed = n + 1; state = m'; room = window })
    unheld_offering o m' window e =
        let one : n + 1 - n ≡ 1 = omega arith in
        let l : Left = record { answer = frame o; demodulator = m'; room = window } in
        record { least = omega arith; none = λ q. rw (one, held_at m x [] _ e, held_none (after_reply l)) (omega arith) }

    unheld_stuck : (number : ℕ) → Unheld n m (x ∷ xs) (stops_before (refusal (bare number)) n m blank)
    unheld_stuck number =
        let zero-fed : n - n ≡ 0 = omega arith in
        record { least = omega arith; none = λ q. rw (zero-fed, held_none m) (sym (off_left (eqb n 0) q)) }
      where
        off_left : (b : Bool) → m.control.dcd ≡ None
            → bit (record_held (run own_record m (map reply_to (listed_of verdict (cond b (refusal (bare number)) nothing) blank)))) ≡ 0
        off_left true q = unfold listed_of run in rw q
        off_left false q = unfold listed_of run in rw q

    unheld_by : ((m' : SoftDemodulator) → m'.rate ≡ m.rate → Ready end last m' xs → m'.control.dcd ≡ None → Unheld (n + 1) m' xs (rest_from (rate_of m.rate) (n + 1) m' xs blank))
        → ((m' : SoftDemodulator) → m'.rate ≡ m.rate → Ready end last m' xs → Lasts end m'.control.dcd → Held end last (n + 1) m' xs (rest_from (rate_of m.rate) (n + 1) m' xs blank))
        → Comes m blank (left_by_sample m) (left_by_sample m x) → Unheld n m (x ∷ xs) (rest_from (rate_of m.rate) n m (x ∷ xs) blank)
    unheld_by off on (silent m' e) =
        let same = same_rate m x _ e in
        let r = next_ready end last m x xs ready _ e refl in
        subst (Unheld n m (x ∷ xs)) (sym (fed_silent (rate_of m.rate) m x xs blank n m' e)) (unheld_silent m' _ (off m' same r) (on m' same r) e)
    unheld_by off on (offering o m' window e) =
        subst (Unheld n m (x ∷ xs)) (sym (fed_offering (rate_of m.rate) m x xs blank n o m' window e)) (unheld_offering o m' window e)
    unheld_by off on (stuck number e all) =
        subst (Unheld n m (x ∷ xs)) (sym (fed_stuck (rate_of m.rate) m x xs blank n number e)) (unheld_stuck number)

  pub off_stretch : (n : ℕ) (m : SoftDemodulator) (xs : List ℤ) → Ready end last m xs
      → cleared (m.control.sample + 1) m.control.dcd ≡ None → Unheld n m xs (rest_from (rate_of m.rate) n m xs blank)
  unfolding fed_from listed_of run
  off_stretch n m [] ready expired =
      let zero-fed : n - n ≡ 0 = omega arith in
      record { least = omega arith; none = λ q. rw (zero-fed, held_none m, q) }
  off_stretch n m (x ∷ xs) ready expired =
      unheld_by n m x xs ready expired
      (λ m' kept r q. subst (λ (rate : ℕ). Unheld (n + 1) m' xs (rest_from (rate_of rate) (n + 1) m' xs blank)) kept (off_stretch (n + 1) m' xs r (off_cleared (m'.control.sample + 1) m'.control.dcd q)))
      (λ m' kept r h. subst (λ (rate : ℕ). Held end last (n + 1) m' xs (rest_from (rate_of rate) (n + 1) m' xs blank)) kept (lasting_stretch end last (n + 1) m' xs r h))
      (comes (rate_of m.rate) m x blank)
