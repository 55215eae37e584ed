-- A stretch that is refused, and one that stops before a sample that would be. Assumes nothing.
use mathlib.Core.Path.{◌≡◌, refl, sym, ◌∙◌}
use mathlib.Core.Bool.{Bool, true, false, cond}
use mathlib.Core.List.{List, [], ◌∷◌}
use Prim.Native.Nat.{ℕ, suc, ◌+◌, ◌-◌, ◌≤◌, ◌<◌}
use native.Mathlib.Omega.{arith}
use native.Mathlib.Nat.{not-suc-le-zero}
use borrow.Author.Tests.{eqb-true}
use lib.Dec.{eqb}
use lib.IntN.{ℤ}
use lib.ListN.{length, drop, length-drop}
use lib.Ieee.{Float}
use Rattle.shaping.specs.Rate.{Rate}
use Rattle.protocol.specs.Refusals.{PaperRefusal, bare}
use Rattle.demodulator.specs.declared.SoftDemodulator.{SoftDemodulator}
use Rattle.demodulator.specs.Calls.{Paper, refusal, nothing, frame, done, carrier, demodulated}
use Rattle.demodulator.specs.Feed.{Stretch, stops_before, goes_on_lem, fed_from, fed, fed_into}
use Rattle.demodulator.proofs.FeedSteps.{goes_on, rest_from, fed_some}
use Rattle.demodulator_laws.proofs.FitAgain.{Accepted}
use Rattle.demodulator_laws.proofs.SampleComes.{silent, offering, stuck, comes, fed_silent, fed_offering, fed_stuck}

-- ---- "Every refusal returns its number only, with record and buffers as they were.", of any receiver
module _ (S : Type 0) (said : S → ℤ → List Float → Paper) (next : S → ℤ → List Float → S) (after : S → ℤ → List Float → List Float) where
  abbrev Unmoved : ℕ → S → List Float → Stretch S → Type 0
  Unmoved n s room t = (number : PaperRefusal) → t.answer ≡ refusal number → (n ≡ 0) × (t ≡ record { answer = refusal number; fed = 0; state = s; room = room })

  stops_unmoved : (why : Paper) (n : ℕ) (s : S) (room : List Float) (b : Bool) → b ≡ eqb n 0 → (number : PaperRefusal) → cond b why nothing ≡ refusal number
      → (n ≡ 0) × (◌≡◌ {A = Stretch S} (record { answer = cond b why nothing; fed = n; state = s; room = room }) (record { answer = refusal number; fed = 0; state = s; room = room }))
  stops_unmoved why n s room true e number told =
      let none : n ≡ 0 = eqb-true n 0 (sym e) in
      (none, λ i. record { answer = told i; fed = none i; state = s; room = room })
  stops_unmoved why n s room false e number told = let z : ◌≡◌ {A = ℕ} 0 1 = cc in absurd (omega arith)

  by_said : (a : Paper) (n : ℕ) (s s' : S) (room room' : List Float) (rest : Stretch S) → Accepted rest.answer
      → Unmoved n s room (goes_on_lem a (stops_before a n s room) (record { answer = a; fed = n + 1; state = s'; room = room' }) rest)
  unfolding goes_on_lem
  by_said nothing n s s' room room' rest none number e = absurd (none number e)
  by_said (frame o) n s s' room room' rest none number e = let z : ◌≡◌ {A = ℕ} 0 1 = cc in absurd (omega arith)
  by_said (refusal k) n s s' room room' rest none number e = stops_unmoved (refusal k) n s room (eqb n 0) refl number e
  by_said done n s s' room room' rest none number e = stops_unmoved done n s room (eqb n 0) refl number e
  by_said (carrier there) n s s' room room' rest none number e = stops_unmoved (carrier there) n s room (eqb n 0) refl number e

  pub rest_unmoved : (xs : List ℤ) (n : ℕ) (s : S) (room : List Float) → Unmoved n s room (fed_from S said next after n s xs room)
  unfolding fed_from
  rest_unmoved [] n s room number e = let z : ◌≡◌ {A = ℕ} 0 1 = cc in absurd (omega arith)
  rest_unmoved (x ∷ xs) n s room number e =
      by_said (said s x room) n s (next s x room) room (after s x room) _
      (λ k told. let more : n + 1 ≡ 0 = (rest_unmoved xs (n + 1) (next s x room) (after s x room) k told).0 in omega arith)
      number e

  pub refused_feed : (none : S → Paper) (s : S) (xs : List ℤ) (room : List Float) (number : PaperRefusal) → (fed S said next after none s xs room).answer ≡ refusal number
      → fed S said next after none s xs room ≡ record { answer = refusal number; fed = 0; state = s; room = room }
  unfolding fed
  refused_feed none s [] room number e = λ i. record { answer = e i; fed = 0; state = s; room = room }
  refused_feed none s (x ∷ xs) room number e = (rest_unmoved (x ∷ xs) 0 s room number e).1

-- ---- a stretch that stops before its end, with no offer: the caller who gives the rest gets the refusal
abbrev refused_with : ℕ → SoftDemodulator → List Float → Stretch SoftDemodulator
refused_with number m room = record { answer = refusal (bare number); fed = 0; state = m; room = room }

module _ (R : Rate) where
  pub at_least : (xs : List ℤ) (n : ℕ) (m : SoftDemodulator) (room : List Float) → n ≤ (rest_from R n m xs room).fed
  unfolding fed_from
  at_least [] n m room = omega arith
  at_least (x ∷ xs) n m room =
      let l = demodulated R m x room in
      goes_on (λ (t : Stretch SoftDemodulator). n ≤ t.fed) l.answer _ _ _ (omega arith) (omega arith)
      (let more : n + 1 ≤ (rest_from R (n + 1) l.demodulator xs l.room).fed = at_least xs (n + 1) l.demodulator l.room in omega arith)

  abbrev LeftOver : ℕ → List ℤ → Stretch SoftDemodulator → Type 0
  LeftOver n xs t = t.answer ≡ nothing → t.fed < n + length xs → (number : ℕ) × (rest_from R 0 t.state (drop (t.fed - n) xs) t.room ≡ refused_with number t.state t.room)

  left_over : (xs : List ℤ) (n : ℕ) (m : SoftDemodulator) (room : List Float) → LeftOver n xs (rest_from R n m xs room)
  unfolding fed_from
  left_over [] n m room = λ told less. absurd (omega arith)
  left_over (x ∷ xs) n m room =
      elim (comes R m x room) [
        | silent m' e ↦
            let t = rest_from R (n + 1) m' xs room in
            let most = at_least xs (n + 1) m' room in
            rw (fed_silent R m x xs room n m' e)
            (λ told less.
            let rest = left_over xs (n + 1) m' room told (omega arith) in
            let one : t.fed - n ≡ suc (t.fed - (n + 1)) = omega arith in
            (rest.0, rw one rest.1))
        | offering o m' window e ↦ rw (fed_offering R m x xs room n o m' window e) (λ told less. let z : ◌≡◌ {A = ℕ} 0 1 = cc in absurd (omega arith))
        | stuck number e all ↦
            let none : n - n ≡ 0 = omega arith in
            rw (fed_stuck R m x xs room n number e) (λ told less. (number, rw none (fed_stuck R m x xs room 0 number e)))
      ]

  pub rest_refused : (m : SoftDemodulator) (xs : List ℤ) (room : List Float) → let t = fed_into R m xs room in t.answer ≡ nothing → t.fed < length xs
      → (number : ℕ) × (fed_into R t.state (drop t.fed xs) t.room ≡ refused_with number t.state t.room)
  unfolding fed
  rest_refused m [] room told less = absurd (not-suc-le-zero less)
  rest_refused m (x ∷ xs) room told less =
      let t = rest_from R 0 m (x ∷ xs) room in
      let rest = left_over (x ∷ xs) 0 m room told (omega arith) in
      let same : t.fed - 0 ≡ t.fed = omega arith in
      let some : 0 < length (drop t.fed (x ∷ xs)) = omega (arith, length-drop t.fed (x ∷ xs)) in
      (rest.0, fed_some R t.state (drop t.fed (x ∷ xs)) t.room some ∙ (rw same at rest.1))
