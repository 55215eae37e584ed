-- The carrier of a stretch, where it is known: where it rests, where the timer lasts over it, where it is one sample, and where the timer is off
-- after it. Over the record. Assumes nothing.
use Rattle.std.specs.Prelude.{Option, Some, None}
use mathlib.Core.Path.{◌≡◌, refl, sym, subst}
use mathlib.Core.Bool.{Bool, true, false, not, cond, ◌||◌, true≢false}
use mathlib.Core.List.{List, [], ◌∷◌}
use Prim.Native.Nat.{ℕ, ◌+◌, ◌-◌, ◌≤◌, ◌<◌, min}
use native.Mathlib.Omega.{arith}
use borrow.Author.Tests.{ltb-true, ltb-false, leb-true, leb-false, lt-ltb, eqb-true, not-true}
use lib.Dec.{eqb, leb, ltb}
use lib.IntN.{ℤ}
use lib.ListN.{length, take}
use Rattle.machine.specs.Runs.{run}
use Rattle.shaping.specs.Rate.{rate_of}
use Rattle.search.specs.Turn.{cleared}
use Rattle.demodulator.specs.declared.SoftDemodulator.{SoftDemodulator}
use Rattle.demodulator.specs.Singles.{blank}
use Rattle.demodulator.specs.Calls.{frame, timer_held}
use Rattle.demodulator.specs.Feed.{Stretch, fed_from, fed, rest_from}
use Rattle.demodulator_laws.proofs.SampleComes.{Comes, silent, offering, stuck, comes, fed_silent, fed_offering, fed_stuck}
use Rattle.listening.specs.Listener.{listed_of}
use Rattle.listening.specs.Listen.{left_by_stretch, stretch_of}
use Rattle.listening.proofs.FirstSample.{left_by_sample, after_reply}
use Rattle.figures.specs.FullList.{bit, record_held}
use Rattle.figures.specs.Turn.{lasting, resting, Short, carrier_in, lasting_of, rested, is_known}
use Rattle.figures.proofs.CarrierTimer.{Lasts}
use Rattle.figures.proofs.RestStretch.{Rested, resting_stretch}
use Rattle.figures.proofs.HeldStretch.{held_in, held_at, held_none, Ready, Held, lasting_stretch}
use Rattle.figures.proofs.OffStretch.{Unheld, off_stretch}

fed_is : (m : SoftDemodulator) (xs : List ℤ) → 1 ≤ length xs → stretch_of m xs ≡ rest_from (rate_of m.rate) 0 m xs blank
unfolding fed
fed_is m [] l = absurd (omega arith)
fed_is m (x ∷ xs) l = refl

lasts_to : (t : Option ℕ) (count n : ℕ) → 1 ≤ n → n ≤ lasting t count → Lasts (count + n) t
lasts_to None count n s l = absurd (omega arith)
lasts_to (Some e) count n s l = omega arith

at_end : (t : Option ℕ) (count : ℕ) → lasting t count ≤ 0 → cleared (count + 1) t ≡ None
unfolding cleared
at_end None count l = refl
at_end (Some e) count l = let under : e < count + 1 = omega arith in rw (lt-ltb e (count + 1) under)

-- ---- one sample
module _ (m : SoftDemodulator) (x : ℤ) where
  abbrev One : Stretch SoftDemodulator → Type 0
  One f = held_in m (take f.fed (x ∷ [])) ≡ cond (eqb f.fed 0) 0 (bit (record_held (left_by_stretch f)))

  one_by : Comes m blank (left_by_sample m) (left_by_sample m x) → One (rest_from (rate_of m.rate) 0 m (x ∷ []) blank)
  unfolding fed_from listed_of run
  one_by (silent m' e) =
      subst One (sym (fed_silent (rate_of m.rate) m x [] blank 0 m' e)) (rw (held_at m x [] _ e, held_none m') (omega arith))
  one_by (offering o m' window e) =
      subst One (sym (fed_offering (rate_of m.rate) m x [] blank 0 o m' window e))
      (rw (held_at m x [] _ e, held_none (after_reply (record { answer = frame o; demodulator = m'; room = window }))) (omega arith))
  one_by (stuck number e all) = subst One (sym (fed_stuck (rate_of m.rate) m x [] blank 0 number e)) (held_none m)

  one_held : One (rest_from (rate_of m.rate) 0 m (x ∷ []) blank)
  one_held = one_by (comes (rate_of m.rate) m x blank)

one_only : (m : SoftDemodulator) (xs : List ℤ) → 1 ≤ length xs → length xs ≤ 1
    → held_in m (take (stretch_of m xs).fed xs) ≡ cond (eqb (stretch_of m xs).fed 0) 0 (bit (record_held (left_by_stretch (stretch_of m xs))))
unfolding fed
one_only m [] l u = absurd (omega arith)
one_only m (x ∷ []) l u = one_held m x
one_only m (x ∷ (y ∷ xs)) l u = absurd (omega arith)

off_is : (t : Option ℕ) → timer_held t ≡ false → t ≡ None
off_is None e = refl
off_is (Some k) e = absurd (true≢false e)

module _ (m : SoftDemodulator) (xs : List ℤ) (S : Short m xs) where
  abbrev f : Stretch SoftDemodulator
  f = stretch_of m xs

  abbrev end : ℕ
  end = m.control.sample + length xs

  held_rested : rested m xs ≡ true → held_in m (take f.fed xs) ≡ min f.fed (lasting_of m)
  held_rested e =
      let h = resting_stretch 0 m xs (leb-true (length xs) (resting m.control.wait) e) in
      let g = subst (Rested 0 m xs) (sym (fed_is m xs S.least)) h in
      let same : f.fed - 0 ≡ f.fed = omega arith in
      rw same at g.all

  module _ (busy : rested m xs ≡ false) where
    over : resting m.control.wait < length xs
    over = leb-false (length xs) (resting m.control.wait) busy

    ready : Ready end S.few m xs
    ready = record { small = S.small; there = omega arith; near = omega (arith, S.span over) }

    held_lasted : ltb 0 (lasting_of m) ≡ true → held_in m (take f.fed xs) ≡ f.fed
    held_lasted e =
        let some = ltb-true 0 (lasting m.control.dcd m.control.sample) e in
        let h = lasting_stretch end S.few 0 m xs ready (lasts_to m.control.dcd m.control.sample (length xs) S.least (S.lasts over some)) in
        let g = subst (Held end S.few 0 m xs) (sym (fed_is m xs S.least)) h in
        let same : f.fed - 0 ≡ f.fed = omega arith in
        rw same at g.all

    held_off : ltb 0 (lasting_of m) ≡ false → f.state.control.dcd ≡ None → held_in m (take f.fed xs) ≡ bit (record_held (left_by_stretch f))
    held_off e q =
        let none = ltb-false 0 (lasting m.control.dcd m.control.sample) e in
        let h = off_stretch end S.few 0 m xs ready (at_end m.control.dcd m.control.sample none) in
        let g = subst (Unheld end S.few 0 m xs) (sym (fed_is m xs S.least)) h in
        let same : f.fed - 0 ≡ f.fed = omega arith in
        rw same at (g.none q)

  none_fed : (n : ℕ) → n ≡ 0 → held_in m (take n xs) ≡ 0
  none_fed n e = rw e (held_none m)

  module _ (busy : rested m xs ≡ false) where
    off_carrier : (b : Bool) → eqb f.fed 0 ≡ b → ltb 0 (lasting_of m) ≡ false → f.state.control.dcd ≡ None
        → held_in m (take f.fed xs) ≡ cond b 0 (bit (record_held (left_by_stretch f)))
    off_carrier true e l q = none_fed f.fed (eqb-true f.fed 0 e)
    off_carrier false e l q = held_off busy l q

    held_busy : (l : Bool) → ltb 0 (lasting_of m) ≡ l → (l || (leb (length xs) 1 || not (record_held f.state))) ≡ true
        → held_in m (take f.fed xs) ≡ cond l f.fed (cond (eqb f.fed 0) 0 (bit (record_held (left_by_stretch f))))
    held_busy true e k = held_lasted busy e
    held_busy false e k = by_few (leb (length xs) 1) refl k
      where
        by_few : (b : Bool) → leb (length xs) 1 ≡ b → (b || not (record_held f.state)) ≡ true
            → held_in m (take f.fed xs) ≡ cond (eqb f.fed 0) 0 (bit (record_held (left_by_stretch f)))
        by_few true g k = one_only m xs S.least (leb-true (length xs) 1 g)
        by_few false g k = off_carrier (eqb f.fed 0) refl e (off_is f.state.control.dcd (not-true (record_held f.state) k))

  pub held_known : is_known m xs ≡ true
      → held_in m (take f.fed xs) ≡ carrier_in (rested m xs) (lasting_of m) f.fed (left_by_stretch f).control.dcd
  held_known known = by_rest (rested m xs) refl known
    where
      by_rest : (t : Bool) → rested m xs ≡ t → (t || (ltb 0 (lasting_of m) || (leb (length xs) 1 || not (record_held f.state)))) ≡ true
          → held_in m (take f.fed xs) ≡ carrier_in t (lasting_of m) f.fed (left_by_stretch f).control.dcd
      by_rest true e k = held_rested e
      by_rest false e k = held_busy e (ltb 0 (lasting_of m)) refl k
