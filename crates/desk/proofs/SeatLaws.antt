-- An open, the gate, the carrier query and a close, by their tests. Assumes nothing.
use mathlib.Core.Path.{◌≡◌, refl, sym, ap, ◌∙◌, subst}
use mathlib.Core.Bool.{Bool, true, false, not, cond}
use mathlib.Core.List.{List}
use Prim.Native.Nat.{ℕ, ◌<◌}
use native.Mathlib.Omega.{arith}
use borrow.Author.Tests.{ltb-false}
use lib.Dec.{T, ltb}
use Rattle.demodulator.specs.declared.SoftDemodulator.{SoftDemodulator}
use Rattle.shaping.specs.Rate.{rate_fit, samples_in_lem}
use Rattle.protocol.specs.Refusals.{PaperRefusal, bare}
use Rattle.demodulator.specs.Fit.{record_fit_lem, unfit_number}
use Rattle.demodulator.specs.Calls.{Paper, refusal, done, carrier, is_refusal, timer_held, detected}
use Rattle.desk.specs.declared.Desk.{Desk}
use Rattle.desk.specs.Desk.{receiver_at, is_open, started, shut_at}
use Rattle.desk.specs.Passage.{Entered, turned, goes, entered, no_such_seat, seat_is_open, seat_closed}
use Rattle.desk.specs.Calls.{open_answer, open_leaves, SeatLeft, closed_by, seat_shut, seat_fit}

-- ---- an open, by its tests
module _ (d : Desk) (s rate : ℕ) (low : ltb 7 s ≡ false) where
  abbrev Told : Bool → Bool → Bool → Paper
  Told far is fits = cond far no_such_seat (cond is seat_is_open (cond fits done (refusal (bare 15))))

  abbrev Next : Bool → Bool → Bool → Desk
  Next far is fits = cond far d (cond is d (cond fits (started s rate d) d))

  pub open_is_open : is_open d.opened s ≡ true → (open_answer d s rate ≡ seat_is_open) × (open_leaves d s rate ≡ d)
  unfolding open_answer open_leaves
  open_is_open e = (ap (λ (b : Bool). Told b (is_open d.opened s) (rate_fit rate)) low ∙ ap (λ (b : Bool). Told false b (rate_fit rate)) e, ap (λ (b : Bool). Next b (is_open d.opened s) (rate_fit rate)) low ∙ ap (λ (b : Bool). Next false b (rate_fit rate)) e)

  pub open_by_rate : (f : Bool) → is_open d.opened s ≡ false → rate_fit rate ≡ f → (open_answer d s rate ≡ cond f done (refusal (bare 15))) × (open_leaves d s rate ≡ cond f (started s rate d) d)
  unfolding open_answer open_leaves
  open_by_rate f e g = (
    ap (λ (b : Bool). Told b (is_open d.opened s) (rate_fit rate)) low ∙ ap (λ (b : Bool). Told false b (rate_fit rate)) e ∙ ap (λ (b : Bool). Told false false b) g,
    ap (λ (b : Bool). Next b (is_open d.opened s) (rate_fit rate)) low ∙ ap (λ (b : Bool). Next false b (rate_fit rate)) e ∙ ap (λ (b : Bool). Next false false b) g,
  )

-- ---- the gate
Going : Entered → Type 0
Going (turned why) = ⊥
Going goes = Unit {0}

module _ (flags : List Bool) (s : ℕ) where
  let_in : (far is : Bool) → cond far (turned no_such_seat) (cond is goes (turned seat_closed)) ≡ goes → (far ≡ false) × (is ≡ true)
  unfolding Going
  let_in true is e = absurd (subst Going (sym e) tt)
  let_in false true e = (refl, refl)
  let_in false false e = absurd (subst Going (sym e) tt)

  pub goes_below : entered flags s ≡ goes → s < 8
  unfolding entered
  goes_below e = let low = ltb-false 7 s (let_in (ltb 7 s) (is_open flags s) e).0 in omega (arith, low)

  pub goes_open : entered flags s ≡ goes → is_open flags s ≡ true
  unfolding entered
  goes_open e = (let_in (ltb 7 s) (is_open flags s) e).1

pub never_both : {b : Bool} → b ≡ true → b ≡ false → ⊥
never_both p q = subst T q (subst T (sym p) tt)

-- ---- what the carrier query tells of a record
module _ (m : SoftDemodulator) where
  abbrev fits : Bool
  fits = record_fit_lem (samples_in_lem m.rate) m

  refused_if : (f : Bool) (n : PaperRefusal) (b : Bool) (why : PaperRefusal) → refusal why ≡ cond (not f) (refusal n) (carrier b) → (f ≡ false) × (refusal why ≡ refusal n)
  refused_if true n b why e = absurd (subst T (ap is_refusal e) tt)
  refused_if false n b why e = (refl, e)

  held_if : (f : Bool) (n : PaperRefusal) (b t : Bool) → carrier t ≡ cond (not f) (refusal n) (carrier b) → f ≡ true
  held_if true n b t e = refl
  held_if false n b t e = absurd (subst T (sym (ap is_refusal e)) tt)

  pub query_refused : (why : PaperRefusal) → refusal why ≡ detected (samples_in_lem m.rate) m → (fits ≡ false) × (refusal why ≡ refusal (bare (unfit_number m)))
  unfolding detected
  query_refused why e = refused_if fits (bare (unfit_number m)) (timer_held m.control.dcd) why e

  pub query_held : (t : Bool) → carrier t ≡ detected (samples_in_lem m.rate) m → fits ≡ true
  unfolding detected
  query_held t e = held_if fits (bare (unfit_number m)) (timer_held m.control.dcd) t e

-- ---- a close, by the entry and the record
module _ (d : Desk) (s : ℕ) where
  abbrev Shuts : Entered → SeatLeft
  Shuts = closed_by d s

  pub close_turned : (why : Paper) → entered d.opened s ≡ turned why → (why ≡ (seat_shut d s).answer) × (d ≡ (seat_shut d s).desk)
  close_turned why e = (sym (ap (λ (x : Entered). (Shuts x).answer) e), sym (ap (λ (x : Entered). (Shuts x).desk) e))

  pub close_by : (f : Bool) → entered d.opened s ≡ goes → seat_fit d s ≡ f → (cond f done (refusal (bare (unfit_number (receiver_at d s)))) ≡ (seat_shut d s).answer) × (cond f (shut_at s d) d ≡ (seat_shut d s).desk)
  close_by f g e = (
    sym (ap (λ (x : Entered). (Shuts x).answer) g ∙ ap (λ (b : Bool). cond b done (refusal (bare (unfit_number (receiver_at d s))))) e),
    sym (ap (λ (x : Entered). (Shuts x).desk) g ∙ ap (λ (b : Bool). cond b (shut_at s d) d) e),
  )
