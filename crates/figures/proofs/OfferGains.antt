-- Each offer's gain is within 16 to 1,000,000: it is a fit candidate's. Over the rules from where a run stands. Assumes nothing.
use Rattle.std.specs.Prelude.{Option, Some, None}
use mathlib.Core.Path.{◌≡◌, refl}
use mathlib.Core.Bool.{Bool, true, false, cond, ◌&&◌, false≢true}
use mathlib.Core.List.{List, [], ◌∷◌, ◌++◌, flat_map}
use Prim.Native.Nat.{ℕ, ◌^◌}
use lib.Dec.{T, ltb, eqb}
use lib.IntN.{ℤ}
use lib.ListN.{length}
use lib.Ieee.{Float, lt}
use lib.Ieee.Bits.{is_true}
use lib.Ieee.Fits.{and_l, and_r}
use mir.Syntax.{w16}
use mir.Val.{SFits}
use Rattle.machine.specs.Runs.{run, answers, Each}
use Rattle.machine.proofs.Parts.{each_joined}
use Rattle.shaping.specs.Rate.{Rate}
use Rattle.shaping.proofs.RateFacts.{Facts}
use Rattle.search.specs.declared.Candidate.{Candidate}
use Rattle.search.specs.declared.Waiting.{Waiting}
use Rattle.search.specs.declared.Control.{Control}
use Rattle.search.specs.declared.Turn.{Turn}
use Rattle.search.specs.TakenBurst.{held_in}
use Rattle.search.specs.Turn.{Outcome, quiet, offer, counted, freed, due_turn, waited_turn, comes_to, sampled}
use Rattle.search.specs.Fit.{age_fit, diff_fit, shift_fit, candidate_fit_lem, control_fit_lem}
use Rattle.search.proofs.AgeInPass.{by_test}
use Rattle.search.proofs.HeldOrNot.{HeldOrNot, not_held, is_held, held_or_not}
use Rattle.search.proofs.Clauses.{clauses}
use Rattle.demodulator.specs.declared.SoftDemodulator.{SoftDemodulator}
use Rattle.demodulator.specs.Spans.{eight}
use Rattle.demodulator.specs.Singles.{blank}
use Rattle.demodulator_run.specs.Filter.{ago}
use Rattle.demodulator_run.specs.Rules.{sample, History, After, settled, given, single}
use Rattle.demodulator_run.proofs.Whole.{Stands}
use Rattle.listening.specs.Listener.{Rule, Listed, listed_of, listed_in, calls_at, offers, own_record}
use Rattle.listening.specs.Rules.{rules_at}
use Rattle.listening.proofs.Agreement.{listens}
use Rattle.figures.specs.Totals.{gain_fit, gains_fit, lesser, greater}
use Rattle.figures.specs.FullList.{least_from, greatest_from}

abbrev pub GainWithin : Listed → Type 0
GainWithin o = gain_fit o.due.gain ≡ true

-- ---- what a sample comes to
module _ (p : ℕ) (v : ℕ → Float) where
  abbrev GainBy : Outcome → Type 0
  GainBy (quiet c) = Unit {0}
  GainBy (offer shown c) = gain_fit shown.gain ≡ true

  due_gain : {candidate : Candidate} → HeldOrNot candidate → T (candidate_fit_lem candidate) → (w : Waiting) (c : Control)
      → GainBy (comes_to p v (due_turn (held_in candidate) w c))
  unfolding due_turn candidate_fit_lem
  due_gain not_held t w c = tt
  due_gain (is_held u) t w c =
      is_true (gain_fit u.gain) (and_r (age_fit u.age && diff_fit u.diff) (gain_fit u.gain) (and_l (age_fit u.age && diff_fit u.diff && gain_fit u.gain) (shift_fit u.shift) t))

  waited_gain : (wait : Option Waiting) (c : Control) → T (candidate_fit_lem c.candidate) → GainBy (comes_to p v (waited_turn wait c))
  unfolding waited_turn
  waited_gain None c t = tt
  waited_gain (Some w) c t =
      by_test (λ (o : Turn). GainBy (comes_to p v o)) (ltb 1 w.left) _ _ (λ _. tt) (λ _. due_gain (held_or_not c.candidate) t w (freed c))

  sampled_gain : (c : Control) → T (candidate_fit_lem c.candidate) → GainBy (sampled p v c)
  unfolding sampled
  sampled_gain c t = waited_gain c.wait (counted c) t

module _ (R : Rate) (F : Facts R) (rule : Rule) where
  abbrev OfferAt : After → Type 0
  OfferAt a = Each GainWithin (listed_in rule a.said)

  settled_at : (v : ℕ → Float) (xs : List ℤ) (room : List Float) (o : Outcome) → GainBy R.p v o
      → OfferAt (settled R.taps R.p xs room o)
  unfolding settled listed_of Each
  settled_at v xs room (quiet c) t = tt
  settled_at v xs room (offer shown c) t = (t, tt)

  offer_at : (h : History) (x : ℤ) → T (control_fit_lem R.p h.control) → OfferAt (single R.taps R.p h (sample x blank))
  unfolding single given listed_of Each
  offer_at h x fit =
      let xs : List ℤ = h.samples ++ (x ∷ []) in
      let v : ℕ → Float = eight R.p (ago R.taps R.p xs) in
      by_test OfferAt h.control.owed _ _ (λ _. tt)
      (λ _. by_test OfferAt (ltb (length blank) 192) _ _ (λ _. tt)
      (λ _. by_test OfferAt (eqb h.control.sample (2 ^ 63)) _ _ (λ _. tt)
      (λ _. settled_at v xs blank (sampled R.p v h.control) (sampled_gain R.p v h.control (clauses R.p h.control fit).candidate))))

  pub offers_within : (xs : List ℤ) → Each (SFits w16) xs → (m : SoftDemodulator) (h : History) → Stands R F m h
      → Each GainWithin (offers (rules_at R) rule h xs)
  unfolding answers flat_map Each
  offers_within [] g m h s = tt
  offers_within (x ∷ xs) g m h s =
      let next : History = run (rules_at R) h (calls_at (rules_at R) rule h x) in
      let after : SoftDemodulator = run own_record m (calls_at own_record rule m x) in
      let there : Stands R F after next = (listens R F rule).related m h s x g.0 in
      each_joined GainWithin (listed_in rule ((rules_at R).says h (sample x blank))) (offers (rules_at R) rule next xs) (offer_at h x s.fit.fit) (offers_within xs g.1 after next there)

-- ---- two pairs of gains
both_fit : (a b : Bool) → a ≡ true → b ≡ true → a && b ≡ true
both_fit a b p q = rw (p, q)

pub left_fit : (a b : Bool) → a && b ≡ true → a ≡ true
left_fit true b e = refl
left_fit false b e = e

pub right_fit : (a b : Bool) → a && b ≡ true → b ≡ true
right_fit true b e = e
right_fit false b e = absurd (false≢true e)

chosen : (t : Bool) (x y : Float) → gain_fit x ≡ true → gain_fit y ≡ true → (high : Option Float)
    → ((z : Float) → gain_fit z ≡ true → gains_fit (Some z) high ≡ true) → gains_fit (cond t (Some y) (Some x)) high ≡ true
chosen true x y p q high f = f y q
chosen false x y p q high f = f x p

chosen_high : (t : Bool) (x y : Float) → gain_fit x ≡ true → gain_fit y ≡ true → (z : Float) → gain_fit z ≡ true
    → gains_fit (Some z) (cond t (Some y) (Some x)) ≡ true
chosen_high true x y p q z r = both_fit (gain_fit z) (gain_fit y) r q
chosen_high false x y p q z r = both_fit (gain_fit z) (gain_fit x) r p

pub gains_plus : (a b c d : Option Float) → gains_fit a b ≡ true → gains_fit c d ≡ true → gains_fit (lesser a c) (greater b d) ≡ true
unfolding lesser greater
gains_plus None None c d e f = f
gains_plus None (Some y) c d e f = absurd (false≢true e)
gains_plus (Some x) None c d e f = absurd (false≢true e)
gains_plus (Some x) (Some y) None None e f = e
gains_plus (Some x) (Some y) None (Some w) e f = absurd (false≢true f)
gains_plus (Some x) (Some y) (Some z) None e f = absurd (false≢true f)
gains_plus (Some x) (Some y) (Some z) (Some w) e f =
    let ex = left_fit (gain_fit x) (gain_fit y) e in
    let ey = right_fit (gain_fit x) (gain_fit y) e in
    let fz = left_fit (gain_fit z) (gain_fit w) f in
    let fw = right_fit (gain_fit z) (gain_fit w) f in
    chosen (lt z x) x z ex fz (cond (lt y w) (Some w) (Some y)) (λ k r. chosen_high (lt y w) y w ey fw k r)

pub gains_from : (list : List Listed) → Each GainWithin list → (a b : Option Float) → gains_fit a b ≡ true
    → gains_fit (least_from a list) (greatest_from b list) ≡ true
unfolding least_from greatest_from Each
gains_from [] g a b e = e
gains_from (o ∷ list) g a b e =
    gains_from list g.1 (lesser a (Some o.due.gain)) (greater b (Some o.due.gain)) (gains_plus a b (Some o.due.gain) (Some o.due.gain) e (both_fit (gain_fit o.due.gain) (gain_fit o.due.gain) g.0 g.0))
