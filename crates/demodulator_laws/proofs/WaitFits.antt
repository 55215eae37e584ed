-- A fit control stays fit while a wait goes on, and once a reply is given. Assumes nothing.
use Rattle.std.specs.Prelude.{Option, Some, None}
use mathlib.Core.Path.{◌≡◌, subst}
use mathlib.Core.Bool.{Bool, true, false, not, ◌&&◌}
use Prim.Native.Nat.{ℕ, ◌-◌, ◌*◌, ◌<◌}
use native.Mathlib.Omega.{arith}
use lib.Dec.{T, leb, ltb, ltb→lt, le→leb, lt→ltb}
use lib.Ieee.Fits.{and_i, and_l, and_r}
use Rattle.search.specs.declared.Candidate.{Candidate}
use Rattle.search.specs.declared.Waiting.{Waiting}
use Rattle.search.specs.declared.Control.{Control}
use Rattle.search.specs.Turn.{nearer, waiting_on, owing}
use Rattle.search.specs.Fit.{held, wait_fit_lem, kept_fit_lem, control_fit_lem}
use Rattle.search.proofs.Clauses.{clauses, joined}

-- ---- the wait
sooner_fit : (p : ℕ) (w : Waiting) (candidate : Candidate) (owed : Bool) → 1 < w.left → T (wait_fit_lem p (Some w) candidate owed) → T (wait_fit_lem p (Some (nearer w)) candidate owed)
unfolding wait_fit_lem
sooner_fit p w candidate owed l t =
    let three = and_l (leb 1 w.left && ltb w.left (184 * p) && held candidate) (not owed) t in
    let two = and_l (leb 1 w.left && ltb w.left (184 * p)) (held candidate) three in
    let below = ltb→lt w.left (184 * p) (and_r (leb 1 w.left) (ltb w.left (184 * p)) two) in
    let left = w.left - 1 in
    and_i (leb 1 left && ltb left (184 * p) && held candidate) (not owed)
    (and_i (leb 1 left && ltb left (184 * p)) (held candidate)
    (and_i (leb 1 left) (ltb left (184 * p)) (le→leb 1 left (omega arith)) (lt→ltb left (184 * p) (omega arith)))
    (and_r (leb 1 w.left && ltb w.left (184 * p)) (held candidate) three))
    (and_r (leb 1 w.left && ltb w.left (184 * p) && held candidate) (not owed) t)

unowed_fit : (p : ℕ) (wait : Option Waiting) (candidate : Candidate) (owed : Bool) → T (wait_fit_lem p wait candidate owed) → T (wait_fit_lem p wait candidate false)
unfolding wait_fit_lem
unowed_fit p None candidate owed t = tt
unowed_fit p (Some w) candidate owed t =
    let waits = leb 1 w.left && ltb w.left (184 * p) && held candidate in
    and_i waits true (and_l waits (not owed) t) tt

-- ---- the control
module _ (p : ℕ) (c : Control) (fit : T (control_fit_lem p c)) where
  pub waiting_fit : (w : Waiting) → c.wait ≡ Some w → 1 < w.left → T (control_fit_lem p (waiting_on (nearer w) c))
  waiting_fit w e l =
      let s = clauses p c fit in
      joined p (waiting_on (nearer w) c)
      (record {
        count = s.count;
        timer = s.timer;
        candidate = s.candidate;
        wait = sooner_fit p w c.candidate c.owed l (subst (λ (o : Option Waiting). T (wait_fit_lem p o c.candidate c.owed)) e s.wait);
        reply = s.reply;
        taken = s.taken;
        kept = subst (λ (o : Option Waiting). T (kept_fit_lem o)) e s.kept;
      })

  pub settled_fit : T (control_fit_lem p (owing false c))
  settled_fit =
      let s = clauses p c fit in
      joined p (owing false c) (record { count = s.count; timer = s.timer; candidate = s.candidate; wait = unowed_fit p c.wait c.candidate c.owed s.wait; reply = tt; taken = s.taken; kept = s.kept })
