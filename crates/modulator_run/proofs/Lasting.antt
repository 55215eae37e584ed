-- What one kind of call starts and another stops is there exactly where a call that starts it came, and none that stops it since. Assumes nothing.
use mathlib.Core.Path.{◌≡◌, refl, sym, ap, subst, ◌∙◌}
use mathlib.Core.Logic.{◌↔◌}
use mathlib.Core.Bool.{Bool, true, false, not, cond}
use mathlib.Core.List.{List, [], ◌∷◌, ◌++◌, append_assoc}
use lib.Dec.{T}
use lib.Ieee.Bits.{is_true}
use lib.Ieee.Fits.{and_l, and_r}
use Rattle.machine.specs.Runs.{run}
use Rattle.machine.proofs.Parts.{run_joined, run_last}
use Rattle.shaping.specs.Rate.{Rate}
use Rattle.modulator_run.specs.Rules.{Call, Sent, called, rules}
use Rattle.modulator_run.specs.Kinds.{none, Lasting}
use Rattle.modulator_run.proofs.LastCall.{by_last, none_more}

module _ (starts stops : Call → Bool) where
  -- whether it is there after a call, by whether it was before
  abbrev pub lasted : Call → Bool → Bool
  lasted c on = cond (starts c) true (cond (stops c) false on)

  started_by : (c : Call) (on : Bool) → T (starts c) → lasted c on ≡ true
  started_by c on t = rw (is_true (starts c) t)

  unstopped_by : (c : Call) → T (not (stops c)) → lasted c true ≡ true
  unstopped_by c t = by_tests (starts c) (stops c) t
    where
      by_tests : (a b : Bool) → T (not b) → cond a true (cond b false true) ≡ true
      by_tests true b t = refl
      by_tests false true t = absurd t
      by_tests false false t = refl

  lasting_more : (cs : List Call) (c : Call) → stops c ≡ false → Lasting starts stops cs → Lasting starts stops (cs ++ c ∷ [])
  lasting_more cs c e l = record {
    before = l.before;
    call = l.call;
    since = l.since ++ c ∷ [];
    parts = ap (λ (ds : List Call). ds ++ c ∷ []) l.parts ∙ append_assoc l.before (l.call ∷ l.since) (c ∷ []);
    started = l.started;
    unstopped = none_more stops l.since c l.unstopped e;
  }

  lasting_last : (cs : List Call) (c : Call) (on : Bool) → (on ≡ true → Lasting starts stops cs) → lasted c on ≡ true → Lasting starts stops (cs ++ c ∷ [])
  lasting_last cs c on h = by_tests (starts c) refl (stops c) refl
    where
      by_tests : (a : Bool) → starts c ≡ a → (b : Bool) → stops c ≡ b → cond a true (cond b false on) ≡ true → Lasting starts stops (cs ++ c ∷ [])
      by_tests true s b t e = record { before = cs; call = c; since = []; parts = refl; started = subst T (sym s) tt; unstopped = unfold none in tt }
      by_tests false s true t e = absurd (subst T (sym e) tt)
      by_tests false s false t e = lasting_more cs c t (h e)

-- ---- a flag of what the rules have sent, by one call and by all
module _ (R : Rate) (starts stops : Call → Bool) (flag : Sent → Bool)
    (next : (s : Sent) (c : Call) → flag (called R s c).sent ≡ lasted starts stops c (flag s))
  where
    still_there : (cs : List Call) (s : Sent) → flag s ≡ true → T (none stops cs) → flag (run (rules R) s cs) ≡ true
    unfolding run none
    still_there [] s e t = e
    still_there (c ∷ cs) s e t =
        let kept = unstopped_by starts stops c (and_l (not (stops c)) (none stops cs) t) in
        still_there cs (called R s c).sent (next s c ∙ ap (lasted starts stops c) e ∙ kept) (and_r (not (stops c)) (none stops cs) t)

    -- from where it is not there
    module _ (s : Sent) (free : flag s ≡ false) where
      there_after : (cs : List Call) → Lasting starts stops cs → flag (run (rules R) s cs) ≡ true
      unfolding run
      there_after cs l =
          let before : Sent = run (rules R) s l.before in
          ap (λ (ds : List Call). flag (run (rules R) s ds)) l.parts
          ∙ ap flag (run_joined (rules R) l.before (l.call ∷ l.since) s)
          ∙ still_there l.since (called R before l.call).sent (next before l.call ∙ started_by starts stops l.call (flag before) l.started) l.unstopped

      not_yet : flag (run (rules R) s []) ≡ true → ⊥
      unfolding run
      not_yet e = subst T (sym e ∙ free) tt

      there_by : (cs : List Call) → flag (run (rules R) s cs) ≡ true → Lasting starts stops cs
      there_by =
          by_last (λ (cs : List Call). flag (run (rules R) s cs) ≡ true → Lasting starts stops cs)
          (λ e. absurd (not_yet e))
          (λ cs c before e. lasting_last starts stops cs c (flag (run (rules R) s cs)) before (sym (next (run (rules R) s cs) c) ∙ ap flag (sym (run_last (rules R) cs c s)) ∙ e))

      pub lasting_exactly : (cs : List Call) → (flag (run (rules R) s cs) ≡ true) ↔ Lasting starts stops cs
      lasting_exactly cs = (there_by cs, there_after cs)
