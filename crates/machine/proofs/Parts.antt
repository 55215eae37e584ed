-- A run in two parts: the second goes on where the first ended. Assumes nothing.
use mathlib.Core.Path.{◌≡◌, refl, sym, ap}
use mathlib.Core.List.{List, [], ◌∷◌, ◌++◌, append_assoc, flat_map}
use Prim.Native.Nat.{suc}
use lib.ListN.{length}
use Rattle.machine.specs.Runs.{Machine, run, answers, Each}

module _ {S C A : Type 0} (m : Machine S C A) where
  pub run_joined : (cs ds : List C) (s : S) → run m s (cs ++ ds) ≡ run m (run m s cs) ds
  unfolding run
  run_joined [] ds s = refl
  run_joined (c ∷ cs) ds s = run_joined cs ds (m.next s c)

  -- one more call
  pub run_last : (cs : List C) (c : C) (s : S) → run m s (cs ++ c ∷ []) ≡ m.next (run m s cs) c
  unfolding run
  run_last cs c s = run_joined cs (c ∷ []) s

  pub answers_joined : (cs ds : List C) (s : S) → answers m s (cs ++ ds) ≡ answers m s cs ++ answers m (run m s cs) ds
  unfolding run answers
  answers_joined [] ds s = refl
  answers_joined (c ∷ cs) ds s = ap (λ (l : List A). m.says s c ∷ l) (answers_joined cs ds (m.next s c))

  pub answers_long : (cs : List C) (s : S) → length (answers m s cs) ≡ length cs
  unfolding answers
  answers_long [] s = refl
  answers_long (c ∷ cs) s = ap suc (answers_long cs (m.next s c))

-- what each answer gives, one after the other
pub given_joined : {A B : Type 0} (f : A → List B) (xs ys : List A) → flat_map f (xs ++ ys) ≡ flat_map f xs ++ flat_map f ys
unfolding flat_map
given_joined f [] ys = refl
given_joined f (x ∷ xs) ys = rw (given_joined f xs ys) (sym (append_assoc (f x) (flat_map f xs) (flat_map f ys)))

module _ {C : Type 0} (P : C → Type 0) where
  pub each_front : (cs ds : List C) → Each P (cs ++ ds) → Each P cs
  unfolding Each
  each_front [] ds e = tt
  each_front (c ∷ cs) ds e = (e.0, each_front cs ds e.1)

  pub each_back : (cs ds : List C) → Each P (cs ++ ds) → Each P ds
  unfolding Each
  each_back [] ds e = e
  each_back (c ∷ cs) ds e = each_back cs ds e.1

  pub each_joined : (cs ds : List C) → Each P cs → Each P ds → Each P (cs ++ ds)
  unfolding Each
  each_joined [] ds e f = f
  each_joined (c ∷ cs) ds e f = (e.0, each_joined cs ds e.1 f)
