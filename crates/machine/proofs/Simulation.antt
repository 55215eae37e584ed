-- Where one machine simulates another, their runs end in related states and are answered alike, for every list of calls. Assumes nothing.
use mathlib.Core.Path.{◌≡◌, refl}
use mathlib.Core.List.{List, [], ◌∷◌}
use Rattle.machine.specs.Runs.{Machine, run, answers, Each, Simulates}

module _ {S T C A : Type 0} {m : Machine S C A} {n : Machine T C A} {R : S → T → Type 0} {Given : C → Type 0} (sim : Simulates S T C A m n R Given) where
  pub runs_related : (cs : List C) → Each Given cs → (s : S) (t : T) → R s t → R (run m s cs) (run n t cs)
  unfolding run Each
  runs_related [] e s t r = r
  runs_related (c ∷ cs) e s t r = runs_related cs e.1 (m.next s c) (n.next t c) (sim.related s t r c e.0)

  pub answers_alike : (cs : List C) → Each Given cs → (s : S) (t : T) → R s t → answers m s cs ≡ answers n t cs
  unfolding answers Each
  answers_alike [] e s t r = refl
  answers_alike (c ∷ cs) e s t r = rw (sim.alike s t r c e.0, answers_alike cs e.1 (m.next s c) (n.next t c) (sim.related s t r c e.0))
