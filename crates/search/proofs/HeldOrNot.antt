-- A candidate by cases: none, or one that is held. Assumes nothing.
use mathlib.Core.Path.{◌≡◌, ap}
use Rattle.std.specs.Prelude.{unwrap_or}
use Rattle.search.specs.declared.Candidate.{Candidate}
use Rattle.search.specs.declared.Candidate.TheVariants.{Nothing, Held}
use Rattle.search.specs.TakenBurst.{TakenBurst, held_as, held_in}

pub data HeldOrNot : Candidate → Type 0 where
  not_held : HeldOrNot Nothing
  is_held : (t : TakenBurst) → HeldOrNot (held_as t)

pub held_or_not : (candidate : Candidate) → HeldOrNot candidate
held_or_not Nothing = not_held
held_or_not (Held kind age diff gain shift since) = is_held (record { kind = kind; age = age; diff = diff; gain = gain; shift = shift; taken_at = since })

pub same_held : (t u : TakenBurst) → held_as t ≡ held_as u → t ≡ u
same_held t u e = ap (λ (c : Candidate). unwrap_or (held_in c) t) e
