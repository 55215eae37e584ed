-- What the functions promise, of any number of samples in a symbol, control, number and values. Assumes nothing.
use Rattle.std.specs.Prelude.{◌≡◌, Bool, List, ℕ, Float}
use Rattle.decode.specs.Parts.{values_of}
use Rattle.search.specs.declared.Candidate.{Candidate}
use Rattle.search.specs.declared.Control.{Control}
use Rattle.search.specs.declared.Turn.{Turn}
use Rattle.search.specs.declared.Reply.{Reply}
use Rattle.search.specs.Search.{searched}
use Rattle.search.specs.Turn.{turn_of, replied}
use Rattle.search.specs.Fit.{held, control_fit_lem}

abbrev pub ControlFitSays : ℕ → Control → Bool → Type 0
ControlFitSays p c r = r ≡ control_fit_lem p c

abbrev pub IsHeldSays : Candidate → Bool → Type 0
IsHeldSays candidate r = r ≡ held candidate

abbrev pub TurnOfSays : Control → ℕ → Turn → Type 0
TurnOfSays c n r = r ≡ turn_of n c

abbrev pub SearchedSays : ℕ → Control → List Float → Control → Type 0
SearchedSays p c vs r = r ≡ searched p (values_of vs) c

abbrev pub RepliedSays : ℕ → Control → Reply → List Float → Control → Type 0
RepliedSays p c reply vs r = r ≡ replied p (values_of vs) reply c
