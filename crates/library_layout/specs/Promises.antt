-- What the functions promise, of any numbers and levels. Assumes nothing.
use Rattle.std.specs.Prelude.{◌≡◌, Bool, List, ℕ, Float}
use Rattle.search.specs.declared.Control.{Control}
use Rattle.library_layout.specs.Layout.{is_receiver, record_code_lem, control_in, numbers_of_lem, levels_of}

abbrev pub IsReceiverSays : List ℕ → Bool → Type 0
IsReceiverSays n r = r ≡ is_receiver n

abbrev pub RecordCodeSays : List ℕ → ℕ → Type 0
RecordCodeSays n r = r ≡ record_code_lem n

abbrev pub ReadControlSays : List ℕ → List Float → Control → Type 0
ReadControlSays n l r = r ≡ control_in n l

pub record WriteControlSays (rate windowCursor ringCursor : ℕ) (c : Control) (n : List ℕ) (l : List Float) : Type 0 where
  pub numbers : n ≡ numbers_of_lem rate windowCursor ringCursor c
  pub levels : l ≡ levels_of c
