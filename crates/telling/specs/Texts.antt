-- Which texts lie within their bytes: these are told. Assumes nothing.
use Rattle.std.specs.Prelude.{◌≡◌, Bool, leb}
use Rattle.house.specs.declared.Text.{Text}

-- one that lies within its 40 bytes
abbrev pub TellSays : Text → Bool → Type 0
TellSays text r = r ≡ leb text.length 40
