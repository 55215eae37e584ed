-- The wish for a frame, by the calls alone. Over p, the samples in a symbol. Assumes nothing.
use Rattle.std.specs.Prelude.{List, ℕ}
use Rattle.modulator_run.specs.Rules.{Call}
use Rattle.modulator_run.specs.Kinds.{raises, drops, Lasting}

-- "If capacity - fill is at least 2,000 the wish for a frame is raised. Less room does not lower it." "None only drops the wish for a frame."
abbrev pub Wished : ℕ → List Call → Type 0
Wished p cs = Lasting (raises p) drops cs
