-- What the type of a report says of it, and what three of them merged come to. Assumes nothing.
use Rattle.std.specs.Prelude.{◌≡◌, T, length, Float, Option, Some, None}
use Rattle.std.specs.Float.{binary32}
use Rattle.std.specs.Float.Ieee.{fits}
use Rattle.std.specs.Float.Ieee.Positive.{positive}
use Rattle.figures.specs.declared.Figures.{Figures}
use Rattle.figures.specs.declared.Report.{Report}
use Rattle.figures.specs.Answers.{done, merged}

-- ---- 24 totals, and each gain a 32-bit float
abbrev pub SingleGain : Option Float → Type 0
SingleGain None = Unit {0}
SingleGain (Some x) = T (fits binary32 x)

pub record Typed (f : Figures) : Type 0 where
  pub size : length f.totals ≡ 24
  pub low : SingleGain f.smallest
  pub high : SingleGain f.largest

pub record TypedReport (r : Report) : Type 0 where
  pub first : Typed r.at_48
  pub second : Typed r.at_24

-- ---- of a fit one, each gain is above zero too: so that two that are level are the same float
pub record Proper (x : Float) : Type 0 where
  pub single : T (fits binary32 x)
  pub above : T (positive x)

abbrev pub GoodGain : Option Float → Type 0
GoodGain None = Unit {0}
GoodGain (Some x) = Proper x

pub record Good (f : Figures) : Type 0 where
  pub small : GoodGain f.smallest
  pub large : GoodGain f.largest

pub record GoodReport (r : Report) : Type 0 where
  pub first : Good r.at_48
  pub second : Good r.at_24

-- ---- three reports, whichever two are merged first: both are done, and leave the same
pub record AllMerged (a b c : Report) (whole : Report) : Type 0 where
  pub left_first : (merged a b).answer ≡ done
  pub left_then : merged (merged a b).report c ≡ record { answer = done; report = whole }
  pub right_first : (merged b c).answer ≡ done
  pub right_then : merged a (merged b c).report ≡ record { answer = done; report = whole }
