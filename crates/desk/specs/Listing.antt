-- "the listing gives each seat closed, or open with its count and whether a reply is owed, with 15 if the rate of any open one is neither of the two,
-- and otherwise 1 if an open one is unfit." Assumes nothing.
use Rattle.std.specs.Prelude.{◌≡◌, Bool, not, ◌&&◌, cond, List, [], ◌∷◌, map, ℕ, Option, Some, None, Result, Ok, Err}
use Rattle.numbers.specs.Below.{any_below}
use Rattle.shaping.specs.Rate.{rate_fit, samples_in_lem}
use Rattle.protocol.specs.declared.Refusal.{Refusal}
use Rattle.protocol.specs.Refusals.{PaperRefusal, bare, on_paper}
use Rattle.demodulator.specs.declared.SoftDemodulator.{SoftDemodulator}
use Rattle.demodulator.specs.Fit.{record_fit_lem}
use Rattle.desk.specs.declared.Desk.{Desk}
use Rattle.desk.specs.declared.Line.{Line}
use Rattle.desk.specs.Desk.{is_open, receiver_at}

-- ---- on paper
pub data PaperLine : Type 0 where
  shut : PaperLine
  busy : ℕ → Bool → PaperLine

pub data PaperList : Type 0 where
  refused_list : PaperRefusal → PaperList
  lines : List PaperLine → PaperList

abbrev pub line_paper : Option Line → PaperLine
line_paper None = shut
line_paper (Some l) = busy l.count l.owed

abbrev pub lines_paper : List (Option Line) → List PaperLine
lines_paper = map line_paper

abbrev pub listed_paper : Result (List (Option Line)) Refusal → PaperList
listed_paper (Err why) = refused_list (on_paper why)
listed_paper (Ok ls) = lines (lines_paper ls)

-- ---- the rules
-- "the rate of any open one is neither of the two"
abbrev pub strange : Bool → SoftDemodulator → Bool
strange flag m = flag && not (rate_fit m.rate)

unfoldable pub any_strange : Desk → Bool
any_strange d = any_below 8 (λ (s : ℕ). strange (is_open d.opened s) (receiver_at d s))

-- "an open one is unfit"
abbrev pub unfit : Bool → SoftDemodulator → Bool
unfit flag m = flag && not (record_fit_lem (samples_in_lem m.rate) m)

unfoldable pub any_unfit : Desk → Bool
any_unfit d = any_below 8 (λ (s : ℕ). unfit (is_open d.opened s) (receiver_at d s))

-- a test of each seat, whose answers are those of the rule p: whether any seat passes it
abbrev pub TestsSeats : (Bool → SoftDemodulator → Bool → Type 0) → Desk → Bool → Type 0
TestsSeats says d r = (p : Bool → SoftDemodulator → Bool) → ((flag : Bool) (m : SoftDemodulator) (b : Bool) → says flag m b → b ≡ p flag m)
    → r ≡ any_below 8 (λ (s : ℕ). p (is_open d.opened s) (receiver_at d s))

-- "each seat closed, or open with its count and whether a reply is owed"
abbrev pub line_of : Bool → SoftDemodulator → PaperLine
line_of flag m = cond flag (busy m.control.sample m.control.owed) shut

abbrev pub line_at : Desk → ℕ → PaperLine
line_at d s = line_of (is_open d.opened s) (receiver_at d s)

abbrev pub lines_at : Desk → List PaperLine
lines_at d = line_at d 0 ∷ line_at d 1 ∷ line_at d 2 ∷ line_at d 3 ∷ line_at d 4 ∷ line_at d 5 ∷ line_at d 6 ∷ line_at d 7 ∷ []

unfoldable pub listed : Desk → PaperList
listed d = cond (any_strange d) (refused_list (bare 15)) (cond (any_unfit d) (refused_list (bare 1)) (lines (lines_at d)))

abbrev pub DeskListSays : Desk → Result (List (Option Line)) Refusal → Type 0
DeskListSays d r = listed_paper r ≡ listed d
