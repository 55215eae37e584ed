-- Document 02 h): a pause, said of the calls that feed it. Assumes nothing.
use Rattle.std.specs.Prelude.{◌≡◌, List, ◌++◌, ℕ, ◌+◌, ◌*◌, ◌≤◌, ℤ, pos}
use Rattle.machine.specs.Runs.{run, Each}
use Rattle.shaping.specs.Rate.{Rate}
use Rattle.demodulator_run.specs.Rules.{sample, reply, query, start}
use Rattle.demodulator_run.specs.Run.{fresh_at}
use Rattle.demodulator_run.specs.Calls.{Call, one, stretch, rules, receiver}

-- ---- what holds of each sample that a call gives, whether or not it will be refused
unfoldable pub Gives : (ℤ → Type 0) → Call → Type 0
Gives P (one (sample x room)) = P x
Gives P (one (reply r)) = Unit {0}
Gives P (one query) = Unit {0}
Gives P (stretch xs room) = Each P xs

-- "zero samples"
abbrev pub Silent : Call → Type 0
Silent = Gives (λ (x : ℤ). x ≡ pos 0)

-- ---- how many
-- "feed it 4,000 zero samples"; k): "with a pause of 2,000"
abbrev pub pause : ℕ → ℕ
pause p = 400 * p

-- the fewest that suffice
abbrev pub least_pause : ℕ → ℕ
least_pause p = 396 * p + 2

-- ---- the count after some calls from a fresh start: of the record, and by the rules
abbrev pub counted : Rate → List Call → ℕ
counted R cs = (run receiver (fresh_at R) cs).control.sample

abbrev pub counted_by_rules : Rate → List Call → ℕ
counted_by_rules R cs = (run (rules R) start cs).control.sample

-- After the calls cs, the calls zs are a pause of n samples or more. Replies either way, queries and calls that are refused may be among them:
-- "answer every offer in that time either way".
pub record Pause (n : ℕ) (count : List Call → ℕ) (cs zs : List Call) : Type 0 where
  pub silent : Each Silent zs
  pub long : count cs + n ≤ count (cs ++ zs)
