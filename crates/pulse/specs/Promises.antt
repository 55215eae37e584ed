-- What the function promises of any rate, window, cursor, symbols and room. Assumes nothing.
use Rattle.std.specs.Prelude.{◌≡◌, Bool, cond, ◌&&◌, List, ℕ, ◌*◌, ltb, leb, ℤ, length, Float}
use Rattle.numbers.specs.Firsts.{written}
use Rattle.shaping.specs.Rate.{Rate, rate_fit, rate_of, tap_count}
use Rattle.pulse.specs.Pulse.{pulses, listed, Line, after, sample_at, line_at}

-- the line and the room, once symbols have gone through
pub record Passed : Type 0 where
  pub line : Line
  pub room : List ℤ

-- the rate is one of the two, the cursor is in the window, and the room takes the symbols' samples
abbrev pub ready : ℕ → List Float → Line → List ℤ → Bool
ready rate symbols line room =
    let R : Rate = rate_of rate in
    rate_fit rate && ltb line.cursor (tap_count R.p) && leb (R.p * length symbols) (length room)

-- What is not ready is given back as it is.
unfoldable pub passed : ℕ → List Float → Line → List ℤ → Passed
passed rate symbols line room =
    let R : Rate = rate_of rate in
    let e : ℕ → Float = pulses R.p (listed symbols) in
    let n : ℕ = R.p * length symbols in
    cond (ready rate symbols line room) (record { line = after R.p e n line; room = written (sample_at R e line) n room }) (record { line = line; room = room })

-- ---- what the function promises
pub record PushSymbolsSays (rate : ℕ) (window : List Float) (cursor : ℕ) (symbols : List Float) (room : List ℤ) (r : ℕ) (window' : List Float) (room' : List ℤ) : Type 0 where
  pub enters : line_at window' r ≡ (passed rate symbols (line_at window cursor) room).line
  pub writes : room' ≡ (passed rate symbols (line_at window cursor) room).room
