-- The desk's record: "eight seats share one desk record, and each seat has its own receiver". Assumes nothing.
use Rattle.std.specs.Prelude.{◌≡◌, Bool, true, false, List, [], ℕ, get_or, set, replicate}
use Rattle.demodulator.specs.declared.SoftDemodulator.{SoftDemodulator}
use Rattle.demodulator.specs.Record.{fresh, fresh_control}
use Rattle.desk.specs.declared.Desk.{Desk}

abbrev pub is_open : List Bool → ℕ → Bool
is_open flags s = get_or flags s false

-- what is read past the eight, where no call reads: the noughts that an array's reading gives there
abbrev pub blank : SoftDemodulator
blank = record { rate = 0; filter_win = []; filter_cursor = 0; rx_win = []; rx_cursor = 0; control = fresh_control }

abbrev pub receiver_at : Desk → ℕ → SoftDemodulator
receiver_at d s = get_or d.receivers s blank

-- all seats are closed, and a closed seat's receiver is not read
abbrev pub fresh_desk : Desk
fresh_desk = record { opened = replicate 8 false; receivers = replicate 8 (fresh 48000) }

abbrev pub DeskNewSays : Desk → Type 0
DeskNewSays r = r ≡ fresh_desk

-- "changed in place as samples arrive for that seat"
abbrev pub with_receiver : ℕ → SoftDemodulator → Desk → Desk
with_receiver s m d = record { opened = d.opened; receivers = set d.receivers s m }

-- "started anew when its exercise opens"
abbrev pub started : ℕ → ℕ → Desk → Desk
started s rate d = record { opened = set d.opened s true; receivers = set d.receivers s (fresh rate) }

-- closed; its receiver stays as it was
abbrev pub shut_at : ℕ → Desk → Desk
shut_at s d = record { opened = set d.opened s false; receivers = d.receivers }
