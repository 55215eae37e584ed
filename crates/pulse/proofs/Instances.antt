-- Small instances of the laws: what they ask can be met. Assumes nothing.
use mathlib.Core.Path.{◌≡◌, refl}
use mathlib.Core.Bool.{true}
use mathlib.Core.List.{List, [], ◌∷◌, ◌++◌}
use Prim.Native.Nat.{ℕ, ◌+◌, ◌<◌}
use native.Mathlib.Omega.{arith}
use borrow.Rule.Slice.PartMut.{put_mid}
use lib.Dec.{lit≤, lit<}
use lib.IntN.{ℤ, pos}
use lib.ListN.{length, take, drop, set, replicate}
use lib.Ieee.{Float, binary32, of_bits, eq, mul}
use Rattle.numbers.specs.Below.{all_below}
use Rattle.numbers.specs.Firsts.{firsts, written}
use Rattle.shaping.specs.Rate.{at48, at24}
use Rattle.shaping.proofs.RateFacts.{facts48, facts24}
use Rattle.pulse.specs.Pulse.{pulses, listed, Line, pushed, after, sample_of, sample_at, line_at, Sent}
use Rattle.pulse.specs.Promises.{PushSymbolsSays}
use Rattle.pulse.specs.Phases.{pulses_only, pulse_no, row_sample}
use Rattle.pulse.proofs.Pulses.{alone, pulse_at, gap_at, pulses_same}
use Rattle.pulse.proofs.Stream.{after_more, sent_none, sent_one, sent_more, sent_cursor}
use Rattle.numbers.proofs.Tail.{tail_back}
use Rattle.pulse.proofs.PhaseSums.{row_sample_lem}
use Rattle.pulse.proofs.Ready.{sent_says, says_sent, no_rate, past_window, short_room}

empty : List Float
empty = replicate 81 (of_bits binary32 0)

-- ---- ten samples a symbol
module _ (symbol : ℕ → Float) where
  alone_meets : pulses 10 symbol 43 ≡ pulses 10 (λ (_ : ℕ). symbol 4) 3
  alone_meets = alone 10 symbol 4 3 (lit< tt)

  pulse_at_meets : pulses 10 symbol 40 ≡ mul binary32 (symbol 4) (of_bits binary32 0x470a_8500)
  pulse_at_meets = pulse_at 10 symbol 4 (lit< tt)

  gap_at_meets : pulses 10 symbol 43 ≡ of_bits binary32 0
  gap_at_meets = gap_at 10 symbol 4 3 (lit< tt) (lit< tt)

  pulses_same_meets : pulses 10 symbol 49 ≡ pulses 10 symbol 49
  pulses_same_meets = pulses_same 10 symbol symbol 5 (λ i l. refl) 49 (lit< tt)

-- ---- a stream
module _ (e : ℕ → Float) where
  start : Line
  start = line_at empty 0

  room : List ℤ
  room = pos 7 ∷ pos 8 ∷ pos 9 ∷ []

  next : Line
  next = pushed 10 start (e 0)

  one_written : List ℤ
  one_written = set room 0 (sample_of at48 next)

  first_sent : Sent at48 e 1 start room next one_written
  unfolding next room one_written
  first_sent = sent_one at48 e 0 start start next room room (sample_of at48 next) (pos 0) (lit< tt) (sent_none at48 e start room) refl refl

  -- the samples of the second and third values, by the rest of the stream
  rest : ℕ → Float
  rest j = e (1 + j)

  more_sent : Sent at48 e 3 start room (after 10 rest 2 next) (take 1 one_written ++ written (sample_at at48 rest next) 2 (drop 1 one_written))
  unfolding rest
  more_sent = sent_more at48 e rest 1 2 start next (after 10 rest 2 next) room one_written _ (λ j l. refl) first_sent (record { enters = refl; writes = refl })

  after_more_meets : after 10 rest 2 next ≡ after 10 e 3 start
  unfolding rest after next
  after_more_meets = after_more 10 e rest 1 2 start (after 10 e 1 start) _ (λ j l. refl) refl refl

  sent_cursor_meets : next.cursor < 81
  unfolding start
  sent_cursor_meets = sent_cursor at48 e 1 start next room one_written (lit< tt) first_sent

tail_back_meets : (a b c : ℕ) → put_mid 1 1 (a ∷ b ∷ []) (c ∷ []) ≡ a ∷ c ∷ []
tail_back_meets a b c = tail_back (a ∷ b ∷ []) 1 (c ∷ []) (lit≤ tt)

-- ---- a symbol, with room for it and without
one : List Float
one = of_bits binary32 0x3f80_0000 ∷ []

ten : List ℤ
ten = replicate 10 (pos 0)

sent : Line
sent = after 10 (pulses 10 (listed one)) 10 (line_at empty 0)

sent_says_meets : PushSymbolsSays 48000 empty 0 one ten sent.cursor sent.window (written (sample_at at48 (pulses 10 (listed one)) (line_at empty 0)) 10 ten)
unfolding one ten sent
sent_says_meets = sent_says 48000 empty 0 one ten refl (lit< tt) (lit≤ tt) _ _ _ (record { enters = refl; writes = refl })

says_sent_meets : Sent at48 (pulses 10 (listed one)) 10 (line_at empty 0) ten sent (written (sample_at at48 (pulses 10 (listed one)) (line_at empty 0)) 10 ten)
unfolding one ten sent
says_sent_meets = says_sent 48000 empty 0 one ten refl (lit< tt) (lit≤ tt) _ _ _ sent_says_meets

past_window_meets : PushSymbolsSays 48000 empty 81 one ten 81 empty ten
past_window_meets = past_window 48000 empty 81 one ten refl 10 refl (lit≤ tt)

short_room_meets : PushSymbolsSays 48000 empty 0 one [] 0 empty []
unfolding one
short_room_meets = short_room 48000 empty 0 one [] refl 10 refl (lit< tt)

-- at 24 kHz 40 is the last place, and a symbol needs room for five; at 44,100 samples a second nothing is sent
past_ring_meets : PushSymbolsSays 24000 empty 41 one ten 41 empty ten
past_ring_meets = past_window 24000 empty 41 one ten refl 5 refl (lit≤ tt)

half_sent : Line
half_sent = after 5 (pulses 5 (listed one)) 5 (line_at empty 0)

half_says_meets : PushSymbolsSays 24000 empty 0 one ten half_sent.cursor half_sent.window (written (sample_at at24 (pulses 5 (listed one)) (line_at empty 0)) 5 ten)
unfolding one ten half_sent
half_says_meets = sent_says 24000 empty 0 one ten refl (lit< tt) (lit≤ tt) _ _ _ (record { enters = refl; writes = refl })

no_rate_meets : PushSymbolsSays 44100 empty 0 one ten 0 empty ten
no_rate_meets = no_rate 44100 empty 0 one ten refl

-- ---- a window that holds pulses only
empty_pulses : pulses_only 10 (line_at empty 0) ≡ true
unfolding empty pulses_only all_below eq of_bits
empty_pulses = refl

empty_long : length empty ≡ 81
unfolding empty
empty_long = refl

-- the fourth sample of the symbol, by a row of its own
row : List Float
row = firsts (λ (i : ℕ). pulse_no 10 (line_at empty 0) one (0 + i)) 56

row_sample_meets : row_sample at48 row 3 ≡ sample_at at48 (pulses 10 (listed one)) (line_at empty 0) 3
unfolding row one
row_sample_meets = row_sample_lem at48 facts48 (line_at empty 0) one (let l = empty_long in omega arith) (lit< tt) empty_pulses 0 row refl 3 (lit< tt) (lit< tt)

-- the same at 24 kHz
empty_half : pulses_only 5 (line_at empty 0) ≡ true
unfolding empty pulses_only all_below eq of_bits
empty_half = refl

half_row : List Float
half_row = firsts (λ (i : ℕ). pulse_no 5 (line_at empty 0) one (0 + i)) 56

half_sample_meets : row_sample at24 half_row 3 ≡ sample_at at24 (pulses 5 (listed one)) (line_at empty 0) 3
unfolding half_row one
half_sample_meets = row_sample_lem at24 facts24 (line_at empty 0) one (let l = empty_long in omega arith) (lit< tt) empty_half 0 half_row refl 3 (lit< tt) (lit< tt)
