-- The limits of the refusals, on both sides, and lists that meet what the theorems ask. Assumes nothing.
use mathlib.Core.Path.{◌≡◌, refl}
use mathlib.Core.Bool.{Bool, true, false}
use mathlib.Core.List.{List, [], ◌∷◌}
use Prim.Native.Nat.{ℕ, ◌+◌, ◌*◌}
use native.Mathlib.Omega.{arith}
use borrow.Author.Tests.{lt-ltb, le-ltb}
use lib.Dec.{ltb, lit≤}
use lib.IntN.{ℤ, pos, negsuc}
use lib.ListN.{length}
use lib.Ieee.{Float}
use Rattle.machine.specs.Runs.{answers, Each}
use Rattle.shaping.specs.Rate.{rate_fit, rate_of}
use Rattle.protocol.specs.Refusals.{bare}
use Rattle.demodulator.specs.Record.{fresh}
use Rattle.demodulator_run.specs.Run.{single_receiver}
use Rattle.demodulator_run.specs.Stretch.{Sixteen}
use Rattle.plain.specs.List.{Entry, list_from}
use Rattle.plain.specs.Values.{longest}
use Rattle.plain.specs.Listing.{first_list, rules_list, refusal, listed, shows, listing}
use Rattle.plain.proofs.SlowEqualsFirst.{first_calls, slow_equals_first}
use Rattle.plain.proofs.AllAdmitted.{Admitted, all_admitted}
use Rattle.plain.proofs.ListShape.{left_unread}

-- ---- 12: 65,537 samples, and not 65,536
module _ (rate : ℕ) (fit : rate_fit rate ≡ true) (xs : List ℤ) (replies : List Bool) (numbers : List ℕ) (symbols : List Float) where
  one_too_many : length xs ≡ 65537 → (listing rate xs replies numbers symbols).answer ≡ refusal (bare 12)
  unfolding listing
  one_too_many e = let b : ltb longest (length xs) ≡ true = lt-ltb longest (length xs) (omega (arith, e)) in rw (fit, b) refl

  just_enough : length xs ≡ 65536 → listing rate xs replies numbers symbols ≡ shows (first_list rate xs replies) numbers symbols
  unfolding listing
  just_enough e = let b : ltb longest (length xs) ≡ false = le-ltb longest (length xs) (omega (arith, e)) in rw (fit, b) refl

-- 15 before it
no_rate_first : (xs : List ℤ) (replies : List Bool) (numbers : List ℕ) (symbols : List Float) → (listing 44100 xs replies numbers symbols).answer ≡ refusal (bare 15)
unfolding listing
no_rate_first xs replies numbers symbols = refl

-- ---- 13: a number less, or a symbol less, than the list takes, and not at exactly so many
module _ (es : List Entry) (numbers : List ℕ) (symbols : List Float) where
  number_less : length numbers + 1 ≡ 5 * length es → (shows es numbers symbols).answer ≡ refusal (bare 13)
  unfolding shows
  number_less e = let b : ltb (length numbers) (5 * length es) ≡ true = lt-ltb (length numbers) (5 * length es) (omega (arith, e)) in rw b refl

  symbol_less : length numbers ≡ 5 * length es → length symbols + 1 ≡ 192 * length es → (shows es numbers symbols).answer ≡ refusal (bare 13)
  unfolding shows
  symbol_less n e =
      let a : ltb (length numbers) (5 * length es) ≡ false = le-ltb (length numbers) (5 * length es) (omega (arith, n)) in
      let b : ltb (length symbols) (192 * length es) ≡ true = lt-ltb (length symbols) (192 * length es) (omega (arith, e)) in
      rw (a, b) refl

  just_room : length numbers ≡ 5 * length es → length symbols ≡ 192 * length es → (shows es numbers symbols).answer ≡ listed (length es)
  unfolding shows
  just_room n e =
      let a : ltb (length numbers) (5 * length es) ≡ false = le-ltb (length numbers) (5 * length es) (omega (arith, n)) in
      let b : ltb (length symbols) (192 * length es) ≡ false = le-ltb (length symbols) (192 * length es) (omega (arith, e)) in
      rw (a, b) refl

-- ---- the ends of an i16 meet what the theorems ask, at each rate
extremes : List ℤ
extremes = pos 32767 ∷ negsuc 32767 ∷ []

extremes_sixteen : Sixteen extremes
unfolding Sixteen extremes
extremes_sixteen = (record { sfits = lit≤ tt }, (record { sfits = lit≤ tt }, tt))

extremes_equal : (replies : List Bool) → rules_list (rate_of 24000).taps (rate_of 24000).p extremes replies ≡ first_list 24000 extremes replies
extremes_equal replies = slow_equals_first 24000 refl extremes extremes_sixteen replies

extremes_admitted : (replies : List Bool) → Each Admitted (answers single_receiver (fresh 48000) (first_calls 48000 extremes replies))
extremes_admitted replies = all_admitted 48000 refl extremes extremes_sixteen (unfold extremes in lit≤ tt) replies

-- no offer, so each has its reply
empty_unread : (more : List Bool) → first_list 48000 [] more ≡ first_list 48000 [] []
empty_unread more = left_unread 48000 [] [] more (unfold first_list list_from in omega arith)
