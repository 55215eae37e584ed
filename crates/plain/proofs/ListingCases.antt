-- What the whole call leaves, case by case. Assumes nothing.
use Rattle.std.specs.Prelude.{Result, Ok, Err}
use Rattle.protocol.specs.declared.Refusal.{Refusal}
use mathlib.Core.Path.{◌≡◌, refl, ap, subst}
use mathlib.Core.Logic.{⊎_elim}
use mathlib.Core.Bool.{Bool, true, false, ◌||◌}
use mathlib.Core.List.{List}
use Prim.Native.Nat.{ℕ, ◌*◌, ◌/◌, ◌≤◌, ◌<◌}
use native.Mathlib.Omega.{arith}
use borrow.Author.Tests.{lt-ltb, le-ltb}
use lib.Dec.{ltb}
use lib.IntN.{ℤ}
use lib.ListN.{length}
use lib.Ieee.{Float}
use Rattle.numbers.specs.Sixteen.{AllSixteen}
use Rattle.shaping.specs.Taps.{taps, even_taps}
use Rattle.shaping.specs.Rate.{rate_fit, rate_of}
use Rattle.shaping.proofs.RateFacts.{two_rates}
use Rattle.protocol.specs.declared.Refusal.TheVariants.{WrongRate, RecordingTooLong, ListRoomTooSmall}
use Rattle.demodulator_run.proofs.Sixteen.{sixteen_list}
use Rattle.plain.specs.List.{Entry}
use Rattle.plain.specs.Values.{longest}
use Rattle.plain.specs.Listing.{rules_list, listed, too_small, shows, listing, Leaves, WritesAll}
use Rattle.plain.proofs.SlowEqualsFirst.{slow_equals_first}

-- ---- the room
either_true : (a : Bool) → a || true ≡ true
either_true true = refl
either_true false = refl

module _ (es : List Entry) (numbers : List ℕ) (symbols : List Float) (count : ℕ) (all : count ≡ length es) where
  abbrev None : Type 0
  None = Leaves (shows es numbers symbols) (Err ListRoomTooSmall) numbers symbols

  too_small_lem : too_small (length es) numbers symbols ≡ true → None
  unfolding shows
  too_small_lem e = rw e (record { answers = refl; numbered = refl; written = refl })

  pub few_numbers : length numbers / 5 < count → None
  few_numbers few = too_small_lem (let b : ltb (length numbers) (5 * length es) ≡ true = lt-ltb (length numbers) (5 * length es) (omega (arith, all)) in rw b refl)

  pub few_symbols : length symbols / 192 < count → None
  few_symbols few =
      let b : ltb (length symbols) (192 * length es) ≡ true = lt-ltb (length symbols) (192 * length es) (omega (arith, all)) in
      too_small_lem (rw b (either_true (ltb (length numbers) (5 * length es))))

  pub all_listed : count ≤ length numbers / 5 → count ≤ length symbols / 192 → (numbers' : List ℕ) (symbols' : List Float)
      → WritesAll es numbers symbols numbers' symbols' → Leaves (shows es numbers symbols) (Ok count) numbers' symbols'
  unfolding shows
  all_listed a b numbers' symbols' w =
      let n : ltb (length numbers) (5 * length es) ≡ false = le-ltb (length numbers) (5 * length es) (omega (arith, all)) in
      let s : ltb (length symbols) (192 * length es) ≡ false = le-ltb (length symbols) (192 * length es) (omega (arith, all)) in
      rw (n, s) (record { answers = ap listed all; numbered = w.numbered; written = w.written })

-- ---- the rate and the recording
module _ (rate : ℕ) (xs : List ℤ) (replies : List Bool) (numbers : List ℕ) (symbols : List Float) where
  abbrev Leaving : Result ℕ Refusal → List ℕ → List Float → Type 0
  Leaving = Leaves (listing rate xs replies numbers symbols)

  -- the same of a list by the rules
  abbrev ByRules : List Float → ℕ → Result ℕ Refusal → List ℕ → List Float → Type 0
  ByRules table p = Leaves (shows (rules_list table p xs replies) numbers symbols)

  pub no_rate : rate_fit rate ≡ false → Leaving (Err WrongRate) numbers symbols
  unfolding listing
  no_rate e = rw e (record { answers = refl; numbered = refl; written = refl })

  module _ (fit : rate_fit rate ≡ true) where
    pub too_long : longest < length xs → Leaving (Err RecordingTooLong) numbers symbols
    unfolding listing
    too_long long = let b : ltb longest (length xs) ≡ true = lt-ltb _ _ long in rw (fit, b) (record { answers = refl; numbered = refl; written = refl })

    module _ (short : length xs ≤ longest) (sixteen : AllSixteen xs) (table : List Float) (r : Result ℕ Refusal) (numbers' : List ℕ) (symbols' : List Float) where
      -- the list by the rules is the first receiver's
      at_rate : ByRules (rate_of rate).taps (rate_of rate).p r numbers' symbols' → Leaving r numbers' symbols'
      unfolding listing
      at_rate l =
          let b : ltb longest (length xs) ≡ false = le-ltb _ _ short in
          rw (fit, b) (subst (λ (es : List Entry). Leaves (shows es numbers symbols) r numbers' symbols') (slow_equals_first rate fit xs (sixteen_list xs sixteen) replies) l)

      pub at_48_lem : rate ≡ 48000 → table ≡ taps → ByRules table 10 r numbers' symbols' → Leaving r numbers' symbols'
      at_48_lem is t l = at_rate (rw is (subst (λ (q : List Float). ByRules q 10 r numbers' symbols') t l))

      pub at_24_lem : (rate ≡ 48000 → ⊥) → table ≡ even_taps → ByRules table 5 r numbers' symbols' → Leaving r numbers' symbols'
      at_24_lem other t l =
          let is : rate ≡ 24000 = ⊎_elim (λ (a : rate ≡ 48000). absurd (other a)) (λ (b : rate ≡ 24000). b) (two_rates rate fit) in
          at_rate (rw is (subst (λ (q : List Float). ByRules q 5 r numbers' symbols') t l))
