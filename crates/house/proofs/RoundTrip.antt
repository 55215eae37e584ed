-- Document 01's line, there and back: a good line's symbols write that line again, and the line of any symbols is good and reads as the symbols that the slicer takes them for. Assumes nothing.
use Rattle.std.specs.Prelude.{Option, Some}
use mathlib.Core.Path.{◌≡◌, refl, sym, ap, ◌∙◌, subst, subst⁻¹}
use mathlib.Core.Bool.{Bool, true, false, cond}
use mathlib.Core.List.{List, [], ◌∷◌}
use mathlib.Core.Logic.{⊎_elim}
use Prim.Native.Nat.{ℕ, ◌+◌, ◌*◌, ◌/◌, ◌%◌, ◌<◌}
use native.Mathlib.Nat.{eq-or-lt_of_le, le_of_suc-le-suc}
use native.Mathlib.Omega.{arith}
use borrow.Author.Tests.{eqb-true, eqb-false}
use lib.Dec.{T, eqb, ltb→lt, lt→ltb}
use lib.ListN.{length, get_or, length-append, get_or-append}
use lib.Seq.{ext_get_or, get_or_at}
use lib.Ieee.{Float, nan}
use lib.Ieee.Bits.{is_true}
use lib.Ieee.Fits.{and_i}
use Rattle.numbers.specs.Below.{all_below}
use Rattle.numbers.specs.Firsts.{firsts}
use Rattle.numbers.proofs.Below.{below_all}
use Rattle.numbers.proofs.Firsts.{length_firsts, firsts_at, firsts_same}
use Rattle.house.specs.Digits.{value_of, digit_of}
use Rattle.house.specs.Line.{line_feed, symbol_of, bits_of, nearest, good_line, pair_in, bits_at, symbols_of_lem, read_line, four_at, line_of, LineSymbolsSays, SymbolsLineSays}
use Rattle.house.proofs.Digits.{digit_of_value, value_of_digit}
use Rattle.house.proofs.Bits.{bits_below, bits_of_symbol}
use Rattle.house.proofs.Lines.{digit_at, read_good, some_good, some_symbols, good_digit, good_length, good_end, pair_below, four_below}

-- ---- the places of a line that is written
module _ (symbols : List Float) where
  abbrev digits : ℕ → ℕ
  digits i = digit_of (four_at symbols i)

  pub length_line : length (line_of symbols) ≡ 97
  unfolding line_of
  length_line = simp length-append (omega (arith, length_firsts digits 96))

  pub line_at : (i : ℕ) → i < 96 → get_or (line_of symbols) i 0 ≡ digit_of (four_at symbols i)
  unfolding line_of
  line_at i l = get_or-append (firsts digits 96) (line_feed ∷ []) 0 i (omega (arith, length_firsts digits 96)) ∙ firsts_at digits 96 i 0 l

  pub line_end : get_or (line_of symbols) 96 0 ≡ line_feed
  unfolding line_of
  line_end = get_or_at (firsts digits 96) line_feed [] 0 96 (length_firsts digits 96)

  pub value_at : (i : ℕ) → i < 96 → value_of (get_or (line_of symbols) i 0) ≡ four_at symbols i
  value_at i l = rw (line_at i l) (value_of_digit (four_at symbols i) (four_below symbols i))

  -- "96 capital digits .. then a line feed"
  pub line_good : T (good_line (line_of symbols))
  unfolding good_line
  line_good =
      and_i (all_below 96 (digit_at (line_of symbols))) _
      (below_all 96 (digit_at (line_of symbols)) λ i l. rw (value_at i l) (lt→ltb _ 16 (four_below symbols i)))
      (rw (length_line, line_end) tt)

-- two symbols make a digit's value, and the value gives the bits of each back
module _ (v : ℕ → ℕ) (small : (i : ℕ) → v i < 4) (i : ℕ) where
  pair_of_four : pair_in (4 * v (2 * (i / 2)) + v (2 * (i / 2) + 1)) i ≡ v i
  pair_of_four = by_test (eqb (i % 2) 0) refl
    where
      by_test : (t : Bool) → eqb (i % 2) 0 ≡ t → cond t ((4 * v (2 * (i / 2)) + v (2 * (i / 2) + 1)) / 4) ((4 * v (2 * (i / 2)) + v (2 * (i / 2) + 1)) % 4) ≡ v i
      by_test true e =
          let even : 2 * (i / 2) ≡ i = omega (arith, eqb-true (i % 2) 0 e) in
          rw even (omega (arith, small (i + 1)))
      by_test false e =
          let odd : 2 * (i / 2) + 1 ≡ i = omega (arith, eqb-false (i % 2) 0 e) in
          rw odd (omega (arith, small i))

-- ---- from symbols to a line and back: each symbol's nearest
pub symbols_back : (symbols : List Float) → symbols_of_lem (line_of symbols) ≡ firsts (λ i. nearest (get_or symbols i nan)) 192
unfolding symbols_of_lem nearest
symbols_back symbols =
    firsts_same (λ i. symbol_of (bits_at (line_of symbols) i)) (λ i. symbol_of (bits_of (get_or symbols i nan))) 192 λ i l.
    ap symbol_of (rw (value_at symbols (i / 2) (omega arith)) (pair_of_four (λ j. bits_of (get_or symbols j nan)) (λ j. bits_below (get_or symbols j nan)) i))

-- ---- from a good line to symbols and back
module _ (line : List ℕ) (good : T (good_line line)) where
  symbol_at : (i : ℕ) → i < 192 → bits_of (get_or (symbols_of_lem line) i nan) ≡ bits_at line i
  unfolding symbols_of_lem
  symbol_at i l =
      rw (firsts_at (λ j. symbol_of (bits_at line j)) 192 i nan l)
      (bits_of_symbol (bits_at line i) (pair_below (value_of (get_or line (i / 2) 0)) i (ltb→lt _ 16 (good_digit line good (i / 2) (omega arith)))))

  four_back : (i : ℕ) → i < 96 → four_at (symbols_of_lem line) i ≡ value_of (get_or line i 0)
  four_back i l =
      let even : 2 * i / 2 ≡ i = omega arith in
      let odd : (2 * i + 1) / 2 ≡ i = omega arith in
      let even-rest : 2 * i % 2 ≡ 0 = omega arith in
      let odd-rest : (2 * i + 1) % 2 ≡ 1 = omega arith in
      rw (symbol_at (2 * i) (omega arith), symbol_at (2 * i + 1) (omega arith), even, odd, even-rest, odd-rest) (omega arith)

  pub line_back : line_of (symbols_of_lem line) ≡ line
  line_back =
      ext_get_or 0 (line_of (symbols_of_lem line)) line (length_line (symbols_of_lem line) ∙ sym (good_length line good)) λ i l.
      ⊎_elim
      (λ (e : i ≡ 96). rw e (line_end (symbols_of_lem line) ∙ sym (good_end line good)))
      (λ (k : i < 96). line_at (symbols_of_lem line) i k ∙ ap digit_of (four_back i k) ∙ digit_of_value (get_or line i 0) (good_digit line good i k))
      (eq-or-lt_of_le (le_of_suc-le-suc (rw (length_line (symbols_of_lem line)) at l)))

-- ---- the two functions
pub line_there_and_back : (line again : List ℕ) (symbols : List Float) (r : Option (List Float)) → LineSymbolsSays line r → r ≡ Some symbols → SymbolsLineSays symbols again → again ≡ line
line_there_and_back line again symbols r read some write =
    let told : read_line line ≡ Some symbols = sym read ∙ some in
    write ∙ ap line_of (some_symbols line told) ∙ line_back line (subst T (sym (some_good line told)) tt)

module _ (symbols : List Float) (line : List ℕ) (r : Option (List Float)) (write : SymbolsLineSays symbols line) (read : LineSymbolsSays line r) where
  -- what the slicer takes each symbol for
  abbrev pub nearest_symbols : List Float
  nearest_symbols = firsts (λ i. nearest (get_or symbols i nan)) 192

  written_good : T (good_line line)
  written_good = subst⁻¹ (λ (l : List ℕ). T (good_line l)) write (line_good symbols)

  own : symbols_of_lem line ≡ nearest_symbols
  own = ap symbols_of_lem write ∙ symbols_back symbols

  pub symbols_there_and_back : (r ≡ Some nearest_symbols) × ((again : List ℕ) → SymbolsLineSays nearest_symbols again → again ≡ line)
  symbols_there_and_back = (
    read ∙ read_good line (is_true (good_line line) written_good) ∙ ap Some own,
    λ again h. h ∙ ap line_of (sym own) ∙ line_back line written_good,
  )
