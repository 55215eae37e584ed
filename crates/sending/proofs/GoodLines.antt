-- A text of good lines, and how much is written of any text. Assumes nothing.
use mathlib.Core.Path.{◌≡◌, refl, ap, ◌∙◌}
use mathlib.Core.List.{List, [], ◌∷◌, ◌++◌, flatten}
use Prim.Native.Nat.{ℕ, suc, ◌+◌, ◌*◌, ◌≤◌}
use native.Mathlib.Omega.{arith}
use lib.ListN.{length, length-append}
use lib.Ieee.{Float}
use Rattle.numbers.proofs.Firsts.{length_firsts}
use Rattle.given_symbols.specs.declared.Traffic.TheVariants.{Ordinary}
use Rattle.modulator.specs.Frame.{preamble, ending}
use Rattle.house.specs.Line.{symbols_of_lem}
use Rattle.sending.specs.Text.{lines_of, good_front, good_lines, AllGood, none, first_bad_lem, line_symbols, preamble_symbols, end_symbols, symbols_sent, stream_samples, samples_sent, sample_bytes, bytes_sent}
use Rattle.sending.specs.Calls.{largest, opened}
use Rattle.sending.specs.Run.{Fitting, calls_over, written_by, last_call, told_of}
use Rattle.sending.proofs.Lines.{good_first, front_good, number_good}
use Rattle.sending.proofs.Bytes.{bytes_length}
use Rattle.sending.proofs.SendRun.{send_run}

-- ---- a list of good lines is the lines of its text, all of them sent
pub lines_back : (lines : List (List ℕ)) → AllGood lines → lines_of (flatten lines) ≡ lines
unfolding flatten lines_of AllGood
lines_back [] good = refl
lines_back (l ∷ lines) good = good_first l good.0 (flatten lines) ∙ ap (λ (ls : List (List ℕ)). l ∷ ls) (lines_back lines good.1)

all_sent : (lines : List (List ℕ)) → AllGood lines → good_front lines ≡ lines
unfolding AllGood good_front
all_sent [] good = refl
all_sent (l ∷ lines) good = front_good l lines good.0 ∙ ap (λ (ls : List (List ℕ)). l ∷ ls) (all_sent lines good.1)

none_bad : (lines : List (List ℕ)) (n : ℕ) → AllGood lines → first_bad_lem n lines ≡ none
unfolding AllGood first_bad_lem
none_bad [] n good = refl
none_bad (l ∷ lines) n good = number_good n l lines good.0 ∙ none_bad lines (suc n) good.1

pub good_lines_lem : (lines : List (List ℕ)) → AllGood lines → good_lines (flatten lines) ≡ lines
good_lines_lem lines good = ap good_front (lines_back lines good) ∙ all_sent lines good

module _ (lines : List (List ℕ)) (good : AllGood lines) (reads : List (List ℕ)) (same : flatten reads ≡ flatten lines) (fit : Fitting opened.sending reads) where
  -- Of good lines send writes preamble, each line's symbols and end of transmission, as the sender's samples from a fresh start in order.
  pub send_good : written_by (calls_over reads) ≡ sample_bytes (stream_samples (preamble_symbols ++ (line_symbols lines ++ end_symbols)))
  unfolding symbols_sent
  send_good =
      (send_run reads fit).written
      ∙ ap bytes_sent same
      ∙ ap (λ (ls : List (List ℕ)). sample_bytes (stream_samples (preamble_symbols ++ (line_symbols ls ++ end_symbols)))) (good_lines_lem lines good)

  pub send_good_tells : length lines ≤ largest → told_of (last_call reads) ≡ none
  send_good_tells few =
      let back : lines_of (flatten reads) ≡ lines = ap lines_of same ∙ lines_back lines good in
      (send_run reads fit).tells (rw back few) ∙ ap (first_bad_lem 1) back ∙ none_bad lines 1 good

-- ---- how much is written
line_number : (l : List ℕ) → length (symbols_of_lem l) ≡ 192
unfolding symbols_of_lem
line_number l = length_firsts _ 192

lines_number : (lines : List (List ℕ)) → length (line_symbols lines) ≡ 192 * length lines
unfolding flatten
lines_number [] = refl
lines_number (l ∷ lines) = length-append (symbols_of_lem l) (line_symbols lines) ∙ omega (arith, line_number l, lines_number lines)

symbols_number : (text : List ℕ) → length (symbols_sent text) ≡ 464 + 192 * length (good_lines text)
unfolding symbols_sent
symbols_number text =
    let lines : List (List ℕ) = good_lines text in
    omega (arith, length-append preamble_symbols (line_symbols lines ++ end_symbols), length-append (line_symbols lines) end_symbols, length_firsts (preamble Ordinary).symbol 192, length_firsts ending.symbol 272, lines_number lines)

samples_number : (symbols : List Float) → length (stream_samples symbols) ≡ 10 * length symbols
unfolding stream_samples
samples_number symbols = length_firsts _ (10 * length symbols)

-- "No input lines give 4,640 samples."
pub samples_sent_lem : (text : List ℕ) → length (samples_sent text) ≡ 4640 + 1920 * length (good_lines text)
samples_sent_lem text = omega (arith, samples_number (symbols_sent text), symbols_number text)

pub bytes_sent_lem : (text : List ℕ) → length (bytes_sent text) ≡ 9280 + 3840 * length (good_lines text)
bytes_sent_lem text = omega (arith, bytes_length (samples_sent text), samples_sent_lem text)
