-- The transmission, part by part, beside the stretch: padding, preamble, lines and end. Assumes nothing.
use mathlib.Core.Path.{◌≡◌, refl, sym, ap, ◌∙◌}
use mathlib.Core.Bool.{Bool, true, false}
use mathlib.Core.List.{List, [], ◌++◌, append_assoc, append-nil, flatten}
use Prim.Native.Nat.{ℕ, ◌+◌, ◌≤◌, ◌<◌}
use native.Mathlib.Omega.{arith}
use borrow.Author.Tests.{ltb-true, ltb-false}
use lib.Dec.{ltb}
use lib.IntN.{ℤ, pos}
use lib.ListN.{length, take, drop, replicate, length-drop, length-replicate, drop_of_length-le}
use lib.Seq.{drop-cons, drop-drop}
use lib.Ieee.{Float}
use Rattle.numbers.specs.Firsts.{firsts}
use Rattle.machine.specs.Runs.{run, Each}
use Rattle.given_symbols.specs.declared.Traffic.TheVariants.{Ordinary}
use Rattle.modulator.specs.declared.SoftModulator.{SoftModulator}
use Rattle.modulator.specs.declared.ModulatorFrame.TheVariants.{Preamble, Symbols as GivenSymbols, EndOfTransmission}
use Rattle.modulator.specs.Frame.{preamble, given, ending}
use Rattle.modulator.specs.Record.{fresh}
use Rattle.modulator_run.specs.Rules.{Call}
use Rattle.house.specs.Line.{good_line, symbols_of_lem, no_symbols}
use Rattle.sending.specs.Run.{part_calls, line_calls}
use Rattle.sending.specs.Text.{lines_of, AllGood, none, bad_line_lem, preamble_symbols, end_symbols, line_symbols, symbols_sent, stream_samples, samples_sent}
use Rattle.sending.proofs.Stream.{samples_behind, samples_from_start}
use Rattle.sending.proofs.Frames.{gives_preamble, gives_line, gives_end, line_frame}
use Rattle.sending.proofs.OnePart.{Sits}
use Rattle.supplier.specs.declared.part.AfterPart.{AfterPart}
use Rattle.supplier.specs.Check.{Verdict, yes, long, checked_paper, ours, beside}
use Rattle.supplier.specs.Parts.{front, is_yes, PartSays}
use Rattle.supplier.proofs.Front.{Passed, passed, stopped}
use Rattle.supplier.proofs.FirstLine.{GoodFirst, good_line_first, none_good, good_sent}
use Rattle.supplier.proofs.OnePartBeside.{beside_from, Met, part_met}

-- where the comparison is before the line at place i of the text and at place `at` of the stretch: the calls `cs` have sent the symbols `xs`
pub record Stands (padding : ℕ) (text : List ℕ) (samples : List ℤ) (m : SoftModulator) (at i : ℕ) : Type 0 where
  pub cs : List Call
  pub xs : List Float
  pub sits : Sits m cs xs
  pub within : at ≤ length samples
  pub place : i ≤ length text
  pub good : AllGood (lines_of (drop i text))
  pub left : beside 1 (ours padding text) samples ≡ beside_from samples at xs (line_symbols (lines_of (drop i text)) ++ end_symbols)

-- ---- the padding, and the preamble
start_sits : Sits (fresh 48000) [] []
unfolding run Each
start_sits = record { by = refl; given = tt; symbols = refl; padding = refl }

module _ (padding : ℕ) (text : List ℕ) (samples : List ℤ) (fine : bad_line_lem text ≡ none) where
  abbrev zeros : List ℤ
  zeros = replicate padding (pos 0)

  abbrev after : List Float
  after = line_symbols (lines_of text) ++ end_symbols

  abbrev own_samples : List ℤ
  own_samples = samples_behind [] (preamble_symbols ++ after)

  all_good : AllGood (lines_of text)
  all_good = none_good (lines_of text) 1 fine

  sent : samples_sent text ≡ own_samples
  unfolding symbols_sent
  sent = ap (λ (ls : List (List ℕ)). sent_of ls) (good_sent (lines_of text) all_good) ∙ sym (samples_from_start (preamble_symbols ++ after))
    where
      sent_of : List (List ℕ) → List ℤ
      sent_of ls = stream_samples (preamble_symbols ++ (line_symbols ls ++ end_symbols))

  whole : ours padding text ≡ zeros ++ own_samples
  unfolding ours
  whole = ap (λ (l : List ℤ). zeros ++ l) sent

  pub padding_stops : (v : Verdict) → v ≡ front 1 zeros samples → is_yes v ≡ false → v ≡ beside 1 (ours padding text) samples
  padding_stops v e nay = e ∙ stopped zeros 1 own_samples samples (ap is_yes (sym e) ∙ nay) ∙ ap (λ (l : List ℤ). beside 1 l samples) (sym whole)

  module _ (goes : is_yes (front 1 zeros samples) ≡ true) where
    first : Passed 1 zeros own_samples samples
    first = passed zeros 1 own_samples samples goes

    pub padding_within : padding ≤ length samples
    padding_within = omega (arith, first.enough, length-replicate padding (pos 0))

    then : beside 1 (ours padding text) samples ≡ beside_from samples padding [] (preamble_symbols ++ after)
    then =
        let number : 1 + length zeros ≡ padding + 1 = omega (arith, length-replicate padding (pos 0)) in
        ap (λ (l : List ℤ). beside 1 l samples) whole ∙ first.rest ∙ rw (number, length-replicate padding (pos 0))

    module _ (m : SoftModulator) (new : m ≡ fresh 48000) (r : AfterPart) (says : PartSays m (Preamble Ordinary (record { 0 = 0 })) no_symbols samples padding r) where
      met_preamble : Met samples padding (part_calls (Preamble Ordinary (record { 0 = 0 })) no_symbols) [] preamble_symbols after r
      met_preamble =
          part_met m [] [] (rw new start_sits) (Preamble Ordinary (record { 0 = 0 })) no_symbols (preamble Ordinary) gives_preamble
          samples padding padding_within r says after

      pub preamble_stops : is_yes (checked_paper r.verdict) ≡ false → checked_paper r.verdict ≡ beside 1 (ours padding text) samples
      preamble_stops nay = met_preamble.stops nay ∙ sym then

      pub preamble_stands : is_yes (checked_paper r.verdict) ≡ true → Stands padding text samples r.modulator r.at 0
      preamble_stands aye = record {
        cs = _;
        xs = _;
        sits = met_preamble.sits;
        within = met_preamble.within aye;
        place = omega arith;
        good = all_good;
        left = then ∙ met_preamble.goes aye;
      }

-- ---- a line, and the end
module _ (padding : ℕ) (text : List ℕ) (samples : List ℤ) (m : SoftModulator) (at i : ℕ) (st : Stands padding text samples m at i) where
  module _ (some : i < length text) where
    first_line : GoodFirst (drop i text)
    first_line = good_line_first (drop i text) (omega (arith, length-drop i text)) st.good

    abbrev line : List ℕ
    line = take 97 (drop i text)

    pub line_good : good_line line ≡ true
    line_good = first_line.good

    pub line_inside : i + 97 ≤ length text
    line_inside = omega (arith, first_line.enough, length-drop i text)

    later : drop 97 (drop i text) ≡ drop (i + 97) text
    later = drop-drop 97 i text

    abbrev line_firsts : List Float
    line_firsts = firsts (given (symbols_of_lem line)).symbol 192

    abbrev rest : List Float
    rest = line_symbols (lines_of (drop 97 (drop i text))) ++ end_symbols

    cut : line_symbols (lines_of (drop i text)) ++ end_symbols ≡ line_firsts ++ rest
    unfolding flatten
    cut =
        ap (λ (ls : List (List ℕ)). line_symbols ls ++ end_symbols) first_line.lines
        ∙ append_assoc (symbols_of_lem line) (line_symbols (lines_of (drop 97 (drop i text)))) end_symbols
        ∙ ap (λ (l : List Float). l ++ rest) (sym (line_frame line line_good))

    left : beside 1 (ours padding text) samples ≡ beside_from samples at st.xs (line_firsts ++ rest)
    left = st.left ∙ ap (beside_from samples at st.xs) cut

    module _ (r : AfterPart) (says : PartSays m (GivenSymbols Ordinary) (symbols_of_lem line) samples at r) where
      met_line : Met samples at (st.cs ++ line_calls line) st.xs line_firsts rest r
      met_line =
          part_met m st.cs st.xs st.sits (GivenSymbols Ordinary) (symbols_of_lem line) (given (symbols_of_lem line)) (gives_line line line_good)
          samples at st.within r says rest

      pub line_stops : is_yes (checked_paper r.verdict) ≡ false → checked_paper r.verdict ≡ beside 1 (ours padding text) samples
      line_stops nay = met_line.stops nay ∙ sym left

      pub line_stands : is_yes (checked_paper r.verdict) ≡ true → Stands padding text samples r.modulator r.at (i + 97)
      line_stands aye = record {
        cs = _;
        xs = _;
        sits = met_line.sits;
        within = met_line.within aye;
        place = line_inside;
        good = rw later at first_line.others;
        left =
            left
            ∙ met_line.goes aye
            ∙ ap (λ (t : List ℕ). beside_from samples r.at (st.xs ++ line_firsts) (line_symbols (lines_of t) ++ end_symbols)) later;
      }

  -- at as many whole lines as the text has room for
  pub all_lines : length text < i + 97 → length text ≤ i
  all_lines few = by_test (ltb i (length text)) refl
    where
      by_test : (t : Bool) → ltb i (length text) ≡ t → length text ≤ i
      by_test true e = let never : ⊥ = omega (arith, line_inside (ltb-true i (length text) e)) in absurd never
      by_test false e = ltb-false i (length text) e

  module _ (all : length text ≤ i) (r : AfterPart) (says : PartSays m EndOfTransmission no_symbols samples at r) where
    no_more : line_symbols (lines_of (drop i text)) ++ end_symbols ≡ end_symbols ++ []
    unfolding flatten lines_of
    no_more = rw (drop_of_length-le text {i = i} all) (sym (append-nil end_symbols))

    end_left : beside 1 (ours padding text) samples ≡ beside_from samples at st.xs (end_symbols ++ [])
    end_left = st.left ∙ ap (beside_from samples at st.xs) no_more

    met_end : Met samples at (st.cs ++ part_calls EndOfTransmission no_symbols) st.xs end_symbols [] r
    met_end = part_met m st.cs st.xs st.sits EndOfTransmission no_symbols ending gives_end samples at st.within r says []

    pub end_stops : is_yes (checked_paper r.verdict) ≡ false → checked_paper r.verdict ≡ beside 1 (ours padding text) samples
    end_stops nay = met_end.stops nay ∙ sym end_left

    module _ (goes : is_yes (checked_paper r.verdict) ≡ true) where
      nothing : (xs : List Float) → samples_behind xs [] ≡ []
      unfolding samples_behind firsts
      nothing xs = refl

      end_goes : beside 1 (ours padding text) samples ≡ beside (r.at + 1) [] (drop r.at samples)
      end_goes = end_left ∙ met_end.goes goes ∙ ap (λ (l : List ℤ). beside (r.at + 1) l (drop r.at samples)) (nothing (st.xs ++ end_symbols))

      pub end_long : r.at < length samples → long ≡ beside 1 (ours padding text) samples
      unfolding beside
      end_long more = sym (end_goes ∙ ap (beside (r.at + 1) []) (drop-cons samples r.at (pos 0) more))

      pub end_yes : length samples ≤ r.at → yes ≡ beside 1 (ours padding text) samples
      unfolding beside
      end_yes all_there = sym (end_goes ∙ ap (beside (r.at + 1) []) (drop_of_length-le samples {i = r.at} all_there))
