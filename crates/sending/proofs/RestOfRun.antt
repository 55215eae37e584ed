-- What the calls from some place on come to, for the lines that are still to come; the last call; and a call in front of others. Assumes nothing.
use mathlib.Core.Path.{◌≡◌, refl, sym, ap, ◌∙◌}
use mathlib.Core.Bool.{true, false}
use mathlib.Core.List.{List, [], ◌∷◌, ◌++◌, map, append_assoc, append-nil, flatten}
use Prim.Native.Nat.{ℕ, suc, ◌+◌, ◌≤◌, ◌<◌, min}
use native.Mathlib.Omega.{arith}
use borrow.Author.Tests.{lt-ltb}
use lib.ListN.{length}
use lib.Ieee.{Float}
use Rattle.shaping.specs.Rate.{at48}
use Rattle.given_symbols.specs.declared.Traffic.TheVariants.{Ordinary}
use Rattle.modulator.specs.declared.ModulatorFrame.TheVariants.{Symbols as GivenSymbols, EndOfTransmission}
use Rattle.modulator.specs.Paper.{done}
use Rattle.modulator.specs.Frame.{ending}
use Rattle.modulator_run.specs.Rules.{Call}
use Rattle.modulator_run.specs.Run.{record_after}
use Rattle.house.specs.Line.{good_line, symbols_of_lem, no_symbols}
use Rattle.sending.specs.declared.Sending.{Sending}
use Rattle.sending.specs.Text.{has_feed_lem, lines_of, good_front, none, in_line, first_bad_lem, end_symbols, line_symbols, sample_bytes}
use Rattle.sending.specs.Calls.{Left, part_of, largest, closed, with_taken, named}
use Rattle.sending.specs.Run.{output, written_by, AllDone, last_of, told_of, part_calls, line_calls}
use Rattle.sending.proofs.Lines.{line_open, BadFirst, too_short, front_good, front_bad, number_good, number_bad}
use Rattle.sending.proofs.Bytes.{bytes_two}
use Rattle.sending.proofs.Stream.{samples_behind, samples_two}
use Rattle.sending.proofs.Frames.{gives_end}
use Rattle.sending.proofs.OnePart.{Sits, Done, part_done}
use Rattle.sending.proofs.Turns.{closed_last}

-- the calls send what the lines say, after the sender's calls `cs` and the symbols `xs`; the first of the lines has the number k
pub record Over (calls : List Left) (cs : List Call) (xs : List Float) (k : ℕ) (lines : List (List ℕ)) : Type 0 where
  pub written : written_by calls ≡ sample_bytes (samples_behind xs (line_symbols (good_front lines) ++ end_symbols))
  pub answers : AllDone calls
  pub sender : (l : Left) → (last_of l calls).sending.modulator ≡ record_after at48 (cs ++ (flatten (map line_calls (good_front lines)) ++ part_calls EndOfTransmission no_symbols))
  pub tells : (l : Left) → k + length lines ≤ suc largest → told_of (last_of l calls) ≡ first_bad_lem k lines
  pub ends : (l : Left) → (last_of l calls).last ≡ true

-- ---- the last call, whatever was taken of its bytes
pub closes : (s : Sending) (cs : List Call) (xs : List Float) → Sits s.modulator cs xs → Done (closed s) cs xs end_symbols EndOfTransmission no_symbols
unfolding closed
closes s cs xs sits = part_done s cs xs sits EndOfTransmission no_symbols ending gives_end _ true

module _ (n : ℕ) (s : Sending) (cs : List Call) (xs : List Float) (k : ℕ) (lines : List (List ℕ)) (sits : Sits s.modulator cs xs) where
  pub over_closed : good_front lines ≡ [] → (k + length lines ≤ suc largest → told_of (closed s) ≡ first_bad_lem k lines) → Over (with_taken n (closed s) ∷ []) cs xs k lines
  unfolding AllDone last_of flatten
  over_closed no_front tells =
      let end = closes s cs xs sits in
      record {
        written = rw no_front (append-nil (output (closed s)) ∙ end.written);
        answers = (end.answer, tt);
        sender = λ l. rw no_front end.sits.by;
        tells = λ l h. tells h;
        ends = λ l. closed_last s;
      }

-- what closing tells of a line at hand
tells_none : (s : Sending) → s.have ≡ 0 → told_of (closed s) ≡ none
unfolding named closed part_of
tells_none s e = rw e

tells_number : (s : Sending) → 0 < s.have → told_of (closed s) ≡ in_line s.number
unfolding named closed part_of
tells_number s h = rw (lt-ltb 0 s.have h)

-- a line that was begun and has not ended
pub open_bad : (l : List ℕ) → 0 < length l → length l < 97 → has_feed_lem l ≡ false → BadFirst (lines_of l)
open_bad [] some few h = let never : ⊥ = omega arith in absurd never
open_bad (b ∷ l) some few h = record { bad = b ∷ l; others = []; parts = line_open b l h; is_bad = too_short (b ∷ l) few }

-- closing after a bad line
pub over_bad : (n : ℕ) (s : Sending) (cs : List Call) (xs : List Float) (k : ℕ) (lines : List (List ℕ)) → Sits s.modulator cs xs → 0 < s.have → s.number ≡ min k largest → BadFirst lines
    → Over (with_taken n (closed s) ∷ []) cs xs k lines
over_bad n s cs xs k lines sits some number bad =
    over_closed n s cs xs k lines sits (front_bad lines bad) λ h.
    let all : length lines ≡ suc (length bad.others) = ap length bad.parts in
    let same : s.number ≡ k = omega arith in
    tells_number s some ∙ ap in_line same ∙ sym (number_bad k lines bad)

-- closing where no line was begun
pub over_nothing : (n : ℕ) (s : Sending) (cs : List Call) (xs : List Float) (k : ℕ) → Sits s.modulator cs xs → s.have ≡ 0 → Over (with_taken n (closed s) ∷ []) cs xs k []
unfolding good_front first_bad_lem
over_nothing n s cs xs k sits nothing = over_closed n s cs xs k [] sits refl λ _. tells_none s nothing

-- ---- a call in front
module _ (n : ℕ) (l : Left) (calls : List Left) (cs : List Call) (xs : List Float) (k : ℕ) (lines : List (List ℕ)) where
  pub over_quiet : l.answer ≡ done → output l ≡ [] → Over calls cs xs k lines → Over (with_taken n l ∷ calls) cs xs k lines
  unfolding AllDone last_of flatten
  over_quiet fine silent rest = record {
    written = rw silent rest.written;
    answers = (fine, rest.answers);
    sender = λ _. rest.sender (with_taken n l);
    tells = λ _. rest.tells (with_taken n l);
    ends = λ _. rest.ends (with_taken n l);
  }

  pub over_part : (g : List ℕ) → good_line g ≡ true → Done l cs xs (symbols_of_lem g) (GivenSymbols Ordinary) (symbols_of_lem g)
      → Over calls (cs ++ line_calls g) (xs ++ symbols_of_lem g) (suc k) lines → Over (with_taken n l ∷ calls) cs xs k (g ∷ lines)
  unfolding AllDone last_of flatten
  over_part g good part rest =
      let more : List Float = line_symbols (good_front lines) ++ end_symbols in
      let later : List Call = flatten (map line_calls (good_front lines)) in
      let end : List Call = part_calls EndOfTransmission no_symbols in
      let front : good_front (g ∷ lines) ≡ g ∷ good_front lines = front_good g lines good in
      let symbols : (symbols_of_lem g ++ line_symbols (good_front lines)) ++ end_symbols ≡ symbols_of_lem g ++ more = append_assoc (symbols_of_lem g) (line_symbols (good_front lines)) end_symbols in
      record {
        written =
            ap (λ (b : List ℕ). b ++ written_by calls) part.written
            ∙ ap (λ (b : List ℕ). sample_bytes (samples_behind xs (symbols_of_lem g)) ++ b) rest.written
            ∙ sym (bytes_two (samples_behind xs (symbols_of_lem g)) (samples_behind (xs ++ symbols_of_lem g) more))
            ∙ ap sample_bytes (sym (samples_two xs (symbols_of_lem g) more))
            ∙ ap (λ (y : List Float). sample_bytes (samples_behind xs y)) (sym symbols)
            ∙ ap (λ (f : List (List ℕ)). sample_bytes (samples_behind xs (line_symbols f ++ end_symbols))) (sym front);
        answers = (part.answer, rest.answers);
        sender = λ _.
            rest.sender (with_taken n l)
            ∙ ap (record_after at48) (append_assoc cs (line_calls g) (later ++ end) ∙ ap (λ (c : List Call). cs ++ c) (sym (append_assoc (line_calls g) later end)))
            ∙ ap (λ (f : List (List ℕ)). record_after at48 (cs ++ (flatten (map line_calls f) ++ end))) (sym front);
        tells = λ _ h. rest.tells (with_taken n l) (omega arith) ∙ sym (number_good k g lines good);
        ends = λ _. rest.ends (with_taken n l);
      }
