-- What is to be written lies within its bytes, of every record. Assumes nothing.
use mathlib.Core.Path.{◌≡◌}
use mathlib.Core.Bool.{Bool, true, false, cond, ◌&&◌}
use mathlib.Core.List.{List, [], ◌∷◌}
use Prim.Native.Nat.{ℕ, ◌≤◌, ◌<◌, ◌^◌}
use native.Mathlib.Omega.{arith}
use lib.Dec.{ltb}
use lib.IntN.{pos}
use lib.ListN.{length, length-replicate}
use lib.Ieee.{Float}
use Rattle.shaping.specs.Rate.{rate_of}
use Rattle.given_symbols.specs.declared.Traffic.TheVariants.{Ordinary}
use Rattle.modulator.specs.declared.ModulatorFrame.{ModulatorFrame}
use Rattle.modulator.specs.declared.ModulatorFrame.TheVariants.{Symbols as GivenSymbols}
use Rattle.modulator.specs.Paper.{done}
use Rattle.modulator.specs.Calls.{provided}
use Rattle.house.specs.declared.Program.TheVariants.{Send}
use Rattle.house.specs.declared.Text.{Text}
use Rattle.house.specs.Line.{good_line, symbols_of_lem}
use Rattle.house.specs.BadLine.{in_room}
use Rattle.house.specs.Trouble.{outcome_text_lem}
use Rattle.house.proofs.Within.{bad_line_within, outcome_within}
use Rattle.sending.specs.declared.Sending.{Sending}
use Rattle.sending.specs.declared.AfterPart.{AfterPart}
use Rattle.sending.specs.Text.{has_feed_lem}
use Rattle.sending.specs.Calls.{Left, empty_room, part_of, quiet, opened, at_hand, added, held, next_line, judged, closed, moved, with_taken, is_fit, record_told, turned, named, words, is_admitted_lem, said_of, Says, OpenSays, LastWordsSays}
use Rattle.sending.proofs.Parts.{read_within}

part_within : (s : Sending) (frame : ModulatorFrame) (symbols : List Float) (bad last : Bool) → (part_of s frame symbols bad last).length ≤ 5440
unfolding part_of
part_within s frame symbols bad last = omega (arith, read_within (provided (rate_of s.modulator.rate) s.modulator frame symbols).modulator empty_room, length-replicate 2720 (pos 0))

judged_within : (s : Sending) → (judged s).length ≤ 5440
unfolding judged
judged_within s = by_test (ltb s.have 97) (good_line s.line)
  where
    by_test : (t u : Bool) → (cond t (quiet done s (has_feed_lem (at_hand s))) (cond u (part_of (next_line s) (GivenSymbols Ordinary) (symbols_of_lem s.line) false false) (quiet done s true))).length ≤ 5440
    by_test true u = omega arith
    by_test false true = part_within (next_line s) (GivenSymbols Ordinary) (symbols_of_lem s.line) false false
    by_test false false = omega arith

within : (d : Left) (r : AfterPart) → Says d r → d.length ≤ 5440 → r.length ≤ 5440
within d r said few = rw said.counts few

pub open_within : (r : AfterPart) → OpenSays r → r.length ≤ 5440
unfolding opened
open_within r said = within _ r said (part_within _ _ _ false false)

closed_within : (s : Sending) → (closed s).length ≤ 5440
unfolding closed
closed_within s = part_within s _ _ _ true

moved_within : (s : Sending) (bytes : List ℕ) → (moved s bytes).length ≤ 5440
unfolding moved
moved_within s [] = closed_within s
moved_within s (b ∷ bytes) = by_test (judged (held s (b ∷ bytes))) (judged (held s (b ∷ bytes))).bad (judged_within (held s (b ∷ bytes)))
  where
    by_test : (l : Left) (t : Bool) → l.length ≤ 5440 → (cond t (closed l.sending) l).length ≤ 5440
    by_test l true few = closed_within l.sending
    by_test l false few = few

turned_within : (s : Sending) (bytes : List ℕ) → (turned s bytes).length ≤ 5440
unfolding turned
turned_within s bytes = by_test (is_fit s.modulator)
  where
    by_test : (fit : Bool) → (cond fit (with_taken (length (added s bytes)) (moved s bytes)) (quiet (record_told s.modulator) s false)).length ≤ 5440
    by_test true = moved_within s bytes
    by_test false = omega arith

-- the promise of `turn`, of the bytes that it takes
pub turn_within : (s : Sending) (bytes : List ℕ) (r : AfterPart) → Says (turned s bytes) r → r.length ≤ 5440
turn_within s bytes r said = within (turned s bytes) r said (turned_within s bytes)

-- and so do the last words
pub last_words_within : (part : AfterPart) (read written : Bool) (r : Text) → part.sending.number < 2 ^ 64 → LastWordsSays part read written r → r.length ≤ 40
unfolding named words in_room said_of
last_words_within part read written r small said = by_outcome (read && written && is_admitted_lem part) said
  where
    by_test : (t : Bool) → r ≡ words (named t part.sending.number) → r.length ≤ 40
    by_test true e = bad_line_within part.sending.number r small e
    by_test false e = rw e (omega arith)

    by_outcome : (t : Bool) → r ≡ cond t (words (named part.bad part.sending.number)) (in_room (outcome_text_lem Send read written (is_admitted_lem part))) → r.length ≤ 40
    by_outcome true e = by_test part.bad e
    by_outcome false e = outcome_within Send read written (is_admitted_lem part) r e
