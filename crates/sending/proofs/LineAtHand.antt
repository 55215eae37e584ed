-- What becomes of the line at hand with a read's bytes: it waits for more, it is bad, or it is a good line and becomes a part. Assumes nothing.
use mathlib.Core.Path.{◌≡◌, refl, sym, ap, ◌∙◌}
use mathlib.Core.Bool.{Bool, true, false}
use mathlib.Core.List.{List, [], ◌∷◌, ◌++◌}
use Prim.Native.Nat.{ℕ, ◌+◌, ◌≤◌, ◌<◌}
use native.Mathlib.Omega.{arith}
use borrow.Author.Tests.{ltb-true, ltb-false}
use lib.Dec.{ltb}
use lib.ListN.{length, take, drop, length-append, length-take, length-drop}
use lib.Seq.{take_all, take_at, length-take-le}
use Rattle.given_symbols.specs.declared.Traffic.TheVariants.{Ordinary}
use Rattle.modulator.specs.declared.ModulatorFrame.TheVariants.{Symbols as GivenSymbols}
use Rattle.modulator.specs.Paper.{done}
use Rattle.house.specs.Line.{good_line, symbols_of_lem}
use Rattle.sending.specs.declared.Sending.{Sending}
use Rattle.sending.specs.Text.{has_feed_lem, lines_of}
use Rattle.sending.specs.Calls.{part_of, quiet, lacking, at_hand, held, next_line, judged}
use Rattle.sending.proofs.Lines.{never_both, BadFirst, too_short, feed_bad, long_bad}
use Rattle.sending.proofs.Parts.{judged_short, judged_good, judged_bad}

-- the line at hand with the bytes after it, where they are no more than it lacks
abbrev pub longer : Sending → List ℕ → Sending
longer s bytes = record {
  modulator = s.modulator;
  line = take s.have s.line ++ bytes ++ drop (s.have + length bytes) s.line;
  have = s.have + length bytes;
  number = s.number;
}

pub data Becomes : Sending → List ℕ → Type 0 where
  waits : {s : Sending} {bytes : List ℕ} → judged (held s bytes) ≡ quiet done (longer s bytes) false → s.have + length bytes < 97 → has_feed_lem (at_hand s ++ bytes) ≡ false → Becomes s bytes
  fails : {s : Sending} {bytes : List ℕ} → judged (held s bytes) ≡ quiet done (longer s bytes) true → 0 < s.have + length bytes
      → ((rest : List ℕ) → BadFirst (lines_of ((at_hand s ++ bytes) ++ rest))) → Becomes s bytes
  sends : {s : Sending} {bytes : List ℕ} → judged (held s bytes) ≡ part_of (next_line (longer s bytes)) (GivenSymbols Ordinary) (symbols_of_lem (at_hand s ++ bytes)) false false
      → good_line (at_hand s ++ bytes) ≡ true → Becomes s bytes

feed_some : (l : List ℕ) → has_feed_lem l ≡ true → 0 < length l
unfolding has_feed_lem
feed_some [] h = absurd (never_both {b = false} h refl)
feed_some (b ∷ l) h = omega arith

module _ (s : Sending) (bytes : List ℕ) (places : length s.line ≡ 97) (few : s.have + length bytes ≤ 97) where
  held_longer : held s bytes ≡ longer s bytes
  unfolding held
  held_longer = rw (take_all (lacking s) bytes (omega arith))

  pub longer_places : length (longer s bytes).line ≡ 97
  longer_places = simp (length-append, length-take, length-drop) (omega arith)

  front_length : length (take s.have s.line ++ bytes) ≡ s.have + length bytes
  front_length = length-append (take s.have s.line) bytes ∙ ap (λ (n : ℕ). n + length bytes) (length-take-le s.have s.line (omega arith))

  pub longer_at_hand : at_hand (longer s bytes) ≡ at_hand s ++ bytes
  longer_at_hand = take_at (take s.have s.line ++ bytes) (drop (s.have + length bytes) s.line) (s.have + length bytes) front_length

  -- with all of its bytes the line is what is at hand
  whole : 97 ≤ s.have + length bytes → (longer s bytes).line ≡ at_hand s ++ bytes
  whole all = sym (take_all (s.have + length bytes) (longer s bytes).line (omega (arith, longer_places))) ∙ longer_at_hand

  short : s.have + length bytes < 97 → (t : Bool) → has_feed_lem (at_hand s ++ bytes) ≡ t → Becomes s bytes
  short less t e =
      let judges : judged (held s bytes) ≡ quiet done (longer s bytes) t =
      ap judged held_longer ∙ judged_short (longer s bytes) less ∙ ap (quiet done (longer s bytes)) (ap has_feed_lem longer_at_hand ∙ e) in
      by_feed t e judges
    where
      by_feed : (t : Bool) → has_feed_lem (at_hand s ++ bytes) ≡ t → judged (held s bytes) ≡ quiet done (longer s bytes) t → Becomes s bytes
      by_feed false e judges = waits judges less e
      by_feed true e judges =
          fails judges (omega (arith, front_length, feed_some (at_hand s ++ bytes) e)) λ rest.
          feed_bad (at_hand s ++ bytes) rest (omega (arith, front_length)) (too_short (at_hand s ++ bytes) (omega (arith, front_length))) e

  full : 97 ≤ s.have + length bytes → (t : Bool) → good_line (at_hand s ++ bytes) ≡ t → Becomes s bytes
  full all true e =
      sends
      (ap judged held_longer ∙ judged_good (longer s bytes) all (ap good_line (whole all) ∙ e) ∙ ap (λ (l : List ℕ). part_of (next_line (longer s bytes)) (GivenSymbols Ordinary) (symbols_of_lem l) false false) (whole all))
      e
  full all false e =
      fails (ap judged held_longer ∙ judged_bad (longer s bytes) all (ap good_line (whole all) ∙ e)) (omega arith) λ rest.
      by_feed rest (has_feed_lem (at_hand s ++ bytes)) refl
    where
      by_feed : (rest : List ℕ) (t : Bool) → has_feed_lem (at_hand s ++ bytes) ≡ t → BadFirst (lines_of ((at_hand s ++ bytes) ++ rest))
      by_feed rest true h = feed_bad (at_hand s ++ bytes) rest (omega (arith, front_length)) e h
      by_feed rest false h = long_bad (at_hand s ++ bytes) rest (omega (arith, front_length)) h

  pub becomes : Becomes s bytes
  becomes = by_test (ltb (s.have + length bytes) 97) refl
    where
      by_test : (t : Bool) → ltb (s.have + length bytes) 97 ≡ t → Becomes s bytes
      by_test true e = short (ltb-true (s.have + length bytes) 97 e) (has_feed_lem (at_hand s ++ bytes)) refl
      by_test false e = full (ltb-false (s.have + length bytes) 97 e) (good_line (at_hand s ++ bytes)) refl
