-- The program over every text, cut into reads in any way: what it writes is what the text says. Assumes nothing.
use mathlib.Core.Path.{◌≡◌, refl, sym, ap, ◌∙◌}
use mathlib.Core.Bool.{Bool, true, false}
use mathlib.Core.List.{List, [], ◌∷◌, ◌++◌, append_assoc, append-nil, flatten}
use Prim.Native.Nat.{ℕ, suc, ◌+◌, ◌≤◌, ◌<◌, min}
use native.Mathlib.Omega.{arith}
use borrow.Author.Tests.{ltb-true, ltb-false}
use lib.Dec.{ltb}
use lib.ListN.{length}
use lib.Seq.{length-take-le}
use lib.Ieee.{Float}
use Rattle.machine.specs.Runs.{run, Each}
use Rattle.given_symbols.specs.declared.Traffic.TheVariants.{Ordinary}
use Rattle.modulator.specs.declared.ModulatorFrame.TheVariants.{Preamble, Symbols as GivenSymbols}
use Rattle.modulator.specs.Paper.{done}
use Rattle.modulator.specs.Frame.{preamble, given}
use Rattle.modulator_run.specs.Rules.{Call}
use Rattle.house.specs.Line.{good_line, symbols_of_lem, no_symbols}
use Rattle.sending.specs.declared.Sending.{Sending}
use Rattle.sending.specs.Text.{has_feed_lem, lines_of, good_lines, preamble_symbols, end_symbols, line_symbols, symbols_sent, sample_bytes}
use Rattle.sending.specs.Calls.{Left, part_of, quiet, starting, opened, at_hand, added, held, largest, next_line, judged, closed, with_taken, is_fit, turned, words}
use Rattle.sending.specs.Run.{Fitting, calls_from, written_by, AllDone, last_of, part_calls, line_calls, sender_calls, Sends}
use Rattle.sending.proofs.Lines.{never_both, good_first}
use Rattle.sending.proofs.Bytes.{bytes_two}
use Rattle.sending.proofs.Stream.{samples_behind, samples_from_start, samples_two}
use Rattle.sending.proofs.Frames.{gives_preamble, gives_line, line_frame}
use Rattle.sending.proofs.OnePart.{Sits, sits_fit, Done, part_done}
use Rattle.sending.proofs.LineAtHand.{longer, Becomes, waits, fails, sends, longer_places, longer_at_hand, becomes}
use Rattle.sending.proofs.Turns.{closed_last, turned_on, turned_bad, turned_end}
use Rattle.sending.proofs.BytesTaken.{all_taken}
use Rattle.sending.proofs.RestOfRun.{Over, open_bad, over_bad, over_nothing, over_quiet, over_part}

-- ---- where the program stands between two reads: the line at hand has not ended, and has the number k
pub record Stands (s : Sending) (cs : List Call) (xs : List Float) (k : ℕ) : Type 0 where
  pub sits : Sits s.modulator cs xs
  pub places : length s.line ≡ 97
  pub short : s.have < 97
  pub plain : has_feed_lem (at_hand s) ≡ false
  pub number : s.number ≡ min k largest

-- ---- the end of the input
empty : (s : Sending) → s.have ≡ 0 → lines_of (at_hand s) ≡ []
unfolding lines_of
empty s e = rw e

over_end : (n : ℕ) (s : Sending) (cs : List Call) (xs : List Float) (k : ℕ) → Stands s cs xs k → Over (with_taken n (closed s) ∷ []) cs xs k (lines_of (at_hand s))
over_end n s cs xs k st = by_test (ltb 0 s.have) refl
  where
    by_test : (t : Bool) → ltb 0 s.have ≡ t → Over (with_taken n (closed s) ∷ []) cs xs k (lines_of (at_hand s))
    by_test true e =
        let some = ltb-true 0 s.have e in
        let size : length (at_hand s) ≡ s.have = length-take-le s.have s.line (omega (arith, st.places, st.short)) in
        over_bad n s cs xs k (lines_of (at_hand s)) st.sits some st.number (open_bad (at_hand s) (omega arith) (omega (arith, st.short)) st.plain)
    by_test false e =
        let nothing : s.have ≡ 0 = omega (arith, ltb-false 0 s.have e) in
        let no_lines : lines_of (at_hand s) ≡ [] = empty s nothing in
        rw no_lines (over_nothing n s cs xs k st.sits nothing)

-- ---- from any place on
abbrev Runs : List (List ℕ) → Type 0
Runs reads = (s : Sending) (cs : List Call) (xs : List Float) (k : ℕ) → Stands s cs xs k → Fitting s reads → Over (calls_from s reads) cs xs k (lines_of (at_hand s ++ flatten reads))

module _ (s : Sending) (bytes : List ℕ) (reads : List (List ℕ)) (fit : is_fit s.modulator ≡ true) (some : 0 < length bytes) (l : Left) (e : judged (held s bytes) ≡ l) where
  calls_on : l.bad ≡ false → l.last ≡ false → calls_from s (bytes ∷ reads) ≡ with_taken (length (added s bytes)) l ∷ calls_from l.sending reads
  unfolding calls_from
  calls_on fine on = rw (turned_on s bytes fit some l e fine, on)

  calls_end : l.bad ≡ true → calls_from s (bytes ∷ reads) ≡ with_taken (length (added s bytes)) (closed l.sending) ∷ []
  unfolding calls_from
  calls_end bad = rw (turned_bad s bytes fit some l e bad, closed_last l.sending)

  fits_on : l.bad ≡ false → l.last ≡ false → Fitting s (bytes ∷ reads) → Fitting l.sending reads
  unfolding Fitting
  fits_on fine on fitting =
      let now = turned_on s bytes fit some l e fine in
      rw now at (fitting.1.1 (ap (λ (x : Left). x.last) now ∙ on))

few_bytes : (s : Sending) (bytes : List ℕ) (reads : List (List ℕ)) → s.have < 97 → Fitting s (bytes ∷ reads) → s.have + length bytes ≤ 97
unfolding Fitting
few_bytes s bytes reads less fit = omega (arith, fit.1.0)

some_bytes : (s : Sending) (bytes : List ℕ) (reads : List (List ℕ)) → Fitting s (bytes ∷ reads) → 0 < length bytes
unfolding Fitting
some_bytes s bytes reads fit = fit.0

module _ (bytes : List ℕ) (s : Sending) (cs : List Call) (xs : List Float) (k : ℕ) (st : Stands s cs xs k) (few : s.have + length bytes ≤ 97) where
  -- the line at hand with the bytes, and how many of these are taken
  abbrev g : List ℕ
  g = at_hand s ++ bytes

  abbrev n : ℕ
  n = length (added s bytes)

  -- a good line as a part
  abbrev line_sent : Left
  line_sent = part_of (next_line (longer s bytes)) (GivenSymbols Ordinary) (symbols_of_lem g) false false

  line_fine : line_sent.bad ≡ false
  unfolding part_of
  line_fine = refl

  waits_stands : s.have + length bytes < 97 → has_feed_lem g ≡ false → Stands (longer s bytes) cs xs k
  waits_stands less plain =
      let hand : at_hand (longer s bytes) ≡ g = longer_at_hand s bytes st.places few in
      record { sits = st.sits; places = longer_places s bytes st.places few; short = less; plain = ap has_feed_lem hand ∙ plain; number = st.number }

  line_done : good_line g ≡ true → Done line_sent cs xs (symbols_of_lem g) (GivenSymbols Ordinary) (symbols_of_lem g)
  line_done good = rw (line_frame g good) at (part_done (next_line (longer s bytes)) cs xs st.sits (GivenSymbols Ordinary) (symbols_of_lem g) (given (symbols_of_lem g)) (gives_line g good) false false)

  sends_stands : good_line g ≡ true → Stands line_sent.sending (cs ++ line_calls g) (xs ++ symbols_of_lem g) (suc k)
  unfolding part_of has_feed_lem
  sends_stands good =
      record { sits = (line_done good).sits; places = longer_places s bytes st.places few; short = omega arith; plain = refl; number = omega (arith, st.number) }

  module _ (reads : List (List ℕ)) (more : Runs reads) where
    next_read : Fitting s (bytes ∷ reads) → Becomes s bytes → Over (calls_from s (bytes ∷ reads)) cs xs k (lines_of (g ++ flatten reads))
    unfolding part_of
    next_read fit (waits e less plain) =
        let some = some_bytes s bytes reads fit in
        let l : Left = quiet done (longer s bytes) false in
        let rest = rw (longer_at_hand s bytes st.places few) at (more (longer s bytes) cs xs k (waits_stands less plain) (fits_on s bytes reads (sits_fit st.sits) some l e refl refl fit)) in
        rw (calls_on s bytes reads (sits_fit st.sits) some l e refl refl) (over_quiet n l (calls_from (longer s bytes) reads) cs xs k (lines_of (g ++ flatten reads)) refl refl rest)
    next_read fit (fails e begun bad) =
        rw (calls_end s bytes reads (sits_fit st.sits) (some_bytes s bytes reads fit) (quiet done (longer s bytes) true) e refl)
        (over_bad n (longer s bytes) cs xs k (lines_of (g ++ flatten reads)) st.sits begun st.number (bad (flatten reads)))
    next_read fit (sends e good) =
        let some = some_bytes s bytes reads fit in
        let rest = more line_sent.sending (cs ++ line_calls g) (xs ++ symbols_of_lem g) (suc k) (sends_stands good) (fits_on s bytes reads (sits_fit st.sits) some line_sent e refl refl fit) in
        rw (calls_on s bytes reads (sits_fit st.sits) some line_sent e refl refl, good_first g good (flatten reads))
        (over_part n line_sent (calls_from line_sent.sending reads) cs xs k (lines_of (flatten reads)) g good (line_done good) rest)

-- after a turn that is not the last the program stands between two reads again
pub record Somewhere (s : Sending) : Type 0 where
  pub cs : List Call
  pub xs : List Float
  pub k : ℕ
  pub stands : Stands s cs xs k

module _ (bytes : List ℕ) (some : 0 < length bytes) where
  by_line : (s : Sending) (cs : List Call) (xs : List Float) (k : ℕ) → Stands s cs xs k → s.have + length bytes ≤ 97 → (turned s bytes).last ≡ false → Becomes s bytes → Somewhere (turned s bytes).sending
  by_line s cs xs k st few on (waits e less plain) =
      rw (turned_on s bytes (sits_fit st.sits) some (quiet done (longer s bytes) false) e refl) (record { cs = cs; xs = xs; k = k; stands = waits_stands bytes s cs xs k st few less plain })
  by_line s cs xs k st few on (fails e begun bad) =
      let l : Left = quiet done (longer s bytes) true in
      absurd (never_both (ap (λ (x : Left). x.last) (turned_bad s bytes (sits_fit st.sits) some l e refl) ∙ closed_last l.sending) on)
  by_line s cs xs k st few on (sends e good) =
      rw (turned_on s bytes (sits_fit st.sits) some (line_sent bytes s cs xs k st few) e (line_fine bytes s cs xs k st few))
      (record { cs = cs ++ line_calls (at_hand s ++ bytes); xs = xs ++ symbols_of_lem (at_hand s ++ bytes); k = suc k; stands = sends_stands bytes s cs xs k st few good })

  pub next_stands : (s : Sending) → Somewhere s → s.have + length bytes ≤ 97 → (turned s bytes).last ≡ false → Somewhere (turned s bytes).sending
  next_stands s at few on = by_line s at.cs at.xs at.k at.stands few on (becomes s bytes at.stands.places few)

pub run_from : (reads : List (List ℕ)) → Runs reads
unfolding calls_from flatten
run_from [] s cs xs k st fit = rw (append-nil (at_hand s), turned_end s (sits_fit st.sits)) (over_end (length (added s [])) s cs xs k st)
run_from (bytes ∷ reads) s cs xs k st fit =
    let few : s.have + length bytes ≤ 97 = few_bytes s bytes reads st.short fit in
    rw append_assoc at (next_read bytes s cs xs k st few reads (run_from reads) fit (becomes s bytes st.places few))

-- ---- from the start
start_sits : Sits starting.modulator [] []
unfolding starting run Each
start_sits = record { by = refl; given = tt; symbols = refl; padding = refl }

opens : Done opened [] [] preamble_symbols (Preamble Ordinary (record { 0 = 0 })) no_symbols
unfolding opened
opens = part_done starting [] [] start_sits (Preamble Ordinary (record { 0 = 0 })) no_symbols (preamble Ordinary) gives_preamble false false

-- Opening is never refused.
pub open_done : opened.answer ≡ done
open_done = opens.answer

pub opened_stands : Stands opened.sending (part_calls (Preamble Ordinary (record { 0 = 0 })) no_symbols) preamble_symbols 1
unfolding opened starting part_of has_feed_lem
opened_stands = record { sits = opens.sits; places = refl; short = omega arith; plain = refl; number = refl }

-- From every text, in whatever pieces it is read, send writes the bytes of the sender's samples from a fresh start, in order.
pub send_run : (reads : List (List ℕ)) → Fitting opened.sending reads → Sends reads
unfolding AllDone last_of flatten symbols_sent sender_calls opened starting part_of
send_run reads fit =
    let rest = run_from reads opened.sending (part_calls (Preamble Ordinary (record { 0 = 0 })) no_symbols) preamble_symbols 1 opened_stands fit in
    let more : List Float = line_symbols (good_lines (flatten reads)) ++ end_symbols in
    record {
      written =
          ap (λ (b : List ℕ). b ++ written_by (calls_from opened.sending reads)) opens.written
          ∙ ap (λ (b : List ℕ). sample_bytes (samples_behind [] preamble_symbols) ++ b) rest.written
          ∙ sym (bytes_two (samples_behind [] preamble_symbols) (samples_behind preamble_symbols more))
          ∙ ap sample_bytes (sym (samples_two [] preamble_symbols more))
          ∙ ap sample_bytes (samples_from_start (preamble_symbols ++ more));
      answers = (open_done, rest.answers);
      takes = all_taken reads opened.sending fit rest.answers;
      sender = rest.sender opened;
      ends = rest.ends opened;
      tells = λ h. rest.tells opened (omega arith);
      says = λ h. ap words (rest.tells opened (omega arith));
    }
