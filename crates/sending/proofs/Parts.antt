-- What the functions' definitions come to, in the shapes that the code has. Assumes nothing.
use Rattle.modulator.specs.declared.After.{After}
use Rattle.modulator.specs.declared.SampleCount.{SampleCount}
use mathlib.Core.Path.{◌≡◌, refl, sym, ap, ◌∙◌}
use mathlib.Core.Bool.{Bool, true, false}
use mathlib.Core.List.{List}
use Prim.Native.Nat.{ℕ, ◌+◌, ◌*◌, ◌≤◌, ◌<◌, min}
use native.Mathlib.Omega.{arith}
use borrow.Author.Tests.{lt-ltb, le-ltb, ltb-true, ltb-false}
use lib.Dec.{ltb}
use lib.IntN.{ℤ}
use lib.ListN.{length, take, replicate, length-take}
use lib.Ieee.{Float}
use lib.Seq.{paste, take_all, take-take, length-take-le}
use Rattle.shaping.specs.Rate.{samples_in_lem, rate_of}
use Rattle.given_symbols.specs.declared.Traffic.TheVariants.{Ordinary}
use Rattle.modulator.specs.declared.SoftModulator.{SoftModulator}
use Rattle.modulator.specs.declared.ModulatorFrame.{ModulatorFrame}
use Rattle.modulator.specs.declared.ModulatorFrame.TheVariants.{Preamble, Symbols as GivenSymbols}
use Rattle.modulator.specs.Paper.{done, read_paper}
use Rattle.modulator.specs.Record.{fresh}
use Rattle.modulator.specs.Fit.{record_fit_lem}
use Rattle.modulator.specs.Calls.{drained, ProvideNextFrameSays, ReadOutputSamplesSays}
use Rattle.modulator.specs.Calls.{read as readInto}
use Rattle.modulator.proofs.Cases.{read_unfit, read_fit}
use Rattle.modulator_run.specs.Pieces.{counted}
use Rattle.house.specs.Line.{good_line, symbols_of_lem, no_symbols}
use Rattle.sending.specs.declared.Sending.{Sending}
use Rattle.sending.specs.declared.AfterPart.{AfterPart}
use Rattle.sending.specs.Text.{has_feed_lem, sample_bytes}
use Rattle.sending.specs.Calls.{with_modulator, empty_room, part_of, quiet, starting, opened, lacking, at_hand, added, held, next_line, judged, Says}

-- a read writes no more than the room holds
pub read_within : (m : SoftModulator) (room : List ℤ) → counted (readInto (rate_of m.rate) m room).answer ≤ length room
unfolding counted drained
read_within m room = by_test (record_fit_lem (samples_in_lem m.rate) m) refl
  where
    by_test : (t : Bool) → record_fit_lem (samples_in_lem m.rate) m ≡ t → counted (readInto (rate_of m.rate) m room).answer ≤ length room
    by_test true e = rw (read_fit (rate_of m.rate) m room e) (omega arith)
    by_test false e = rw (read_unfit (rate_of m.rate) m room e) (omega arith)

pub counted_within : {m : SoftModulator} {room : List ℤ} {r : After SampleCount} {after : List ℤ} → ReadOutputSamplesSays m room r after → counted (read_paper r.answer) ≤ length room
counted_within {m} {room} said = rw said.answers (read_within m room)

-- a part, from what its two calls promise
pub part_said : (s : Sending) (frame : ModulatorFrame) (symbols : List Float) (bad last : Bool) (given : After Unit) (out : After SampleCount) (after : List ℤ) (bytes : List ℕ) (n : ℕ)
    → ProvideNextFrameSays s.modulator frame symbols given → ReadOutputSamplesSays given.modulator empty_room out after → bytes ≡ sample_bytes after → n ≡ counted (read_paper out.answer)
    → Says (part_of s frame symbols bad last) (record { answer = given.answer; sending = with_modulator out.modulator s; bytes = bytes; length = 2 * n; taken = 0; bad = bad; last = last })
unfolding part_of
part_said s frame symbols bad last given out after bytes n first second b k = record {
  answers = first.answers;
  leaves = rw (second.leaves, first.leaves);
  writes = rw (b, second.writes, first.leaves);
  counts = rw (k, second.answers, first.leaves);
  takes = refl;
  tells = refl;
  ends = refl;
}

pub open_said : (m : SoftModulator) → m ≡ fresh 48000 → (r : AfterPart)
    → Says (part_of (record { modulator = m; line = replicate 97 0; have = 0; number = 1 }) (Preamble Ordinary (record { 0 = 0 })) no_symbols false false) r → Says opened r
unfolding opened starting
open_said m e r said = rw e at said

-- ---- the line at hand, judged
module _ (s : Sending) where
  pub judged_short : s.have < 97 → judged s ≡ quiet done s (has_feed_lem (at_hand s))
  unfolding judged
  judged_short h = rw (lt-ltb s.have 97 h)

  pub judged_good : 97 ≤ s.have → good_line s.line ≡ true → judged s ≡ part_of (next_line s) (GivenSymbols Ordinary) (symbols_of_lem s.line) false false
  unfolding judged
  judged_good h good = rw (le-ltb s.have 97 h, good)

  pub judged_bad : 97 ≤ s.have → good_line s.line ≡ false → judged s ≡ quiet done s true
  unfolding judged
  judged_bad h bad = rw (le-ltb s.have 97 h, bad)

-- ---- the line at hand with more bytes
both_taken : (a n : ℕ) (l : List ℕ) → take a (take n l) ≡ take (min n a) l
both_taken a n l = by_test (ltb a n) refl
  where
    by_test : (t : Bool) → ltb a n ≡ t → take a (take n l) ≡ take (min n a) l
    by_test true e =
        let less = ltb-true a n e in
        let same : a ≡ min n a = omega arith in
        take-take a n l (omega arith) ∙ ap (λ (k : ℕ). take k l) same
    by_test false e =
        let less = ltb-false a n e in
        let same : n ≡ min n a = omega arith in
        take_all a (take n l) (omega (arith, length-take n l)) ∙ ap (λ (k : ℕ). take k l) same

-- how many of the first n bytes go into the line
pub added_number : (s : Sending) (bytes : List ℕ) (n : ℕ) → length bytes ≡ 97 → length (added s (take n bytes)) ≡ min n (lacking s)
added_number s bytes n size = rw (both_taken (lacking s) n bytes) (length-take-le (min n (lacking s)) bytes (omega arith))

-- of 97 bytes the first n are the first n or 97
pub cut : (bytes : List ℕ) (n k : ℕ) → length bytes ≡ 97 → k ≡ min n 97 → take k bytes ≡ take n bytes
cut bytes n k places e = ap (λ (m : ℕ). take m bytes) e ∙ sym (both_taken 97 n bytes) ∙ take_all 97 (take n bytes) (omega (arith, length-take n bytes, places))

pub held_is : (s : Sending) (bytes : List ℕ)
    → let some : List ℕ = take (min (length bytes) (lacking s)) bytes in
    held s bytes ≡ record { modulator = s.modulator; line = paste s.line s.have some (length some); have = s.have + min (length bytes) (lacking s); number = s.number }
unfolding held
held_is s bytes =
    let k : ℕ = min (length bytes) (lacking s) in
    let some : List ℕ = take k bytes in
    let size : length some ≡ k = length-take-le k bytes (omega arith) in
    let enough : take (lacking s) bytes ≡ some = ap (take (lacking s)) (sym (take_all (length bytes) bytes (omega arith))) ∙ both_taken (lacking s) (length bytes) bytes in
    rw (enough, take_all (length some) some (omega arith), size) refl
