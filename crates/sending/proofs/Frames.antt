-- A part by the sender's rules: which frame each of the three kinds of part gives, and what is read of it. Assumes nothing.
use mathlib.Core.Path.{◌≡◌, refl, sym, ap, ◌∙◌}
use mathlib.Core.Bool.{true}
use mathlib.Core.List.{List, [], ◌++◌}
use Prim.Native.Nat.{ℕ, ◌+◌, ◌-◌, ◌*◌, ◌/◌, ◌≤◌, ◌<◌}
use native.Mathlib.Omega.{arith}
use borrow.Author.Tests.{ltb-true}
use lib.Dec.{T, lit≤}
use lib.IntN.{ℤ, pos}
use lib.ListN.{length, get_or, drop, length-replicate}
use lib.Seq.{ext_get_or}
use lib.Ieee.{Float, nan, le, of_bits}
use lib.Ieee.Bits.{is_true}
use Rattle.numbers.specs.Below.{all_below}
use Rattle.numbers.specs.Firsts.{firsts}
use Rattle.numbers.proofs.Tests.{holds}
use Rattle.numbers.proofs.Below.{all_below_lem}
use Rattle.numbers.proofs.Firsts.{length_firsts, firsts_at, firsts_same}
use Rattle.shaping.specs.Rate.{Rate, at48}
use Rattle.pulse.specs.Pulse.{listed}
use Rattle.given_symbols.specs.declared.Traffic.TheVariants.{Ordinary}
use Rattle.given_symbols.specs.Offender.{fine, symbol_fit, judged_below, headed, judged_as}
use Rattle.given_symbols.proofs.FirstOf.{fit_judged}
use Rattle.modulator.specs.declared.Pending.{Pending}
use Rattle.modulator.specs.declared.SoftModulator.{SoftModulator}
use Rattle.modulator.specs.declared.ModulatorFrame.{ModulatorFrame}
use Rattle.modulator.specs.declared.ModulatorFrame.TheVariants.{Preamble, Symbols as GivenSymbols, EndOfTransmission}
use Rattle.modulator.specs.Paper.{done, wrote}
use Rattle.modulator.specs.Frame.{Symbols, preamble, given, ending}
use Rattle.modulator.specs.Control.{samples_read, handed_out, ended}
use Rattle.modulator.specs.Record.{control_of}
use Rattle.modulator.specs.Outcome.{frame_outcome}
use Rattle.modulator.specs.Calls.{settled as settledRecord}
use Rattle.modulator_run.specs.Stream.{sent_at}
use Rattle.modulator_run.specs.Rules.{provide, Sent, after, framed, settled, frame_sample, drained, called}
use Rattle.modulator_run.specs.Run.{Delay}
use Rattle.house.specs.Digits.{value_of}
use Rattle.house.specs.Line.{symbol_of, good_line, bits_at, symbols_of_lem, no_symbols}
use Rattle.house.proofs.Lines.{good_digit, pair_below}
use Rattle.sending.specs.Calls.{empty_room}
use Rattle.sending.proofs.Stream.{samples_behind}

-- ---- the three kinds of part: while no padding is due, the frame is taken with none
pub record Gives (frame : ModulatorFrame) (symbols : List Float) (f : Symbols) : Type 0 where
  pub given : Delay frame
  pub few : f.count ≤ 272
  pub pending : Pending → Pending
  pub calls : (s : Sent) → s.progress.tx_delay_padding.0 ≡ 0 → called at48 s (provide frame symbols) ≡ after done [] (framed at48 f 0 (pending s.pending) s)

-- "preamble (TxDelay 0)"
pub gives_preamble : Gives (Preamble Ordinary (record { 0 = 0 })) no_symbols (preamble Ordinary)
unfolding Delay called settled frame_outcome
gives_preamble = record {
  given = lit≤ tt;
  few = lit≤ tt;
  pending = λ p. p;
  calls = λ s e.
      let none : 48 * 10 * 0 - s.buffer.output_latency.0 ≡ 0 = omega arith in
      ap (λ (n : ℕ). after done [] (framed at48 (preamble Ordinary) n s.pending s)) none;
}

pub gives_end : Gives EndOfTransmission no_symbols ending
unfolding Delay called settled frame_outcome
gives_end = record { given = tt; few = lit≤ tt; pending = ended; calls = λ s e. rw e }

-- a good line's symbols are all taken
fit_symbol : (bits : ℕ) → bits < 4 → T (symbol_fit (symbol_of bits))
fit_symbol bits l = all_below_lem 4 (λ i. symbol_fit (symbol_of i)) (unfold all_below symbol_fit symbol_of le of_bits in tt) bits l

module _ (line : List ℕ) (good : good_line line ≡ true) where
  symbols_number : length (symbols_of_lem line) ≡ 192
  unfolding symbols_of_lem
  symbols_number = length_firsts _ 192

  fit_at : (i : ℕ) → i < 192 → T (symbol_fit (get_or (symbols_of_lem line) i nan))
  unfolding symbols_of_lem
  fit_at i l =
      let digit : value_of (get_or line (i / 2) 0) < 16 = ltb-true _ 16 (is_true _ (good_digit line (holds good) (i / 2) (omega arith))) in
      rw (firsts_at (λ (j : ℕ). symbol_of (bits_at line j)) 192 i nan l) (fit_symbol (bits_at line i) (pair_below (value_of (get_or line (i / 2) 0)) i digit))

  all_fit : judged_below 192 (symbols_of_lem line) ≡ fine
  all_fit = fit_judged (symbols_of_lem line) 192 fit_at

  -- by every record that is fit
  pub line_accepted : (R : Rate) (m : SoftModulator) → (settledRecord R m (frame_outcome R.p (GivenSymbols Ordinary) (symbols_of_lem line) (control_of m))).answer ≡ done
  unfolding settledRecord frame_outcome judged_as headed
  line_accepted R m = rw (symbols_number, all_fit)

  pub gives_line : Gives (GivenSymbols Ordinary) (symbols_of_lem line) (given (symbols_of_lem line))
  unfolding Delay called settled frame_outcome judged_as headed
  gives_line = record {
    given = tt;
    few = lit≤ tt;
    pending = λ p. p;
    calls = λ s e. rw (symbols_number, all_fit, e);
  }

  pub line_frame : firsts (given (symbols_of_lem line)).symbol 192 ≡ symbols_of_lem line
  line_frame =
      ext_get_or nan (firsts (listed (symbols_of_lem line)) 192) (symbols_of_lem line) (length_firsts _ 192 ∙ sym symbols_number) λ i l.
      firsts_at (listed (symbols_of_lem line)) 192 i nan (omega (arith, length_firsts (listed (symbols_of_lem line)) 192))

-- ---- what is read of a frame that was given
module _ (s : Sent) (f : Symbols) (few : f.count ≤ 272) (pending : Pending) where
  abbrev next : Sent
  next = framed at48 f 0 pending s

  abbrev symbols : List Float
  symbols = firsts f.symbol f.count

  pub all_read : (drained at48 empty_room next).said.answer ≡ wrote (10 * f.count)
  unfolding drained framed
  all_read = ap wrote (omega (arith, length-replicate 2720 (pos 0)))

  pub room_read : (drained at48 empty_room next).said.room ≡ samples_behind s.symbols symbols ++ drop (10 * f.count) empty_room
  unfolding drained handed_out framed samples_behind
  room_read =
      let number : samples_read next.progress (length empty_room) ≡ 10 * f.count = omega (arith, length-replicate 2720 (pos 0)) in
      let size : 10 * f.count ≡ 10 * length symbols = omega (arith, length_firsts f.symbol f.count) in
      let place : (i : ℕ) → 10 * length s.symbols + (0 + i) + 1 ≡ 10 * length s.symbols + i + 1 = λ i. omega arith in
      let made : firsts (λ (i : ℕ). frame_sample at48 next (0 + i)) (10 * f.count) ≡ samples_behind s.symbols symbols =
      firsts_same _ _ (10 * f.count) (λ i l. ap (sent_at at48 (s.symbols ++ symbols)) (place i)) ∙ ap (firsts (λ (i : ℕ). frame_sample at48 next i)) size in
      let behind : 0 + 10 * f.count ≡ 10 * f.count = omega arith in
      rw number (ap (λ (l : List ℤ). l ++ drop (0 + 10 * f.count) empty_room) made ∙ ap (λ (n : ℕ). samples_behind s.symbols symbols ++ drop n empty_room) behind)

  pub then_symbols : (drained at48 empty_room next).sent.symbols ≡ s.symbols ++ symbols
  unfolding drained framed
  then_symbols = refl

  pub then_padding : (drained at48 empty_room next).sent.progress.tx_delay_padding.0 ≡ 0
  unfolding drained framed
  then_padding = omega arith
