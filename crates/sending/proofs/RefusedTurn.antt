-- Which turns are refused, and that a refused one leaves what it was given. Assumes nothing.
use mathlib.Core.Path.{◌≡◌, refl, sym, subst, ap, ◌∙◌}
use mathlib.Core.Bool.{Bool, true, false, not, cond}
use mathlib.Core.List.{List, [], ◌∷◌}
use Prim.Native.Nat.{ℕ}
use lib.Dec.{ltb}
use lib.IntN.{ℤ}
use lib.Ieee.{Float}
use Rattle.shaping.specs.Rate.{Rate, rate_of}
use Rattle.protocol.specs.Refusals.{PaperRefusal, bare}
use Rattle.given_symbols.specs.declared.Traffic.TheVariants.{Ordinary}
use Rattle.modulator.specs.declared.SoftModulator.{SoftModulator}
use Rattle.modulator.specs.declared.ModulatorFrame.{ModulatorFrame}
use Rattle.modulator.specs.declared.ModulatorFrame.TheVariants.{Symbols as GivenSymbols, EndOfTransmission}
use Rattle.modulator.specs.Paper.{Paper, refusal, done}
use Rattle.modulator.specs.Record.{control_of}
use Rattle.modulator.specs.Fit.{record_fit_lem, unfit_number}
use Rattle.modulator.specs.Outcome.{frame_outcome}
use Rattle.modulator.specs.Calls.{left, settled, drained, provided}
use Rattle.modulator.specs.Calls.{Left as SenderLeft}
use Rattle.modulator.specs.Calls.{read as readInto}
use Rattle.modulator.proofs.Cases.{read_fit}
use Rattle.modulator.proofs.FrameCases.{frame_ending}
use Rattle.modulator_run.specs.Rules.{provide}
use Rattle.modulator_laws.proofs.RateKept.{provided_rate}
use Rattle.modulator_run.specs.Run.{left_at, Delay, Given}
use Rattle.modulator_run.proofs.SenderRun.{stays_fit}
use Rattle.house.specs.Line.{good_line, symbols_of_lem, no_symbols}
use Rattle.sending.specs.declared.Sending.{Sending}
use Rattle.sending.specs.Text.{has_feed_lem}
use Rattle.sending.specs.Calls.{is_refusal, part_of, quiet, at_hand, held, next_line, judged, closed, or_closed, moved, is_fit, record_told, turned}
use Rattle.sending.proofs.Frames.{line_accepted}
use Rattle.sending.proofs.Turns.{turned_fit, turned_unfit, told_unfit}

-- ---- a fit sender takes every frame that a turn gives it
module _ (s : Sending) (fit : is_fit s.modulator ≡ true) where
  closed_done : (closed s).answer ≡ done
  unfolding closed part_of
  closed_done = ap (λ (l : SenderLeft). l.answer) (frame_ending (rate_of s.modulator.rate) s.modulator EndOfTransmission no_symbols fit refl)

  line_done : good_line s.line ≡ true → (part_of (next_line s) (GivenSymbols Ordinary) (symbols_of_lem s.line) false false).answer ≡ done
  unfolding part_of provided
  line_done good = rw (fit, line_accepted s.line good (rate_of s.modulator.rate) s.modulator)

  judged_done : (or_closed (judged s)).answer ≡ done
  unfolding judged part_of
  judged_done = by_test (ltb s.have 97) (has_feed_lem (at_hand s)) (good_line s.line) refl
    where
      -- the line at hand by its three tests
      by_test : (short feed good : Bool) → good_line s.line ≡ good
          → (or_closed (cond short (quiet done s feed) (cond good (part_of (next_line s) (GivenSymbols Ordinary) (symbols_of_lem s.line) false false) (quiet done s true)))).answer ≡ done
      by_test true true good e = closed_done
      by_test true false good e = refl
      by_test false feed true e = line_done e
      by_test false feed false e = closed_done

moved_done : (s : Sending) (bytes : List ℕ) → is_fit s.modulator ≡ true → (moved s bytes).answer ≡ done
unfolding moved held
moved_done s [] fit = closed_done s fit
moved_done s (b ∷ bytes) fit = judged_done (held s (b ∷ bytes)) fit

-- A turn is refused exactly if the sender's record is unfit, whatever the bytes, and then with 1, or with 15 for its rate.
pub refused_exactly : (s : Sending) (bytes : List ℕ) → (turned s bytes).answer ≡ record_told s.modulator
refused_exactly s bytes = by_test (is_fit s.modulator) refl
  where
    by_test : (fit : Bool) → is_fit s.modulator ≡ fit → (turned s bytes).answer ≡ record_told s.modulator
    by_test true e = rw (turned_fit s bytes e, e) (moved_done s bytes e)
    by_test false e = rw (turned_unfit s bytes e, e)

-- Whenever a turn is refused, it leaves the sending that it was given, takes no byte, and nothing is to be written.
pub refused_turn : (s : Sending) (bytes : List ℕ) (number : PaperRefusal) → (turned s bytes).answer ≡ refusal number → turned s bytes ≡ quiet (refusal number) s false
refused_turn s bytes number because =
    let told : record_told s.modulator ≡ refusal number = sym (refused_exactly s bytes) ∙ because in
    let unfit = told_unfit s.modulator number told in
    turned_unfit s bytes unfit ∙ ap (λ (p : Paper). quiet p s false) (rw unfit at told)

-- ---- the second call of a part
admitted_fit : (R : Rate) (m : SoftModulator) (frame : ModulatorFrame) (symbols : List Float) → (provided R m frame symbols).answer ≡ done → record_fit_lem R.p m ≡ true
unfolding provided
admitted_fit R m frame symbols fine = by_test (record_fit_lem R.p m) fine
  where
    by_test : (fit : Bool) → (cond (not fit) (left (refusal (bare (unfit_number m))) m []) (settled R m (frame_outcome R.p frame symbols (control_of m)))).answer ≡ done → fit ≡ true
    by_test true e = refl
    by_test false e = cc

-- Where the sender takes a frame, the read that follows is not refused: no refusal is hidden in what a part writes.
pub read_follows : (m : SoftModulator) (frame : ModulatorFrame) (symbols : List Float) → Delay frame → (provided (rate_of m.rate) m frame symbols).answer ≡ done → (room : List ℤ)
    → let taken = (provided (rate_of m.rate) m frame symbols).modulator in is_refusal (readInto (rate_of taken.rate) taken room).answer ≡ false
unfolding drained Given left_at
read_follows m frame symbols byte fine room =
    let R = rate_of m.rate in
    let taken = (provided R m frame symbols).modulator in
    let fit : record_fit_lem R.p taken ≡ true = stays_fit R m (admitted_fit R m frame symbols fine) (provide frame symbols) byte in
    let there : is_refusal (readInto R taken room).answer ≡ false = rw (read_fit R taken room fit) in
    subst (λ (rate : ℕ). is_refusal (readInto (rate_of rate) taken room).answer ≡ false) (sym (provided_rate R m frame symbols)) there
