-- Small instances of the laws of frames and of the values that enter, at 48 kHz: what the laws ask can be met. Assumes nothing.
use mathlib.Core.Path.{◌≡◌, refl, ap}
use mathlib.Core.Bool.{true}
use mathlib.Core.List.{List, [], ◌∷◌}
use Prim.Native.Nat.{ℕ}
use native.Mathlib.Omega.{arith}
use lib.ListN.{replicate}
use lib.Ieee.{Float, nan, binary32, of_bits, of_int, lt, eq, le}
use Rattle.numbers.specs.Below.{all_below}
use Rattle.numbers.specs.Firsts.{firsts}
use Rattle.shaping.specs.Rate.{at48}
use Rattle.protocol.specs.Bursts.{signs_of}
use Rattle.protocol.specs.Refusals.{bare, placed}
use Rattle.given_symbols.specs.declared.Traffic.TheVariants.{Ordinary, Bert}
use Rattle.given_symbols.specs.Offender.{symbol_fit, judged, judged_below, bert_headed, headed, judged_as}
use Rattle.given_symbols.proofs.Judged.{one, minus_one}
use Rattle.modulator.specs.declared.ModulatorFrame.{ModulatorFrame}
use Rattle.modulator.specs.declared.ModulatorFrame.TheVariants.{Nothing as NoFrame, Preamble, Symbols as GivenSymbols, EndOfTransmission}
use Rattle.modulator.specs.Paper.{refusal, done}
use Rattle.modulator.specs.Frame.{preamble, listing, given, ending, padding_of}
use Rattle.modulator.specs.Control.{dropped, ended}
use Rattle.modulator.specs.Record.{fresh, with_pending, framed}
use Rattle.modulator.specs.Fit.{record_fit_lem}
use Rattle.modulator.specs.Calls.{Left, left, settled, provided}
use Rattle.modulator.proofs.Frames.{framed_listed}
use Rattle.modulator.proofs.FrameCases.{frame_unfit, frame_none, frame_preamble, frame_ending, frame_refused, frame_given}
use Rattle.modulator_laws.proofs.FirstOffender.{FirstOffender, first_offender}
use Rattle.modulator_laws.proofs.SymbolsAsBefore.{provided_before, symbols_as_before}
use Rattle.modulator_laws.proofs.WrongBurst.{WrongBurst, wrong_burst}
use Rattle.modulator_laws.proofs.OutcomeLimits.{Byte}
use Rattle.modulator_laws.proofs.Kept.{frame_keeps}
use Rattle.modulator_laws.proofs.Instances.{astray, fresh_fit, astray_unfit}

-- ---- the cases of a frame: a fresh record, and one whose cursor is out of the window
frame_unfit_meets : provided at48 astray NoFrame [] ≡ left (refusal (bare 1)) astray []
frame_unfit_meets = frame_unfit at48 astray NoFrame [] astray_unfit

frame_none_meets : provided at48 (fresh 48000) NoFrame [] ≡ left done (with_pending (dropped (fresh 48000).pending) (fresh 48000).buffer (fresh 48000)) []
frame_none_meets = frame_none at48 (fresh 48000) NoFrame [] fresh_fit refl

frame_preamble_meets : provided at48 (fresh 48000) (Preamble Ordinary (record { 0 = 1 })) [] ≡ left done (framed at48 (preamble Ordinary) (padding_of 10 1 (fresh 48000).buffer.output_latency.0) (fresh 48000).pending (fresh 48000)) []
frame_preamble_meets = frame_preamble at48 (fresh 48000) (Preamble Ordinary (record { 0 = 1 })) [] fresh_fit Ordinary (record { 0 = 1 }) refl

frame_count_meets : provided at48 (fresh 48000) (GivenSymbols Ordinary) [] ≡ left (refusal (bare 6)) (fresh 48000) []
unfolding judged_as
frame_count_meets = frame_refused at48 (fresh 48000) (GivenSymbols Ordinary) [] fresh_fit Ordinary refl (bare 6) refl

-- 192 symbols, all the same
even : Float → List Float
even x = replicate 192 x

-- 2 in place 1, a not-a-number in place 2, and zeros
louder : List Float
louder = of_bits binary32 0 ∷ of_bits binary32 0x4000_0000 ∷ nan ∷ replicate 189 (of_bits binary32 0)

frame_outside_meets : provided at48 (fresh 48000) (GivenSymbols Ordinary) louder ≡ left (refusal (placed 73 1)) (fresh 48000) []
unfolding louder judged_as headed judged_below judged of_bits lt
frame_outside_meets = frame_refused at48 (fresh 48000) (GivenSymbols Ordinary) louder fresh_fit Ordinary refl (placed 73 1) refl

frame_given_meets : provided at48 (fresh 48000) (GivenSymbols Ordinary) (even one) ≡ left done (framed at48 (given (even one)) (fresh 48000).progress.tx_delay_padding.0 (fresh 48000).pending (fresh 48000)) []
unfolding even judged_as headed judged_below judged of_bits lt
frame_given_meets = frame_given at48 (fresh 48000) (GivenSymbols Ordinary) (even one) fresh_fit Ordinary refl refl

-- ---- a BERT frame: its burst and zeros; and the same with its first sign turned
headed_by : Float → List Float
headed_by first = first ∷ one ∷ minus_one ∷ minus_one ∷ one ∷ one ∷ one ∷ one ∷ replicate 184 (of_bits binary32 0)

bert_given_meets : provided at48 (fresh 48000) (GivenSymbols Bert) (headed_by minus_one) ≡ left done (framed at48 (given (headed_by minus_one)) (fresh 48000).progress.tx_delay_padding.0 (fresh 48000).pending (fresh 48000)) []
unfolding headed_by judged_as headed bert_headed all_below judged_below judged signs_of of_bits of_int lt eq
bert_given_meets = frame_given at48 (fresh 48000) (GivenSymbols Bert) (headed_by minus_one) fresh_fit Bert refl refl

bert_unheaded_meets : provided at48 (fresh 48000) (GivenSymbols Bert) (headed_by one) ≡ left (refusal (bare 11)) (fresh 48000) []
unfolding headed_by judged_as headed bert_headed all_below judged_below judged signs_of of_bits of_int lt eq
bert_unheaded_meets = frame_refused at48 (fresh 48000) (GivenSymbols Bert) (headed_by one) fresh_fit Bert refl (bare 11) refl

bert_unheaded : WrongBurst at48 (fresh 48000) (GivenSymbols Bert) (headed_by one)
bert_unheaded = (wrong_burst at48 (fresh 48000) (GivenSymbols Bert) (headed_by one)).0 (ap (λ (l : Left). l.answer) bert_unheaded_meets)

bert_unheaded_told : (provided at48 (fresh 48000) (GivenSymbols Bert) (headed_by one)).answer ≡ refusal (bare 11)
bert_unheaded_told = (wrong_burst at48 (fresh 48000) (GivenSymbols Bert) (headed_by one)).1 bert_unheaded

-- ---- the first symbol that is wrong, and what was said of it before
louder_first : FirstOffender at48 (fresh 48000) Ordinary louder 73 1
louder_first = (first_offender at48 (fresh 48000) Ordinary louder 73 1).0 (ap (λ (l : Left). l.answer) frame_outside_meets)

louder_told : (provided at48 (fresh 48000) (GivenSymbols Ordinary) louder).answer ≡ refusal (placed 73 1)
louder_told = (first_offender at48 (fresh 48000) Ordinary louder 73 1).1 louder_first

louder_before : (provided_before at48 (fresh 48000) louder).answer ≡ refusal (bare 7)
louder_before = (symbols_as_before at48 (fresh 48000) louder).refused.0 (73, 1, louder_told)

-- an accepted frame is what it was
even_before : provided at48 (fresh 48000) (GivenSymbols Ordinary) (even one) ≡ provided_before at48 (fresh 48000) (even one)
unfolding settled even all_below symbol_fit of_bits le
even_before = (symbols_as_before at48 (fresh 48000) (even one)).otherwise (rw fresh_fit (λ e. let z : ◌≡◌ {A = ℕ} 0 1 = cc in omega arith))

frame_ending_meets : provided at48 (fresh 48000) EndOfTransmission [] ≡ left done (framed at48 ending (fresh 48000).progress.tx_delay_padding.0 (ended (fresh 48000).pending) (fresh 48000)) []
frame_ending_meets = frame_ending at48 (fresh 48000) EndOfTransmission [] fresh_fit refl

framed_listed_meets : (x : Float) (padding : ℕ)
    → framed at48 (listing (firsts (λ (_ : ℕ). x) 5)) padding (fresh 48000).pending (fresh 48000) ≡ framed at48 (record { symbol = λ (_ : ℕ). x; count = 5 }) padding (fresh 48000).pending (fresh 48000)
framed_listed_meets x padding = framed_listed at48 padding (fresh 48000).pending (fresh 48000) (λ (_ : ℕ). x) 5 _ refl

delay : ModulatorFrame
delay = Preamble Bert (record { 0 = 25 })

delay_byte : Byte delay
unfolding delay
delay_byte traffic steps e = let same : 25 ≡ steps.0 = cc in omega arith

frame_keeps_meets : record_fit_lem 10 (provided at48 (fresh 48000) delay []).modulator ≡ true
frame_keeps_meets = frame_keeps at48 (fresh 48000) fresh_fit delay [] delay_byte
