-- Worked examples, computed: P2 and P12 of the rules and of the record's runs, an end that is told once, idle and the wish, and each refusal. Assumes nothing.
use mathlib.Core.Path.{◌≡◌, refl, ap, ◌∙◌}
use mathlib.Core.Bool.{true}
use mathlib.Core.List.{List, [], ◌∷◌}
use Prim.Native.Nat.{ℕ, ◌+◌}
use lib.Dec.{lit<}
use lib.IntN.{ℤ, pos, negsuc}
use lib.ListN.{replicate}
use lib.Ieee.{Float, binary32, of_bits, of_int, neg, add, mul, lt, eq, to_signed}
use Rattle.numbers.specs.Below.{all_below}
use Rattle.numbers.specs.Sum.{sum_to}
use Rattle.numbers.specs.Firsts.{firsts}
use Rattle.machine.specs.Runs.{run, answers, Each}
use Rattle.shaping.specs.Taps.{taps}
use Rattle.shaping.specs.Rate.{at48}
use Rattle.shaping.specs.Sum.{dot}
use Rattle.shaping.proofs.RateFacts.{facts48}
use Rattle.protocol.specs.Bursts.{signs_of}
use Rattle.protocol.specs.Refusals.{bare as alone, placed}
use Rattle.encode.specs.Frames.{preamble_sign, bert_preamble_symbol}
use Rattle.given_symbols.specs.declared.Traffic.TheVariants.{Ordinary, Bert}
use Rattle.given_symbols.specs.Offender.{judged, judged_below, bert_headed, headed, judged_as}
use Rattle.modulator.specs.declared.Progress.{Progress}
use Rattle.modulator.specs.declared.ModulatorFrame.TheVariants.{Nothing as NoFrame, Preamble, Symbols as GivenSymbols, EndOfTransmission}
use Rattle.modulator.specs.Paper.{Paper, refusal, done, wrote, transmit_end, read_output, idle, get_frame, nothing}
use Rattle.modulator.specs.Frame.{preamble_symbol, preamble, padding_of}
use Rattle.modulator.specs.Control.{handed_out}
use Rattle.modulator.specs.Outcome.{frame_outcome, update_outcome, action_by}
use Rattle.modulator_run.specs.Stream.{entered, entering_at, sent_at}
use Rattle.modulator_run.specs.Rules.{Call, provide, read, update, ask, Said, framed, settled, drained, called, sent_all, said_all}
use Rattle.modulator_run.specs.Run.{record_after, answers_to, Delay, Given}
use Rattle.modulator_run.proofs.SenderRun.{sender_run}

-- ---- P2: "first five preamble samples: -113, -103, -68, -12, 54"
abbrev first_symbols : List Float
first_symbols = firsts (preamble Ordinary).symbol 192

abbrev p2_samples : List ℤ
p2_samples = negsuc 112 ∷ negsuc 102 ∷ negsuc 67 ∷ negsuc 11 ∷ pos 54 ∷ []

pub p2 : firsts (λ (i : ℕ). sent_at at48 first_symbols (i + 1)) 5 ≡ p2_samples
unfolding sent_at entering_at entered firsts dot sum_to taps of_bits of_int add mul to_signed preamble_symbol preamble_sign
p2 = refl

-- "every sign turned": the BERT preamble's first five
pub bert_first_samples : firsts (λ (i : ℕ). sent_at at48 (firsts (preamble Bert).symbol 192) (i + 1)) 5 ≡ pos 113 ∷ pos 103 ∷ pos 68 ∷ pos 12 ∷ negsuc 53 ∷ []
unfolding sent_at entering_at entered firsts dot sum_to taps of_bits of_int neg add mul to_signed preamble_symbol bert_preamble_symbol preamble_sign
bert_first_samples = refl

-- the same of a run: a preamble, and a read into five places
abbrev pub opening : List Call
opening = provide (Preamble Ordinary (record { 0 = 0 })) [] ∷ read (replicate 5 (pos 7)) ∷ []

opening_said : said_all at48 opening ≡ record { answer = done; room = [] } ∷ record { answer = wrote 5; room = p2_samples } ∷ []
unfolding answers called frame_outcome settled framed drained handed_out sent_at entering_at entered firsts dot sum_to taps of_bits of_int add mul to_signed preamble_symbol preamble_sign
opening_said = refl

pub opening_given : Each Given opening
unfolding Each Given Delay
opening_given = (lit< tt, (tt, tt))

pub p2_run : answers_to at48 opening ≡ record { answer = done; room = [] } ∷ record { answer = wrote 5; room = p2_samples } ∷ []
p2_run = (sender_run at48 facts48 opening opening_given).1 ∙ opening_said

-- ---- P12: "latency 500, TxDelay 1: padding 0; latency 400: 80"
pub p12_500 : padding_of 10 1 500 ≡ 0
p12_500 = refl

pub p12_400 : padding_of 10 1 400 ≡ 80
p12_400 = refl

abbrev delayed : ℕ → List Call
delayed latency = update 0 2000 latency ∷ provide (Preamble Ordinary (record { 0 = 1 })) [] ∷ []

delayed_given : (latency : ℕ) → Each Given (delayed latency)
unfolding Each Given Delay
delayed_given latency = (tt, (lit< tt, tt))

delayed_500 : (sent_all at48 (delayed 500)).progress.tx_delay_padding.0 ≡ 0
unfolding run called update_outcome settled frame_outcome framed
delayed_500 = refl

delayed_400 : (sent_all at48 (delayed 400)).progress.tx_delay_padding.0 ≡ 80
unfolding run called update_outcome settled frame_outcome framed
delayed_400 = refl

abbrev padding_in : Progress → ℕ
padding_in s = s.tx_delay_padding.0

pub p12_run : ((record_after at48 (delayed 500)).progress.tx_delay_padding.0 ≡ 0) × ((record_after at48 (delayed 400)).progress.tx_delay_padding.0 ≡ 80)
p12_run = (
  ap padding_in (sender_run at48 facts48 (delayed 500) (delayed_given 500)).0.progress ∙ delayed_500,
  ap padding_in (sender_run at48 facts48 (delayed 400) (delayed_given 400)).0.progress ∙ delayed_400,
)

-- ---- two ends before one update make one report, told once, with the 2,720 samples that are unread; then these are asked for
abbrev pub ended_twice : List Call
ended_twice = provide EndOfTransmission [] ∷ provide EndOfTransmission [] ∷ update 100 3000 50 ∷ ask ∷ ask ∷ []

abbrev bare : Paper → Said
bare answer = record { answer = answer; room = [] }

pub one_report_said : said_all at48 ended_twice ≡ bare done ∷ bare done ∷ bare done ∷ bare (transmit_end 2870) ∷ bare read_output ∷ []
unfolding answers called update_outcome settled frame_outcome framed action_by
one_report_said = refl

-- ---- "idle yes (once from a fresh start)"; then the wish that an update raises, until none drops it
abbrev idling : List Call
idling = ask ∷ ask ∷ update 0 2000 0 ∷ ask ∷ update 0 1999 0 ∷ ask ∷ provide NoFrame [] ∷ ask ∷ []

pub idle_said : said_all at48 idling ≡ bare (idle true) ∷ bare nothing ∷ bare done ∷ bare get_frame ∷ bare done ∷ bare get_frame ∷ bare done ∷ bare nothing ∷ []
unfolding answers called update_outcome settled frame_outcome framed action_by
idle_said = refl

-- ---- each refusal
abbrev refusing : List Call
refusing = provide (GivenSymbols Ordinary) [] ∷ provide (GivenSymbols Ordinary) (replicate 192 (of_bits binary32 0x4000_0000)) ∷ provide (GivenSymbols Bert) (replicate 192 (of_bits binary32 0)) ∷ update 16777217 0 0 ∷ update 1 0 0 ∷ []

pub refused_said : said_all at48 refusing ≡ bare (refusal (alone 6)) ∷ bare (refusal (placed 73 0)) ∷ bare (refusal (alone 11)) ∷ bare (refusal (alone 8)) ∷ bare (refusal (alone 9)) ∷ []
unfolding answers called update_outcome settled frame_outcome judged_as headed bert_headed all_below judged_below judged signs_of of_bits of_int lt eq
refused_said = refl
