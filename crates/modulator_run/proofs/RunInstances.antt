-- Small instances: what the laws of a run ask can be met, and what they then say. Assumes nothing.
use mathlib.Core.Path.{◌≡◌, refl, ap}
use mathlib.Core.Bool.{true}
use mathlib.Core.List.Memᴰ
use mathlib.Core.List.{List, [], ◌∷◌, ◌++◌}
use Prim.Native.Nat.{ℕ, zero, suc, ◌+◌, ◌≤◌}
use native.Mathlib.Omega.{arith}
use lib.Dec.{T, lit≤, lit<}
use lib.IntN.{pos, negsuc, nat_abs}
use lib.ListN.{length, get_or, replicate}
use lib.Ieee.{Float, binary32, of_bits, le}
use lib.Ieee.Scale.{finite}
use Rattle.numbers.specs.Below.{all_below}
use Rattle.numbers.specs.Firsts.{firsts}
use Rattle.numbers.specs.Sum.{nought, total_to}
use Rattle.numbers.specs.Within.{reach}
use Rattle.numbers.proofs.Below.{all_below_lem}
use Rattle.machine.specs.Runs.{run, Each}
use Rattle.shaping.specs.Rate.{Rate, at48}
use Rattle.shaping.specs.Reach.{Finite, sum_reach}
use Rattle.shaping.specs.Phase.{full_symbol, phases_fit}
use Rattle.shaping.proofs.RateFacts.{facts48}
use Rattle.pulse.specs.Pulse.{pulses}
use Rattle.protocol.specs.Refusals.{bare}
use Rattle.given_symbols.specs.declared.Traffic.TheVariants.{Ordinary}
use Rattle.given_symbols.specs.Offender.{symbol_fit}
use Rattle.modulator.specs.declared.Progress.{Progress}
use Rattle.modulator.specs.declared.ModulatorFrame.TheVariants.{Nothing as NoFrame, Preamble, Symbols as GivenSymbols, EndOfTransmission}
use Rattle.modulator.specs.Paper.{refusal, done, wrote}
use Rattle.modulator.specs.Frame.{preamble}
use Rattle.modulator.specs.Record.{fresh, framed}
use Rattle.modulator.specs.Fit.{record_fit_lem}
use Rattle.modulator.specs.Outcome.{frame_outcome}
use Rattle.modulator_laws.proofs.Instances.{fresh_fit}
use Rattle.modulator_run.specs.Stream.{entering_at, sent_at}
use Rattle.modulator_run.specs.Rules.{Call, provide, read, update, ask, start, settled, drained, called, sent_all, said_all}
use Rattle.modulator_run.specs.Rules.{framed as framedBy}
use Rattle.modulator_run.specs.Run.{left_at, left, said_by, record_after, answers_to, Delay, Given}
use Rattle.modulator_run.specs.Represents.{Remembers, Represents}
use Rattle.modulator_run.specs.Loudness.{SymbolsFit, Quiet}
use Rattle.modulator_run.proofs.Entered.{symbol_no, entering_pulse}
use Rattle.modulator_run.proofs.Longer.{entering_old, entering_new, sent_old}
use Rattle.modulator_run.proofs.NextFrame.{next_frame, fresh_remembers}
use Rattle.modulator_run.proofs.Step.{Agrees, call_agrees}
use Rattle.modulator_run.proofs.SenderRun.{stays_fit, sender_run, after_each, fit_throughout, next_call}
use Rattle.modulator_run.proofs.NeverUnfit.{never_unfit}
use Rattle.modulator_run.proofs.Phases.{stream_within}
use Rattle.modulator_run.proofs.Within.{within, within_read, within_made}
use Rattle.modulator_run.proofs.Worked.{opening, opening_given, p2_run}

-- ---- a stream of three symbols, one of them a zero of the flush
abbrev one : Float
one = of_bits binary32 0x3f80_0000

abbrev three : List Float
three = one ∷ of_bits binary32 0 ∷ of_bits binary32 0xbeaa_aaab ∷ []

three_fit : SymbolsFit three
unfolding symbol_fit of_bits le
three_fit zero l = tt
three_fit (suc zero) l = tt
three_fit (suc (suc zero)) l = tt
three_fit (suc (suc (suc i))) l = let never : ⊥ = omega arith in absurd never

three_within : Quiet (sent_at at48 three 41)
three_within = within at48 facts48 three three_fit 41

pulse_entered : entering_at 10 three 31 ≡ pulses 10 (symbol_no three) 30
pulse_entered = entering_pulse 10 (lit< tt) three 30

old_entered : entering_at 10 (three ++ one ∷ []) 30 ≡ entering_at 10 three 30
old_entered = entering_old 10 three (one ∷ []) 30 (lit≤ tt)

new_entered : entering_at 10 (three ++ firsts (λ (_ : ℕ). one) 2) (suc (30 + 19)) ≡ pulses 10 (λ (_ : ℕ). one) 19
new_entered = entering_new 10 three (λ (_ : ℕ). one) 2 19 (lit< tt)

old_sent : sent_at at48 (three ++ one ∷ []) 30 ≡ sent_at at48 three 30
old_sent = sent_old at48 facts48 three (one ∷ []) 30 (lit≤ tt)

-- five samples a symbol, with 41 equal taps of 1/16
abbrev even : Rate
even = record { p = 5; taps = replicate 41 (of_bits binary32 0x3d80_0000) }

even_finite : Finite even.taps
even_finite = all_below_lem (length even.taps) (λ (i : ℕ). finite (get_or even.taps i nought)) (unfold all_below of_bits in tt)

even_phases : T (phases_fit even.taps even.p full_symbol 20000)
even_phases = unfold phases_fit all_below sum_reach total_to reach of_bits in tt

even_within : nat_abs (sent_at even three 21) ≤ 20000
even_within = stream_within even 20000 (lit< tt) even_finite refl even_phases (lit≤ tt) three three_fit 21

-- ---- one frame, and one call, from a fresh start
fresh_framed : Remembers at48 (framed at48 (preamble Ordinary) 0 (fresh 48000).pending (fresh 48000)) (firsts (preamble Ordinary).symbol 192) 0
fresh_framed = next_frame at48 facts48 (fresh 48000) [] 0 (fresh_remembers at48 facts48 48000) (preamble Ordinary) 0 (fresh 48000).pending (lit≤ tt)

fresh_represents : Represents at48 (fresh 48000) start
unfolding fresh
fresh_represents = record { rate = refl; remembers = fresh_remembers at48 facts48 48000; progress = refl; pending = refl; buffer = refl }

fresh_asked : Agrees at48 facts48 (left (fresh 48000) ask) (called at48 start ask)
fresh_asked = call_agrees at48 facts48 (fresh 48000) start fresh_represents fresh_fit ask

fresh_kept : record_fit_lem 10 (left_at at48 (fresh 48000) (update 100 3000 50)).modulator ≡ true
fresh_kept = stays_fit at48 (fresh 48000) fresh_fit (update 100 3000 50) (unfold Given in tt)

-- ---- calls of each kind, refused ones among them
abbrev mixed : List Call
mixed =
    ask ∷ provide (Preamble Ordinary (record { 0 = 255 })) [] ∷ read (replicate 3 (pos 7)) ∷ provide (GivenSymbols Ordinary) [] ∷ update 9 5 0 ∷ provide EndOfTransmission [] ∷ update 100 3000 50 ∷ provide NoFrame [] ∷ []

mixed_given : Each Given mixed
unfolding Each Given Delay
mixed_given = (tt, (lit< tt, (tt, (tt, (tt, (tt, (tt, (tt, tt))))))))

mixed_represents : Represents at48 (record_after at48 mixed) (sent_all at48 mixed)
mixed_represents = (sender_run at48 facts48 mixed mixed_given).0

mixed_on_the_way : answers_to at48 (ask ∷ []) ≡ said_all at48 (ask ∷ [])
mixed_on_the_way = (after_each at48 facts48 (ask ∷ []) _ mixed_given).1

mixed_fit : record_fit_lem 10 (record_after at48 mixed) ≡ true
mixed_fit = fit_throughout at48 facts48 mixed mixed_given

mixed_next : said_by (left (record_after at48 mixed) ask) ≡ (called at48 (sent_all at48 mixed) ask).said
mixed_next = next_call at48 facts48 mixed mixed_given ask

-- ---- what a run hands out: P2's samples
opening_read : Quiet (negsuc 67)
opening_read = within_read at48 facts48 opening opening_given (record { answer = wrote 5; room = negsuc 112 ∷ negsuc 102 ∷ negsuc 67 ∷ negsuc 11 ∷ pos 54 ∷ [] }) (rw p2_run (Memᴰ.append_right (_ ∷ []) (Memᴰ.head refl))) 5 refl 2 (lit< tt)

-- every sample of the frame that it made
opening_long : (record_after at48 opening).progress.next_len ≡ 1920
unfolding run called frame_outcome settled framedBy drained
opening_long = ap (λ (s : Progress). s.next_len) (sender_run at48 facts48 opening opening_given).0.progress

opening_made : Quiet (get_or (record_after at48 opening).next_transmission 1919 (pos 0))
opening_made = within_made at48 facts48 opening opening_given 1919 (rw opening_long (lit< tt))

opening_taken : done ≡ refusal (bare 1) → ⊥
opening_taken = (never_unfit at48 facts48 opening opening_given (record { answer = done; room = [] }) (rw p2_run (Memᴰ.head refl))).0
