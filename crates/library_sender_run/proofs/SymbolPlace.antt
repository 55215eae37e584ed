-- The code of a frame that is refused for a symbol tells the first offending symbol's number and place, whatever else the memory holds. Assumes nothing.
use mathlib.Core.Path.{◌≡◌, refl, sym, ap, subst, ◌∙◌}
use mathlib.Core.List.{List, []}
use Prim.Native.Nat.{ℕ, ◌+◌, ◌*◌}
use native.Mathlib.Omega.{arith}
use borrow.Author.Tests.{le-ltb}
use lib.Dec.{lit<, lit≤}
use lib.ListN.{replicate}
use lib.Ieee.{Float, nan, of_bits, le}
use Rattle.shaping.specs.Rate.{rate_of, at48}
use Rattle.protocol.specs.Refusals.{placed}
use Rattle.given_symbols.specs.declared.Traffic.{Traffic}
use Rattle.given_symbols.specs.declared.Traffic.TheVariants.{Ordinary}
use Rattle.given_symbols.specs.Offender.{symbol_fit}
use Rattle.given_symbols.proofs.SymbolFaults.{not_a_number}
use Rattle.modulator.specs.declared.ModulatorFrame.TheVariants.{Symbols}
use Rattle.modulator.specs.declared.SoftModulator.{SoftModulator}
use Rattle.modulator.specs.Record.{fresh}
use Rattle.modulator_laws.proofs.FirstOffender.{FirstOffender, first_offender}
use Rattle.modulator_laws.proofs.Instances.{fresh_fit}
use Rattle.modulator_run.specs.Rules.{provide}
use Rattle.modulator_run.specs.Run.{left_at}
use Rattle.library_codes.specs.Codes.{refusal_code}
use Rattle.library_sender.specs.Layout.{numbers_code}
use Rattle.library_sender.specs.Memory.{Memory, record_in, laid_out, paper_code, Export, export_of, Coded, code_of, memory_says}
use Rattle.library_sender.specs.Exports.{traffic_of, M17SenderSymbolsSays}
use Rattle.library_sender.proofs.Promises.{code_answered, refused}
use Rattle.library_sender_run.proofs.ThereAndBack.{record_back, laid_holds}

-- a frame of given symbols
abbrev pub frame_call : Traffic → List Float → Export
frame_call traffic symbols = export_of (provide (Symbols traffic) symbols) 0

-- where the symbols of a frame offend first
abbrev pub OffendsFirst : Memory → Traffic → List Float → ℕ → ℕ → Type 0
OffendsFirst m = FirstOffender (rate_of (record_in m).rate) (record_in m)

-- a frame's places are below 192, so the code has them whole
code_tells : (m : Memory) (traffic : Traffic) (symbols : List Float) (number place : ℕ) → numbers_code m.numbers ≡ 0 → OffendsFirst m traffic symbols number place
    → code_of m (frame_call traffic symbols) ≡ 100 + number + 65536 * place
unfolding left_at
code_tells m traffic symbols number place good offender =
    let told = (first_offender (rate_of (record_in m).rate) (record_in m) traffic symbols number place).1 offender in
    let written : refusal_code (placed number place) ≡ 100 + number + 65536 * place = rw (le-ltb 65535 place (omega (arith, offender.inside))) refl in
    code_answered m (frame_call traffic symbols) good ∙ ap paper_code told ∙ written

-- "each with the place of the first offending symbol"
pub symbol_place : (m after : Memory) (bert : ℕ) (symbols : List Float) (code number place : ℕ) → M17SenderSymbolsSays m bert symbols code after → numbers_code m.numbers ≡ 0
    → OffendsFirst m (traffic_of bert) symbols number place → code ≡ 100 + number + 65536 * place
unfolding memory_says
symbol_place m after bert symbols code number place says good offender = ap (λ (a : Coded). a.code) says.answers ∙ code_tells m (traffic_of bert) symbols number place good offender

-- ---- it can be met: a fresh sender is given 192 symbols that are no numbers
abbrev wrong : List Float
wrong = replicate 192 nan

abbrev begun : Memory
begun = laid_out (fresh 48000)

wrong_first : OffendsFirst begun Ordinary wrong 71 0
unfolding fresh symbol_fit of_bits le
wrong_first =
    subst (λ (d : SoftModulator). FirstOffender at48 d Ordinary wrong 71 0) (sym (record_back (fresh 48000)))
    (record { fit = fresh_fit; count = refl; inside = lit< tt; offends = record { fault = not_a_number; outside = refl; earlier_fit = λ i l. absurd (omega arith) } })

begun_good : numbers_code begun.numbers ≡ 0
unfolding fresh
begun_good = (laid_holds (fresh 48000) refl).numbers

symbol_place_meets : code_of begun (frame_call Ordinary wrong) ≡ 171
symbol_place_meets =
    let told = code_tells begun Ordinary wrong 71 0 begun_good wrong_first in
    symbol_place begun begun 0 wrong (code_of begun (frame_call Ordinary wrong)) 71 0 (refused begun (frame_call Ordinary wrong) _ refl (rw told (lit≤ tt)) [] refl) begun_good wrong_first
