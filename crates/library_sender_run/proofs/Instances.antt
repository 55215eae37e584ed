-- Small instances: what the laws ask can be met, and what they then say. Assumes nothing.
use mathlib.Core.Path.{◌≡◌, refl}
use mathlib.Core.List.{List, [], ◌∷◌, map}
use native.Mathlib.Omega.{arith}
use lib.Dec.{lit≤}
use lib.IntN.{pos}
use Rattle.numbers.specs.Firsts.{firsts}
use Rattle.machine.specs.Runs.{answers, Each}
use Rattle.shaping.specs.Rate.{at48, at24}
use Rattle.shaping.proofs.RateFacts.{facts48, facts24}
use Rattle.modulator.specs.declared.ModulatorFrame.TheVariants.{Nothing}
use Rattle.modulator.specs.Record.{fresh}
use Rattle.modulator.specs.Control.{handed_out}
use Rattle.modulator.specs.Outcome.{frame_outcome, update_outcome, action_by}
use Rattle.modulator.specs.Calls.{made}
use Rattle.modulator_run.specs.Rules.{provide, read, update, ask, settled, drained, called}
use Rattle.modulator_run.specs.Run.{fresh_at, Delay, Given}
use Rattle.library_sender.specs.Layout.{numbers_code, sender_in, numbers_of_lem}
use Rattle.library_sender.specs.Memory.{Memory, laid_out, Export, export_of, Coded, coded_as, code_of, memory_says, memory_next, memory}
use Rattle.library_sender.specs.Exports.{M17SenderNewSays}
use Rattle.library_sender_run.specs.Chain.{Holds, call_of, coded_all, Chain, ends, calls}
use Rattle.library_sender_run.proofs.ThereAndBack.{laid_holds, numbers_back}
use Rattle.library_sender_run.proofs.MemoryRun.{memory_run, exports_run}
use Rattle.library_sender_run.proofs.RefusedUntouched.{refused_untouched, refused_export, refused_new}

-- ---- idle is told once, then nothing; a read writes none; no frame drops no wish; an update with its capacity below its fill is refused
abbrev mixed : List Export
mixed = export_of ask 7 ∷ export_of ask 7 ∷ export_of (read (pos 5 ∷ [])) 7 ∷ export_of (provide Nothing []) 0 ∷ export_of (update 2 1 0) 0 ∷ []

mixed_given : Each Given (map call_of mixed)
unfolding Each Given Delay
mixed_given = (tt, (tt, (tt, (tt, (tt, tt)))))

abbrev expected : List Coded
expected = coded_as 3 [] 1 ∷ coded_as 0 [] 7 ∷ coded_as 0 (pos 5 ∷ []) 0 ∷ coded_as 0 [] 0 ∷ coded_as 109 [] 0 ∷ []

mixed_48 : answers memory (laid_out (fresh_at at48)) mixed ≡ expected
unfolding answers called settled drained frame_outcome update_outcome action_by coded_all handed_out firsts
mixed_48 = (memory_run at48 facts48 mixed mixed_given).0

mixed_24 : answers memory (laid_out (fresh_at at24)) mixed ≡ expected
unfolding answers called settled drained frame_outcome update_outcome action_by coded_all handed_out firsts
mixed_24 = (memory_run at24 facts24 mixed mixed_given).0

-- ---- memory that is no sender's
abbrev strange : Memory
strange = record { store = []; window = []; numbers = 48000 ∷ 0 ∷ 0 ∷ 0 ∷ 0 ∷ 2 ∷ [] }

abbrev reading : Export
reading = export_of (read (pos 5 ∷ [])) 7

strange_refused : memory_says strange reading ≡ coded_as 101 (pos 5 ∷ []) 7
unfolding memory_says code_of numbers_code
strange_refused = refl

strange_kept : memory_next strange reading ≡ strange
unfolding memory_says code_of numbers_code
strange_kept = (refused_untouched strange reading (lit≤ tt)).memory

export_kept : memory_next strange reading ≡ strange
unfolding memory_says code_of numbers_code
export_kept = (refused_export strange reading (memory_says strange reading) (memory_next strange reading) (record { answers = refl; leaves = refl }) (lit≤ tt)).memory

-- ---- the exports: a fresh sender at each rate on that memory, and a request for an action
new_48 : M17SenderNewSays strange 48000 0 (laid_out (fresh_at at48))
unfolding made
new_48 = record { answers = refl; leaves = refl }

new_24 : M17SenderNewSays strange 24000 0 (laid_out (fresh_at at24))
unfolding made
new_24 = record { answers = refl; leaves = refl }

one_call : (m : Memory) → Chain m (export_of ask 7 ∷ []) (memory_says m (export_of ask 7) ∷ []) (memory_next m (export_of ask 7))
one_call m = calls m (memory_next m (export_of ask 7)) (memory_next m (export_of ask 7)) (export_of ask 7) [] (memory_says m (export_of ask 7)) [] (record { answers = refl; leaves = refl }) (ends (memory_next m (export_of ask 7)))

asked : Each Given (ask ∷ [])
unfolding Each Given
asked = (tt, tt)

exports_48 : (memory_says (laid_out (fresh_at at48)) (export_of ask 7) ∷ []) ≡ (coded_as 3 [] 1 ∷ [])
unfolding answers called settled action_by coded_all
exports_48 = (exports_run at48 facts48 strange (laid_out (fresh_at at48)) (memory_next (laid_out (fresh_at at48)) (export_of ask 7)) 0 new_48 (export_of ask 7 ∷ []) asked (memory_says (laid_out (fresh_at at48)) (export_of ask 7) ∷ []) (one_call (laid_out (fresh_at at48)))).0

exports_24 : (memory_says (laid_out (fresh_at at24)) (export_of ask 7) ∷ []) ≡ (coded_as 3 [] 1 ∷ [])
unfolding answers called settled action_by coded_all
exports_24 = (exports_run at24 facts24 strange (laid_out (fresh_at at24)) (memory_next (laid_out (fresh_at at24)) (export_of ask 7)) 0 new_24 (export_of ask 7 ∷ []) asked (memory_says (laid_out (fresh_at at24)) (export_of ask 7) ∷ []) (one_call (laid_out (fresh_at at24)))).0

-- any memory that is a sender's
holds_24 : Holds (laid_out (fresh_at at24)) (fresh_at at24)
unfolding fresh
holds_24 = laid_holds (fresh_at at24) refl

-- a rate that is none
new_refused : strange ≡ strange
unfolding made
new_refused = refused_new strange 44100 115 strange (record { answers = refl; leaves = refl }) (lit≤ tt)

-- ---- numbers there and back: a frame half read, its end held
numbers_there : numbers_of_lem (sender_in [] [] (24000 ∷ 3 ∷ 960 ∷ 480 ∷ 240 ∷ 0 ∷ 0 ∷ 1 ∷ 77 ∷ 1 ∷ 5 ∷ 6 ∷ 7 ∷ [])) ≡ (24000 ∷ 3 ∷ 960 ∷ 480 ∷ 240 ∷ 0 ∷ 0 ∷ 1 ∷ 77 ∷ 1 ∷ 5 ∷ 6 ∷ 7 ∷ [])
numbers_there = numbers_back [] [] 24000 3 960 480 240 0 0 1 77 1 5 6 7 refl (λ e. absurd (omega arith))
