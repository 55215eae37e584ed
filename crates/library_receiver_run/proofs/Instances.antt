-- Small instances: what the laws ask can be met, and what they then say. Assumes nothing.
use mathlib.Core.Path.{◌≡◌, refl}
use mathlib.Core.List.{List, [], ◌∷◌, map}
use lib.Dec.{lit≤}
use lib.IntN.{pos, negsuc}
use lib.ListN.{replicate}
use Rattle.numbers.specs.Sum.{nought}
use Rattle.machine.specs.Runs.{run, answers, Each}
use Rattle.shaping.specs.Rate.{at48, at24}
use Rattle.shaping.proofs.RateFacts.{facts48, facts24}
use Rattle.demodulator.specs.Feed.{goes_on_lem, fed_from, fed}
use Rattle.demodulator_run.specs.Rules.{given, answered, single}
use Rattle.demodulator_run.specs.Run.{fresh_at, Callable}
use Rattle.demodulator_run.specs.Stretch.{Sixteen}
use Rattle.demodulator_run.specs.Calls.{history_next, told_to, Given}
use Rattle.library_layout.specs.Layout.{record_code_lem}
use Rattle.library_receiver.specs.Memory.{Memory, laid_out, Lent, lent_as, none_lent, Export, feeds, replies, asks, Coded, coded_as, memory_next, memory_says}
use Rattle.library_receiver.specs.Promises.{M17ReceiverNewSays}
use Rattle.library_receiver_run.specs.Runs.{memory, call_of, coded_all, Chain, ends, calls}
use Rattle.library_receiver_run.proofs.MemoryRun.{memory_run}
use Rattle.library_receiver_run.proofs.Untouched.{refused_untouched}
use Rattle.library_receiver_run.proofs.ExportsRun.{exports_run_48, exports_run_24}

-- ---- a query, a reply that nobody asked for, a stretch without its room, a stretch of none
abbrev cramped : Lent
cramped = lent_as (replicate 191 nought) (9 ∷ 9 ∷ 9 ∷ 9 ∷ 9 ∷ []) (nought ∷ [])

abbrev mixed : List Export
mixed = asks ∷ replies 1 ∷ feeds (pos 1 ∷ negsuc 32767 ∷ []) cramped ∷ feeds [] cramped ∷ []

mixed_given : Each Given (map call_of mixed)
unfolding Each Given Callable Sixteen
mixed_given = (tt, (tt, ((record { sfits = lit≤ tt }, (record { sfits = lit≤ tt }, tt)), (tt, tt))))

abbrev expected : List Coded
expected =
    coded_as 0 none_lent ∷ coded_as 103 none_lent ∷ coded_as 104 cramped
    ∷ coded_as 0 (lent_as (replicate 191 nought) (0 ∷ 0 ∷ 0 ∷ 0 ∷ 0 ∷ []) (nought ∷ [])) ∷ []

mixed_48 : answers memory (laid_out (fresh_at at48)) mixed ≡ expected
unfolding answers told_to history_next fed fed_from goes_on_lem single given answered coded_all
mixed_48 = (memory_run at48 facts48 mixed mixed_given).0

mixed_24 : answers memory (laid_out (fresh_at at24)) mixed ≡ expected
unfolding answers told_to history_next fed fed_from goes_on_lem single given answered coded_all
mixed_24 = (memory_run at24 facts24 mixed mixed_given).0

-- ---- the same calls as a chain: what each export says and leaves
pub chained : (m : Memory) (es : List Export) → Chain m es (answers memory m es) (run memory m es)
unfolding answers run
chained m [] = ends m
chained m (e ∷ es) =
    calls m (memory_next m e) (run memory (memory_next m e) es) e es (memory_says m e) (answers memory (memory_next m e) es)
    (record { answers = refl; leaves = refl }) (chained (memory_next m e) es)

abbrev pub strange : Memory
strange = record { window = []; ring = []; numbers = 48000 ∷ 0 ∷ 0 ∷ 0 ∷ 5 ∷ []; levels = [] }

pub made_48 : M17ReceiverNewSays strange 48000 0 (laid_out (fresh_at at48))
made_48 = record { answers = refl; leaves = refl }

pub made_24 : M17ReceiverNewSays strange 24000 0 (laid_out (fresh_at at24))
made_24 = record { answers = refl; leaves = refl }

chain_48 : answers memory (laid_out (fresh_at at48)) mixed ≡ expected
unfolding answers told_to history_next fed fed_from goes_on_lem single given answered coded_all
chain_48 = (exports_run_48 strange 0 (laid_out (fresh_at at48)) mixed mixed_given _ _ (chained (laid_out (fresh_at at48)) mixed) made_48).0

chain_24 : answers memory (laid_out (fresh_at at24)) mixed ≡ expected
unfolding answers told_to history_next fed fed_from goes_on_lem single given answered coded_all
chain_24 = (exports_run_24 strange 0 (laid_out (fresh_at at24)) mixed mixed_given _ _ (chained (laid_out (fresh_at at24)) mixed) made_24).0

-- ---- memory that is no receiver's
strange_refused : memory_says strange (feeds (pos 1 ∷ []) cramped) ≡ coded_as 101 cramped
unfolding memory_says record_code_lem
strange_refused = refl

strange_kept : memory_next strange (feeds (pos 1 ∷ []) cramped) ≡ strange
unfolding memory_says record_code_lem
strange_kept = (refused_untouched strange (feeds (pos 1 ∷ []) cramped) (lit≤ tt)).memory
