-- Document 02 h) at each rate, with its numbers: a pause of 4,000 or 2,000 zeros, and the fewest that do, 3,962 or 1,982. Assumes nothing.
use mathlib.Core.Path.{◌≡◌}
use mathlib.Core.List.{List, ◌++◌, map}
use Prim.Native.Nat.{◌^◌, ◌<◌}
use Rattle.machine.specs.Runs.{run, answers, Each}
use Rattle.shaping.specs.Rate.{at48, at24}
use Rattle.shaping.proofs.RateFacts.{facts48, facts24}
use Rattle.demodulator.specs.Record.{fresh}
use Rattle.demodulator_run.specs.Calls.{Call, receiver, Given}
use Rattle.silence.specs.Later.{later_told}
use Rattle.silence.specs.Silence.{counted, Pause}
use Rattle.silence.proofs.SilenceClears.{silence_clears, silence_clears_sharp}

pub silence_clears_48 : (cs zs ds : List Call) → Each Given ((cs ++ zs) ++ ds) → Pause 4000 (counted at48) cs zs → counted at48 ((cs ++ zs) ++ ds) < 2 ^ 63
    → answers receiver (run receiver (fresh 48000) (cs ++ zs)) ds ≡ map (later_told (counted at48 (cs ++ zs))) (answers receiver (fresh 48000) ds)
silence_clears_48 = silence_clears at48 facts48

pub silence_clears_24 : (cs zs ds : List Call) → Each Given ((cs ++ zs) ++ ds) → Pause 2000 (counted at24) cs zs → counted at24 ((cs ++ zs) ++ ds) < 2 ^ 63
    → answers receiver (run receiver (fresh 24000) (cs ++ zs)) ds ≡ map (later_told (counted at24 (cs ++ zs))) (answers receiver (fresh 24000) ds)
silence_clears_24 = silence_clears at24 facts24

pub silence_clears_sharp_48 : (cs zs ds : List Call) → Each Given ((cs ++ zs) ++ ds) → Pause 3962 (counted at48) cs zs → counted at48 ((cs ++ zs) ++ ds) < 2 ^ 63
    → answers receiver (run receiver (fresh 48000) (cs ++ zs)) ds ≡ map (later_told (counted at48 (cs ++ zs))) (answers receiver (fresh 48000) ds)
silence_clears_sharp_48 = silence_clears_sharp at48 facts48

pub silence_clears_sharp_24 : (cs zs ds : List Call) → Each Given ((cs ++ zs) ++ ds) → Pause 1982 (counted at24) cs zs → counted at24 ((cs ++ zs) ++ ds) < 2 ^ 63
    → answers receiver (run receiver (fresh 24000) (cs ++ zs)) ds ≡ map (later_told (counted at24 (cs ++ zs))) (answers receiver (fresh 24000) ds)
silence_clears_sharp_24 = silence_clears_sharp at24 facts24
