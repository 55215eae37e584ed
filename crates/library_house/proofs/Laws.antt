-- What a caller can rely on: the kinds' numbers are those of an offer, and a refused count leaves the told number. Assumes nothing.
use mathlib.Core.Path.{◌≡◌, refl, ◌∙◌}
use mathlib.Core.List.{List, []}
use Prim.Native.Nat.{ℕ, ◌≤◌}
use native.Mathlib.Omega.{arith}
use lib.Dec.{lit≤}
use lib.Ieee.{Float}
use Rattle.protocol.specs.declared.Kind.{Kind}
use Rattle.protocol.specs.declared.Kind.TheVariants.{Lsf, Bert, Stream, Packet}
use Rattle.bit_errors.specs.Errors.{Paper, refusal, errors, bit_errors_lem}
use Rattle.house.specs.Accept.{symbol_at, accepted}
use Rattle.library_codes.specs.Codes.{kind_number, flag_number}
use Rattle.library_house.specs.Exports.{accepts_code, errors_code, errors_told, M17BitErrorsSays}

-- an offer's code names its kind to `m17_accepts`
pub accepts_offer : (kind : Kind) (symbols : List Float) → accepts_code (kind_number kind) symbols ≡ flag_number (accepted kind (symbol_at symbols))
unfolding accepts_code
accepts_offer Lsf symbols = refl
accepts_offer Bert symbols = refl
accepts_offer Stream symbols = refl
accepts_offer Packet symbols = refl

told_kept : (a : Paper) → 100 ≤ errors_code a → (told : ℕ) → errors_told a told ≡ told
told_kept (refusal why) big told = refl
told_kept (errors n) big told = absurd (omega arith)

pub refused_count : (sent received : List Float) (told r after : ℕ) → M17BitErrorsSays sent received told r after → 100 ≤ r → after ≡ told
refused_count sent received told r after says big = says.leaves ∙ told_kept (bit_errors_lem sent received) (rw says.answers at big) told

-- it can be met: no symbols are no payload
refused_count_meets : errors_told (bit_errors_lem [] []) 7 ≡ 7
unfolding bit_errors_lem
refused_count_meets = refused_count [] [] 7 106 7 (record { answers = refl; leaves = refl }) (lit≤ tt)
