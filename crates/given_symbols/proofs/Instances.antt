-- Small instances of the laws of this crate: what they ask can be met. Assumes nothing.
use mathlib.Core.Path.{◌≡◌, refl}
use mathlib.Core.Bool.{true}
use mathlib.Core.List.{List}
use Prim.Native.Nat.{ℕ}
use lib.ListN.{length, get_or, replicate}
use lib.Ieee.{Float, nan, inf, binary32, of_bits, of_int, lt, le, eq, ne}
use Rattle.numbers.specs.Below.{all_below}
use Rattle.numbers.proofs.Below.{all_below_lem}
use Rattle.protocol.specs.Refusals.{bare, placed}
use Rattle.protocol.specs.Bursts.{signs_of}
use Rattle.given_symbols.specs.declared.Traffic.TheVariants.{Ordinary, Bert}
use Rattle.given_symbols.specs.Offender.{refused, fine, symbol_fit, judged, judged_below, bert_headed, headed, judged_as}
use Rattle.given_symbols.proofs.Judged.{judged_not_a_number, judged_infinite, judged_above, judged_below_lem, judged_fine, fine_count}
use Rattle.given_symbols.proofs.FirstOf.{fit_judged}
use Rattle.given_symbols.proofs.WrongBurst.{wrong_burst}

-- ---- each judgement, in place 3
not_a_number_meets : refused (placed 71 3) ≡ judged 3 nan
unfolding ne eq
not_a_number_meets = judged_not_a_number 3 nan refl

infinite_meets : refused (placed 72 3) ≡ judged 3 (inf true)
unfolding eq
infinite_meets = judged_infinite 3 (inf true) refl

above_meets : refused (placed 73 3) ≡ judged 3 (of_bits binary32 0x3f80_0001)
unfolding of_bits ne eq lt
above_meets = judged_above 3 (of_bits binary32 0x3f80_0001) refl refl refl

below_meets : refused (placed 74 3) ≡ judged 3 (of_bits binary32 0xbf80_0001)
unfolding of_bits ne eq lt
below_meets = judged_below_lem 3 (of_bits binary32 0xbf80_0001) refl refl refl refl

fine_meets : fine ≡ judged 3 (of_bits binary32 0x8000_0000)
unfolding of_bits ne eq lt
fine_meets = judged_fine 3 (of_bits binary32 0x8000_0000) refl refl refl refl

-- ---- 192 zeros
zeros : List Float
zeros = replicate 192 (of_bits binary32 0)

fit_judged_meets : judged_below 192 zeros ≡ fine
unfolding zeros all_below symbol_fit of_bits le
fit_judged_meets = fit_judged zeros 192 (all_below_lem 192 (λ (i : ℕ). symbol_fit (get_or zeros i nan)) tt)

fine_count_meets : length zeros ≡ 192
unfolding zeros judged_as headed judged_below judged of_bits lt
fine_count_meets = fine_count Ordinary zeros refl

-- no burst heads them
wrong_burst_meets : judged_as Bert zeros ≡ refused (bare 11)
unfolding zeros headed bert_headed signs_of all_below symbol_fit of_bits of_int le eq
wrong_burst_meets = (wrong_burst Bert zeros).1 (record { count = refl; inside = tt; head = refl })
