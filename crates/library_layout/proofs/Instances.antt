-- Small instances: what the laws ask can be met, and what they then say. Assumes nothing.
use Rattle.std.specs.Prelude.{Some}
use mathlib.Core.Path.{◌≡◌, refl}
use mathlib.Core.Bool.{true, false}
use mathlib.Core.List.{List, [], ◌∷◌}
use Prim.Native.Nat.{ℕ}
use lib.Dec.{lit<}
use lib.Ieee.{Float, binary32, of_bits}
use Rattle.protocol.specs.declared.Kind.TheVariants.{Stream}
use Rattle.search.specs.declared.Candidate.TheVariants.{Held}
use Rattle.search.specs.declared.Control.{Control}
use Rattle.library_layout.specs.Layout.{record_code_lem, control_in, no_levels, numbers_of_lem, levels_of}
use Rattle.library_layout.specs.Within.{Holdable, Plain}
use Rattle.library_layout.proofs.ControlBack.{control_back}
use Rattle.library_layout.proofs.NumbersBack.{numbers_back}
use Rattle.library_layout.proofs.RecordCode.{written_code}

-- ---- a stream frame is awaited: 1.0, 0.5 and 0.0
abbrev levels : List Float
levels = of_bits binary32 0x3f80_0000 ∷ of_bits binary32 0x3f00_0000 ∷ of_bits binary32 0 ∷ []

abbrev awaiting : Control
awaiting = record {
  candidate = Held Stream 3 (of_bits binary32 0x3f80_0000) (of_bits binary32 0x3f00_0000) (of_bits binary32 0) 1200;
  wait = Some (record { left = 1837; age = 3; replaced = true });
  dcd = Some 5043;
  owed = false;
  sample = 1203;
}

awaiting_holdable : Holdable awaiting
awaiting_holdable = record { age = lit< tt; left = lit< tt; kept = lit< tt }

abbrev numbers : List ℕ
numbers = 48000 ∷ 69 ∷ 1203 ∷ 1203 ∷ 3 ∷ 3 ∷ 1200 ∷ 1 ∷ 1837 ∷ 3 ∷ 1 ∷ 1 ∷ 5043 ∷ 0 ∷ []

awaiting_written : (numbers_of_lem 48000 69 1203 awaiting ≡ numbers) × (levels_of awaiting ≡ levels)
awaiting_written = (refl, refl)

awaiting_back : control_in numbers levels ≡ awaiting
awaiting_back = control_back 48000 69 1203 awaiting awaiting_holdable

awaiting_code : record_code_lem numbers ≡ 0
awaiting_code = written_code 48000 69 1203 awaiting refl awaiting_holdable

-- ---- numbers with nothing held come back
abbrev still : List ℕ
still = 24000 ∷ 1 ∷ 1 ∷ 1 ∷ 0 ∷ 0 ∷ 0 ∷ 0 ∷ 0 ∷ 0 ∷ 0 ∷ 0 ∷ 0 ∷ 0 ∷ []

still_plain : Plain still no_levels
still_plain = record { no_candidate = λ e. (refl, refl, refl); no_wait = λ e. (refl, refl, refl); no_timer = λ e. refl }

still_back : (numbers_of_lem 24000 1 1 (control_in still no_levels) ≡ still) × (levels_of (control_in still no_levels) ≡ no_levels)
still_back = numbers_back still no_levels refl refl refl still_plain

-- ---- numbers that are none
strange_codes : (record_code_lem (47999 ∷ 0 ∷ 0 ∷ 0 ∷ 9 ∷ []) ≡ 115) × (record_code_lem (48000 ∷ 0 ∷ 0 ∷ 0 ∷ 5 ∷ []) ≡ 101)
unfolding record_code_lem
strange_codes = (refl, refl)
