-- There and back: memory means the record that was laid out in it, and numbers that are a sender's come back as they were. Assumes nothing.
use Rattle.std.specs.Prelude.{Option, Some, None}
use Rattle.modulator.specs.declared.SampleCount.{SampleCount}
use mathlib.Core.Path.{◌≡◌, refl, sym}
use mathlib.Core.Bool.{Bool, true, false, cond, ◌&&◌}
use mathlib.Core.List.{List, [], ◌∷◌}
use Prim.Native.Nat.{ℕ, zero, suc, ◌≤◌}
use native.Mathlib.Omega.{arith}
use borrow.Author.Tests.{leb-true}
use lib.Dec.{leb, eqb}
use lib.IntN.{ℤ}
use lib.Ieee.{Float}
use lib.Ieee.Bits.{is_true}
use lib.Ieee.Fits.{and_l, and_r}
use Rattle.numbers.proofs.Tests.{holds}
use Rattle.shaping.specs.Rate.{rate_fit}
use Rattle.modulator.specs.declared.SoftModulator.{SoftModulator}
use Rattle.library_codes.specs.Codes.{flag_number}
use Rattle.library_sender.specs.Layout.{flags_fit, report_in_lem, sender_in, held_of, end_of, numbers_of_lem}
use Rattle.library_sender.specs.Memory.{record_in, laid_out}
use Rattle.library_sender.proofs.Promises.{code_by_tests}
use Rattle.library_sender_run.specs.Chain.{Holds}

-- ---- from the record to the numbers and back
flag_back : (b : Bool) → (eqb (flag_number b) 1 ≡ b) × (leb (flag_number b) 1 ≡ true)
flag_back true = (refl, refl)
flag_back false = (refl, refl)

report_back : (e : Option SampleCount) → cond (eqb (held_of e) 0) None (Some (record { 0 = end_of e })) ≡ e
report_back None = refl
report_back (Some end) = refl

held_few : (e : Option SampleCount) → leb (held_of e) 1 ≡ true
held_few None = refl
held_few (Some end) = refl

-- whatever the record
pub record_back : (d : SoftModulator) → record_in (laid_out d) ≡ d
unfolding report_in_lem
record_back d =
    let idle = (flag_back d.pending.update_idle).0 in
    let calculate = (flag_back d.pending.calculate_tx_end).0 in
    let report = report_back d.pending.report_tx_end in
    let wish = (flag_back d.pending.try_get_frame).0 in
    λ i. record {
      rate = d.rate;
      next_transmission = d.next_transmission;
      filter_win = d.filter_win;
      filter_cursor = d.filter_cursor;
      progress = d.progress;
      pending = record { update_idle = idle i; calculate_tx_end = calculate i; report_tx_end = report i; try_get_frame = wish i };
      buffer = d.buffer;
    }

laid_flags : (d : SoftModulator) → flags_fit (numbers_of_lem d) ≡ true
laid_flags d =
    let idle = (flag_back d.pending.update_idle).1 in
    let calculate = (flag_back d.pending.calculate_tx_end).1 in
    let held = held_few d.pending.report_tx_end in
    let wish = (flag_back d.pending.try_get_frame).1 in
    λ i. idle i && calculate i && held i && wish i

-- a record of one of the two rates, laid out, is a sender's memory
pub laid_holds : (d : SoftModulator) → rate_fit d.rate ≡ true → Holds (laid_out d) d
laid_holds d fit = record { numbers = sym (code_by_tests (numbers_of_lem d) true true fit (laid_flags d)); same = record_back d }

-- ---- from the numbers to the record and back
flag_there : (n : ℕ) → n ≤ 1 → flag_number (eqb n 1) ≡ n
flag_there zero l = refl
flag_there (suc zero) l = refl
flag_there (suc (suc n)) l = absurd (omega arith)

report_there : (held end : ℕ) → held ≤ 1 → (held ≡ 0 → end ≡ 0) → let e = cond {A = Option SampleCount} (eqb held 0) None (Some (record { 0 = end })) in (held_of e ≡ held) × (end_of e ≡ end)
report_there zero end l none = (refl, sym (none refl))
report_there (suc zero) end l none = (refl, refl)
report_there (suc (suc held)) end l none = absurd (omega arith)

module _ (store : List ℤ) (window : List Float) (rate cursor len read padding idle calculate held end wish latency fill capacity : ℕ) where
  abbrev n : List ℕ
  n = rate ∷ cursor ∷ len ∷ read ∷ padding ∷ idle ∷ calculate ∷ held ∷ end ∷ wish ∷ latency ∷ fill ∷ capacity ∷ []

  -- where an end that is not held is 0: no other is written
  pub numbers_back : flags_fit n ≡ true → (held ≡ 0 → end ≡ 0) → numbers_of_lem (sender_in store window n) ≡ n
  unfolding report_in_lem
  numbers_back flags none =
      let a = leb idle 1 in
      let b = leb calculate 1 in
      let c = leb held 1 in
      let d = leb wish 1 in
      let three = and_l (a && b && c) d (holds flags) in
      let two = and_l (a && b) c three in
      let x = flag_there idle (leb-true idle 1 (is_true a (and_l a b two))) in
      let y = flag_there calculate (leb-true calculate 1 (is_true b (and_r a b two))) in
      let z = report_there held end (leb-true held 1 (is_true c (and_r (a && b) c three))) none in
      let w = flag_there wish (leb-true wish 1 (is_true d (and_r (a && b && c) d (holds flags)))) in
      λ i. rate ∷ cursor ∷ len ∷ read ∷ padding ∷ x i ∷ y i ∷ z.0 i ∷ z.1 i ∷ w i ∷ latency ∷ fill ∷ capacity ∷ []
