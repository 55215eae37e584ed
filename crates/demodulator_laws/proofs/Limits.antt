-- Each limit of 'Unfit receiver' on the control, met and passed by one, worked out at 48 kHz: the clauses are those of `Fit`, and a call of a record that one of them
-- shuts out is refused with 1 (`sample_unfit`, `reply_unfit`, `carrier_unfit`). Assumes nothing.
use Rattle.std.specs.Prelude.{Option, Some, None}
use Rattle.search.specs.declared.Waiting.{Waiting}
use mathlib.Core.Path.{◌≡◌, refl}
use mathlib.Core.Bool.{Bool, true, false}
use Prim.Native.Nat.{ℕ, ◌+◌, ◌^◌}
use lib.Ieee.{Float, nan, binary32, of_bits, lt, le}
use Rattle.protocol.specs.declared.Kind.TheVariants.{Packet}
use Rattle.decode.specs.Correlator.{in_range}
use Rattle.search.specs.declared.Candidate.{Candidate}
use Rattle.search.specs.declared.Candidate.TheVariants.{Nothing}
use Rattle.search.specs.declared.Control.{Control}
use Rattle.search.specs.TakenBurst.{held_as}
use Rattle.search.specs.Fit.{candidate_fit_lem, wait_fit_lem, control_fit_lem}
use Rattle.demodulator_laws.proofs.Grown.{taken_as}
use Rattle.demodulator_laws.proofs.ExampleBurst.{burst_at, wait_of}

-- ---- the control
abbrev pub control : ℕ → ℕ → ℕ → Float → Float → Float → ℕ → Control
control count end age diff gain shift left = record {
  candidate = held_as (burst_at Packet age (record { diff = diff; gain = gain; shift = shift }));
  wait = Some (wait_of left);
  dcd = Some end;
  owed = false;
  sample = count;
}

abbrev pub million : Float
million = of_bits binary32 0x4974_2400

abbrev pub past_million : Float
past_million = of_bits binary32 0x4974_2401

-- the last float below 100, and 16
abbrev pub under_hundred : Float
under_hundred = of_bits binary32 0x42c7_ffff

abbrev pub sixteen : Float
sixteen = of_bits binary32 0x4180_0000

abbrev fits : Control → Bool → Type 0
fits c answer = control_fit_lem 10 c ≡ answer

-- all limits at once: the largest count, end, age, diff, gain, shift and wait; and the smallest, where a diff of -0.0 is not below 0
highest : fits (control (2 ^ 63) (2 ^ 63 + 3840) 254 under_hundred million million 1839) true
unfolding control_fit_lem candidate_fit_lem wait_fit_lem in_range of_bits le lt
highest = refl

lowest : fits (control 1 0 1 (of_bits binary32 0x8000_0000) sixteen (of_bits binary32 0xc974_2400) 1) true
unfolding control_fit_lem candidate_fit_lem wait_fit_lem in_range of_bits le lt
lowest = refl

-- "count above 2^63"
count_past : fits (control (2 ^ 63 + 1) (2 ^ 63 + 3840) 254 under_hundred million million 1839) false
unfolding control_fit_lem
count_past = refl

-- "timer end above 2^63 + 3,840"
end_past : fits (control (2 ^ 63) (2 ^ 63 + 3841) 254 under_hundred million million 1839) false
unfolding control_fit_lem
end_past = refl

-- "age outside 1 to 254"
age_past : fits (control (2 ^ 63) (2 ^ 63 + 3840) 255 under_hundred million million 1839) false
unfolding control_fit_lem candidate_fit_lem
age_past = refl

age_none : fits (control 1 0 0 (of_bits binary32 0) sixteen million 1) false
unfolding control_fit_lem candidate_fit_lem
age_none = refl

-- "diff below 0 or not below 100"
diff_past : fits (control (2 ^ 63) (2 ^ 63 + 3840) 254 (of_bits binary32 0x42c8_0000) million million 1839) false
unfolding control_fit_lem candidate_fit_lem of_bits le lt
diff_past = refl

diff_below : fits (control 1 0 1 (of_bits binary32 0x8000_0001) sixteen million 1) false
unfolding control_fit_lem candidate_fit_lem of_bits le lt
diff_below = refl

-- "gain not within 16 to 1,000,000"
gain_past : fits (control (2 ^ 63) (2 ^ 63 + 3840) 254 under_hundred past_million million 1839) false
unfolding control_fit_lem candidate_fit_lem of_bits le lt
gain_past = refl

gain_below : fits (control 1 0 1 (of_bits binary32 0) (of_bits binary32 0x417f_ffff) million 1) false
unfolding control_fit_lem candidate_fit_lem of_bits le lt
gain_below = refl

-- "shift not within ±1,000,000"
shift_past : fits (control (2 ^ 63) (2 ^ 63 + 3840) 254 under_hundred million past_million 1839) false
unfolding control_fit_lem candidate_fit_lem in_range of_bits le lt
shift_past = refl

shift_below : fits (control 1 0 1 (of_bits binary32 0) sixteen (of_bits binary32 0xc974_2401) 1) false
unfolding control_fit_lem candidate_fit_lem in_range of_bits le lt
shift_below = refl

-- "A not-a-number is never within."
shift_nan : fits (control 1 0 1 (of_bits binary32 0) sixteen nan 1) false
unfolding control_fit_lem candidate_fit_lem in_range of_bits le lt
shift_nan = refl

-- "a wait outside 1 to 1,839, or held without a candidate, or with a reply owed"
wait_past : fits (control (2 ^ 63) (2 ^ 63 + 3840) 254 under_hundred million million 1840) false
unfolding control_fit_lem candidate_fit_lem wait_fit_lem in_range of_bits le lt
wait_past = refl

wait_none : fits (control 1 0 1 (of_bits binary32 0) sixteen million 0) false
unfolding control_fit_lem candidate_fit_lem wait_fit_lem in_range of_bits le lt
wait_none = refl

abbrev pub bare : Candidate → Option Waiting → Bool → Control
bare candidate wait owed = record { candidate = candidate; wait = wait; dcd = None; owed = owed; sample = 1 }

abbrev pub held : Candidate
held = held_as (burst_at Packet 1 (record { diff = of_bits binary32 0; gain = sixteen; shift = million }))

wait_alone : fits (bare Nothing (Some (wait_of 1)) false) false
unfolding control_fit_lem candidate_fit_lem wait_fit_lem
wait_alone = refl

wait_owing : fits (bare held (Some (wait_of 1)) true) false
unfolding control_fit_lem candidate_fit_lem wait_fit_lem in_range of_bits le lt
wait_owing = refl

-- "a reply owed with a candidate held"
owed_alone : fits (bare Nothing None true) true
unfolding control_fit_lem candidate_fit_lem wait_fit_lem
owed_alone = refl

owed_held : fits (bare held None true) false
unfolding control_fit_lem candidate_fit_lem wait_fit_lem in_range of_bits le lt
owed_held = refl

-- document 02 j): "a taken-at number above the count or 0"
abbrev taken_on : ℕ → ℕ → Control
taken_on number count = record {
  candidate = held_as (taken_as number (burst_at Packet 1 (record { diff = of_bits binary32 0; gain = sixteen; shift = million })));
  wait = None;
  dcd = None;
  owed = false;
  sample = count;
}

taken_last : fits (taken_on (2 ^ 63) (2 ^ 63)) true
unfolding control_fit_lem candidate_fit_lem wait_fit_lem in_range of_bits le lt
taken_last = refl

taken_past : fits (taken_on 8 7) false
unfolding control_fit_lem candidate_fit_lem wait_fit_lem in_range of_bits le lt
taken_past = refl

taken_at_first : fits (taken_on 1 7) true
unfolding control_fit_lem candidate_fit_lem wait_fit_lem in_range of_bits le lt
taken_at_first = refl

taken_none : fits (taken_on 0 7) false
unfolding control_fit_lem candidate_fit_lem wait_fit_lem in_range of_bits le lt
taken_none = refl

-- document 02 j): "a wait's kept age of 0"; any other is fit, whatever the candidate's own
abbrev pub kept_at : ℕ → Bool → Control
kept_at age mark = bare held (Some (record { left = 1; age = age; replaced = mark })) false

kept_most : fits (kept_at 255 true) true
unfolding control_fit_lem candidate_fit_lem wait_fit_lem in_range of_bits le lt
kept_most = refl

kept_none : fits (kept_at 0 false) false
unfolding control_fit_lem candidate_fit_lem wait_fit_lem in_range of_bits le lt
kept_none = refl
