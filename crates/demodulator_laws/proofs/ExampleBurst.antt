-- Candidates and waits for instances. A candidate taken at sample 1, of any kind and age, with given values, or with diff 0, gain 16 and shift 0, which are fit. Assumes nothing.
use mathlib.Core.Bool.{false}
use Prim.Native.Nat.{ℕ}
use lib.Ieee.{binary32, of_bits}
use Rattle.protocol.specs.declared.Kind.{Kind}
use Rattle.decode.specs.declared.Correlation.{Correlation}
use Rattle.search.specs.declared.Candidate.{Candidate}
use Rattle.search.specs.declared.Waiting.{Waiting}
use Rattle.search.specs.TakenBurst.{TakenBurst, held_as, taken, at_age}

abbrev pub burst_at : Kind → ℕ → Correlation → TakenBurst
burst_at kind age m = at_age age (taken kind m 1)

abbrev pub held_at : Kind → ℕ → Candidate
held_at kind age = held_as (burst_at kind age (record { diff = of_bits binary32 0; gain = of_bits binary32 0x4180_0000; shift = of_bits binary32 0 }))

-- a wait that was set at age 1, and not marked
abbrev pub wait_of : ℕ → Waiting
wait_of left = record { left = left; age = 1; replaced = false }
