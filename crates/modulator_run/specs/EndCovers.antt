-- The number told of an end beside what reads bring after its update, as a caller counts it. At a rate. Assumes nothing.
use Rattle.std.specs.Prelude.{◌≡◌, List, ℕ, ◌+◌, ◌≤◌, T}
use Rattle.machine.specs.Runs.{answers}
use Rattle.shaping.specs.Rate.{Rate}
use Rattle.modulator_run.specs.Rules.{Call}
use Rattle.modulator_run.specs.Run.{sender, record_after}
use Rattle.modulator_run.specs.Kinds.{replaces, none}
use Rattle.modulator_run.specs.Padding.{places_read_lem}
use Rattle.modulator_run.specs.Pieces.{total}

-- the samples that the reads of further calls bring, by their answers
abbrev pub brought : Rate → List Call → List Call → ℕ
brought R cs ds = total (answers sender (record_after R cs) ds)

-- The calls `cs` end with an update of this fill and latency; `ds` are any further calls of which none provides a frame.
pub record Covers (R : Rate) (cs : List Call) (fill latency n : ℕ) : Type 0 where
  pub never_more : (ds : List Call) → T (none replaces ds) → fill + latency + brought R cs ds ≤ n
  -- exactly as many, once the rooms that were read into have the places
  pub exactly : (ds : List Call) → T (none replaces ds) → n ≤ fill + latency + places_read_lem ds → fill + latency + brought R cs ds ≡ n
