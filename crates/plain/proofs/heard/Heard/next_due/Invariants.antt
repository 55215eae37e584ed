-- `next_due` meets its contract: what is left of the list from the first sample on is what is left of it from sample k on. Assumes nothing.
use Rattle.std.specs.Prelude.{Option}
use mathlib.Core.Path.{◌≡◌}
use mathlib.Core.List.{List}
use Prim.Native.Nat.{ℕ}
use lib.IntN.{ℤ}
use lib.Ieee.{Float}
use Rattle.search.specs.declared.Candidate.{Candidate}
use Rattle.search.specs.declared.Candidate.TheVariants.{Nothing}
use Rattle.search.specs.declared.Reply.{Reply}
use Rattle.plain.specs.Rest.{look_from}
use Rattle.plain.proofs.heard.Heard.next_due.Given as goal

abbrev Leads : List Float → ℕ → List ℤ → ℕ → ℕ → Candidate → Type 0
Leads table p xs from k candidate = (t : Option ℕ) → (t' : Option ℕ) × ((rs : List Reply) → look_from table p xs from Nothing t rs ≡ look_from table p xs k candidate t' rs)

abbrev pub invariant-loop-k : goal.invariant-loop-k
invariant-loop-k l = Leads l.self.table.now l.self.p l.self.recording.now l.from l.k l.candidate
