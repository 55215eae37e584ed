-- A stretch of samples by the rules: the definition that `feed` cites, of the rules over all calls. Assumes nothing.
use Rattle.std.specs.Prelude.{List, [], ◌∷◌, ℕ, ℤ, Float}
use Rattle.std.specs.Int.{w16}
use Rattle.std.proofs.Common.{SFits}
use Rattle.demodulator.specs.Calls.{Paper, nothing}
use Rattle.demodulator.specs.Feed.{Stretch, fed}
use Rattle.demodulator_run.specs.Rules.{sample, History, single}

-- what a caller can give: each sample is an i16's value
unfoldable pub Sixteen : List ℤ → Type 0
Sixteen [] = Unit {0}
Sixteen (x ∷ xs) = SFits w16 x × Sixteen xs

module _ (table : List Float) (p : ℕ) where
  abbrev pub sample_said : History → ℤ → List Float → Paper
  sample_said h x room = (single table p h (sample x room)).said.answer

  abbrev pub sample_next : History → ℤ → List Float → History
  sample_next h x room = (single table p h (sample x room)).history

  abbrev pub sample_room : History → ℤ → List Float → List Float
  sample_room h x room = (single table p h (sample x room)).said.room

  -- the rules have no unfit record
  abbrev pub stretched : History → List ℤ → List Float → Stretch History
  stretched = fed History sample_said sample_next sample_room (λ (h : History). nothing)
