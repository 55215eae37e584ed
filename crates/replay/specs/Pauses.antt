-- Document 02 i): "find the last stretch of 4,000 zeros that ends before it". Places count from 0: sample k is at place k - 1. Assumes nothing.
use Rattle.std.specs.Prelude.{◌≡◌, ◌⊎◌, List, ℕ, ◌+◌, ◌≤◌, ◌<◌, ℤ, pos, length, get_or}

-- each sample from one place on and before another is 0
abbrev pub ZeroPlaces : List ℤ → ℕ → ℕ → Type 0
ZeroPlaces xs from end = (k : ℕ) → from ≤ k → k < end → get_or xs k (pos 0) ≡ pos 0

-- the first of a part that is not 0, or the part's end
pub record FirstSound (xs : List ℤ) (from end r : ℕ) : Type 0 where
  pub least : from ≤ r
  pub most : r ≤ end
  pub zeros : ZeroPlaces xs from r
  pub sound : r < end → get_or xs r (pos 0) ≡ pos 0 → ⊥

-- the `span` samples that end with sample e are there and are 0
pub record PauseAt (span : ℕ) (xs : List ℤ) (e : ℕ) : Type 0 where
  pub most : e ≤ length xs
  pub least : span ≤ e
  pub zeros : (k : ℕ) → e ≤ k + span → k < e → get_or xs k (pos 0) ≡ pos 0

-- "the last stretch .. With none, start at the first sample"
pub record LastPause (span : ℕ) (xs : List ℤ) (most r : ℕ) : Type 0 where
  pub within : r ≤ most
  pub there : (r ≡ 0) ⊎ PauseAt span xs r
  pub last : (e : ℕ) → r < e → e ≤ most → PauseAt span xs e → ⊥
