-- Document 01, 'The two programs': bytes as samples, whatever sizes the reads come in. Assumes nothing.
use Rattle.std.specs.Prelude.{List, [], ◌∷◌, ℕ, ℤ, Option, Some, None}
use Rattle.house.specs.Samples.{sample_of}

-- "Receive reads i16 samples, low byte first": "A last odd byte is dropped."
unfoldable pub samples_of : List ℕ → List ℤ
samples_of [] = []
samples_of (b ∷ []) = []
samples_of (low ∷ high ∷ rest) = sample_of low high ∷ samples_of rest

-- until the input ends it waits for its second
unfoldable pub odd_of : List ℕ → Option ℕ
odd_of [] = None
odd_of (b ∷ []) = Some b
odd_of (low ∷ high ∷ rest) = odd_of rest

abbrev pub waiting : Option ℕ → List ℕ
waiting None = []
waiting (Some b) = b ∷ []
