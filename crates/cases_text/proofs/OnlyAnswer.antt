-- Each function's promise fixes its answer. That there is one is what the function's own proof shows. Assumes nothing.
use mathlib.Core.Path.{◌≡◌}
use mathlib.Core.Bool.{Bool}
use mathlib.Core.List.{List}
use Prim.Native.Nat.{ℕ}
use lib.IntN.{ℤ}
use lib.Ieee.{Float}
use Rattle.numbers.proofs.Answer.{same_answer}
use Rattle.cases_text.specs.Places.{BeginsSays, WordSays, CellSays}
use Rattle.cases_text.specs.Numbers.{DecimalSays, HexadecimalSays, FloatSays, SameFloatSays, SampleSays}
use Rattle.cases_text.specs.Behind.{PlaceBehindSays, NamesSays, CountBehindSays, FloatBehindSays}
use Rattle.cases_text.proofs.Words.{same_test}

pub begins_only_answer : (word : List ℕ) (letter : ℕ) (r s : Bool) → BeginsSays word letter r → BeginsSays word letter s → r ≡ s
begins_only_answer word letter r s = same_answer

pub word_only_answer : (line : List ℕ) (k : ℕ) (r s : List ℕ) → WordSays line k r → WordSays line k s → r ≡ s
word_only_answer line k r s = same_answer

pub cell_only_answer : (line : List ℕ) (k : ℕ) (r s : List ℕ) → CellSays line k r → CellSays line k s → r ≡ s
cell_only_answer line k r s = same_answer

pub place_behind_only_answer : (words name : List ℕ) (r s : ℕ) → PlaceBehindSays words name r → PlaceBehindSays words name s → r ≡ s
place_behind_only_answer words name r s = same_answer

pub names_only_answer : (words name : List ℕ) (r s : Bool) → NamesSays words name r → NamesSays words name s → r ≡ s
names_only_answer words name r s = same_answer

pub count_behind_only_answer : (words name : List ℕ) (own r s : ℕ) → CountBehindSays words name own r → CountBehindSays words name own s → r ≡ s
count_behind_only_answer words name own r s = same_answer

pub float_behind_only_answer : (words name : List ℕ) (own r s : Float) → FloatBehindSays words name own r → FloatBehindSays words name own s → r ≡ s
float_behind_only_answer words name own r s = same_answer

pub decimal_only_answer : (word : List ℕ) (r s : ℕ) → DecimalSays word r → DecimalSays word s → r ≡ s
decimal_only_answer word r s = same_answer

pub hexadecimal_only_answer : (word : List ℕ) (r s : ℕ) → HexadecimalSays word r → HexadecimalSays word s → r ≡ s
hexadecimal_only_answer word r s = same_answer

pub float_only_answer : (word : List ℕ) (r s : Float) → FloatSays word r → FloatSays word s → r ≡ s
float_only_answer word r s = same_answer

pub same_float_only_answer : (a b : Float) (r s : Bool) → SameFloatSays a b r → SameFloatSays a b s → r ≡ s
same_float_only_answer a b r s p q = same_test r s p.0 p.1 q.0 q.1

pub sample_only_answer : (word : List ℕ) (r s : ℤ) → SampleSays word r → SampleSays word s → r ≡ s
sample_only_answer word r s = same_answer
