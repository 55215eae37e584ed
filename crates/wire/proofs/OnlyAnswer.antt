-- Each function's promise fixes its answer. That there is one is what the function's own proof shows. Assumes nothing.
use mathlib.Core.Path.{◌≡◌}
use mathlib.Core.List.{List}
use Prim.Native.Nat.{ℕ}
use lib.IntN.{ℤ}
use lib.Ieee.{Float}
use Rattle.numbers.proofs.Answer.{same_answer}
use Rattle.wire.specs.Bytes.{NumbersSays, FloatsSays, SamplesSays, PutNumbersSays, PutFloatsSays, PutSamplesSays}

pub numbers_only_answer : (l room r s : List ℕ) → NumbersSays l room r → NumbersSays l room s → r ≡ s
numbers_only_answer l room r s = same_answer

pub floats_only_answer : (l : List ℕ) (room r s : List Float) → FloatsSays l room r → FloatsSays l room s → r ≡ s
floats_only_answer l room r s = same_answer

pub samples_only_answer : (l : List ℕ) (room r s : List ℤ) → SamplesSays l room r → SamplesSays l room s → r ≡ s
samples_only_answer l room r s = same_answer

pub put_numbers_only_answer : (l numbers r s : List ℕ) → PutNumbersSays l numbers r → PutNumbersSays l numbers s → r ≡ s
put_numbers_only_answer l numbers r s = same_answer

pub put_floats_only_answer : (l : List ℕ) (values : List Float) (r s : List ℕ) → PutFloatsSays l values r → PutFloatsSays l values s → r ≡ s
put_floats_only_answer l values r s = same_answer

pub put_samples_only_answer : (l : List ℕ) (samples : List ℤ) (r s : List ℕ) → PutSamplesSays l samples r → PutSamplesSays l samples s → r ≡ s
put_samples_only_answer l samples r s = same_answer
