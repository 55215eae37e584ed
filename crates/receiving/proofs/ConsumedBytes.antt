-- The bytes that a call consumes are those of the samples that went in: a call is as one that is given just these. Assumes nothing.
use Rattle.std.specs.Prelude.{Option, Some, None}
use mathlib.Core.Path.{◌≡◌, refl, sym, ap, ◌∙◌}
use mathlib.Core.Logic.{inl, inr}
use mathlib.Core.Bool.{cond}
use mathlib.Core.List.{List, [], ◌∷◌, ◌++◌}
use Prim.Native.Nat.{ℕ, zero, suc, ◌-◌, ◌*◌, ◌≤◌, ◌<◌}
use native.Mathlib.Omega.{arith}
use native.Mathlib.Nat.{eq-zero-or-pos}
use borrow.Author.Tests.{eqb-true, eq-eqb, ne_eqb}
use lib.Dec.{eqb, lit≤}
use lib.IntN.{ℤ}
use lib.ListN.{length, take, length-append}
use lib.Seq.{take_all, take-length}
use Rattle.machine.specs.Runs.{Machine, run, answers}
use Rattle.machine.proofs.Parts.{answers_long}
use Rattle.search.proofs.AgeInPass.{by_test}
use Rattle.demodulator.specs.Calls.{Paper, is_refusal}
use Rattle.demodulator.specs.Singles.{Single, Said}
use Rattle.house.specs.Samples.{sample_of}
use Rattle.listening.specs.Listener.{listener}
use Rattle.listening.specs.Verdict.{verdict}
use Rattle.receiving.specs.Pairs.{samples_of, odd_of, waiting}
use Rattle.receiving.specs.Text.{text_from, go_in, batch_of, told_to}
use Rattle.receiving.specs.Hear.{samples_in_lem, Intake, intake_of}
use Rattle.receiving.proofs.BytePairs.{no_samples, odd_alone}
use Rattle.receiving.proofs.FedCount.{in_most, told_none}

-- ---- the front of a list of bytes, two for each sample
two_more : (n : ℕ) → 2 * suc n ≡ suc (suc (2 * n))
two_more n = omega arith

samples_take : (n : ℕ) (bytes : List ℕ) → samples_of (take (2 * n) bytes) ≡ take n (samples_of bytes)
unfolding samples_of
samples_take zero bytes = refl
samples_take (suc n) [] = rw (two_more n)
samples_take (suc n) (b ∷ []) = rw (two_more n)
samples_take (suc n) (low ∷ high ∷ bytes) = rw (two_more n) (ap (λ (l : List ℤ). sample_of low high ∷ l) (samples_take n bytes))

odd_take : (n : ℕ) (bytes : List ℕ) → n ≤ length (samples_of bytes) → odd_of (take (2 * n) bytes) ≡ None
unfolding samples_of odd_of
odd_take zero bytes l = refl
odd_take (suc n) [] l = absurd (omega arith)
odd_take (suc n) (b ∷ []) l = absurd (omega arith)
odd_take (suc n) (low ∷ high ∷ bytes) l = rw (two_more n) (odd_take n bytes (omega arith))

-- ---- a part of the samples that were given
part_front : (odd : Option ℕ) (bytes : List ℕ) (n : ℕ) → 0 < n → waiting odd ++ take (2 * n - length (waiting odd)) bytes ≡ take (2 * n) (waiting odd ++ bytes)
part_front None bytes n l =
    let same : 2 * n - 0 ≡ 2 * n = omega arith in
    rw same
part_front (Some b) bytes n l =
    let one : 2 * n ≡ suc (2 * n - 1) = omega arith in
    sym (ap (λ (k : ℕ). take k (b ∷ bytes)) one)

module _ (odd : Option ℕ) (bytes : List ℕ) (n : ℕ) where
  abbrev part : List ℕ
  part = waiting odd ++ take (2 * n - length (waiting odd)) bytes

  none_of_it : n ≡ 0 → 2 * n - length (waiting odd) ≡ 0
  none_of_it z = omega arith

  pub part_samples : samples_of part ≡ take n (samples_in_lem odd bytes)
  part_samples =
      elim (eq-zero-or-pos n) [
        | inl z ↦ rw (none_of_it z, z) (no_samples odd)
        | inr p ↦ ap samples_of (part_front odd bytes n p) ∙ samples_take n (waiting odd ++ bytes)
      ]

  pub part_odd : n ≤ length (samples_in_lem odd bytes) → odd_of part ≡ cond (eqb n 0) odd None
  part_odd l =
      elim (eq-zero-or-pos n) [
        | inl z ↦ rw (none_of_it z, eq-eqb n 0 z) (odd_alone odd)
        | inr p ↦ rw (ne_eqb n 0 (λ z. omega arith)) (ap odd_of (part_front odd bytes n p) ∙ odd_take n (waiting odd ++ bytes) l)
      ]

pub samples_long : (bytes : List ℕ) → 2 * length (samples_of bytes) ≤ length bytes
unfolding samples_of
samples_long [] = lit≤ tt
samples_long (b ∷ []) = lit≤ tt
samples_long (low ∷ high ∷ bytes) = omega (arith, samples_long bytes)

-- ---- a call
module _ {S : Type 0} (m : Machine S Single Said) (empty : S → Paper) (s : S) (odd : Option ℕ) (bytes : List ℕ) (places : ℕ) where
  abbrev xs : List ℤ
  xs = samples_in_lem odd bytes

  abbrev said : List Said
  said = answers (listener m verdict) s xs

  abbrev told : Paper
  told = told_to (empty s) said

  abbrev n : ℕ
  n = go_in said places

  abbrev call : Intake S
  call = intake_of m empty s odd bytes places

  pub most : n ≤ length xs
  most = rw (← answers_long (listener m verdict) xs s) (in_most said places)

  pub consumed_most : call.consumed ≤ length bytes
  unfolding intake_of batch_of
  consumed_most =
      by_test (λ (t : ℕ). t ≤ length bytes) (is_refusal told) _ _ (λ _. omega arith)
      (λ _. by_test (λ (t : ℕ). t ≤ length bytes) (eqb n (length xs)) _ _ (λ _. omega arith)
      (λ _. omega (arith, most, samples_long (waiting odd ++ bytes), length-append (waiting odd) bytes)))

  -- the samples of the bytes that it consumes are those that went in
  consumed_samples : samples_in_lem odd (take call.consumed bytes) ≡ take n xs
  unfolding intake_of batch_of
  consumed_samples =
      by_test (λ (t : ℕ). samples_in_lem odd (take t bytes) ≡ take n xs) (is_refusal told) _ _ (λ e. rw (told_none (empty s) said places e) (no_samples odd))
      (λ _. by_test (λ (t : ℕ). samples_in_lem odd (take t bytes) ≡ take n xs) (eqb n (length xs)) _ _
      (λ e. let all : length xs ≤ n = omega (arith, eqb-true n (length xs) e) in rw (take-length bytes) (sym (take_all n xs all)))
      (λ _. part_samples odd bytes n))

  pub consumed_text : call.text ≡ text_from m s (samples_in_lem odd (take call.consumed bytes))
  unfolding intake_of batch_of
  consumed_text = sym (ap (text_from m s) consumed_samples)

  pub consumed_state : call.state ≡ run (listener m verdict) s (samples_in_lem odd (take call.consumed bytes))
  unfolding intake_of batch_of
  consumed_state = sym (ap (run (listener m verdict) s) consumed_samples)

  pub consumed_odd : call.odd ≡ odd_of (waiting odd ++ take call.consumed bytes)
  unfolding intake_of batch_of
  consumed_odd = refl
