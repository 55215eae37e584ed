-- The same 72 samples once more, after 1,900 zeros: from the zeros on the filtered values are those of the first time. Assumes nothing.
use mathlib.Core.Path.{◌≡◌, refl, sym, ap, ◌∙◌}
use mathlib.Core.Logic.{inl, inr}
use mathlib.Core.Bool.{Bool}
use mathlib.Core.List.{List, [], ◌∷◌, ◌++◌, append_assoc}
use Prim.Native.Nat.{ℕ, zero, suc, ◌+◌, ◌-◌, ◌*◌, ◌≤◌, ◌<◌}
use native.Mathlib.Omega.{arith}
use lib.IntN.{ℤ, pos}
use lib.ListN.{length, get_or, length-append, get_or-replicate, get_or-append}
use lib.Seq.{get_or-append-add}
use lib.Ieee.{Float, binary32, of_bits, of_int, add, mul}
use Rattle.numbers.specs.Sum.{nought, sum_to}
use Rattle.numbers.proofs.Tests.{lt_or_le}
use Rattle.numbers.proofs.Firsts.{firsts_at}
use Rattle.shaping.specs.Rate.{at48}
use Rattle.shaping.proofs.RateFacts.{facts48}
use Rattle.shaping.specs.Taps.{taps}
use Rattle.shaping.specs.Sum.{dot}
use Rattle.shaping.proofs.Dot.{dot_same}
use Rattle.protocol.specs.declared.Kind.{Kind}
use Rattle.protocol.specs.declared.SyncBurst.TheVariants.{Frame}
use Rattle.decode.proofs.Same.{matches_same}
use Rattle.demodulator_run.specs.Filter.{sample_no_lem, filtered}
use Rattle.demodulator_run.specs.Demands.{ear_of}
use Rattle.demodulator_run.proofs.EarLaws.{filtered_taken}
use Rattle.demodulator_run.proofs.Sixteen.{taps_size}
use Rattle.demodulator_examples.proofs.Steps.{Hits}
use Rattle.demodulator_examples.proofs.Table.{pause, listed}
use Rattle.demodulator_examples.proofs.Sketch.{Sketch, samples, number, part, long}

pause_zero : (n k : ℕ) → k < n → get_or (pause n) k (pos 0) ≡ pos 0
unfolding pause
pause_zero n k l = get_or-replicate n k (pos 0) (pos 0) l

-- past the first of two lists
get_d_append_right : (us vs : List ℤ) (k : ℕ) → length us ≤ k → get_or (us ++ vs) k (pos 0) ≡ get_or vs (k - length us) (pos 0)
get_d_append_right us vs k l = ap (λ (m : ℕ). get_or (us ++ vs) m (pos 0)) {x = k} {y = length us + (k - length us)} (omega arith) ∙ get_or-append-add us vs (k - length us) (pos 0)

silence : dot taps (λ (i : ℕ). of_int binary32 (pos 0)) ≡ nought
unfolding dot sum_to taps of_bits of_int add mul
silence = refl

module _ (S : Sketch) where
  abbrev pub twice : List ℤ
  twice = samples S ++ samples S

  abbrev pub begun : List ℤ
  begun = S.front ++ (S.x ∷ S.y ∷ pos 0 ∷ [])

  -- ---- the samples
  zeros_at : (k : ℕ) → 72 ≤ k → k < 1972 → get_or twice k (pos 0) ≡ pos 0
  zeros_at k a b =
      let two : length (S.front ++ (S.x ∷ S.y ∷ [])) ≡ 72 = length-append S.front (S.x ∷ S.y ∷ []) ∙ (let s = S.facts.long in omega arith) in
      get_or-append (samples S) (samples S) (pos 0) k (let n = number S in omega arith)
      ∙ ap (λ (l : List ℤ). get_or l k (pos 0)) (sym (append_assoc S.front (S.x ∷ S.y ∷ []) (pause 1900)))
      ∙ get_d_append_right (S.front ++ (S.x ∷ S.y ∷ [])) (pause 1900) k (omega arith)
      ∙ pause_zero 1900 (k - length (S.front ++ (S.x ∷ S.y ∷ []))) (omega arith)

  copy_at : (k : ℕ) → 1972 ≤ k → k < 2045 → get_or twice k (pos 0) ≡ get_or begun (k - 1972) (pos 0)
  copy_at k a b =
      get_d_append_right (samples S) (samples S) k (let n = number S in omega arith)
      ∙ ap (λ (m : ℕ). get_or (samples S) (k - m) (pos 0)) (number S)
      ∙ ap (λ (l : List ℤ). get_or l (k - 1972) (pos 0)) (part S)
      ∙ get_or-append begun (pause 1899) (pos 0) (k - 1972) (let n = long S in omega arith)

  sample_zero : (j : ℕ) → 72 < j → j ≤ 1972 → sample_no_lem twice j ≡ pos 0
  unfolding sample_no_lem
  sample_zero zero a b = refl
  sample_zero (suc k) a b = zeros_at k (omega arith) (omega arith)

  sample_copy : (j i : ℕ) → 1972 < j → j ≤ 2045 → i ≡ j - 1972 → sample_no_lem twice j ≡ sample_no_lem begun i
  unfolding sample_no_lem
  sample_copy zero i a b e = absurd (omega arith)
  sample_copy (suc k) zero a b e = absurd (omega arith)
  sample_copy (suc k) (suc i) a b e = copy_at k (omega arith) (omega arith) ∙ ap (λ (m : ℕ). get_or begun m (pos 0)) {x = k - 1972} {y = i} (omega arith)

  sample_again : (j : ℕ) → 72 < j → j ≤ 2045 → sample_no_lem twice j ≡ sample_no_lem begun (j - 1972)
  sample_again j a b = elim (lt_or_le 1972 j) [
    | inl l ↦ sample_copy j (j - 1972) l b refl
    | inr l ↦ sample_zero j a l ∙ sym (ap (sample_no_lem begun) {x = j - 1972} {y = 0} (omega arith) ∙ before)
  ]
    where
      before : sample_no_lem begun 0 ≡ pos 0
      before = unfold sample_no_lem in refl

  -- ---- F
  still : (m : ℕ) → 153 ≤ m → m ≤ 1972 → filtered taps 10 twice m ≡ nought
  unfolding filtered
  still zero a b = refl
  still (suc k) a b = dot_same taps _ _ (λ i l. ap (of_int binary32) (sample_zero ((suc k + i) - 8 * 10) (omega arith) (let t = (taps_size at48 facts48) in omega arith))) ∙ silence

  moved : (m k : ℕ) → 1972 < m → m ≤ 2045 → k ≡ m - 1972 → filtered taps 10 twice m ≡ filtered taps 10 begun k
  unfolding filtered
  moved zero k a b e = absurd (omega arith)
  moved (suc m) zero a b e = absurd (omega arith)
  moved (suc m) (suc k) a b e =
      dot_same taps _ _ λ i l. ap (of_int binary32)
      (sample_again ((suc m + i) - 8 * 10) (omega arith) (let t = (taps_size at48 facts48) in omega arith)
      ∙ ap (sample_no_lem begun) {x = ((suc m + i) - 8 * 10) - 1972} {y = (suc k + i) - 8 * 10} (omega arith))

  start_value : filtered taps 10 begun 0 ≡ nought
  unfolding filtered
  start_value = refl

  again : (m : ℕ) → 153 ≤ m → m ≤ 2045 → filtered taps 10 twice m ≡ filtered taps 10 begun (m - 1972)
  again m a b = elim (lt_or_le 1972 m) [
    | inl l ↦ moved m (m - 1972) l b refl
    | inr l ↦ still m a l ∙ sym (ap (filtered taps 10 begun) {x = m - 1972} {y = 0} (omega arith) ∙ start_value)
  ]

  -- ---- what is heard
  hears_again : (n : ℕ) → 223 ≤ n → n ≤ 2045 → (i : ℕ) → ear_of taps 10 twice n i ≡ listed 10 S.table (n - 1972) i
  hears_again n a b i =
      filtered_taken taps 10 (taps_size at48 facts48) n twice (n - 10 * (7 - i)) (omega arith)
      ∙ again (n - 10 * (7 - i)) (omega arith) (omega arith)
      ∙ ap (filtered taps 10 begun) {x = (n - 10 * (7 - i)) - 1972} {y = (n - 1972) - 10 * (7 - i)} (omega arith)
      ∙ sym (firsts_at (filtered taps 10 begun) 74 ((n - 1972) - 10 * (7 - i)) nought (omega arith))
      ∙ ap (λ (t : List Float). get_or t ((n - 1972) - 10 * (7 - i)) nought) S.tabled

  pub hits_again : (n : ℕ) → 223 ≤ n → n ≤ 2045 → (hit : Kind → Bool) → Hits (listed 10 S.table (n - 1972)) hit → Hits (ear_of taps 10 twice n) hit
  hits_again n a b hit h j = matches_same (Frame j) (ear_of taps 10 twice n) (listed 10 S.table (n - 1972)) (λ i l. hears_again n a b i) ∙ h j
