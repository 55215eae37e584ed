-- What is heard in a run, read from a table of its first filtered values: so that each is worked out once. Assumes nothing.
use mathlib.Core.Path.{◌≡◌, refl, sym, ap, ◌∙◌}
use mathlib.Core.Bool.{Bool, true, false, not, cond, ◌&&◌}
use mathlib.Core.List.{List, [], ◌∷◌, ◌++◌}
use Prim.Native.Nat.{ℕ, zero, suc, ◌+◌, ◌-◌, ◌*◌, ◌^◌, ◌≤◌}
use native.Mathlib.Omega.{arith}
use lib.Dec.{T, ltb, ltb→lt}
use lib.IntN.{ℤ, pos}
use lib.ListN.{length, get_or, replicate, length-replicate, replicate-append-replicate}
use lib.Seq.{take_at}
use lib.Signed.{mag}
use lib.Ieee.{Float}
use lib.Ieee.Fits.{and_l, and_r}
use mir.Syntax.{w16}
use mir.Val.{hbits}
use Rattle.numbers.specs.Sum.{nought}
use Rattle.numbers.specs.Firsts.{firsts}
use Rattle.numbers.specs.Below.{all_below}
use Rattle.numbers.proofs.Firsts.{firsts_at}
use Rattle.numbers.proofs.Below.{all_below_lem}
use Rattle.shaping.specs.Rate.{Rate}
use Rattle.shaping.proofs.RateFacts.{Facts}
use Rattle.protocol.specs.declared.Kind.{Kind}
use Rattle.protocol.specs.declared.Kind.TheVariants.{Lsf, Bert, Stream, Packet}
use Rattle.protocol.specs.declared.SyncBurst.TheVariants.{Frame}
use Rattle.decode.specs.Correlator.{correlation, matches}
use Rattle.decode.proofs.Same.{correlation_same, matches_same}
use Rattle.demodulator_run.specs.Filter.{filtered}
use Rattle.demodulator_run.specs.Demands.{ear_of, at}
use Rattle.demodulator_run.specs.Stretch.{Sixteen}
use Rattle.demodulator_run.proofs.EarLaws.{filtered_taken}
use Rattle.demodulator_run.proofs.Sixteen.{taps_size}
use Rattle.demodulator_examples.proofs.Steps.{Hits, none}

-- ---- zeros, and i16s
unfoldable pub pause : ℕ → List ℤ
pause n = replicate n (pos 0)

pub pause_split : (m n : ℕ) → pause (m + n) ≡ pause m ++ pause n
unfolding pause
pause_split m n = sym (replicate-append-replicate m n (pos 0))

pub pause_suc : (n : ℕ) → pause (suc n) ≡ pos 0 ∷ pause n
unfolding pause
pause_suc n = refl

pub pause_length : (n : ℕ) → length (pause n) ≡ n
unfolding pause
pause_length n = length-replicate n (pos 0)

unfoldable pub all_sixteen : List ℤ → Bool
all_sixteen [] = true
all_sixteen (x ∷ xs) = ltb (mag x) (2 ^ hbits w16) && all_sixteen xs

pub sixteen_test : (xs : List ℤ) → T (all_sixteen xs) → Sixteen xs
unfolding all_sixteen Sixteen
sixteen_test [] t = tt
sixteen_test (x ∷ xs) t =
    let b = ltb (mag x) (2 ^ hbits w16) in
    (record { sfits = ltb→lt (mag x) (2 ^ hbits w16) (and_l b (all_sixteen xs) t) }, sixteen_test xs (and_r b (all_sixteen xs) t))

pub sixteen_pause : (n : ℕ) → Sixteen (pause n)
unfolding pause Sixteen
sixteen_pause zero = tt
sixteen_pause (suc n) = (record { sfits = ltb→lt 0 (2 ^ hbits w16) tt }, sixteen_pause n)

module _ (p : ℕ) where
  -- ---- the eight values at sample k, from F(0), F(1), ..
  abbrev pub listed : List Float → ℕ → ℕ → Float
  listed table k i = get_or table (k - p * (7 - i)) nought

  -- ---- which kinds match there
  abbrev level : Bool → Bool → Bool
  level a b = cond a b (not b)

  levelled : (a b : Bool) → T (level a b) → a ≡ b
  levelled true true t = refl
  levelled false false t = refl
  levelled false true t = elim t [ ]
  levelled true false t = elim t [ ]

  abbrev judged : List Float → ℕ → (Kind → Bool) → Kind → Bool
  judged table k hit j = level (matches (Frame j) (listed table k)) (hit j)

  -- those of `hit`, and no others
  unfoldable pub matched : List Float → ℕ → (Kind → Bool) → Bool
  matched table k hit = judged table k hit Lsf && (judged table k hit Bert && (judged table k hit Stream && judged table k hit Packet))

  abbrev pub silent : List Float → ℕ → Bool
  silent table k = matched table k none

  all_four : (m : Kind → Bool) → T (m Lsf && (m Bert && (m Stream && m Packet))) → (k : Kind) → T (m k)
  all_four m t Lsf = and_l (m Lsf) (m Bert && (m Stream && m Packet)) t
  all_four m t Bert = and_l (m Bert) (m Stream && m Packet) (and_r (m Lsf) (m Bert && (m Stream && m Packet)) t)
  all_four m t Stream = and_l (m Stream) (m Packet) (and_r (m Bert) (m Stream && m Packet) (and_r (m Lsf) (m Bert && (m Stream && m Packet)) t))
  all_four m t Packet = and_r (m Stream) (m Packet) (and_r (m Bert) (m Stream && m Packet) (and_r (m Lsf) (m Bert && (m Stream && m Packet)) t))

  pub hits_matched : (table : List Float) (k : ℕ) (hit : Kind → Bool) → T (matched table k hit) → Hits (listed table k) hit
  unfolding matched
  hits_matched table k hit t j = levelled (matches (Frame j) (listed table k)) (hit j) (all_four (judged table k hit) t j)

module _ (R : Rate) (F : Facts R) (all ys more : List ℤ) (part : all ≡ ys ++ more) (n : ℕ) (long : length ys ≡ n) (table : List Float) (tabled : firsts (filtered R.taps R.p ys) (suc n) ≡ table) where
  pub listens : (k : ℕ) → k ≤ n → (i : ℕ) → ear_of R.taps R.p all k i ≡ listed R.p table k i
  listens k l i =
      let m : ℕ = k - R.p * (7 - i) in
      filtered_taken R.taps R.p (taps_size R F) k all m (omega arith)
      ∙ ap (λ (zs : List ℤ). filtered R.taps R.p zs m) part
      ∙ sym (filtered_taken R.taps R.p (taps_size R F) n (ys ++ more) m (omega arith))
      ∙ ap (λ (zs : List ℤ). filtered R.taps R.p zs m) (take_at ys more n long)
      ∙ sym (firsts_at (filtered R.taps R.p ys) (suc n) m nought (omega arith))
      ∙ ap (λ (t : List Float). get_or t m nought) tabled

  pub hits_listed : (k : ℕ) → k ≤ n → (hit : Kind → Bool) → Hits (listed R.p table k) hit → Hits (ear_of R.taps R.p all k) hit
  hits_listed k l hit h j = matches_same (Frame j) (ear_of R.taps R.p all k) (listed R.p table k) (λ i b. listens k l i) ∙ h j

  pub at_listed : (k : ℕ) → k ≤ n → (j : Kind) → at (ear_of R.taps R.p all) j k ≡ correlation (Frame j) (listed R.p table k)
  at_listed k l j = correlation_same (Frame j) (ear_of R.taps R.p all k) (listed R.p table k) (λ i b. listens k l i)

  pub silent_listed : (m : ℕ) → m ≤ n → T (all_below (suc m) (silent R.p table)) → (k : ℕ) → k ≤ m → Hits (ear_of R.taps R.p all k) none
  silent_listed m l t k h = hits_listed k (omega arith) none (hits_matched R.p table k none (all_below_lem (suc m) (silent R.p table) t k (omega arith)))
