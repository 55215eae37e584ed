-- Bytes in pairs: where a list of bytes is cut makes no difference, if the byte that is left over goes before the rest. Assumes nothing.
use Rattle.std.specs.Prelude.{Option, Some, None}
use mathlib.Core.Path.{◌≡◌, refl, sym, ap, ◌∙◌}
use mathlib.Core.List.{List, [], ◌∷◌, ◌++◌, append_assoc, append-nil}
use Prim.Native.Nat.{ℕ, zero, suc, ◌+◌, ◌-◌, ◌*◌, ◌/◌, ◌≤◌, ◌<◌}
use native.Mathlib.Omega.{arith}
use native.Mathlib.Numerals.{add-one}
use lib.Dec.{lit≤}
use lib.IntN.{ℤ}
use lib.ListN.{length, get_or, take, drop, set, length-drop, length-set}
use lib.Seq.{drop-cons, drop-drop, take-suc-set, get_or-take, get_or-drop}
use Rattle.std.proofs.Common.{Some}
use Rattle.std.specs.List.{slice_get}
use Rattle.std.specs.Simd.{first_chunks}
use Rattle.house.specs.Samples.{sample_of}
use Rattle.receiving.specs.declared.pairs.Paired.{Paired}
use Rattle.receiving.specs.Pairs.{samples_of, odd_of, waiting}
use Rattle.receiving.specs.Parts.{PairsWhole, PairsUp}
use Rattle.receiving.proofs.Lines.{tail, tail_is, tail_back}

-- ---- a cut
pub samples_joined : (xs ys : List ℕ) → samples_of (xs ++ ys) ≡ samples_of xs ++ samples_of (waiting (odd_of xs) ++ ys)
unfolding samples_of odd_of
samples_joined [] ys = refl
samples_joined (b ∷ []) ys = refl
samples_joined (low ∷ high ∷ xs) ys = ap (λ (l : List ℤ). sample_of low high ∷ l) (samples_joined xs ys)

pub odd_joined : (xs ys : List ℕ) → odd_of (xs ++ ys) ≡ odd_of (waiting (odd_of xs) ++ ys)
unfolding odd_of
odd_joined [] ys = refl
odd_joined (b ∷ []) ys = refl
odd_joined (low ∷ high ∷ xs) ys = odd_joined xs ys

-- ---- a byte that waits alone
pub no_samples : (odd : Option ℕ) → samples_of (waiting odd ++ []) ≡ []
unfolding samples_of
no_samples None = refl
no_samples (Some b) = refl

pub odd_alone : (odd : Option ℕ) → odd_of (waiting odd ++ []) ≡ odd
unfolding odd_of
odd_alone None = refl
odd_alone (Some b) = refl

pub one_waits : (odd : Option ℕ) → length (waiting odd) ≤ 1
one_waits None = lit≤ tt
one_waits (Some b) = lit≤ tt

pub nothing_more : (odd : Option ℕ) (bytes : List ℕ) (room : List ℤ) → length bytes ≡ 0
    → PairsUp odd bytes room (record { count = 0; odd = odd }) room
nothing_more odd [] room none = record { same_room = refl; count = omega arith; samples = sym (no_samples odd); left_over = sym (odd_alone odd) }
nothing_more odd (b ∷ bytes) room none = absurd (omega arith)

-- ---- whole samples: where the pairing stands after i of them
pub record PairsSoFar (bytes : List ℕ) (room samples : List ℤ) (i : ℕ) : Type 0 where
  pub same_room : length samples ≡ length room
  pub so_far : take i samples ++ samples_of (drop (2 * i) bytes) ≡ samples_of bytes
  pub left_over : odd_of (drop (2 * i) bytes) ≡ odd_of bytes

module _ (bytes : List ℕ) (room : List ℤ) where
  pub pairs_start : PairsSoFar bytes room room 0
  pairs_start = record { same_room = refl; so_far = refl; left_over = refl }

  module _ (samples : List ℤ) (i : ℕ) (p : PairsSoFar bytes room samples i) where
    pub pairs_more : 2 * i + 1 < length bytes → i < length room
        → PairsSoFar bytes room (set samples i (sample_of (get_or bytes (2 * i) 0) (get_or bytes (2 * i + 1) 0))) (i + 1)
    unfolding samples_of odd_of
    pairs_more more fits =
        let low : ℕ = get_or bytes (2 * i) 0 in
        let high : ℕ = get_or bytes (2 * i + 1) 0 in
        let x : ℤ = sample_of low high in
        let rest : List ℕ = drop (2 * (i + 1)) bytes in
        let two : suc (2 * i + 1) ≡ 2 * (i + 1) = omega arith in
        let second : drop (2 * i + 1) bytes ≡ high ∷ rest = drop-cons bytes (2 * i + 1) 0 more ∙ ap (λ (k : ℕ). high ∷ drop k bytes) two in
        let next : drop (2 * i) bytes ≡ low ∷ high ∷ rest =
        drop-cons bytes (2 * i) 0 (omega arith) ∙ ap (λ (l : List ℕ). low ∷ l) (ap (λ (k : ℕ). drop k bytes) (sym (add-one (2 * i))) ∙ second) in
        let longer : take (i + 1) (set samples i x) ≡ take i samples ++ (x ∷ []) =
        rw (add-one i) (take-suc-set samples i x (omega (arith, p.same_room))) in
        record {
          same_room = simp length-set p.same_room;
          so_far = ap (λ (l : List ℤ). l ++ samples_of rest) longer
              ∙ append_assoc (take i samples) (x ∷ []) (samples_of rest)
              ∙ ap (λ (l : List ℕ). take i samples ++ samples_of l) (sym next)
              ∙ p.so_far;
          left_over = ap odd_of (sym next) ∙ p.left_over;
        }

    -- where no byte is left, or one
    pub pairs_end : i ≤ length room → (odd : Option ℕ) → drop (2 * i) bytes ≡ waiting odd ++ []
        → PairsWhole bytes room (record { count = i; odd = odd }) samples
    pairs_end fits odd end = record {
      same_room = p.same_room;
      count = fits;
      samples =
          sym (append-nil (take i samples))
          ∙ ap (λ (l : List ℤ). take i samples ++ l) (sym (ap samples_of end ∙ no_samples odd))
          ∙ p.so_far;
      left_over = sym (odd_alone odd) ∙ sym (ap odd_of end) ∙ p.left_over;
    }

-- ---- the pairs as the code cuts them, and the byte after them
pair_of : (k i : ℕ) (xs : List ℕ) → i < k → get_or (first_chunks 2 k xs) i [] ≡ take 2 (drop (2 * i) xs)
pair_of zero i xs h = absurd (omega arith)
pair_of (suc k) zero xs h = refl
pair_of (suc k) (suc i) xs h =
    let more : 2 + 2 * i ≡ 2 * suc i = omega arith in
    pair_of k i (drop 2 xs) (omega arith) ∙ ap (take 2) (drop-drop (2 * i) 2 xs ∙ ap (λ (m : ℕ). drop m xs) more)

module _ (pairs : List (List ℕ)) (bytes : List ℕ) (i : ℕ) (cut : pairs ≡ first_chunks 2 (length bytes / 2) bytes) (within : i < length bytes / 2) where
  pair_at : get_or pairs i [] ≡ take 2 (drop (2 * i) bytes)
  pair_at = ap (λ (l : List (List ℕ)). get_or l i []) cut ∙ pair_of (length bytes / 2) i bytes within

  pub low_read : get_or (get_or pairs i []) 0 0 ≡ get_or bytes (2 * i) 0
  low_read =
      let here : 2 * i + 0 ≡ 2 * i = omega arith in
      ap (λ (l : List ℕ). get_or l 0 0) pair_at ∙ get_or-take 2 (drop (2 * i) bytes) 0 0 (omega arith) ∙ get_or-drop (2 * i) bytes 0 0 ∙ ap (λ (k : ℕ). get_or bytes k 0) here

  pub high_read : get_or (get_or pairs i []) 1 0 ≡ get_or bytes (2 * i + 1) 0
  high_read = ap (λ (l : List ℕ). get_or l 1 0) pair_at ∙ get_or-take 2 (drop (2 * i) bytes) 1 0 (omega arith) ∙ get_or-drop (2 * i) bytes 1 0

pub one_kept : (rest : List ℕ) (b : ℕ) → length rest ≤ 1 → Some b ≡ slice_get rest 0 → rest ≡ b ∷ []
one_kept [] b few e = cc
one_kept (x ∷ []) b few e = cc
one_kept (x ∷ y ∷ rest) b few e = absurd (omega arith)

-- ---- a byte that waits: with the first byte it is sample x, and whole samples follow
module _ (bytes : List ℕ) (room : List ℤ) (x : ℤ) (some : 1 ≤ length bytes) (fits : length bytes ≤ 2 * length room) where
  pub room_left : 1 ≤ length (set room 0 x)
  room_left = simp length-set (omega arith)

  pub tail_fits : length (tail bytes 1) ≤ 2 * length (tail (set room 0 x) 1) + 1
  tail_fits = rw (tail_is bytes 1, tail_is (set room 0 x) 1) (simp (length-drop, length-set) (omega arith))

first_known : (low : ℕ) (bytes : List ℕ) (room part : List ℤ) (r : Paired) → 1 ≤ length bytes → 1 ≤ length room
    → PairsWhole (drop 1 bytes) (drop 1 (set room 0 (sample_of low (get_or bytes 0 0)))) r part
    → PairsUp (Some low) bytes room (record { count = r.count + 1; odd = r.odd }) (take 1 (set room 0 (sample_of low (get_or bytes 0 0))) ++ part)
unfolding samples_of odd_of
first_known low [] room part r some fits p = absurd (omega arith)
first_known low (b ∷ bytes) [] part r some fits p = absurd (omega arith)
first_known low (b ∷ bytes) (y ∷ room) part r some fits p = record {
  same_room = ap suc p.same_room;
  count = omega (arith, p.count);
  samples = rw (add-one r.count) (ap (λ (l : List ℤ). sample_of low b ∷ l) p.samples);
  left_over = p.left_over;
}

pub pairs_held : (low : ℕ) (bytes : List ℕ) (room part : List ℤ) (r : Paired) (x : ℤ) → x ≡ sample_of low (get_or bytes 0 0)
    → 1 ≤ length bytes → length bytes ≤ 2 * length room → PairsWhole (tail bytes 1) (tail (set room 0 x) 1) r part
    → PairsUp (Some low) bytes room (record { count = r.count + 1; odd = r.odd })
    (take 1 (set room 0 x) ++ (part ++ drop (length (set room 0 x) - 1) (drop 1 (set room 0 x))))
pairs_held low bytes room part r x e some fits p =
    let q : PairsWhole (drop 1 bytes) (drop 1 (set room 0 x)) r part = rw (tail_is bytes 1, tail_is (set room 0 x) 1) at p in
    rw (tail_back (set room 0 x) 1 part, e) (first_known low bytes room part r some (omega arith) (rw e at q))
