-- A list of calls by its last call, and how such a list is taken apart. Assumes nothing.
use mathlib.Core.Path.{◌≡◌, refl, sym, ap, subst}
use mathlib.Core.Logic.{◌⊎◌, inl, inr}
use mathlib.Core.Bool.{Bool, true, false, not, ◌&&◌}
use mathlib.Core.List.{List, [], ◌∷◌, ◌++◌, append_assoc, append-nil}
use Prim.Native.Nat.{ℕ}
use native.Mathlib.Omega.{arith}
use lib.Dec.{T}
use lib.Ieee.Fits.{and_i, and_l, and_r}
use Rattle.modulator_run.specs.Rules.{Call}
use Rattle.modulator_run.specs.Kinds.{none, Lasting}

-- ---- one more call
-- what holds of the empty list, and of a list with one more call at its end, holds of all
pub by_last : (P : List Call → Type 0) → P [] → ((cs : List Call) (c : Call) → P cs → P (cs ++ c ∷ [])) → (cs : List Call) → P cs
by_last P base step cs = go [] base cs
  where
    go : (front : List Call) → P front → (rest : List Call) → P (front ++ rest)
    go front h [] = rw (append-nil front) h
    go front h (c ∷ rest) = rw append_assoc at (go (front ++ c ∷ []) (step front c h) rest)

-- ---- no call of a kind
module _ (kind : Call → Bool) where
  pub none_more : (cs : List Call) (c : Call) → T (none kind cs) → kind c ≡ false → T (none kind (cs ++ c ∷ []))
  unfolding none
  none_more [] c t e = rw e tt
  none_more (b ∷ cs) c t e =
      let rest : Bool = none kind cs in
      and_i (not (kind b)) (none kind (cs ++ c ∷ [])) (and_l (not (kind b)) rest t) (none_more cs c (and_r (not (kind b)) rest t) e)

  pub none_fewer : (cs : List Call) (c : Call) → T (none kind (cs ++ c ∷ [])) → T (none kind cs) × (kind c ≡ false)
  unfolding none
  none_fewer [] c t = (tt, silent (kind c) t)
    where
      silent : (k : Bool) → T (not k && true) → k ≡ false
      silent true t = absurd t
      silent false t = refl
  none_fewer (b ∷ cs) c t =
      let rest : Bool = none kind (cs ++ c ∷ []) in
      let fewer = none_fewer cs c (and_r (not (kind b)) rest t) in
      (and_i (not (kind b)) (none kind cs) (and_l (not (kind b)) rest t) fewer.0, fewer.1)

  -- no call of a list is of a kind, or one is the last
  pub last_or_none : (cs : List Call) → T (none kind cs) ⊎ Lasting kind kind cs
  unfolding none
  last_or_none [] = inl tt
  last_or_none (c ∷ cs) = elim (last_or_none cs) [
    | inl t ↦ by_test (kind c) refl t
    | inr l ↦ inr (record { before = c ∷ l.before; call = l.call; since = l.since; parts = ap (λ (ds : List Call). c ∷ ds) l.parts; started = l.started; unstopped = l.unstopped })
  ]
    where
      by_test : (k : Bool) → kind c ≡ k → T (none kind cs) → T (not (kind c) && none kind cs) ⊎ Lasting kind kind (c ∷ cs)
      by_test true e t = inr (record { before = []; call = c; since = cs; parts = refl; started = subst T (sym e) tt; unstopped = t })
      by_test false e t = inl (rw e t)

-- ---- taking a list apart
module _ {A : Type 0} where
  pub no_parts : (ys : List A) (a : A) (zs : List A) → [] ≡ ys ++ a ∷ zs → ⊥
  no_parts [] a zs e = let z : ◌≡◌ {A = ℕ} 0 1 = cc in omega arith
  no_parts (y ∷ ys) a zs e = let z : ◌≡◌ {A = ℕ} 0 1 = cc in omega arith

  -- the element is the last, or stands before it
  pub last_parts : (xs : List A) (c : A) (ys : List A) (a : A) (zs : List A) → xs ++ c ∷ [] ≡ ys ++ a ∷ zs
      → ((xs ≡ ys) × (c ≡ a)) ⊎ ((ws : List A) × (xs ≡ ys ++ a ∷ ws))
  last_parts [] c [] a zs e = inl (refl, cc)
  last_parts [] c (y ∷ ys) a zs e = let tail : [] ≡ ys ++ a ∷ zs = cc in absurd (no_parts ys a zs tail)
  last_parts (x ∷ xs) c [] a zs e = let head : x ≡ a = cc in inr (xs, rw head)
  last_parts (x ∷ xs) c (y ∷ ys) a zs e =
      let head : x ≡ y = cc in
      let tail : xs ++ c ∷ [] ≡ ys ++ a ∷ zs = cc in
      elim (last_parts xs c ys a zs tail) [
        | inl (same, last) ↦ inl (rw (head, same), last)
        | inr (ws, parts) ↦ inr (ws, rw (head, parts))
      ]
