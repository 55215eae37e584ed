-- A log that grows by one mark: what it tells then, and what it told before. Assumes nothing.
use mathlib.Core.Path.{◌≡◌, refl, subst}
use mathlib.Core.Logic.{◌⊎◌, inl, inr}
use mathlib.Core.List.Memᴰ
use mathlib.Core.List.{List, [], ◌∷◌, ◌++◌}
use Prim.Native.Nat.{ℕ, ◌≤◌}
use Rattle.protocol.specs.declared.Kind.{Kind}
use Rattle.search.specs.declared.Shown.{Shown}
use Rattle.search.specs.Search.{rank}
use Rattle.demodulator_run.specs.Marks.{Mark, First, Anew, Failed, FellDue}
use Rattle.demodulator_run.specs.Demands.{In, Started, Taken, Standing}

abbrev pub more : List Mark → Mark → List Mark
more l y = l ++ (y ∷ [])

-- ---- what one mark tells
abbrev pub sample_of : Mark → ℕ
sample_of (First n k) = n
sample_of (Anew n j k) = n
sample_of (Failed n k b) = n
sample_of (FellDue n z) = n

abbrev pub Starts : Mark → ℕ → Type 0
Starts (First n k) m = m ≡ n
Starts (Anew n j k) m = ⊥
Starts (Failed n k b) m = ⊥
Starts (FellDue n z) m = ⊥

abbrev pub Takes : Mark → ℕ → Kind → Type 0
Takes (First n k) b i = (b ≡ n) × (i ≡ k)
Takes (Anew n j k) b i = (b ≡ n) × (i ≡ k)
Takes (Failed n k a) b i = ⊥
Takes (FellDue n z) b i = ⊥

abbrev pub Stands : Mark → ℕ → Kind → Type 0
Stands (First n k) b i = (b ≡ n) × (i ≡ k)
Stands (Anew n j k) b i = (b ≡ n) × (i ≡ k) × (rank k ≤ rank j)
Stands (Failed n k a) b i = ⊥
Stands (FellDue n z) b i = ⊥

abbrev pub Shows : Mark → ℕ → Shown → Type 0
Shows (First n k) d x = ⊥
Shows (Anew n j k) d x = ⊥
Shows (Failed n k b) d x = ⊥
Shows (FellDue n z) d x = (d ≡ n) × (x ≡ z)

pub takes_at : (y : Mark) (b : ℕ) (i : Kind) → Takes y b i → b ≡ sample_of y
takes_at (First n k) b i t = t.0
takes_at (Anew n j k) b i t = t.0
takes_at (Failed n k a) b i t = absurd t
takes_at (FellDue n z) b i t = absurd t

pub stands_at : (y : Mark) (b : ℕ) (i : Kind) → Stands y b i → b ≡ sample_of y
stands_at (First n k) b i t = t.0
stands_at (Anew n j k) b i t = t.0
stands_at (Failed n k a) b i t = absurd t
stands_at (FellDue n z) b i t = absurd t

-- a standing candidate was taken
pub stood : {l : List Mark} {b : ℕ} {k : Kind} → Standing l b k → Taken l b k
stood (inl i) = inl i
stood (inr i) = inr (i.0, i.1)

-- ---- with one mark more
module _ (l : List Mark) (y : Mark) where
  pub old : {x : Mark} → In x l → In x (more l y)
  old i = Memᴰ.append_left (y ∷ []) i

  pub new : In y (more l y)
  new = Memᴰ.append_right l (Memᴰ.head refl)

  pub either : {x : Mark} → In x (more l y) → In x l ⊎ (x ≡ y)
  either i = elim (Memᴰ.append_cases l i) [ inl j ↦ inl j | inr j ↦ inr (Memᴰ.eq_of_singleton j) ]

  pub started_old : {n : ℕ} → Started l n → Started (more l y) n
  started_old i = (i.0, old i.1)

  pub taken_old : {b : ℕ} {k : Kind} → Taken l b k → Taken (more l y) b k
  taken_old (inl i) = inl (old i)
  taken_old (inr i) = inr (i.0, old i.1)

  pub standing_old : {b : ℕ} {k : Kind} → Standing l b k → Standing (more l y) b k
  standing_old (inl i) = inl (old i)
  standing_old (inr i) = inr (i.0, old i.1, i.2)

  pub started_either : {n : ℕ} → Started (more l y) n → Started l n ⊎ Starts y n
  started_either {n} i = elim (either i.1) [ inl j ↦ inl (i.0, j) | inr e ↦ inr (subst (λ (z : Mark). Starts z n) e refl) ]

  pub taken_either : {b : ℕ} {k : Kind} → Taken (more l y) b k → Taken l b k ⊎ Takes y b k
  taken_either {b} {k} (inl i) = elim (either i) [ inl j ↦ inl (inl j) | inr e ↦ inr (subst (λ (z : Mark). Takes z b k) e (refl, refl)) ]
  taken_either {b} {k} (inr i) = elim (either i.1) [ inl j ↦ inl (inr (i.0, j)) | inr e ↦ inr (subst (λ (z : Mark). Takes z b k) e (refl, refl)) ]

  pub standing_either : {b : ℕ} {k : Kind} → Standing (more l y) b k → Standing l b k ⊎ Stands y b k
  standing_either {b} {k} (inl i) = elim (either i) [ inl j ↦ inl (inl j) | inr e ↦ inr (subst (λ (z : Mark). Stands z b k) e (refl, refl)) ]
  standing_either {b} {k} (inr i) = elim (either i.1) [ inl j ↦ inl (inr (i.0, j, i.2)) | inr e ↦ inr (subst (λ (z : Mark). Stands z b k) e (refl, refl, i.2)) ]

  pub shown_either : {d : ℕ} (x : Shown) → In (FellDue d x) (more l y) → In (FellDue d x) l ⊎ Shows y d x
  shown_either {d} x i = elim (either i) [ inl j ↦ inl j | inr e ↦ inr (subst (λ (z : Mark). Shows z d x) e (refl, refl)) ]
