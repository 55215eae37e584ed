-- The four kinds in the order of the search, and what at most one match at a sample comes to. Assumes nothing.
use mathlib.Core.Path.{◌≡◌, refl, subst}
use mathlib.Core.Logic.{◌⊎◌, inl, inr}
use mathlib.Core.Bool.{Bool, true, false, not}
use Prim.Native.Nat.{ℕ, ◌≤◌, ◌<◌}
use native.Mathlib.Omega.{arith}
use lib.Dec.{T, lit<, lit≤}
use lib.Ieee.{Float}
use Rattle.numbers.proofs.Tests.{holds}
use Rattle.protocol.specs.declared.Kind.{Kind}
use Rattle.protocol.specs.declared.Kind.TheVariants.{Lsf, Bert, Stream, Packet}
use Rattle.protocol.specs.declared.SyncBurst.TheVariants.{Frame}
use Rattle.decode.specs.Correlator.{matches}
use Rattle.search.specs.Search.{rank, same_kind}

-- how kind j is listed against kind k
pub data Place : Type 0 where
  Before Level After : Place

abbrev pub place : Kind → Kind → Place
place Lsf Lsf = Level
place Lsf Bert = Before
place Lsf Stream = Before
place Lsf Packet = Before
place Bert Lsf = After
place Bert Bert = Level
place Bert Stream = Before
place Bert Packet = Before
place Stream Lsf = After
place Stream Bert = After
place Stream Stream = Level
place Stream Packet = Before
place Packet Lsf = After
place Packet Bert = After
place Packet Stream = After
place Packet Packet = Level

abbrev pub Placed : Place → Kind → Kind → Type 0
Placed Before j k = rank j < rank k
Placed Level j k = j ≡ k
Placed After j k = rank k < rank j

pub placed : (j k : Kind) → Placed (place j k) j k
placed Lsf Lsf = refl
placed Lsf Bert = lit< tt
placed Lsf Stream = lit< tt
placed Lsf Packet = lit< tt
placed Bert Lsf = lit< tt
placed Bert Bert = refl
placed Bert Stream = lit< tt
placed Bert Packet = lit< tt
placed Stream Lsf = lit< tt
placed Stream Bert = lit< tt
placed Stream Stream = refl
placed Stream Packet = lit< tt
placed Packet Lsf = lit< tt
placed Packet Bert = lit< tt
placed Packet Stream = lit< tt
placed Packet Packet = refl

pub rank_only : (j k : Kind) → rank j ≡ rank k → j ≡ k
rank_only j k e = go (place j k) (placed j k)
  where
    go : (o : Place) → Placed o j k → j ≡ k
    go Before r = absurd (omega arith)
    go Level r = r
    go After r = absurd (omega arith)

-- how many kinds are listed before k: so often can it be switched away from without a wait
pub rank_most : (k : Kind) → rank k ≤ 3
rank_most Lsf = lit≤ tt
rank_most Bert = lit≤ tt
rank_most Stream = lit≤ tt
rank_most Packet = lit≤ tt

pub same_self : (k : Kind) → T (same_kind k k)
same_self Lsf = tt
same_self Bert = tt
same_self Stream = tt
same_self Packet = tt

pub same→≡ : (j k : Kind) → T (same_kind j k) → j ≡ k
same→≡ Lsf Lsf t = refl
same→≡ Lsf Bert t = absurd t
same→≡ Lsf Stream t = absurd t
same→≡ Lsf Packet t = absurd t
same→≡ Bert Lsf t = absurd t
same→≡ Bert Bert t = refl
same→≡ Bert Stream t = absurd t
same→≡ Bert Packet t = absurd t
same→≡ Stream Lsf t = absurd t
same→≡ Stream Bert t = absurd t
same→≡ Stream Stream t = refl
same→≡ Stream Packet t = absurd t
same→≡ Packet Lsf t = absurd t
same→≡ Packet Bert t = absurd t
same→≡ Packet Stream t = absurd t
same→≡ Packet Packet t = refl

-- ---- tests
pub iff→≡ : (a b : Bool) → (T a → T b) → (T b → T a) → a ≡ b
iff→≡ true true f g = refl
iff→≡ true false f g = absurd (f tt)
iff→≡ false true f g = absurd (g tt)
iff→≡ false false f g = refl

pub no→⊥ : {b : Bool} → b ≡ false → T b → ⊥
no→⊥ {b} e t = subst T e t

pub T-clash : (b : Bool) → T b → T (not b) → ⊥
T-clash true t n = n
T-clash false t n = t

-- ---- one hearing: none of the kinds matches, or one alone does
module _ (v : ℕ → Float) (alone : (j k : Kind) → T (matches (Frame j) v) → T (matches (Frame k) v) → j ≡ k) where
  abbrev pub NoneHeard : Type 0
  NoneHeard = (k : Kind) → matches (Frame k) v ≡ false

  abbrev pub OneHeard : Kind → Type 0
  OneHeard j = (k : Kind) → matches (Frame k) v ≡ same_kind j k

  one_heard : (j : Kind) → T (matches (Frame j) v) → OneHeard j
  one_heard j t k =
      iff→≡ (matches (Frame k) v) (same_kind j k) (λ (m : T (matches (Frame k) v)). subst (λ (i : Kind). T (same_kind j i)) (alone j k t m) (same_self j))
      (λ (s : T (same_kind j k)). subst (λ (i : Kind). T (matches (Frame i) v)) (same→≡ j k s) t)

  pub heard : NoneHeard ⊎ ((j : Kind) × OneHeard j)
  heard = go (matches (Frame Lsf) v) refl (matches (Frame Bert) v) refl (matches (Frame Stream) v) refl (matches (Frame Packet) v) refl
    where
      go : (b0 : Bool) → matches (Frame Lsf) v ≡ b0 → (b1 : Bool) → matches (Frame Bert) v ≡ b1 → (b2 : Bool) → matches (Frame Stream) v ≡ b2 → (b3 : Bool)
          → matches (Frame Packet) v ≡ b3 → NoneHeard ⊎ ((j : Kind) × OneHeard j)
      go true e0 b1 e1 b2 e2 b3 e3 = inr (Lsf, one_heard Lsf (holds e0))
      go false e0 true e1 b2 e2 b3 e3 = inr (Bert, one_heard Bert (holds e1))
      go false e0 false e1 true e2 b3 e3 = inr (Stream, one_heard Stream (holds e2))
      go false e0 false e1 false e2 true e3 = inr (Packet, one_heard Packet (holds e3))
      go false e0 false e1 false e2 false e3 = inl λ k. elim k as (λ (i : Kind). matches (Frame i) v ≡ false) [ Lsf ↦ e0 | Bert ↦ e1 | Stream ↦ e2 | Packet ↦ e3 ]
