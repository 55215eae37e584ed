-- What a log tells of each frame and of each take, once it is known which candidate is still open; and that a further mark leaves it so. Assumes nothing.
use mathlib.Core.Path.{ap}
use mathlib.Core.Logic.{◌⊎◌, inl, inr}
use mathlib.Core.List.{List}
use Prim.Native.Nat.{ℕ, ◌+◌, ◌*◌, ◌≤◌, ◌<◌}
use native.Mathlib.Omega.{arith}
use Rattle.protocol.specs.declared.Kind.{Kind}
use Rattle.search.specs.declared.Shown.{Shown}
use Rattle.search.specs.Search.{rank}
use Rattle.demodulator_run.specs.Marks.{Mark, Failed, FellDue}
use Rattle.demodulator_run.specs.Demands.{Ear, Matches, In, Started, Taken, Standing, DueAt, Fails, DueBy}
use Rattle.demodulator_run.proofs.Log.{more, sample_of, Starts, Takes, Stands, Shows, takes_at, stands_at}
use Rattle.demodulator_run.proofs.Log.{old, either, started_old, taken_old, standing_old, started_either, taken_either, standing_either, shown_either}

module _ (ear : Ear) (p : ℕ) where
  -- some kind matches at the sample
  abbrev pub SomeMatch : ℕ → Type 0
  SomeMatch j = (k : Kind) × Matches ear k j

  -- a candidate is taken at n while none is held; the last one taken from it, of kind k at b, fails at s; the frame is due at d and shows x
  pub record Episode (l : List Mark) (n b : ℕ) (k : Kind) (s d : ℕ) (x : Shown) : Type 0 where
    pub fails : Fails ear l b k s
    pub due : DueBy ear p b k s d x
    pub started : Started l n
    pub after : n ≤ b
    pub near : b < n + 4 * p
    pub all : (j : ℕ) → n ≤ j → j < s → SomeMatch j
    pub before : s < d
    pub failed : In (Failed s k b) l
    -- no candidate whose failure could set a wait is taken from then until the frame is due
    pub quiet : (j : ℕ) (i : Kind) → Standing l j i → b < j → j < d → ⊥

  -- the frame fell due
  pub record Closed (l : List Mark) (n b : ℕ) (k : Kind) : Type 0 where
    pub s : ℕ
    pub d : ℕ
    pub x : Shown
    pub fell : In (FellDue d x) l
    pub episode : Episode l n b k s d x

  -- the candidate gave way, while no wait was held, to a kind not listed later
  pub record HandedOn (l : List Mark) (b : ℕ) (k : Kind) : Type 0 where
    pub to : ℕ
    pub kind : Kind
    pub later : b < to
    pub taken : Taken l to kind
    pub listed : rank kind ≤ rank k
    pub matched : (j : ℕ) → b ≤ j → j < to → Matches ear k j

  -- `Now`: first takes that have not led to a frame yet; `Here`: the same of standing takes
  pub record Account (l : List Mark) (n : ℕ) (Now : ℕ → Type 0) (Here : ℕ → Kind → Type 0) : Type 0 where
    pub past : (y : Mark) → In y l → sample_of y ≤ n
    pub genuine : (b : ℕ) (k : Kind) → Taken l b k → Matches ear k b
    pub spaced : (d e : ℕ) → DueAt l d → DueAt l e → d < e → d + 184 * p ≤ e + 1
    pub told : (d : ℕ) (x : Shown) → In (FellDue d x) l → (m : ℕ) × (b : ℕ) × (k : Kind) × (s : ℕ) × Episode l m b k s d x
    pub firsts : (m : ℕ) → Started l m → ((b : ℕ) × (k : Kind) × Closed l m b k) ⊎ Now m
    pub fates : (b : ℕ) (k : Kind) → Standing l b k → HandedOn l b k ⊎ (((m : ℕ) × Closed l m b k) ⊎ Here b k)

  -- ---- an episode's bounds
  module _ {l : List Mark} {n b : ℕ} {k : Kind} {s d : ℕ} {x : Shown} (E : Episode l n b k s d x) where
    pub due_low : n + 184 * p ≤ d + 1
    due_low = let a = E.after in elim E.due.sample [ inl u ↦ let e = u.1 in omega arith | inr u ↦ let e = u.1 in omega arith ]

    pub due_top : d ≤ b + 184 * p
    due_top = elim E.due.sample [ inl u ↦ let e = u.1 in omega arith | inr u ↦ let e = u.1 in omega arith ]

    pub due_high : d + 1 ≤ n + 188 * p
    due_high = let a = due_top in let c = E.near in omega arith

  -- ---- a mark more
  module _ (l : List Mark) (y : Mark) where
    pub fails_more : {b : ℕ} {k : Kind} {s : ℕ} → s ≤ sample_of y → ((i : Kind) → rank i < rank k → Takes y s i → ⊥) → Fails ear l b k s → Fails ear (more l y) b k s
    fails_more {b} {k} {s} o none F = record {
      standing = standing_old l y F.standing;
      later = F.later;
      matched = F.matched;
      larger = F.larger;
      last = λ j i u v t. elim (taken_either l y t) [ inl q ↦ F.last j i u v q | inr q ↦ let e = takes_at y j i q in omega arith ];
      kept = λ i u t. elim (taken_either l y t) [ inl q ↦ F.kept i u q | inr q ↦ none i u q ];
      lost = F.lost;
    }

    -- past its failure, an episode is touched by no mark that stands before its frame is due
    pub episode_more : {n b : ℕ} {k : Kind} {s d : ℕ} {x : Shown} → s < sample_of y → ((j : ℕ) (i : Kind) → Stands y j i → j < d → ⊥) → Episode l n b k s d x → Episode (more l y) n b k s d x
    episode_more {s = s} o none E = record {
      fails = fails_more (omega arith) (λ i u t. let e = takes_at y s i t in omega arith) E.fails;
      due = E.due;
      started = started_old l y E.started;
      after = E.after;
      near = E.near;
      all = E.all;
      before = E.before;
      failed = old l y E.failed;
      quiet = λ j i t u v. elim (standing_either l y t) [ inl q ↦ E.quiet j i q u v | inr q ↦ none j i q v ];
    }

    pub handed_more : {b : ℕ} {k : Kind} → HandedOn l b k → HandedOn (more l y) b k
    handed_more H = record { to = H.to; kind = H.kind; later = H.later; taken = taken_old l y H.taken; listed = H.listed; matched = H.matched }

    module _ {n : ℕ} {Now : ℕ → Type 0} {Here : ℕ → Kind → Type 0} (A : Account l n Now Here) (o : n ≤ sample_of y) where
      pub past_more : (z : Mark) → In z (more l y) → sample_of z ≤ sample_of y
      past_more z i = elim (either l y i) [ inl j ↦ let u = A.past z j in omega arith | inr e ↦ omega (arith, ap sample_of e) ]

      -- what is over stays over
      pub over : {m b : ℕ} {k : Kind} {s d : ℕ} {x : Shown} → In (FellDue d x) l → Episode l m b k s d x → Episode (more l y) m b k s d x
      over {d = d} {x = x} i E =
          let u : d ≤ n = A.past (FellDue d x) i in
          let v = E.before in
          episode_more (omega arith) (λ j h t w. let e = stands_at y j h t in omega arith) E

      pub closed_more : {m b : ℕ} {k : Kind} → Closed l m b k → Closed (more l y) m b k
      closed_more C = record { s = C.s; d = C.d; x = C.x; fell = old l y C.fell; episode = over C.fell C.episode }

      pub genuine_more : ((b : ℕ) (k : Kind) → Takes y b k → Matches ear k b) → (b : ℕ) (k : Kind) → Taken (more l y) b k → Matches ear k b
      genuine_more g b k t = elim (taken_either l y t) [ inl q ↦ A.genuine b k q | inr q ↦ g b k q ]

      -- where the new mark is no frame's
      pub account_more : (Now' : ℕ → Type 0) (Here' : ℕ → Kind → Type 0)
          → ((b : ℕ) (k : Kind) → Takes y b k → Matches ear k b)
          → ((d : ℕ) (x : Shown) → Shows y d x → ⊥)
          → ((m : ℕ) → Now m → Now' m)
          → ((m : ℕ) → Starts y m → Now' m)
          → ((b : ℕ) (k : Kind) → Here b k → HandedOn (more l y) b k ⊎ Here' b k)
          → ((b : ℕ) (k : Kind) → Stands y b k → Here' b k)
          → Account (more l y) (sample_of y) Now' Here'
      account_more Now' Here' g plain now starts here stands = record {
        past = past_more;
        genuine = genuine_more g;
        spaced = λ d e i j. A.spaced d e (before d i) (before e j);
        told = λ d x i. elim (shown_either l y x i) [ inl j ↦ let (m, b, k, s, E) = A.told d x j in (m, b, k, s, over j E) | inr q ↦ absurd (plain d x q) ];
        firsts = λ m i. elim (started_either l y i) [
          | inl j ↦ elim (A.firsts m j) [ inl c ↦ inl (c.0, c.1, closed_more c.2) | inr q ↦ inr (now m q) ]
          | inr q ↦ inr (starts m q)
        ];
        fates = λ b k i. elim (standing_either l y i) [
          | inl j ↦ elim (A.fates b k j) [
            | inl h ↦ inl (handed_more h)
            | inr r ↦ elim r [ inl c ↦ inr (inl (c.0, closed_more c.1)) | inr q ↦ elim (here b k q) [ inl h ↦ inl h | inr h ↦ inr (inr h) ] ]
          ]
          | inr q ↦ inr (inr (stands b k q))
        ];
      }
        where
          before : (d : ℕ) → DueAt (more l y) d → DueAt l d
          before d i = let (x, j) = i in elim (shown_either l y x j) [ inl q ↦ (x, q) | inr q ↦ absurd (plain d x q) ]
