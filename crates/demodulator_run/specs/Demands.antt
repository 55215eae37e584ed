-- Demand 3: what is asked of the frames that fall due. Over what is heard at each sample, `ear k i` for the value i of the eight at sample k, and over a log of marks.
-- Assumes nothing.
use Rattle.std.specs.Prelude.{◌≡◌, ◌⊎◌, ◌↔◌, Bool, true, false, not, ℕ, ◌+◌, ◌-◌, ◌*◌, ◌≤◌, ◌<◌, T, ℤ, length, take, Float, None, Option, Some}
use mathlib.Core.List.{List, Memᴰ}
use Rattle.std.specs.Float.Ieee.{lt}
use Rattle.protocol.specs.declared.Kind.{Kind}
use Rattle.protocol.specs.declared.SyncBurst.TheVariants.{Frame}
use Rattle.decode.specs.declared.Correlation.{Correlation}
use Rattle.decode.specs.Correlator.{symbol_of, correlation, matches}
use Rattle.search.specs.declared.Candidate.{Candidate}
use Rattle.search.specs.declared.Control.{Control}
use Rattle.search.specs.declared.Shown.{Shown}
use Rattle.search.specs.TakenBurst.{TakenBurst, held_by, taken, shown_of}
use Rattle.search.specs.Search.{rank, age_of}
use Rattle.demodulator.specs.Spans.{eight, symbol_at}
use Rattle.demodulator_run.specs.Filter.{filtered, ago}
use Rattle.demodulator_run.specs.Marks.{Mark, First, Anew, Failed, FellDue}

-- p, the samples in a symbol: a few, so that an age of p has room in its byte
abbrev pub SymbolSize : ℕ → Type 0
SymbolSize p = (0 < p) × (p ≤ 254)

-- ---- what is heard
abbrev pub Ear : Type 0
Ear = ℕ → ℕ → Float

-- "Correlate at k: the eight values F(k-70), F(k-60), .. F(k)": of the samples up to k
abbrev pub ear_of : List Float → ℕ → List ℤ → Ear
ear_of table p xs k = eight p (λ (j : ℕ). filtered table p (take k xs) (k - j))

module _ (ear : Ear) where
  abbrev pub at : Kind → ℕ → Correlation
  at kind k = correlation (Frame kind) (ear k)

  -- the candidate that the kind takes at sample k
  abbrev pub taken_at_lem : Kind → ℕ → TakenBurst
  taken_at_lem kind k = taken kind (at kind k) k

  -- the kind matches at sample k
  abbrev pub Matches : Kind → ℕ → Type 0
  Matches kind k = T (matches (Frame kind) (ear k))

  abbrev pub Unmatched : Kind → ℕ → Type 0
  Unmatched kind k = T (not (matches (Frame kind) (ear k)))

  -- kind j's diff at sample m is above kind k's at sample n
  abbrev pub Above : Kind → ℕ → Kind → ℕ → Type 0
  Above j m k n = T (lt (at k n).diff (at j m).diff)

  -- at most one kind matches at a sample
  abbrev pub Alone : Type 0
  Alone = (j k : Kind) (n : ℕ) → Matches j n → Matches k n → j ≡ k

  -- "one kind cannot match at k and at k+10"
  abbrev pub NotAgain : ℕ → Type 0
  NotAgain p = (k : Kind) (n : ℕ) → Matches k n → Matches k (n + p) → ⊥

  -- nor can two
  abbrev pub Apart : ℕ → Type 0
  Apart p = (j k : Kind) (n : ℕ) → Matches j n → Matches k (n + p) → ⊥

-- ---- what the log tells
abbrev pub In : Mark → List Mark → Type 0
In y l = Memᴰ y l

-- a candidate was taken at sample n while none was held
abbrev pub Started : List Mark → ℕ → Type 0
Started l n = (k : Kind) × In (First n k) l

-- a candidate of kind k was taken at sample b
abbrev pub Taken : List Mark → ℕ → Kind → Type 0
Taken l b k = In (First b k) l ⊎ ((j : Kind) × In (Anew b j k) l)

-- .. and not in place of an earlier-listed kind, whose own failure on that sample had set the wait
abbrev pub Standing : List Mark → ℕ → Kind → Type 0
Standing l b k = In (First b k) l ⊎ ((j : Kind) × In (Anew b j k) l × (rank k ≤ rank j))

-- at sample n a candidate of kind k was taken while one of another kind, j, was held
abbrev pub Switched : List Mark → ℕ → Kind → Kind → Type 0
Switched l n j k = In (Anew n j k) l × (j ≡ k → ⊥)

-- at sample n the wait was set
abbrev pub WaitSet : List Mark → ℕ → Type 0
WaitSet l n = (k : Kind) × (b : ℕ) × In (Failed n k b) l

-- a frame fell due at sample d
abbrev pub DueAt : List Mark → ℕ → Type 0
DueAt l d = (x : Shown) × In (FellDue d x) l

-- ---- why 1,879
-- "a switch of kind without a wait goes only to an earlier-listed kind": while a wait is held nothing is taken, so it is without one if none is set on that sample
abbrev pub SwitchEarlier : List Mark → Type 0
SwitchEarlier l = (n : ℕ) (j k : Kind) → Switched l n j k → (WaitSet l n → ⊥) → rank k < rank j

-- two candidates: where they differ in kind, the second's is listed earlier
abbrev pub EarlierThan : Option TakenBurst → Option TakenBurst → Type 0
EarlierThan None held = Unit {0}
EarlierThan (Some t) None = Unit {0}
EarlierThan (Some t) (Some u) = (t.kind ≡ u.kind → ⊥) → rank u.kind < rank t.kind

-- the same of the candidates held before a call and after it, where no wait is held before it nor after it
abbrev pub SwitchHeld : Control → Control → Type 0
SwitchHeld c d = c.wait ≡ None → d.wait ≡ None → EarlierThan (held_by c) (held_by d)

-- ---- the span and the age
-- "a candidate taken at n while none was held": once n + hi samples are fed, a frame falls due at some d from n + lo to n + hi
abbrev pub DueWithin : ℕ → ℕ → ℕ → List Mark → Type 0
DueWithin lo hi fed l = (n : ℕ) → Started l n → n + hi ≤ fed → (d : ℕ) × DueAt l d × (n + lo ≤ d) × (d ≤ n + hi)

-- and each due frame comes so from a candidate
abbrev pub FromWithin : ℕ → ℕ → List Mark → Type 0
FromWithin lo hi l = (d : ℕ) → DueAt l d → (n : ℕ) × Started l n × (n + lo ≤ d) × (d ≤ n + hi)

-- over p: from n + (184p - 1) on
abbrev pub DueSpan : ℕ → ℕ → ℕ → List Mark → Type 0
DueSpan p up fed l = DueWithin (184 * p - 1) (up - 1) fed l

abbrev pub DueFrom : ℕ → ℕ → List Mark → Type 0
DueFrom p up l = FromWithin (184 * p - 1) (up - 1) l

-- no two samples from lo to hi have a due frame
abbrev pub AtMostOne : List Mark → ℕ → ℕ → Type 0
AtMostOne l lo hi = (d e : ℕ) → DueAt l d → DueAt l e → lo ≤ d → d ≤ hi → lo ≤ e → e ≤ hi → d ≡ e

abbrev pub DueOnce : ℕ → List Mark → Type 0
DueOnce p l = (n : ℕ) → AtMostOne l (n + (184 * p - 1)) (n + (188 * p - 1))

abbrev pub AgeAtMost : ℕ → Candidate → Type 0
AgeAtMost limit candidate = age_of candidate ≤ limit

-- ---- the due sample
-- "let b be the sample where the candidate whose failure set the wait was last taken"; s is the sample where it failed
pub record Fails (ear : Ear) (l : List Mark) (b : ℕ) (k : Kind) (s : ℕ) : Type 0 where
  pub standing : Standing l b k
  pub later : b < s
  pub matched : (j : ℕ) → b ≤ j → j < s → Matches ear k j
  pub larger : (j : ℕ) → b < j → j < s → Above ear k j k b
  -- nothing was taken between: on no sample between, and on s by no kind whose turn comes first
  pub last : (j : ℕ) (i : Kind) → b < j → j < s → Taken l j i → ⊥
  pub kept : (i : Kind) → rank i < rank k → Taken l s i → ⊥
  pub lost : Unmatched ear k s

-- "if on the sample that set the wait an earlier-listed kind matched with a larger diff"
abbrev pub Corner : Ear → ℕ → Kind → ℕ → Type 0
Corner ear b k s = (j : Kind) × (rank j < rank k) × Matches ear j s × Above ear j s k b

-- "If a later-listed kind replaced the candidate there": it matched, and its diff was not above
abbrev pub Replaces : Ear → ℕ → Kind → ℕ → Kind → Type 0
Replaces ear b k s j = (rank k < rank j) × Matches ear j s × (Above ear j s k b → ⊥)

-- what a due frame shows if its candidate was taken by kind k at sample n, with the age at which the wait was set, and the mark
abbrev pub shown_at : Ear → Kind → ℕ → ℕ → Bool → Shown
shown_at ear k n age replaced = shown_of (taken_at_lem ear k n) age replaced

-- "The frame is due at b+1,840 .. One corner .. it is b+1,839. If a later-listed kind replaced the candidate there, kind, gain and shift are the new one's."
-- Document 02 j): "the offer carries a mark and the new one's sample"
pub record DueBy (ear : Ear) (p : ℕ) (b : ℕ) (k : Kind) (s : ℕ) (d : ℕ) (x : Shown) : Type 0 where
  pub sample : (Corner ear b k s × (d + 1 ≡ b + 184 * p)) ⊎ ((Corner ear b k s → ⊥) × (d ≡ b + 184 * p))
  -- "the wait becomes 1,840 - age", on sample s: its age is what the wait was short of 1,840
  pub waited : x.age ≡ (s + 184 * p) - d
  pub shown : ((j : Kind) × Replaces ear b k s j × (x ≡ shown_at ear j s x.age true)) ⊎ (((j : Kind) → Replaces ear b k s j → ⊥) × (x ≡ shown_at ear k b x.age false))

-- symbol i of the window that is given once xs are the samples is made of F(m)
abbrev pub LiesAt : List Float → ℕ → List ℤ → Shown → ℕ → ℕ → Type 0
LiesAt table p xs x i m = symbol_at p x (ago table p xs) i ≡ symbol_of x.gain x.shift (filtered table p xs m)

-- symbol i of the window of a frame from b, by b: where it lies in the corner, and where else
abbrev pub SymbolLies : Ear → List Float → ℕ → ℕ → (corner plain : ℕ → ℕ) → Type 0
SymbolLies ear table p i corner plain =
    (b : ℕ) (k : Kind) (s d : ℕ) (x : Shown) → DueBy ear p b k s d x → (xs : List ℤ) → length xs ≡ d
    → (Corner ear b k s × LiesAt table p xs x i (corner b)) ⊎ ((Corner ear b k s → ⊥) × LiesAt table p xs x i (plain b))

-- a candidate whose failure makes a frame due at d, showing x
pub record Cause (ear : Ear) (p : ℕ) (l : List Mark) (d : ℕ) (x : Shown) : Type 0 where
  pub b : ℕ
  pub kind : Kind
  pub s : ℕ
  pub fails : Fails ear l b kind s
  pub due : DueBy ear p b kind s d x

-- the frame that a candidate taken at n while none was held leads to: its own candidate was taken from n on, and some kind matched at every sample from n until it failed
abbrev pub DueCause : Ear → ℕ → ℕ → ℕ → List Mark → Type 0
DueCause ear p up fed l =
    (n : ℕ) → Started l n → n + (up - 1) ≤ fed
    → (d : ℕ) × (x : Shown) × In (FellDue d x) l × (C : Cause ear p l d x) × (n ≤ C.b) × ((j : ℕ) → n ≤ j → j < C.s → (k : Kind) × Matches ear k j)

pub record DueRule (ear : Ear) (p : ℕ) (fed : ℕ) (l : List Mark) : Type 0 where
  -- both ways: a frame falls due exactly where there is such a candidate, once fed
  pub exact : (d : ℕ) (x : Shown) → In (FellDue d x) l ↔ ((d ≤ fed) × Cause ear p l d x)
  -- and its failure set the wait
  pub set : (d : ℕ) (x : Shown) → d ≤ fed → (A : Cause ear p l d x) → In (Failed A.s A.kind A.b) l
  -- one candidate alone
  pub only : (d : ℕ) (x y : Shown) → d ≤ fed → (A : Cause ear p l d x) (B : Cause ear p l d y) → (A.b ≡ B.b) × (A.kind ≡ B.kind) × (A.s ≡ B.s) × (x ≡ y)
  -- b, its kind and s leave no choice of d and of what is shown, and always leave one
  pub settled : (b : ℕ) (k : Kind) (s : ℕ) → (d : ℕ) × (x : Shown) × DueBy ear p b k s d x
  pub decided : (b : ℕ) (k : Kind) (s : ℕ) (d e : ℕ) (x y : Shown) → DueBy ear p b k s d x → DueBy ear p b k s e y → (d ≡ e) × (x ≡ y)
