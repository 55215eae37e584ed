-- What each answer means, by parts of the two lists of samples. Assumes nothing.
use Rattle.std.specs.Prelude.{◌≡◌, List, ◌∷◌, ◌++◌, ℕ, ◌+◌, ◌≤◌, ◌<◌, ℤ, length}
use Rattle.protocol.specs.Refusals.{PaperRefusal, bare, placed, at_line}
use Rattle.sending.specs.Text.{none, in_line, bad_line_lem}
use Rattle.supplier.specs.Check.{Verdict, refused, yes, differs, short, long, ours}

-- "the first sample that differs": all before it are the same, and it has the number k where the first has n
pub record FirstOther (n : ℕ) (ys samples : List ℤ) (k : ℕ) : Type 0 where
  pub before : List ℤ
  pub own : ℤ
  pub other : ℤ
  pub own_later : List ℤ
  pub other_later : List ℤ
  pub ours : ys ≡ before ++ (own ∷ own_later)
  pub theirs : samples ≡ before ++ (other ∷ other_later)
  pub differs : own ≡ other → ⊥
  pub number : k ≡ n + length before

-- "where all present agree": a list goes on after another has ended
pub record GoesOnAfter (front whole : List ℤ) : Type 0 where
  pub next : ℤ
  pub later : List ℤ
  pub parts : whole ≡ front ++ (next ∷ later)

-- of a stretch beside ours, whose first sample has the number n
abbrev pub Means : ℕ → List ℤ → List ℤ → Verdict → Type 0
Means n ys samples (refused why) = ⊥
Means n ys samples yes = samples ≡ ys
Means n ys samples (differs k) = FirstOther n ys samples k
Means n ys samples short = GoesOnAfter samples ys
Means n ys samples long = GoesOnAfter ys samples

-- no refusal applies
abbrev pub Fine : ℕ → List ℕ → Type 0
Fine padding text = (padding ≤ 122400) × (bad_line_lem text ≡ none)

-- "8, a padding count above 122,400; 17, a bad frame line, with its number"; "Where several apply, the smallest number is given."
abbrev pub RefusedFor : ℕ → List ℕ → PaperRefusal → Type 0
RefusedFor padding text (bare n) = (n ≡ 8) × (122400 < padding)
RefusedFor padding text (placed n k) = ⊥
RefusedFor padding text (at_line n line) = (n ≡ 17) × ((padding ≤ 122400) × (bad_line_lem text ≡ in_line line))

-- what each answer to a check means
abbrev pub Checks : ℕ → List ℕ → List ℤ → Verdict → Type 0
Checks padding text samples (refused why) = RefusedFor padding text why
Checks padding text samples yes = Fine padding text × Means 1 (ours padding text) samples yes
Checks padding text samples (differs k) = Fine padding text × Means 1 (ours padding text) samples (differs k)
Checks padding text samples short = Fine padding text × Means 1 (ours padding text) samples short
Checks padding text samples long = Fine padding text × Means 1 (ours padding text) samples long
