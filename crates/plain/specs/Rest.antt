-- What is left of the list by the rules, once a sample is searched. Assumes nothing.
use Rattle.std.specs.Prelude.{◌≡◌, Bool, true, false, cond, List, [], ◌∷◌, ℕ, ◌+◌, ◌≤◌, ltb, ℤ, length, take, drop, Float, Some, None, Option}
use Rattle.numbers.specs.Firsts.{firsts}
use Rattle.search.specs.declared.Candidate.{Candidate}
use Rattle.search.specs.declared.Candidate.TheVariants.{Nothing}
use Rattle.search.specs.declared.Waiting.{Waiting}
use Rattle.search.specs.declared.Reply.{Reply}
use Rattle.search.specs.declared.Reply.TheVariants.{Accepted, Rejected}
use Rattle.search.specs.TakenBurst.{TakenBurst, shown_of}
use Rattle.search.specs.Search.{rank}
use Rattle.search.specs.Turn.{cleared}
use Rattle.demodulator.specs.declared.Offer.{Offer}
use Rattle.demodulator.specs.Calls.{offer_of}
use Rattle.demodulator.specs.Spans.{symbol_at}
use Rattle.demodulator_run.specs.Rules.{single_rules}
use Rattle.plain.specs.declared.due.Due.{Due}
use Rattle.plain.specs.List.{Entry, list_from}
use Rattle.plain.specs.Values.{from_whole}
use Rattle.plain.specs.SearchPart.{searched_by}

-- a reply as it is lent
abbrev pub reply_of : Bool → Reply
reply_of true = Accepted
reply_of false = Rejected

-- "Accepted: the sample is finished. Rejected: the search runs for that same sample."
abbrev pub resumes_at : Bool → ℕ → ℕ
resumes_at accepted d = cond accepted (d + 1) d

-- an offer's five numbers: its kind by the order of trial, its sample, where it was taken, its age, its mark
abbrev pub numbers_of_lem : Offer → List ℕ
numbers_of_lem o = rank o.kind ∷ o.sample ∷ o.taken_at ∷ o.age ∷ cond o.replaced 1 0 ∷ []

abbrev pub offer_of_due : Due → Offer
offer_of_due d = offer_of d.shown d.sample

-- ---- the sample at which a wait ends that is set at sample k
abbrev pub due_at : ℕ → ℕ → ℕ
due_at k left = cond (ltb left 2) (k + 1) (k + left)

unfoldable pub due_of : ℕ → ℕ → Waiting → Option TakenBurst → Option Due
due_of k end w None = None
due_of k end w (Some t) =
    cond (ltb end (due_at k w.left)) None (Some (record { shown = shown_of t w.age w.replaced; sample = due_at k w.left }))

module _ (table : List Float) (p : ℕ) (xs : List ℤ) where
  abbrev pub entry_at : Due → Entry
  entry_at d = record { due = offer_of_due d; symbols = firsts (symbol_at p d.shown (from_whole table p xs d.sample)) 192 }

  -- the list once sample k is searched with a candidate held, and no wait; none where the recording has no sample k
  unfoldable pub look_from : ℕ → Candidate → Option ℕ → List Reply → List Entry
  look_from k candidate t rs =
      cond (ltb (length xs) k) []
      (list_from (single_rules table p) (record { samples = take k xs; control = searched_by table p xs k candidate t }) (drop k xs) rs)

  -- the list after an offer at sample d
  unfoldable pub onwards : ℕ → Option ℕ → List Reply → List Entry
  onwards d t [] = []
  onwards d t (Accepted ∷ rs) = look_from (d + 1) Nothing (cleared (d + 1) t) rs
  onwards d t (Rejected ∷ rs) = look_from d Nothing t rs

  pub record FindsDue (from : ℕ) (d : Due) : Type 0 where
    pub within : d.sample ≤ length xs
    pub listed : (t : Option ℕ) → (t' : Option ℕ) × ((rs : List Reply) → look_from from Nothing t rs ≡ entry_at d ∷ onwards d.sample t' rs)

  -- the first frame that falls due from there on, if one does
  unfoldable pub Finds : ℕ → Option Due → Type 0
  Finds from None = (t : Option ℕ) (rs : List Reply) → look_from from Nothing t rs ≡ []
  Finds from (Some d) = FindsDue from d
