-- How many samples go in, by what each is answered with, and what the batch of them comes to. Assumes nothing.
use mathlib.Core.Path.{◌≡◌, refl, sym, ap, ◌∙◌}
use mathlib.Core.Bool.{Bool, true, false, cond, ◌||◌}
use mathlib.Core.List.{List, [], ◌∷◌, ◌++◌, append_assoc, flat_map}
use Prim.Native.Nat.{ℕ, suc, ◌+◌, ◌-◌, ◌*◌, ◌≤◌, ◌<◌}
use native.Mathlib.Omega.{arith}
use native.Mathlib.Numerals.{add-one}
use borrow.Author.Tests.{lt-ltb, le-ltb}
use lib.Dec.{ltb, lit≤}
use lib.IntN.{ℤ}
use lib.ListN.{length, take}
use Rattle.machine.specs.Runs.{Machine, run, answers, Each}
use Rattle.search.proofs.AgeInPass.{by_test}
use Rattle.demodulator.specs.Calls.{Paper, nothing, is_refusal}
use Rattle.demodulator.specs.Singles.{Single, sample, Said, blank}
use Rattle.listening.specs.Listener.{listed_in, calls_at, listener}
use Rattle.listening.specs.Verdict.{verdict}
use Rattle.listening.proofs.OwedReply.{NotRefused}
use Rattle.receiving.specs.Text.{lines_of, text_from, go_in, Batch, batch_of, refusal_in, told_to}
use Rattle.receiving.proofs.Lines.{lines_joined, line_short}

refusal_kept : (a : Paper) → is_refusal (refusal_in a) ≡ is_refusal a
refusal_kept a = by_test (λ (b : Paper). is_refusal b ≡ is_refusal a) (is_refusal a) a nothing (λ _. refl) (λ e. sym e)

none_by : (b : Bool) (rest : ℕ) → cond (b || true) 0 rest ≡ 0
none_by true rest = refl
none_by false rest = refl

at_most_one_more : (b : Bool) (rest n : ℕ) → rest ≤ n → cond b 0 (rest + 1) ≤ n + 1
at_most_one_more true rest n l = omega arith
at_most_one_more false rest n l = omega arith

abbrev line_in : Said → List ℕ
line_in a = lines_of (listed_in verdict a)

pub in_most : (said : List Said) (places : ℕ) → go_in said places ≤ length said
unfolding go_in
in_most [] places = lit≤ tt
in_most (a ∷ said) places =
    let more = at_most_one_more (ltb places 97 || is_refusal a.answer) _ (length said) (in_most said (places - length (line_in a))) in
    omega (arith, more)

-- without room for a line none does
pub cramped_in : (said : List Said) (places : ℕ) → places < 97 → go_in said places ≡ 0
unfolding go_in
cramped_in [] places l = refl
cramped_in (a ∷ said) places l = rw (lt-ltb places 97 l)

-- ---- by what the call is told: a refused one has none, another one at least where there is room
pub told_none : (empty : Paper) (said : List Said) (places : ℕ) → is_refusal (told_to empty said) ≡ true → go_in said places ≡ 0
unfolding go_in told_to
told_none empty [] places e = refl
told_none empty (a ∷ said) places e = let bad : is_refusal a.answer ≡ true = sym (refusal_kept a.answer) ∙ e in rw bad (none_by (ltb places 97) _)

pub told_some : (empty : Paper) (said : List Said) (places : ℕ) → 97 ≤ places → is_refusal (told_to empty said) ≡ false → 1 ≤ length said → 1 ≤ go_in said places
unfolding go_in told_to
told_some empty [] places enough e l = absurd (omega arith)
told_some empty (a ∷ said) places enough e l =
    let fine : is_refusal a.answer ≡ false = sym (refusal_kept a.answer) ∙ e in
    rw (le-ltb places 97 enough, fine) (omega arith)

-- ---- where none is refused
pub told_nothing : (said : List Said) → Each NotRefused said → told_to nothing said ≡ nothing
unfolding told_to Each
told_nothing [] e = refl
told_nothing (a ∷ said) e = rw e.0

-- and there is room for a line of each, all go in
pub all_in : (said : List Said) → Each NotRefused said → (places : ℕ) → 97 * length said ≤ places → go_in said places ≡ length said
unfolding go_in Each
all_in [] e places enough = refl
all_in (a ∷ said) e places enough =
    let later = all_in said e.1 (places - length (line_in a)) (omega (arith, line_short a.answer a.room)) in
    rw (le-ltb places 97 (omega arith), e.0, later) (omega arith)

-- ---- the batch
abbrev pub none : {S : Type 0} → S → Batch S
none s = record { count = 0; text = []; state = s }

abbrev pub ahead : {S : Type 0} → ℕ → List ℕ → Batch S → Batch S
ahead k text b = record { count = k + b.count; text = text ++ b.text; state = b.state }

pub ahead_ahead : {S : Type 0} (j k : ℕ) (front line : List ℕ) (b : Batch S) → ahead j front (ahead k line b) ≡ ahead (j + k) (front ++ line) b
ahead_ahead j k front line b =
    let sum : j + (k + b.count) ≡ j + k + b.count = omega arith in
    λ i. record { count = sum i; text = sym (append_assoc front line b.text) i; state = b.state }

module _ {S : Type 0} (m : Machine S Single Said) (s : S) where
  pub batch_none : (xs : List ℤ) (places : ℕ) → go_in (answers (listener m verdict) s xs) places ≡ 0 → batch_of m s xs places ≡ none s
  unfolding batch_of run answers lines_of flat_map
  batch_none xs places e = rw e refl

  -- a sample that goes in
  pub batch_first : (x : ℤ) (xs : List ℤ) (places : ℕ) → 97 ≤ places → NotRefused (m.says s (sample x blank))
      → let line = line_in (m.says s (sample x blank)) in batch_of m s (x ∷ xs) places ≡ ahead 1 line (batch_of m (run m s (calls_at m verdict s x)) xs (places - length line))
  unfolding batch_of run answers go_in flat_map
  batch_first x xs places enough fine =
      let line : List ℕ = line_in (m.says s (sample x blank)) in
      let n : ℕ = go_in (answers (listener m verdict) (run m s (calls_at m verdict s x)) xs) (places - length line) in
      let more : go_in (answers (listener m verdict) s (x ∷ xs)) places ≡ suc n = rw (le-ltb places 97 enough, fine) (add-one n) in
      let one : suc n ≡ 1 + n = omega arith in
      λ i. record {
        count = (more ∙ one) i;
        text = (ap (λ (k : ℕ). text_from m s (take k (x ∷ xs))) more ∙ lines_joined (listed_in verdict (m.says s (sample x blank))) _) i;
        state = run (listener m verdict) s (take (more i) (x ∷ xs));
      }
