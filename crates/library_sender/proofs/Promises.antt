-- An export's promise, from what the call on the record promises. Assumes nothing.
use mathlib.Core.Path.{◌≡◌, refl, sym, ap, ◌∙◌}
use mathlib.Core.Logic.{⊎_elim}
use mathlib.Core.Bool.{Bool, true, false, cond}
use mathlib.Core.List.{List}
use Prim.Native.Nat.{ℕ, ◌≤◌, ◌<◌}
use native.Mathlib.Omega.{arith}
use borrow.Author.Tests.{le-leb, lt-leb, eq-eqb, ne_eqb}
use lib.Dec.{leb}
use lib.IntN.{ℤ}
use lib.ListN.{get_or}
use Rattle.shaping.specs.Rate.{rate_fit}
use Rattle.shaping.proofs.RateFacts.{two_rates}
use Rattle.modulator.specs.Paper.{Paper}
use Rattle.library_sender.specs.Layout.{flags_fit, numbers_code}
use Rattle.library_sender.specs.Memory.{Memory, laid_out, paper_code, tells, room_lent, coded_as, Export, left_in, code_of, memory_next, memory_says}
use Rattle.library_sender.specs.Exports.{Says}

-- ---- the numbers of a sender
pub known_rate : (n : List ℕ) → numbers_code n ≡ 0 → rate_fit (get_or n 0 0) ≡ true
unfolding numbers_code
known_rate n good = go (rate_fit (get_or n 0 0)) (flags_fit n) good
  where
    go : (s t : Bool) → ◌≡◌ {A = ℕ} (cond s (cond t 0 101) 115) 0 → s ≡ true
    go true t good = refl
    go false t good = absurd (omega arith)

pub rate_small : (n : List ℕ) → numbers_code n ≡ 0 → get_or n 0 0 ≤ 48000
rate_small n good = ⊎_elim (λ (k : get_or n 0 0 ≡ 48000). omega arith) (λ (k : get_or n 0 0 ≡ 24000). omega arith) (two_rates (get_or n 0 0) (known_rate n good))

pub code_by_tests : (n : List ℕ) (s t : Bool) → rate_fit (get_or n 0 0) ≡ s → flags_fit n ≡ t → cond s (cond t 0 101) 115 ≡ numbers_code n
unfolding numbers_code
code_by_tests n s t e f = rw (e, f)

numbers_refused : (n : List ℕ) → (numbers_code n ≡ 0 → ⊥) → 100 ≤ numbers_code n
unfolding numbers_code
numbers_refused n wrong = go (rate_fit (get_or n 0 0)) (flags_fit n) wrong
  where
    go : (s t : Bool) → (◌≡◌ {A = ℕ} (cond s (cond t 0 101) 115) 0 → ⊥) → 100 ≤ cond s (cond t 0 101) 115
    go true true w = absurd (w refl)
    go true false w = omega arith
    go false t w = omega arith

module _ (m : Memory) (e : Export) where
  -- ---- the code
  pub code_answered : numbers_code m.numbers ≡ 0 → code_of m e ≡ paper_code (left_in m e).answer
  unfolding code_of
  code_answered good = rw (eq-eqb (numbers_code m.numbers) 0 good)

  code_numbers : (numbers_code m.numbers ≡ 0 → ⊥) → code_of m e ≡ numbers_code m.numbers
  unfolding code_of
  code_numbers wrong = rw (ne_eqb (numbers_code m.numbers) 0 wrong)

  -- ---- a call that is refused, and one that is not
  module _ (code : ℕ) (is : code ≡ code_of m e) where
    pub refused : 100 ≤ code → (room : List ℤ) → room ≡ room_lent e.call → Says m e (coded_as code room e.told) m
    unfolding memory_says memory_next
    refused big room kept =
        let large : leb 100 (code_of m e) ≡ true = ap (leb 100) (sym is) ∙ le-leb 100 code big in
        record { answers = rw large (λ i. coded_as (is i) (kept i) e.told); leaves = rw large refl }

    pub moved : code < 100 → (room : List ℤ) → room ≡ (left_in m e).room → (now : ℕ) → now ≡ tells (left_in m e).answer e.told
        → (after : Memory) → after ≡ laid_out (left_in m e).modulator → Says m e (coded_as code room now) after
    unfolding memory_says memory_next
    moved less room writes now tell after laid =
        let small : leb 100 (code_of m e) ≡ false = ap (leb 100) (sym is) ∙ lt-leb 100 code less in
        record { answers = rw small (λ i. coded_as (is i) (writes i) (tell i)); leaves = rw small laid }

  -- ---- by what `check_numbers` says
  module _ (wrong : ℕ) (checked : wrong ≡ numbers_code m.numbers) where
    pub no_sender : (wrong ≡ 0 → ⊥) → Says m e (coded_as wrong (room_lent e.call) e.told) m
    no_sender none =
        let other : numbers_code m.numbers ≡ 0 → ⊥ = λ z. none (checked ∙ z) in
        refused wrong (checked ∙ sym (code_numbers other)) (rw checked (numbers_refused m.numbers other)) (room_lent e.call) refl

    pub answered : wrong ≡ 0 → (a : Paper) → a ≡ (left_in m e).answer → (code : ℕ) → code ≡ paper_code a → code ≡ code_of m e
    answered good a said code coded = coded ∙ ap paper_code said ∙ sym (code_answered (sym checked ∙ good))
