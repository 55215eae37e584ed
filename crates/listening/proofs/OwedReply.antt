-- By the rules, who listens owes no reply between samples, so each sample goes in until the count is at its end. Assumes nothing.
use Rattle.std.specs.Prelude.{Some, None, Option}
use mathlib.Core.Path.{◌≡◌, refl, sym, ap, ◌∙◌}
use mathlib.Core.Bool.{Bool, true, false, not, cond, true≢false}
use mathlib.Core.List.{List, [], ◌∷◌, ◌++◌, map}
use Prim.Native.Nat.{ℕ, ◌+◌, ◌^◌, ◌≤◌, ◌<◌}
use native.Mathlib.Omega.{arith}
use borrow.Author.Tests.{ne_eqb}
use lib.Dec.{ltb, eqb}
use lib.IntN.{ℤ}
use lib.ListN.{length}
use lib.Ieee.{Float}
use Rattle.machine.specs.Runs.{run, answers, Each}
use Rattle.shaping.specs.Rate.{Rate}
use Rattle.search.specs.declared.Waiting.{Waiting}
use Rattle.search.specs.declared.Control.{Control}
use Rattle.search.specs.declared.Turn.{Turn}
use Rattle.search.specs.declared.Turn.TheVariants.{Rest}
use Rattle.search.specs.declared.Reply.{Reply}
use Rattle.search.specs.declared.Reply.TheVariants.{Accepted, Rejected}
use Rattle.search.specs.TakenBurst.{TakenBurst, held_in}
use Rattle.search.specs.Turn.{Outcome, quiet, offer, counted, freed, owing, due_turn, waited_turn, comes_to, control_of, sampled, replied as settledBy}
use Rattle.search.proofs.AgeInPass.{by_test, searched_owed}
use Rattle.demodulator.specs.Spans.{eight}
use Rattle.demodulator.specs.Calls.{is_refusal}
use Rattle.demodulator.specs.Singles.{sample, reply, blank, Said}
use Rattle.demodulator_run.specs.Filter.{ago}
use Rattle.demodulator_run.specs.Rules.{History, After, start, settled, given, answered, single}
use Rattle.demodulator_run.proofs.Count.{sampled_count, replied_count}
use Rattle.listening.specs.Listener.{Rule, listed_of, listed_in, reply_to, calls_at, listener}
use Rattle.listening.specs.Rules.{rules_at}

-- ---- what is owed, through a search and a sample
module _ (p : ℕ) (v : ℕ → Float) where
  -- a reply is owed by an offer, and by nothing else
  Owes : Outcome → Type 0
  Owes (quiet c) = c.owed ≡ false
  Owes (offer shown c) = c.owed ≡ true

  pick_owes : (b : Bool) (x y : Turn) → Owes (comes_to p v x) → Owes (comes_to p v y) → Owes (comes_to p v (cond b x y))
  pick_owes true x y u w = u
  pick_owes false x y u w = w

  due_owes : (o : Option TakenBurst) (w : Waiting) (c : Control) → c.owed ≡ false → Owes (comes_to p v (due_turn o w c))
  unfolding due_turn Owes
  due_owes None w c e = searched_owed p v c ∙ e
  due_owes (Some t) w c e = refl

  waited_owes : (wait : Option Waiting) (c : Control) → c.owed ≡ false → Owes (comes_to p v (waited_turn wait c))
  unfolding waited_turn Owes
  waited_owes None c e = searched_owed p v c ∙ e
  waited_owes (Some w) c e = pick_owes (ltb 1 w.left) (Rest _) (due_turn (held_in c.candidate) w (freed c)) e (due_owes (held_in c.candidate) w (freed c) e)

  sampled_owes : (c : Control) → c.owed ≡ false → Owes (sampled p v c)
  unfolding sampled
  sampled_owes c e = waited_owes c.wait (counted c) e

  replied_owes : (r : Reply) (c : Control) → (settledBy p v r c).owed ≡ false
  unfolding settledBy
  replied_owes Accepted c = refl
  replied_owes Rejected c = searched_owed p v (owing false c)

-- ---- between samples
abbrev pub NotRefused : Said → Type 0
NotRefused a = is_refusal a.answer ≡ false

pub record Between (h : History) (n : ℕ) : Type 0 where
  pub owed : h.control.owed ≡ false
  pub count : h.control.sample ≡ n

-- ---- at any rate, and by any rule of reply
module _ (R : Rate) (rule : Rule) where
  between_replied : (h : History) (r : Reply) (n : ℕ) → h.control.owed ≡ true → h.control.sample ≡ n → Between ((rules_at R).next h (reply r)) n
  unfolding single answered
  between_replied h r n e s =
      by_test (λ (a : After). Between a.history n) (not h.control.owed) _ _
      (λ t. absurd (true≢false (sym t ∙ ap not e)))
      (λ t. record { owed = replied_owes R.p _ r h.control; count = replied_count R.p _ r h.control ∙ s })

  -- what a sample comes to, and the reply to its offer
  abbrev Onward : ℕ → After → Type 0
  Onward n a = (is_refusal a.said.answer ≡ false) × Between (run (rules_at R) a.history (map reply_to (listed_in rule a.said))) n

  settled_onward : (v : ℕ → Float) (n : ℕ) (xs : List ℤ) (room : List Float) (o : Outcome) → Owes R.p v o → (control_of o).sample ≡ n → Onward n (settled R.taps R.p xs room o)
  unfolding settled listed_of run Owes
  settled_onward v n xs room (quiet c) e s = (refl, record { owed = e; count = s })
  settled_onward v n xs room (offer shown c) e s = (refl, between_replied (record { samples = xs; control = c }) (rule shown.kind _) n e s)

  roomy : ltb (length blank) 192 ≡ false
  unfolding blank
  roomy = refl

  -- a sample below the end of the count
  onward : (h : History) (x : ℤ) (n : ℕ) → Between h n → n < 2 ^ 63 → Onward (n + 1) (single R.taps R.p h (sample x blank))
  unfolding single given
  onward h x n b l =
      let xs : List ℤ = h.samples ++ (x ∷ []) in
      let v : ℕ → Float = eight R.p (ago R.taps R.p xs) in
      by_test (Onward (n + 1)) h.control.owed _ _ (λ t. absurd (true≢false (sym t ∙ b.owed)))
      (λ _. by_test (Onward (n + 1)) (ltb (length blank) 192) _ _ (λ t. absurd (true≢false (sym t ∙ roomy)))
      (λ _. by_test (Onward (n + 1)) (eqb h.control.sample (2 ^ 63)) _ _ (λ t. absurd (true≢false (sym t ∙ ne_eqb h.control.sample (2 ^ 63) (λ same. omega (arith, b.count)))))
      (λ _. settled_onward v (n + 1) xs blank (sampled R.p v h.control) (sampled_owes R.p v h.control b.owed) (sampled_count R.p v h.control ∙ ap (λ (k : ℕ). k + 1) b.count))))

  -- ---- a list of samples
  pub untroubled : (xs : List ℤ) (h : History) (n : ℕ) → Between h n → n + length xs ≤ 2 ^ 63 → Each NotRefused (answers (listener (rules_at R) rule) h xs) × Between (run (listener (rules_at R) rule) h xs) (n + length xs)
  unfolding run answers Each
  untroubled [] h n b l = let same : n + 0 ≡ n = omega arith in (tt, rw same b)
  untroubled (x ∷ xs) h n b l =
      let here = onward h x n b (omega arith) in
      let rest = untroubled xs (run (rules_at R) h (calls_at (rules_at R) rule h x)) (n + 1) here.1 (omega arith) in
      let same : n + length (x ∷ xs) ≡ n + 1 + length xs = omega arith in
      ((here.0, rest.0), rw same rest.1)

pub between_start : Between start 0
between_start = record { owed = refl; count = refl }
