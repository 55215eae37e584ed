-- What holds of the offer that a sample brings, holds of each offer of a list of samples. By the rules, at any rate. Assumes nothing.
use mathlib.Core.Path.{◌≡◌, refl, sym, ap, ◌∙◌, subst}
use mathlib.Core.List.{List, [], ◌∷◌, ◌++◌, flat_map}
use Prim.Native.Nat.{ℕ, ◌+◌, ◌^◌, ◌≤◌, ◌<◌}
use native.Mathlib.Omega.{arith}
use lib.Dec.{ltb, eqb}
use lib.IntN.{ℤ}
use lib.ListN.{length}
use lib.Ieee.{Float}
use Rattle.machine.specs.Runs.{run, answers, Each}
use Rattle.machine.proofs.Parts.{each_joined}
use Rattle.shaping.specs.Rate.{Rate}
use Rattle.search.specs.declared.Control.{Control}
use Rattle.search.specs.declared.Shown.{Shown}
use Rattle.search.specs.Turn.{Outcome, quiet, offer, control_of, sampled}
use Rattle.search.proofs.AgeInPass.{by_test}
use Rattle.demodulator.specs.Spans.{eight}
use Rattle.demodulator.specs.Calls.{offer_of}
use Rattle.demodulator.specs.Singles.{sample, blank}
use Rattle.demodulator_run.specs.Filter.{ago}
use Rattle.demodulator_run.specs.Rules.{History, After, settled, given, single}
use Rattle.demodulator_run.proofs.Count.{sampled_count}
use Rattle.listening.specs.Listener.{Rule, Listed, listed_of, listed_in, calls_at, offers}
use Rattle.listening.specs.Rules.{rules_at}
use Rattle.listening.proofs.OwedReply.{Between, untroubled}

-- one sample more
pub next_between : (R : Rate) (rule : Rule) (k : History) (x : ℤ) (n : ℕ) → Between k n → n < 2 ^ 63
    → Between (run (rules_at R) k (calls_at (rules_at R) rule k x)) (n + 1)
unfolding run
next_between R rule k x n b l = (untroubled R rule (x ∷ []) k n b (omega arith)).1

-- ---- the offer that a sample brings, by what the sample comes to
module _ (R : Rate) (rule : Rule) (P : Listed → Type 0) (h : History) (x : ℤ) where
  abbrev xs : List ℤ
  xs = h.samples ++ (x ∷ [])

  abbrev comes : Outcome
  comes = sampled R.p (eight R.p (ago R.taps R.p (h.samples ++ (x ∷ [])))) h.control

  abbrev Here : After → Type 0
  Here a = Each P (listed_in rule a.said)

  abbrev Brings : Type 0
  Brings =
      (shown : Shown) (c : Control) → comes ≡ offer shown c → c.sample ≡ h.control.sample + 1 → (symbols : List Float)
      → P (record { due = offer_of shown c.sample; symbols = symbols; reply = rule shown.kind symbols })

  -- it is at that sample
  at_sample : (shown : Shown) (c : Control) → comes ≡ offer shown c → c.sample ≡ h.control.sample + 1
  at_sample shown c e =
      sym (ap (λ (o : Outcome). (control_of o).sample) e) ∙ sampled_count R.p (eight R.p (ago R.taps R.p (h.samples ++ (x ∷ [])))) h.control

  settled_here : Brings → (o : Outcome) → comes ≡ o → Here (settled R.taps R.p xs blank o)
  unfolding settled listed_of Each
  settled_here brings (quiet c) e = tt
  settled_here brings (offer shown c) e = (brings shown c e (at_sample shown c e) _, tt)

  pub offer_here : Brings → Here (single R.taps R.p h (sample x blank))
  unfolding single given listed_of Each
  offer_here brings =
      by_test Here h.control.owed _ _ (λ _. tt)
      (λ _. by_test Here (ltb (length blank) 192) _ _ (λ _. tt)
      (λ _. by_test Here (eqb h.control.sample (2 ^ 63)) _ _ (λ _. tt)
      (λ _. settled_here brings comes refl)))

-- ---- a list of samples: P n holds of offers up to sample n, and Keeps is what a good sample keeps
module _ (R : Rate) (rule : Rule) (Keeps : History → Type 0) (Good : ℤ → Type 0) (P : ℕ → Listed → Type 0)
    (next : (h : History) (x : ℤ) → Good x → Keeps h → Keeps (run (rules_at R) h (calls_at (rules_at R) rule h x)))
    (here : (h : History) (x : ℤ) → Keeps h → Each (P (h.control.sample + 1)) (listed_in rule ((rules_at R).says h (sample x blank))))
    (later : (n k : ℕ) → n ≤ k → (o : Listed) → P n o → P k o) where
  all_later : (n k : ℕ) → n ≤ k → (os : List Listed) → Each (P n) os → Each (P k) os
  unfolding Each
  all_later n k l [] e = tt
  all_later n k l (o ∷ os) e = (later n k l o e.0, all_later n k l os e.1)

  pub each_offer : (ys : List ℤ) → Each Good ys → (h : History) → Keeps h → (n : ℕ) → Between h n → n + length ys ≤ 2 ^ 63
      → Each (P (n + length ys)) (offers (rules_at R) rule h ys)
  unfolding answers flat_map Each
  each_offer [] g h keeps n b l = tt
  each_offer (x ∷ ys) g h keeps n b l =
      let c = b.count in
      let after : History = run (rules_at R) h (calls_at (rules_at R) rule h x) in
      let same : n + 1 + length ys ≡ n + length (x ∷ ys) = omega arith in
      each_joined (P (n + length (x ∷ ys))) (listed_in rule ((rules_at R).says h (sample x blank))) (offers (rules_at R) rule after ys)
      (all_later (h.control.sample + 1) (n + length (x ∷ ys)) (omega arith) (listed_in rule ((rules_at R).says h (sample x blank))) (here h x keeps))
      (subst (λ (k : ℕ). Each (P k) (offers (rules_at R) rule after ys)) same
      (each_offer ys g.1 after (next h x g.0 keeps) (n + 1) (next_between R rule h x n b (omega arith)) (omega arith)))
