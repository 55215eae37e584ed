-- The first sample at which a kind matches: the candidate is taken there. Over every such list of samples, at a rate. Assumes nothing.
use Rattle.std.specs.Prelude.{Option, None}
use mathlib.Core.Path.{◌≡◌, refl, sym, ap, ◌∙◌, subst}
use mathlib.Core.Bool.{false}
use mathlib.Core.List.{List, [], ◌∷◌, ◌++◌}
use Prim.Native.Nat.{ℕ, ◌+◌, ◌^◌, ◌≤◌, ◌<◌}
use native.Mathlib.Omega.{arith}
use lib.IntN.{ℤ}
use lib.ListN.{length, length-append}
use lib.Ieee.Bits.{is_true}
use Rattle.numbers.proofs.Tests.{holds}
use Rattle.machine.specs.Runs.{run}
use Rattle.machine.proofs.Parts.{run_joined}
use Rattle.shaping.specs.Rate.{Rate}
use Rattle.shaping.proofs.RateFacts.{Facts}
use Rattle.protocol.specs.declared.Kind.{Kind}
use Rattle.search.specs.declared.Candidate.TheVariants.{Nothing}
use Rattle.search.specs.declared.Reply.TheVariants.{Accepted}
use Rattle.search.specs.TakenBurst.{held_as}
use Rattle.search.specs.Search.{same_kind}
use Rattle.search.specs.Turn.{Outcome, quiet, offer, counted, sampled}
use Rattle.demodulator_run.specs.Rules.{Single, sample, reply, History, After, start, settled, single, history_all, single_rules}
use Rattle.demodulator_run.specs.Marks.{Mark, First, is_refusal, log_all}
use Rattle.demodulator_run.specs.Demands.{Ear, ear_of, In, taken_at_lem}
use Rattle.demodulator_run.specs.Exact.{ByRules}
use Rattle.demodulator_run.specs.Stretch.{Sixteen}
use Rattle.demodulator_run.proofs.KindOrder.{same_self}
use Rattle.demodulator_run.proofs.Demand.{ear_all, fed_all}
use Rattle.demodulator_run.proofs.DemandAt.{log_exact_at}
use Rattle.demodulator_run.proofs.Pass.{controlled}
use Rattle.demodulator_run.proofs.Worked.{room}
use Rattle.demodulator_examples.proofs.Fed.{fed, fed_split, fed_append, fed_sampled, eight_at, taken_in, next, fed_heard}
use Rattle.demodulator_examples.proofs.Steps.{standing, Hits, none, next_first, quiet_run}

module _ (R : Rate) (F : Facts R) where
  -- ---- an admitted sample
  settled_taken : (xs : List ℤ) (o : Outcome) → is_refusal (settled R.taps R.p xs room o).said.answer ≡ false
  unfolding settled
  settled_taken xs (quiet c) = refl
  settled_taken xs (offer shown c) = refl

  pub is_admitted : (h : History) (x : ℤ) → h.control.owed ≡ false → h.control.sample < 2 ^ 63 → is_refusal (single R.taps R.p h (sample x room)).said.answer ≡ false
  is_admitted h x o l = ap (λ (a : After). is_refusal a.said.answer) (taken_in R h x o l) ∙ settled_taken (h.samples ++ (x ∷ [])) (sampled R.p (eight_at R (h.samples ++ (x ∷ []))) h.control)

  -- one sample more
  pub one_more : (xs : List ℤ) (x : ℤ) → history_all R.taps R.p (fed (xs ++ (x ∷ []))) ≡ next R (history_all R.taps R.p (fed xs)) x
  unfolding run fed
  one_more xs x = ap (run (single_rules R.taps R.p) start) (fed_append xs (x ∷ [])) ∙ run_joined (single_rules R.taps R.p) (fed xs) (fed (x ∷ [])) start

  -- ---- a run
  module _ (all : List ℤ) (small : Sixteen all) (few : length all ≤ 2 ^ 63) where
    abbrev pub calls : List Single
    calls = fed all

    pub heard_all : (history_all R.taps R.p calls).samples ≡ all
    heard_all = fed_heard R all start refl (omega arith)

    pub ear_all_lem : ear_of R.taps R.p all ≡ ear_all R.taps R.p calls
    ear_all_lem = ap (ear_of R.taps R.p) (sym heard_all)

    pub fed_all_lem : fed_all R.taps R.p calls ≡ length all
    fed_all_lem = ap length heard_all

    -- a mark that the rules make at the sample after xs
    pub marked_after : (y : Mark) (xs : List ℤ) (x : ℤ) (more : List ℤ) → all ≡ xs ++ (x ∷ more) → (h : History) → history_all R.taps R.p (fed xs) ≡ h → h.control.owed ≡ false → h.control.sample < 2 ^ 63
        → ByRules (ear_of R.taps R.p all) y h (sample x room) → In y (log_all R.taps R.p calls)
    marked_after y xs x more part h e o l r =
        (log_exact_at R F calls (fed_sampled all small) y).1 (record {
          before = fed xs;
          call = sample x room;
          after = reply Accepted ∷ fed more;
          split = ap fed part ∙ fed_split xs x more;
          admitted = subst (λ (g : History). is_refusal (single R.taps R.p g (sample x room)).said.answer ≡ false) (sym e) (is_admitted h x o l);
          rules = subst (λ (g : History). ByRules (ear_all R.taps R.p calls) y g (sample x room)) (sym e) (subst (λ (ear : Ear). ByRules ear y h (sample x room)) ear_all_lem r);
        })

  -- ---- samples, one more at which a kind matches for the first time, and what comes then: the candidate is taken there
  module _ (n : ℕ) (front : List ℤ) (x : ℤ) (more : List ℤ) (long : length front ≡ n) (small : Sixteen (front ++ (x ∷ more))) (few : length (front ++ (x ∷ more)) ≤ 2 ^ 63)
      (silent : (m : ℕ) → m ≤ n → Hits (ear_of R.taps R.p (front ++ (x ∷ more)) m) none) (k : Kind) (first : Hits (ear_of R.taps R.p (front ++ (x ∷ more)) (n + 1)) (same_kind k)) where
    counts : n < 2 ^ 63
    counts = let e = length-append front (x ∷ more) in omega arith

    before_take : (t : Option ℕ) × (history_all R.taps R.p (fed front) ≡ standing front Nothing None t n)
    before_take =
        let (t, e) = quiet_run R (front ++ (x ∷ more)) front [] (x ∷ more) None 0 refl refl (omega (arith, counts)) (λ m a b. silent m (omega arith)) in
        let count : 0 + length front ≡ n = omega arith in
        (t, e ∙ ap (standing front Nothing None t) count)

    pub after_take : (t : Option ℕ) × (history_all R.taps R.p (fed (front ++ (x ∷ []))) ≡ standing (front ++ (x ∷ [])) (held_as (taken_at_lem (ear_of R.taps R.p (front ++ (x ∷ more))) k (n + 1))) None t (n + 1))
    after_take =
        let (t, e) = before_take in
        let (u, f) = next_first R (front ++ (x ∷ more)) front x more n long refl counts t k first in
        (u, one_more front x ∙ ap (λ (h : History). next R h x) e ∙ f)

    pub takes : In (First (n + 1) k) (log_all R.taps R.p (fed (front ++ (x ∷ more))))
    takes =
        let (t, e) = before_take in
        marked_after (front ++ (x ∷ more)) small few (First (n + 1) k) front x more refl (standing front Nothing None t n) e refl counts
        (counted (controlled Nothing None t false n), (refl, refl), (refl, refl, holds (first k ∙ is_true (same_kind k k) (same_self k))))
