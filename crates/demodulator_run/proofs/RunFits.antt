-- What the rules keep over a run: a fit control, and a count that is the number of admitted samples. Over p and the table. Assumes nothing.
use mathlib.Core.Path.{◌≡◌, refl, sym, ap, subst, ◌∙◌}
use mathlib.Core.Logic.{◌⊎◌, inl, inr}
use mathlib.Core.Bool.{true, false, not, false≢true}
use mathlib.Core.List.{List, [], ◌∷◌, ◌++◌}
use Prim.Native.Nat.{ℕ, ◌+◌, ◌^◌, ◌≤◌, ◌<◌}
use native.Mathlib.Omega.{arith}
use borrow.Author.Tests.{eqb-false, not-false}
use lib.Dec.{T, eqb, ltb, leb→le}
use lib.IntN.{ℤ, nat_abs}
use lib.ListN.{length, length-append}
use lib.Ieee.{Float}
use Rattle.machine.specs.Runs.{run, Each}
use Rattle.machine.proofs.Parts.{run_last, each_joined}
use Rattle.shaping.proofs.Receiver.{size16}
use Rattle.search.specs.declared.Control.{Control}
use Rattle.search.specs.declared.Reply.{Reply}
use Rattle.search.specs.Search.{age_of}
use Rattle.search.specs.Turn.{Outcome, quiet, offer, control_of, sampled}
use Rattle.search.specs.Fit.{candidate_fit_lem, wait_fit_lem, control_fit_lem}
use Rattle.search.proofs.Clauses.{clauses, joined}
use Rattle.search.proofs.AgeInPass.{by_test}
use Rattle.search.proofs.Fitness.{control_facts}
use Rattle.demodulator.specs.Spans.{eight}
use Rattle.demodulator.specs.Record.{fresh_control}
use Rattle.demodulator_laws.proofs.SearchFits.{Outgrown}
use Rattle.demodulator_laws.proofs.SampleFits.{sampled_fits, replied_fits}
use Rattle.demodulator_run.specs.Filter.{ago}
use Rattle.demodulator_run.specs.Rules.{Single, sample, reply, query, History, After, start, settled, admitted, given, answered, single, history_all, single_rules}
use Rattle.demodulator_run.specs.Run.{Callable}
use Rattle.demodulator_run.proofs.InRange.{Small, small_more, Bounded, in_range_lem}
use Rattle.demodulator_run.proofs.Count.{sampled_count, replied_count}

pub record HeardFit (p : ℕ) (h : History) : Type 0 where
  pub fit : T (control_fit_lem p h.control)
  pub count : h.control.sample ≡ length h.samples
  -- a reply is owed to a sample that was counted
  pub owing : h.control.owed ≡ true → 1 ≤ h.control.sample

pub start_fit : (p : ℕ) → HeardFit p start
unfolding candidate_fit_lem wait_fit_lem
start_fit p = record { fit = joined p fresh_control (record { count = tt; timer = tt; candidate = tt; wait = tt; reply = tt; taken = tt; kept = tt }); count = refl; owing = λ e. absurd (false≢true e) }

-- an age below 254 does not outgrow
not_outgrown : (p : ℕ) (before after : Control) → age_of before.candidate < 254 → T (control_fit_lem p after) ⊎ Outgrown p before after → T (control_fit_lem p after)
not_outgrown p before after young (inl t) = t
not_outgrown p before after young (inr o) = absurd (omega (arith, o.was))

module _ (table : List Float) (p : ℕ) where
  -- an admitted sample's outcome, read as what is heard
  pub settled_heard : (xs : List ℤ) (room : List Float) (o : Outcome) → (settled table p xs room o).history ≡ record { samples = xs; control = control_of o }
  unfolding settled
  settled_heard xs room (quiet c) = refl
  settled_heard xs room (offer shown c) = refl

  module _ (symbol : 2 ≤ p) (bound : Bounded table) (h : History) (small : Small h.samples) (s : HeardFit p h) (young : age_of h.control.candidate < 254) where
    abbrev Next : After → Type 0
    Next a = HeardFit p a.history

    admitted_fit : (x : ℤ) (room : List Float) → nat_abs x ≤ 32768 → h.control.owed ≡ false → (h.control.sample ≡ 2 ^ 63 → ⊥) → Next (admitted table p h x room)
    admitted_fit x room f e n =
        let xs = h.samples ++ (x ∷ []) in
        let v = eight p (ago table p xs) in
        let t = small_more h.samples x small f in
        let most = leb→le h.control.sample (2 ^ 63) (clauses p h.control s.fit).count in
        subst (HeardFit p) (sym (settled_heard xs room (sampled p v h.control)))
        (record {
          fit = not_outgrown p h.control _ young (sampled_fits p symbol v (λ i l. in_range_lem table p bound xs t _) h.control s.fit (omega (arith, n)) e);
          count = sampled_count p v h.control ∙ ap (λ (k : ℕ). k + 1) s.count ∙ sym (length-append h.samples (x ∷ []));
          owing = λ _. omega (arith, sampled_count p v h.control);
        })

    given_fit : (x : ℤ) (room : List Float) → nat_abs x ≤ 32768 → Next (given table p h x room)
    unfolding given
    given_fit x room f =
        by_test Next h.control.owed _ _ (λ _. s)
        (λ e. by_test Next (ltb (length room) 192) _ _ (λ _. s)
        (λ _. by_test Next (eqb h.control.sample (2 ^ 63)) _ _ (λ _. s)
        (λ n. admitted_fit x room f e (eqb-false h.control.sample (2 ^ 63) n))))

    answered_fit : (r : Reply) → Next (answered table p h r)
    unfolding answered
    answered_fit r =
        let v = eight p (ago table p h.samples) in
        by_test Next (not h.control.owed) _ _ (λ _. s)
        (λ e. record {
          fit =
              replied_fits p symbol v (λ i l. in_range_lem table p bound h.samples small _) h.control s.fit
              ((control_facts p h.control s.fit).reply (not-false h.control.owed e)) (s.owing (not-false h.control.owed e)) r;
          count = replied_count p v r h.control ∙ s.count;
          owing = λ _. omega (arith, replied_count p v r h.control, s.owing (not-false h.control.owed e));
        })

    pub called_fit : (c : Single) → Callable c → Next (single table p h c)
    unfolding single Callable
    called_fit (sample x room) f = given_fit x room (size16 x f)
    called_fit (reply r) f = answered_fit r
    called_fit query f = s

  -- ---- what a list of calls comes to
  pub record Reachable (h : History) : Type 0 where
    pub calls : List Single
    pub sampled : Each Callable calls
    pub here : history_all table p calls ≡ h

  pub reachable_start : Reachable start
  unfolding Each run
  reachable_start = record { calls = []; sampled = tt; here = refl }

  pub reachable_next : (h : History) (c : Single) → Reachable h → Callable c → Reachable (single table p h c).history
  unfolding Each
  reachable_next h c r g = record {
    calls = r.calls ++ (c ∷ []);
    sampled = each_joined Callable r.calls (c ∷ []) r.sampled (g, tt);
    here = run_last (single_rules table p) r.calls c start ∙ rw r.here;
  }
