-- None of the calls by which the first receiver's list is made is refused: what is "fed sample by sample" is admitted. Assumes nothing.
use Rattle.std.specs.Prelude.{Some, None, Option}
use mathlib.Core.Path.{◌≡◌, refl, sym, ap, ◌∙◌, subst}
use mathlib.Core.Bool.{Bool, true, false, not, cond}
use mathlib.Core.Logic.{⊎_elim}
use mathlib.Core.List.{List, [], ◌∷◌, ◌++◌, map}
use Prim.Native.Nat.{ℕ, suc, ◌+◌, ◌^◌, ◌≤◌, ◌<◌}
use native.Mathlib.Omega.{arith}
use borrow.Author.Tests.{le-ltb, ne_eqb}
use lib.Dec.{ltb, eqb}
use lib.IntN.{ℤ}
use lib.ListN.{length}
use lib.Ieee.{Float}
use Rattle.machine.specs.Runs.{answers, Each}
use Rattle.shaping.specs.Rate.{Rate, at48, at24, rate_fit}
use Rattle.shaping.proofs.RateFacts.{Facts, facts48, facts24, two_rates}
use Rattle.search.specs.declared.Control.{Control}
use Rattle.search.specs.declared.Turn.TheVariants.{Rest}
use Rattle.search.specs.declared.Waiting.{Waiting}
use Rattle.search.specs.declared.Reply.{Reply}
use Rattle.search.specs.declared.Reply.TheVariants.{Accepted, Rejected}
use Rattle.search.specs.TakenBurst.{TakenBurst, held_by}
use Rattle.search.specs.Search.{searched}
use Rattle.search.specs.Turn.{counted_to, nearer, waiting_on, freed, due_turn, waited_turn, Outcome, quiet, offer, comes_to, sampled, replied}
use Rattle.search.proofs.AgeInPass.{searched_sample, searched_owed}
use Rattle.demodulator.specs.Record.{fresh}
use Rattle.demodulator.specs.Calls.{is_refusal, done}
use Rattle.demodulator.specs.Spans.{eight}
use Rattle.demodulator.specs.Singles.{sample, reply, Said, blank}
use Rattle.demodulator_run.specs.Filter.{ago}
use Rattle.demodulator_run.specs.Rules.{History, After, start, settled, given, answered, single, single_rules}
use Rattle.demodulator_run.specs.Run.{fresh_at, single_receiver, answers_to}
use Rattle.demodulator_run.specs.Stretch.{Sixteen}
use Rattle.plain.specs.List.{calls_then, calls_from}
use Rattle.plain.specs.Rest.{reply_of}
use Rattle.plain.proofs.SampleStep.{blank_long}
use Rattle.plain.proofs.SlowEqualsFirst.{first_calls, answers_agree}

-- ---- what a sample leads to: the next count, and a reply owed exactly after an offer
unfoldable Leads : Control → Outcome → Type 0
Leads c (quiet d) = (d.owed ≡ c.owed) × (d.sample ≡ c.sample + 1)
Leads c (offer shown d) = (d.owed ≡ true) × (d.sample ≡ c.sample + 1)

module _ (p : ℕ) (v : ℕ → Float) (c : Control) where
  abbrev now : Control
  now = counted_to (c.sample + 1) c

  looks : (d : Control) → d.owed ≡ c.owed → d.sample ≡ c.sample + 1 → Leads c (quiet (searched p v d))
  unfolding Leads
  looks d o s = (searched_owed p v d ∙ o, searched_sample p v d ∙ s)

  falls : (h : Option TakenBurst) (w : Waiting) → Leads c (comes_to p v (due_turn h w (freed now)))
  unfolding Leads due_turn
  falls None w = looks (freed now) refl refl
  falls (Some t) w = (refl, refl)

  waits : (b : Bool) (w : Waiting) → Leads c (comes_to p v (cond b (Rest (waiting_on (nearer w) now)) (due_turn (held_by now) w (freed now))))
  unfolding Leads
  waits true w = (refl, refl)
  waits false w = falls (held_by now) w

  turns : (wait : Option Waiting) → Leads c (comes_to p v (waited_turn wait now))
  unfolding waited_turn
  turns None = looks now refl refl
  turns (Some w) = waits (ltb 1 w.left) w

  leads : Leads c (sampled p v c)
  unfolding sampled
  leads = turns c.wait

abbrev pub Admitted : Said → Type 0
Admitted a = is_refusal a.answer ≡ false

-- ---- all calls, by the rules
module _ (table : List Float) (p : ℕ) where
  given_free : (h : History) (x : ℤ) → h.control.owed ≡ false → h.control.sample < 2 ^ 63
      → given table p h x blank ≡ settled table p (h.samples ++ (x ∷ [])) blank (sampled p (eight p (ago table p (h.samples ++ (x ∷ [])))) h.control)
  unfolding given
  given_free h x free few =
      let room : ltb (length blank) 192 ≡ false = le-ltb (length blank) 192 (omega (arith, blank_long)) in
      let count : eqb h.control.sample (2 ^ 63) ≡ false = ne_eqb h.control.sample (2 ^ 63) (λ e. omega arith) in
      rw (free, room, count) refl

  replied_free : (v : ℕ → Float) (r : Reply) (c : Control) → ((replied p v r c).owed ≡ false) × ((replied p v r c).sample ≡ c.sample)
  unfolding replied
  replied_free v Accepted c = (refl, refl)
  replied_free v Rejected c = (searched_owed p v _, searched_sample p v _)

  answered_owed : (h : History) → h.control.owed ≡ true → (r : Reply)
      → answered table p h r
      ≡ record { said = record { answer = done; room = [] }; history = record { samples = h.samples; control = replied p (eight p (ago table p h.samples)) r h.control } }
  unfolding answered
  answered_owed h owes r = let b : not h.control.owed ≡ false = ap not owes in rw b refl

  module _ (xs : List ℤ)
      (later : (h : History) → h.control.owed ≡ false → h.control.sample + length xs ≤ 2 ^ 63 → (rs : List Reply) → Each Admitted (answers (single_rules table p) h (calls_from (single_rules table p) h xs rs))) where
    -- a reply to an offer
    answered_on : (h : History) → h.control.owed ≡ true → h.control.sample + length xs ≤ 2 ^ 63 → (r : Reply) (rs : List Reply)
        → Each Admitted (answers (single_rules table p) h (reply r ∷ calls_from (single_rules table p) (single table p h (reply r)).history xs rs))
    unfolding answers Each single
    answered_on h owes few r rs =
        let f = replied_free (eight p (ago table p h.samples)) r h.control in
        subst (λ (a : After). Admitted a.said × Each Admitted (answers (single_rules table p) a.history (calls_from (single_rules table p) a.history xs rs)))
        (sym (answered_owed h owes r)) (refl, later _ f.0 (omega (arith, f.1)) rs)

    module _ (h : History) (x : ℤ) (free : h.control.owed ≡ false) (few : h.control.sample + suc (length xs) ≤ 2 ^ 63) where
      abbrev all : List ℤ
      all = h.samples ++ (x ∷ [])

      unfoldable Goes : List Reply → After → Type 0
      Goes [] a = Admitted a.said × Each Admitted (answers (single_rules table p) a.history (calls_then a.said.answer (calls_from (single_rules table p) a.history xs []) []))
      Goes (r ∷ rs) a =
          Admitted a.said
          × Each Admitted
          (answers (single_rules table p) a.history
          (calls_then a.said.answer (calls_from (single_rules table p) a.history xs (r ∷ rs))
          (reply r ∷ calls_from (single_rules table p) (single table p a.history (reply r)).history xs rs)))

      by_outcome : (o : Outcome) → Leads h.control o → (rs : List Reply) → Goes rs (settled table p all blank o)
      unfolding Goes Leads settled calls_then answers Each
      by_outcome (quiet d) l [] = (refl, later _ (l.0 ∙ free) (omega (arith, l.1, few)) [])
      by_outcome (quiet d) l (r ∷ rs) = (refl, later _ (l.0 ∙ free) (omega (arith, l.1, few)) (r ∷ rs))
      by_outcome (offer shown d) l [] = (refl, tt)
      by_outcome (offer shown d) l (r ∷ rs) = (refl, answered_on _ l.0 (omega (arith, l.1, few)) r rs)

      goes : (rs : List Reply) → Goes rs (single table p h (sample x blank))
      unfolding single
      goes rs = subst (Goes rs) (sym (given_free h x free (omega arith))) (by_outcome _ (leads p (eight p (ago table p all)) h.control) rs)

      fed_on : (rs : List Reply) → Each Admitted (answers (single_rules table p) h (calls_from (single_rules table p) h (x ∷ xs) rs))
      unfolding answers Each calls_from Goes
      fed_on [] = goes []
      fed_on (r ∷ rs) = goes (r ∷ rs)

  pub rules_admit : (xs : List ℤ) (h : History) → h.control.owed ≡ false → h.control.sample + length xs ≤ 2 ^ 63 → (rs : List Reply)
      → Each Admitted (answers (single_rules table p) h (calls_from (single_rules table p) h xs rs))
  unfolding answers Each calls_from
  rules_admit [] h free few rs = tt
  rules_admit (x ∷ xs) h free few rs = fed_on xs (rules_admit xs) h x free few rs

-- ---- and by the record
admitted_at : (R : Rate) (F : Facts R) (xs : List ℤ) → Sixteen xs → length xs ≤ 2 ^ 63 → (replies : List Bool)
    → Each Admitted (answers_to R (calls_from single_receiver (fresh_at R) xs (map reply_of replies)))
admitted_at R F xs f few replies =
    let fits : 0 + length xs ≤ 2 ^ 63 = omega arith in
    subst (Each Admitted) (sym (answers_agree R F xs f replies)) (rules_admit R.taps R.p xs start refl fits (map reply_of replies))

-- none of the calls by which the first receiver's list is made is refused
pub all_admitted : (rate : ℕ) → rate_fit rate ≡ true → (xs : List ℤ) → Sixteen xs → length xs ≤ 2 ^ 63 → (replies : List Bool)
    → Each Admitted (answers single_receiver (fresh rate) (first_calls rate xs replies))
all_admitted rate fit xs f few replies =
    ⊎_elim
    (λ (e : rate ≡ 48000). rw e (admitted_at at48 facts48 xs f few replies))
    (λ (e : rate ≡ 24000). rw e (admitted_at at24 facts24 xs f few replies))
    (two_rates rate fit)
