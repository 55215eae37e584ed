-- What every admitted sample and reply keeps, every call and every list of calls keeps, by the rules; and so the count never falls. Over p and the table. Assumes nothing.
use mathlib.Core.Path.{◌≡◌, sym, subst}
use mathlib.Core.Bool.{true, false, not}
use mathlib.Core.List.{List, [], ◌∷◌, ◌++◌}
use Prim.Native.Nat.{ℕ, ◌+◌, ◌^◌, ◌≤◌}
use native.Mathlib.Omega.{arith}
use borrow.Author.Tests.{eqb-false, not-false}
use lib.Dec.{eqb, ltb}
use lib.IntN.{ℤ}
use lib.ListN.{length}
use lib.Ieee.{Float}
use Rattle.machine.specs.Runs.{run, Each}
use Rattle.search.specs.declared.Reply.{Reply}
use Rattle.search.specs.Turn.{control_of, sampled, replied}
use Rattle.search.proofs.AgeInPass.{by_test}
use Rattle.demodulator.specs.Spans.{eight}
use Rattle.demodulator.specs.Feed.{Stretch, fed_from, fed}
use Rattle.demodulator.proofs.FeedSteps.{goes_on}
use Rattle.demodulator_run.specs.Filter.{ago}
use Rattle.demodulator_run.specs.Rules.{sample, reply, query, History, After, given, answered, single}
use Rattle.demodulator_run.specs.Stretch.{sample_said, sample_next, sample_room}
use Rattle.demodulator_run.specs.Calls.{Call, one, stretch, history_next, rules}
use Rattle.demodulator_run.proofs.Count.{sampled_count, replied_count}
use Rattle.demodulator_run.proofs.RunFits.{settled_heard}
use Rattle.silence.specs.Silence.{Gives}

-- ---- from single calls to lists; Q holds of each sample that is given
module _ (table : List Float) (p : ℕ) (P : History → Type 0) (Q : ℤ → Type 0)
    (samples : (h : History) (x : ℤ) (room : List Float) → Q x → P h → P (single table p h (sample x room)).history)
    (replies : (h : History) (r : Reply) → P h → P (single table p h (reply r)).history) where
  pub stretch_keeps : (xs : List ℤ) (n : ℕ) (h : History) (room : List Float) → Each Q xs → P h
      → P (fed_from History (sample_said table p) (sample_next table p) (sample_room table p) n h xs room).state
  unfolding fed_from Each
  stretch_keeps [] n h room q k = k
  stretch_keeps (x ∷ xs) n h room q k =
      let next = samples h x room q.0 k in
      goes_on (λ (f : Stretch History). P f.state) (sample_said table p h x room) _ _ _ k next
      (stretch_keeps xs (n + 1) (sample_next table p h x room) (sample_room table p h x room) q.1 next)

  pub call_keeps : (h : History) (c : Call) → Gives Q c → P h → P (history_next table p h c)
  unfolding history_next fed Gives
  call_keeps h (one (sample x room)) q k = samples h x room q k
  call_keeps h (one (reply r)) q k = replies h r k
  call_keeps h (one query) q k = unfold single in k
  call_keeps h (stretch [] room) q k = k
  call_keeps h (stretch (x ∷ xs) room) q k = stretch_keeps (x ∷ xs) 0 h room q k

  pub run_keeps : (cs : List Call) → Each (Gives Q) cs → (h : History) → P h → P (run (rules (record { p = p; taps = table })) h cs)
  unfolding run Each
  run_keeps [] q h k = k
  run_keeps (c ∷ cs) q h k = run_keeps cs q.1 (history_next table p h c) (call_keeps h c q.0 k)

-- ---- any samples
pub any_samples : (xs : List ℤ) → Each (λ (x : ℤ). Unit {0}) xs
unfolding Each
any_samples [] = tt
any_samples (x ∷ xs) = (tt, any_samples xs)

pub any_gives : (c : Call) → Gives (λ (x : ℤ). Unit {0}) c
unfolding Gives
any_gives (one (sample x room)) = tt
any_gives (one (reply r)) = tt
any_gives (one query) = tt
any_gives (stretch xs room) = any_samples xs

pub any_calls : (cs : List Call) → Each (Gives (λ (x : ℤ). Unit {0})) cs
unfolding Each
any_calls [] = tt
any_calls (c ∷ cs) = (any_gives c, any_calls cs)

-- ---- a single call: it is refused and changes nothing, or it is admitted
module _ (table : List Float) (p : ℕ) (P : History → Type 0) (h : History) (k : P h) where
  abbrev added : ℤ → List ℤ
  added x = h.samples ++ (x ∷ [])

  pub given_keeps : (x : ℤ) (room : List Float)
      → (h.control.owed ≡ false → (h.control.sample ≡ 2 ^ 63 → ⊥) → P (record { samples = added x; control = control_of (sampled p (eight p (ago table p (added x))) h.control) }))
      → P (single table p h (sample x room)).history
  unfolding single given
  given_keeps x room next =
      by_test (λ (a : After). P a.history) h.control.owed _ _ (λ _. k)
      (λ e. by_test (λ (a : After). P a.history) (ltb (length room) 192) _ _ (λ _. k)
      (λ _. by_test (λ (a : After). P a.history) (eqb h.control.sample (2 ^ 63)) _ _ (λ _. k)
      (λ n. subst P (sym (settled_heard table p (added x) room (sampled p (eight p (ago table p (added x))) h.control))) (next e (eqb-false h.control.sample (2 ^ 63) n)))))

  pub answered_keeps : (r : Reply)
      → (h.control.owed ≡ true → P (record { samples = h.samples; control = replied p (eight p (ago table p h.samples)) r h.control }))
      → P (single table p h (reply r)).history
  unfolding single answered
  answered_keeps r next = by_test (λ (a : After). P a.history) (not h.control.owed) _ _ (λ _. k) (λ e. next (not-false h.control.owed e))

-- ---- the count never falls
module _ (table : List Float) (p n : ℕ) where
  abbrev AtLeast : History → Type 0
  AtLeast h = n ≤ h.control.sample

  sample_grows : (h : History) (x : ℤ) (room : List Float) → Unit {0} → AtLeast h → AtLeast (single table p h (sample x room)).history
  sample_grows h x room q l =
      given_keeps table p AtLeast h l x room (λ a b. let e = sampled_count p (eight p (ago table p (h.samples ++ (x ∷ [])))) h.control in omega arith)

  reply_grows : (h : History) (r : Reply) → AtLeast h → AtLeast (single table p h (reply r)).history
  reply_grows h r l = answered_keeps table p AtLeast h l r (λ o. let e = replied_count p (eight p (ago table p h.samples)) r h.control in omega arith)

  pub rest_grows : (xs : List ℤ) (k : ℕ) (h : History) (room : List Float) → AtLeast h
      → AtLeast (fed_from History (sample_said table p) (sample_next table p) (sample_room table p) k h xs room).state
  rest_grows xs k h room l = stretch_keeps table p AtLeast (λ x. Unit {0}) sample_grows reply_grows xs k h room (any_samples xs) l

  pub call_grows : (h : History) (c : Call) → AtLeast h → AtLeast (history_next table p h c)
  call_grows h c l = call_keeps table p AtLeast (λ x. Unit {0}) sample_grows reply_grows h c (any_gives c) l

  pub run_grows : (cs : List Call) (h : History) → AtLeast h → AtLeast (run (rules (record { p = p; taps = table })) h cs)
  run_grows cs h l = run_keeps table p AtLeast (λ x. Unit {0}) sample_grows reply_grows cs (any_calls cs) h l
