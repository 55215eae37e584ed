-- What silence leaves of any receiver that is reached, by the rules: nothing but the count. Over p and the table. Assumes nothing.
use Rattle.std.specs.Prelude.{None}
use mathlib.Core.Path.{◌≡◌, refl, sym, ap, ◌∙◌, subst}
use mathlib.Core.Bool.{true, false, false≢true}
use mathlib.Core.List.{List, [], ◌∷◌, ◌++◌}
use Prim.Native.Nat.{ℕ, ◌+◌, ◌*◌, ◌^◌, ◌≤◌, ◌<◌, zero-le}
use native.Mathlib.Nat.{lt_irrefl}
use native.Mathlib.Omega.{arith}
use lib.IntN.{ℤ, pos}
use lib.ListN.{length, length-append}
use lib.Ieee.{Float}
use Rattle.machine.specs.Runs.{run, Each}
use Rattle.search.specs.declared.Candidate.TheVariants.{Nothing}
use Rattle.search.specs.declared.Control.{Control}
use Rattle.search.specs.declared.Reply.{Reply}
use Rattle.search.specs.Turn.{control_of, sampled, replied}
use Rattle.search.proofs.Silent.{Unmatched}
use Rattle.demodulator.specs.Spans.{eight}
use Rattle.demodulator_run.specs.Filter.{ago}
use Rattle.demodulator_run.specs.Rules.{sample, reply, History, start, single}
use Rattle.demodulator_run.specs.Calls.{Call, rules}
use Rattle.demodulator_run.proofs.Pass.{controlled}
use Rattle.demodulator_run.proofs.Count.{sampled_count, replied_count}
use Rattle.silence.specs.Silence.{Silent}
use Rattle.silence.proofs.Remains.{Remains, remains_later, sampled_remains, replied_remains, nothing_remains}
use Rattle.silence.proofs.ZeroF.{ZeroFrom, zeros_more}
use Rattle.silence.proofs.CallsKeep.{run_keeps, any_calls, given_keeps, answered_keeps}

-- the history after silence: its control is a fresh one's but for the count, and its last 200p samples are 0
pub record Cleared (p : ℕ) (h : History) : Type 0 where
  pub count : h.control.sample ≡ length h.samples
  pub control : h.control ≡ controlled Nothing None None false h.control.sample
  pub since : ℕ
  pub long : since + 200 * p ≤ length h.samples
  pub zeros : ZeroFrom since (length h.samples) h.samples

-- ---- any receiver that is reached: a match of its last sample is the latest of which anything can remain
module _ (table : List Float) (p : ℕ) where
  pub record Reached (h : History) : Type 0 where
    pub count : h.control.sample ≡ length h.samples
    pub remains : Remains p h.control.sample h.control

  pub start_reached : Reached start
  start_reached = record { count = refl; remains = record { count = zero-le; owing = λ e. absurd (false≢true e); wait = tt; lone = λ e. absurd (false≢true e); timer = tt } }

  pub sample_reached : (h : History) (x : ℤ) (room : List Float) → Unit {0} → Reached h → Reached (single table p h (sample x room)).history
  sample_reached h x room q r =
      given_keeps table p Reached h r x room (λ free end.
      let v = eight p (ago table p (h.samples ++ (x ∷ []))) in
      let n = h.control.sample in
      let most = r.remains.count in
      let same : (control_of (sampled p v h.control)).sample ≡ n + 1 = sampled_count p v h.control in
      record {
        count = same ∙ ap (λ (k : ℕ). k + 1) r.count ∙ sym (length-append h.samples (x ∷ []));
        remains = subst (λ (k : ℕ). Remains p k (control_of (sampled p v h.control))) (sym same)
            (sampled_remains p (n + 1) v h.control (remains_later p n (n + 1) h.control (omega arith) r.remains) free (omega (arith, end)) (λ l. absurd (lt_irrefl (n + 1) l)));
      })

  pub reply_reached : (h : History) (s : Reply) → Reached h → Reached (single table p h (reply s)).history
  reply_reached h s r =
      answered_keeps table p Reached h r s (λ owed.
      let v = eight p (ago table p h.samples) in
      let n = h.control.sample in
      let same : (replied p v s h.control).sample ≡ n = replied_count p v s h.control in
      record {
        count = same ∙ r.count;
        remains = subst (λ (k : ℕ). Remains p k (replied p v s h.control)) (sym same) (replied_remains p n v s h.control r.remains owed (λ l. absurd (lt_irrefl n l)));
      })

  pub reached : (cs : List Call) → Reached (run (rules (record { p = p; taps = table })) start cs)
  reached cs = run_keeps table p Reached (λ x. Unit {0}) sample_reached reply_reached cs (any_calls cs) start start_reached

-- ---- silence since sample n. A list of samples has the property Good, which a zero keeps, and nothing matches from `deaf` samples later on;
-- the control has the property Holds, which samples and replies keep where that is so.
module _ (table : List Float) (p deaf n : ℕ) (Good : List ℤ → Type 0) (Good-more : (xs : List ℤ) → Good xs → Good (xs ++ (pos 0 ∷ [])))
    (unmatched : (xs : List ℤ) → Good xs → ZeroFrom n (length xs) xs → n + deaf < length xs → Unmatched (eight p (ago table p xs))) where
  module _ (Holds : Control → Type 0)
      (sampled_holds : (v : ℕ → Float) (c : Control) → Holds c → c.owed ≡ false → (c.sample ≡ 2 ^ 63 → ⊥) → (n + deaf < c.sample + 1 → Unmatched v)
      → Holds (control_of (sampled p v c)))
      (replied_holds : (v : ℕ → Float) (r : Reply) (c : Control) → Holds c → c.owed ≡ true → (n + deaf < c.sample → Unmatched v) → Holds (replied p v r c)) where
    pub record SilentSince (h : History) : Type 0 where
      pub count : h.control.sample ≡ length h.samples
      pub good : Good h.samples
      pub zeros : ZeroFrom n (length h.samples) h.samples
      pub holds : Holds h.control

    pub sample_silent : (h : History) (x : ℤ) (room : List Float) → x ≡ pos 0 → SilentSince h → SilentSince (single table p h (sample x room)).history
    sample_silent h x room e s =
        given_keeps table p SilentSince h s x room (λ free end.
        let xs = h.samples ++ (x ∷ []) in
        let v = eight p (ago table p (h.samples ++ (x ∷ []))) in
        let long = length-append h.samples (x ∷ []) in
        let c = s.count in
        let g : Good (h.samples ++ (x ∷ [])) = subst (λ (y : ℤ). Good (h.samples ++ (y ∷ []))) (sym e) (Good-more h.samples s.good) in
        let z = zeros_more n h.samples x e s.zeros in
        record {
          count = sampled_count p v h.control ∙ ap (λ (k : ℕ). k + 1) s.count ∙ sym (length-append h.samples (x ∷ []));
          good = g;
          zeros = z;
          holds = sampled_holds v h.control s.holds free end (λ l. unmatched xs g z (omega arith));
        })

    pub reply_silent : (h : History) (r : Reply) → SilentSince h → SilentSince (single table p h (reply r)).history
    reply_silent h r s =
        answered_keeps table p SilentSince h s r (λ owed.
        let v = eight p (ago table p h.samples) in
        let c = s.count in
        record {
          count = replied_count p v r h.control ∙ s.count;
          good = s.good;
          zeros = s.zeros;
          holds = replied_holds v r h.control s.holds owed (λ l. unmatched h.samples s.good s.zeros (omega arith));
        })

    pub run_silent : (zs : List Call) → Each Silent zs → (h : History) → SilentSince h → SilentSince (run (rules (record { p = p; taps = table })) h zs)
    run_silent = run_keeps table p SilentSince (λ x. x ≡ pos 0) sample_silent reply_silent

  -- ---- what remains
  pub sampled_keeps : (v : ℕ → Float) (c : Control) → Remains p (n + deaf) c → c.owed ≡ false → (c.sample ≡ 2 ^ 63 → ⊥) → (n + deaf < c.sample + 1 → Unmatched v)
      → Remains p (n + deaf) (control_of (sampled p v c))
  sampled_keeps v c R free end none = let most = R.count in sampled_remains p (n + deaf) v c R free (omega (arith, end)) none

  abbrev pub RemainsSince : History → Type 0
  RemainsSince = SilentSince (Remains p (n + deaf)) sampled_keeps (replied_remains p (n + deaf))

  pub sample_remains : (h : History) (x : ℤ) (room : List Float) → x ≡ pos 0 → RemainsSince h → RemainsSince (single table p h (sample x room)).history
  sample_remains = sample_silent (Remains p (n + deaf)) sampled_keeps (replied_remains p (n + deaf))

  pub reply_remains : (h : History) (r : Reply) → RemainsSince h → RemainsSince (single table p h (reply r)).history
  reply_remains = reply_silent (Remains p (n + deaf)) sampled_keeps (replied_remains p (n + deaf))

  pub falls_silent : (h : History) → Reached table p h → Good h.samples → h.control.sample ≡ n → RemainsSince h
  falls_silent h r g e = record {
    count = r.count;
    good = g;
    zeros = λ i l u. absurd (let c = r.count in omega arith);
    holds = remains_later p h.control.sample (n + deaf) h.control (omega arith) r.remains;
  }

  -- nothing, after `deaf` samples, the timer's span and two more
  pub clears : (h : History) → 1 ≤ p → RemainsSince h → n + deaf + 384 * p + 2 ≤ h.control.sample → Cleared p h
  clears h some s long = record {
    count = s.count;
    control = nothing_remains p (n + deaf) h.control some s.holds long;
    since = n;
    long = let e = s.count in omega arith;
    zeros = s.zeros;
  }

  pub run_clears : (h : History) → 1 ≤ p → RemainsSince h → (zs : List Call) → Each Silent zs
      → n + deaf + 384 * p + 2 ≤ (run (rules (record { p = p; taps = table })) h zs).control.sample → Cleared p (run (rules (record { p = p; taps = table })) h zs)
  run_clears h some s zs silent long = clears _ some (run_silent (Remains p (n + deaf)) sampled_keeps (replied_remains p (n + deaf)) zs silent h s) long
