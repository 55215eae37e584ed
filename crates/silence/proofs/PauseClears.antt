-- A pause clears the history, by the rules at a rate: 400p zeros after any samples, and 396p + 2 after samples of 16 bits. Assumes nothing.
use mathlib.Core.Path.{◌≡◌, refl, sym, ap, subst}
use mathlib.Core.List.{List, [], ◌∷◌, ◌++◌}
use Prim.Native.Nat.{ℕ, ◌+◌, ◌*◌, ◌≤◌, ◌<◌, zero-le}
use native.Mathlib.Omega.{arith}
use lib.IntN.{ℤ, pos}
use lib.ListN.{length}
use lib.Ieee.{Float}
use mir.Syntax.{w16}
use mir.Val.{SFits}
use Rattle.machine.specs.Runs.{run, Each}
use Rattle.machine.proofs.Parts.{run_joined}
use Rattle.shaping.specs.Rate.{Rate}
use Rattle.shaping.proofs.RateFacts.{Facts}
use Rattle.search.specs.declared.Reply.{Reply}
use Rattle.search.proofs.Silent.{Unmatched}
use Rattle.demodulator.specs.Spans.{eight}
use Rattle.demodulator_run.specs.Filter.{ago}
use Rattle.demodulator_run.specs.Rules.{sample, reply, query, History, start, single}
use Rattle.demodulator_run.specs.Run.{Callable}
use Rattle.demodulator_run.specs.Stretch.{Sixteen}
use Rattle.demodulator_run.specs.Calls.{Call, one, stretch, rules, Given}
use Rattle.demodulator_run.proofs.InRange.{Small, small_none, small_more}
use Rattle.demodulator_run.proofs.Sixteen.{taps_size, taps_bounded, small_called}
use Rattle.silence.specs.Silence.{Gives, pause, least_pause, counted_by_rules, Pause}
use Rattle.silence.proofs.ZeroF.{ZeroFrom, unmatched_zero}
use Rattle.silence.proofs.FiveAlike.{unmatched_soon}
use Rattle.silence.proofs.CallsKeep.{run_keeps}
use Rattle.silence.proofs.SilentRun.{Cleared, Reached, reached, RemainsSince, sample_remains, reply_remains, falls_silent, clears, run_clears}

-- ---- samples that a caller can give
sixteen_each : (xs : List ℤ) → Sixteen xs → Each (SFits w16) xs
unfolding Sixteen Each
sixteen_each [] s = tt
sixteen_each (x ∷ xs) s = (s.0, sixteen_each xs s.1)

given_gives : (c : Call) → Given c → Gives (SFits w16) c
unfolding Given Gives Callable
given_gives (one (sample x room)) g = g
given_gives (one (reply r)) g = tt
given_gives (one query) g = tt
given_gives (stretch xs room) g = sixteen_each xs g

each_gives : (cs : List Call) → Each Given cs → Each (Gives (SFits w16)) cs
unfolding Each
each_gives [] g = tt
each_gives (c ∷ cs) g = (given_gives c g.0, each_gives cs g.1)

module _ (R : Rate) (F : Facts R) where
  some : 1 ≤ R.p
  some = let two = F.some in omega arith

  -- ---- after any samples: silence since sample n, and nothing matches from 15p samples on
  pub unheard : (n : ℕ) (xs : List ℤ) → Unit {0} → ZeroFrom n (length xs) xs → n + 15 * R.p < length xs → Unmatched (eight R.p (ago R.taps R.p xs))
  unheard n xs g = unmatched_zero R.taps R.p (taps_size R F) F.finite xs n

  abbrev pub QuietSince : ℕ → History → Type 0
  QuietSince n = RemainsSince R.taps R.p (15 * R.p) n (λ xs. Unit {0}) (λ xs g. tt) (unheard n)

  pub falls_quiet : (h : History) → Reached R.taps R.p h → QuietSince h.control.sample h
  falls_quiet h r = falls_silent R.taps R.p (15 * R.p) h.control.sample (λ xs. Unit {0}) (λ xs g. tt) (unheard _) h r tt refl

  pub quiet_sample : (n : ℕ) (h : History) (x : ℤ) (room : List Float) → x ≡ pos 0 → QuietSince n h → QuietSince n (single R.taps R.p h (sample x room)).history
  quiet_sample n = sample_remains R.taps R.p (15 * R.p) n (λ xs. Unit {0}) (λ xs g. tt) (unheard n)

  pub quiet_reply : (n : ℕ) (h : History) (r : Reply) → QuietSince n h → QuietSince n (single R.taps R.p h (reply r)).history
  quiet_reply n = reply_remains R.taps R.p (15 * R.p) n (λ xs. Unit {0}) (λ xs g. tt) (unheard n)

  -- 15p, the timer's 384p and two more are 400p at most
  pub quiet_clears : (n : ℕ) (h : History) → QuietSince n h → n + pause R.p ≤ h.control.sample → Cleared R.p h
  quiet_clears n h s long = clears R.taps R.p (15 * R.p) n (λ xs. Unit {0}) (λ xs g. tt) (unheard n) h some s (let two = F.some in omega arith)

  -- ---- after calls: the pause begins where they end
  module _ (cs zs : List Call) where
    abbrev here : History
    here = run (rules R) start cs

    -- what the rules count after both, from there
    after : (least : ℕ) → Pause least (counted_by_rules R) cs zs → here.control.sample + least ≤ (run (rules R) here zs).control.sample
    after least P = subst (λ (k : History). here.control.sample + least ≤ k.control.sample) (run_joined (rules R) cs zs start) P.long

    pub pause_clears : Pause (pause R.p) (counted_by_rules R) cs zs → Cleared R.p (run (rules R) start (cs ++ zs))
    pause_clears P =
        let n : ℕ = here.control.sample in
        subst (Cleared R.p) (sym (run_joined (rules R) cs zs start))
        (quiet_clears n _
        (run_keeps R.taps R.p (QuietSince n) (λ x. x ≡ pos 0) (quiet_sample n) (quiet_reply n) zs P.silent here (falls_quiet here (reached R.taps R.p cs)))
        (after (pause R.p) P))

    -- ---- after samples of 16 bits nothing matches from 12p samples on
    small_run : Each Given cs → Small here.samples
    small_run g =
        run_keeps R.taps R.p (λ h. Small h.samples) (SFits w16) (λ h x room f s. small_called R.taps R.p h (sample x room) (unfold Callable in f) s)
        (λ h r s. small_called R.taps R.p h (reply r) (unfold Callable in tt) s) cs (each_gives cs g) start small_none

    pub least_pause_clears : Each Given cs → Pause (least_pause R.p) (counted_by_rules R) cs zs → Cleared R.p (run (rules R) start (cs ++ zs))
    least_pause_clears g P =
        let n : ℕ = here.control.sample in
        let more : (xs : List ℤ) → Small xs → Small (xs ++ (pos 0 ∷ [])) = λ xs s. small_more xs (pos 0) s zero-le in
        let soon : (xs : List ℤ) → Small xs → ZeroFrom n (length xs) xs → n + 12 * R.p < length xs → Unmatched (eight R.p (ago R.taps R.p xs)) =
        λ xs s. unmatched_soon R.taps R.p (taps_size R F) F.finite (taps_bounded R F) xs s n in
        subst (Cleared R.p) (sym (run_joined (rules R) cs zs start))
        (run_clears R.taps R.p (12 * R.p) n Small more soon here some
        (falls_silent R.taps R.p (12 * R.p) n Small more soon here (reached R.taps R.p cs) (small_run g) refl) zs P.silent (omega (arith, after (least_pause R.p) P)))
