-- Document 02 i): "run a fresh receiver over the part that starts after that stretch .. it must be the full run's". After a pause the
-- first offer from a sample on is the part's own. Assumes nothing.
use mathlib.Core.Path.{◌≡◌, sym, ap, ◌∙◌, subst}
use mathlib.Core.List.{List, [], ◌∷◌, ◌++◌, map}
use Prim.Native.Nat.{ℕ, suc, ◌+◌, ◌-◌, ◌^◌, ◌≤◌, ◌<◌}
use native.Mathlib.Omega.{arith}
use lib.IntN.{ℤ, pos}
use lib.ListN.{length, get_or, take, drop, take-append-drop, length-drop}
use lib.Seq.{get_or-take, get_or-drop, length-take-le, take-add}
use Rattle.machine.specs.Runs.{run, Each}
use Rattle.machine.proofs.Parts.{run_joined}
use Rattle.shaping.specs.Rate.{Rate}
use Rattle.shaping.proofs.RateFacts.{Facts}
use Rattle.demodulator_run.specs.Rules.{History, start}
use Rattle.silence.specs.Silence.{pause}
use Rattle.silence.proofs.CallsKeep.{any_samples}
use Rattle.silence.proofs.SilentRun.{Reached, start_reached, sample_reached, reply_reached, Cleared}
use Rattle.silence.proofs.PauseClears.{QuietSince, falls_quiet, quiet_sample, quiet_reply, quiet_clears}
use Rattle.silence.proofs.SilenceClears.{later_start}
use Rattle.listening.specs.Listener.{listener, offers}
use Rattle.listening.specs.Verdict.{verdict}
use Rattle.listening.specs.Rules.{rules_at}
use Rattle.listening.proofs.Listener.{offers_joined}
use Rattle.listening.proofs.OwedReply.{Between, untroubled, between_start}
use Rattle.replay.specs.FullRun.{all_offers, first_from, later_listed, later_found}
use Rattle.replay.specs.Pauses.{PauseAt}
use Rattle.replay.proofs.Kept.{listening_keeps}
use Rattle.replay.proofs.LaterOffers.{offers_later}
use Rattle.replay.proofs.FirstOffer.{skips, first_later, offers_up_to}

all_zero : (xs : List ℤ) → ((i : ℕ) → i < length xs → get_or xs i (pos 0) ≡ pos 0) → Each (λ (x : ℤ). x ≡ pos 0) xs
unfolding Each
all_zero [] z = tt
all_zero (x ∷ xs) z = (z 0 (omega arith), all_zero xs (λ i l. z (suc i) (omega arith)))

module _ (R : Rate) (F : Facts R) (xs : List ℤ) (e : ℕ) (P : PauseAt (pause R.p) xs e) (few : length xs ≤ 2 ^ 63) where
  -- ---- before the pause, and the pause
  abbrev n : ℕ
  n = e - pause R.p

  abbrev before : List ℤ
  before = take n xs

  abbrev paused : List ℤ
  paused = take (pause R.p) (drop n xs)

  before_long : length before ≡ n
  before_long = let u = P.most in length-take-le n xs (omega arith)

  rest_long : pause R.p ≤ length (drop n xs)
  rest_long = let u = P.most in let v = P.least in omega (arith, length-drop n xs)

  paused_long : length paused ≡ pause R.p
  paused_long = length-take-le (pause R.p) (drop n xs) rest_long

  paused_zero : Each (λ (x : ℤ). x ≡ pos 0) paused
  paused_zero =
      all_zero paused (λ i l.
      let u : i < pause R.p = omega (arith, paused_long) in
      let v = P.least in
      get_or-take (pause R.p) (drop n xs) i (pos 0) u ∙ get_or-drop n xs i (pos 0) ∙ P.zeros (n + i) (omega arith) (omega arith))

  front : take e xs ≡ before ++ paused
  front =
      let u = P.least in
      let all : e ≡ n + pause R.p = omega arith in
      ap (λ (k : ℕ). take k xs) all ∙ take-add n (pause R.p) xs

  -- ---- the receiver after it
  abbrev hears : List ℤ → History → History
  hears ys h = run (listener (rules_at R) verdict) h ys

  abbrev h_₀ : History
  h_₀ = hears before start

  abbrev h_₁ : History
  h_₁ = hears paused h_₀

  between_₀ : Between h_₀ n
  between_₀ =
      let u = P.most in
      let same : 0 + length before ≡ n = omega (arith, before_long) in
      subst (Between h_₀) same (untroubled R verdict before start 0 between_start (omega (arith, before_long))).1

  between_₁ : Between h_₁ e
  between_₁ =
      let u = P.most in
      let v = P.least in
      let same : n + length paused ≡ e = omega (arith, paused_long) in
      subst (Between h_₁) same (untroubled R verdict paused h_₀ n between_₀ (omega (arith, paused_long))).1

  reached_₀ : Reached R.taps R.p h_₀
  reached_₀ =
      listening_keeps R verdict (Reached R.taps R.p) (λ x. Unit {0}) (sample_reached R.taps R.p) (reply_reached R.taps R.p)
      before (any_samples before) start (start_reached R.taps R.p)

  cleared_₁ : Cleared R.p h_₁
  cleared_₁ =
      let c₀ = between_₀.count in
      let c₁ = between_₁.count in
      let u = P.least in
      let k : ℕ = h_₀.control.sample in
      quiet_clears R F k h_₁
      (listening_keeps R verdict (QuietSince R F k) (λ x. x ≡ pos 0) (quiet_sample R F k) (quiet_reply R F k) paused paused_zero h_₀ (falls_quiet R F h_₀ reached_₀))
      (omega arith)

  samples_₁ : length h_₁.samples ≡ e
  samples_₁ = sym cleared_₁.count ∙ between_₁.count

  front_run : hears (take e xs) start ≡ h_₁
  front_run = ap (λ (l : List ℤ). hears l start) front ∙ run_joined (listener (rules_at R) verdict) before paused start

  offers_after : offers (rules_at R) verdict h_₁ (drop e xs) ≡ map (later_listed e) (all_offers R (drop e xs))
  offers_after =
      let u = P.most in
      ap (λ (h : History). offers (rules_at R) verdict h (drop e xs)) (later_start R F h_₁ cleared_₁)
      ∙ offers_later R F verdict h_₁.samples cleared_₁.since cleared_₁.long cleared_₁.zeros (drop e xs) start 0 between_start
      (omega (arith, samples_₁, length-drop e xs))
      ∙ ap (λ (d : ℕ). map (later_listed d) (all_offers R (drop e xs))) samples_₁

  -- ---- "it must be the full run's"
  pub tail_answer : (a : ℕ) → e < a → first_from a (all_offers R xs) ≡ later_found e (first_from (a - e) (all_offers R (drop e xs)))
  tail_answer a l =
      let u = P.most in
      let long : length (take e xs) ≡ e = length-take-le e xs u in
      let early = offers_up_to R verdict (take e xs) start 0 between_start (omega arith) in
      ap (λ (ys : List ℤ). first_from a (all_offers R ys)) (sym (take-append-drop e xs))
      ∙ ap (first_from a) (offers_joined (rules_at R) verdict start (take e xs) (drop e xs))
      ∙ skips a (0 + length (take e xs)) (omega arith) (all_offers R (take e xs)) _ early
      ∙ ap (λ (h : History). first_from a (offers (rules_at R) verdict h (drop e xs))) front_run
      ∙ ap (first_from a) offers_after
      ∙ first_later a e l (all_offers R (drop e xs))
