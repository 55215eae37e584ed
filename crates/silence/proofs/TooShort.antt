-- A pause of 384p zeros is too short: after a frame that is cut off the carrier is still there. Over every such list of samples, at a rate. Assumes nothing.
use Rattle.std.specs.Prelude.{Some}
use mathlib.Core.Path.{◌≡◌, sym, ap, ◌∙◌, subst}
use mathlib.Core.Bool.{Bool, true, false, true≢false, false≢true}
use mathlib.Core.List.{List, [], ◌∷◌, ◌++◌, map}
use Prim.Native.Nat.{ℕ, ◌+◌, ◌*◌, ◌^◌, ◌≤◌, ◌<◌}
use native.Mathlib.Nat.{min-eq_left}
use native.Mathlib.Omega.{arith}
use lib.IntN.{ℤ}
use lib.ListN.{length}
use lib.Ieee.{Float}
use Rattle.machine.specs.Runs.{run, answers, Each}
use Rattle.machine.proofs.Parts.{run_joined, each_joined}
use Rattle.shaping.specs.Rate.{Rate}
use Rattle.shaping.proofs.RateFacts.{Facts}
use Rattle.search.specs.declared.Control.{Control}
use Rattle.search.specs.TakenBurst.{TakenBurst, held_as}
use Rattle.search.specs.Search.{end_after_lem, wait_after}
use Rattle.search.specs.Turn.{control_of, sampled}
use Rattle.search.proofs.Silent.{Unmatched}
use Rattle.demodulator.specs.Calls.{Paper, refusal, nothing, frame, done, carrier, timer_held}
use Rattle.demodulator_run.specs.Rules.{query, History, start, single, history_all}
use Rattle.demodulator_run.specs.Run.{fresh_at, Callable}
use Rattle.demodulator_run.specs.Stretch.{Sixteen}
use Rattle.demodulator_run.specs.Calls.{Call, one, Told, history_next, told_to, rules, receiver, Given}
use Rattle.demodulator_run.proofs.ReceiverRun.{receiver_run, goes_on}
use Rattle.demodulator_examples.proofs.Fed.{fed}
use Rattle.demodulator_examples.proofs.Steps.{standing}
use Rattle.demodulator_examples.proofs.Table.{pause as zeros}
use Rattle.silence.specs.Later.{later_paper, later_told}
use Rattle.silence.specs.Silence.{counted, Pause}
use Rattle.silence.proofs.SilentRun.{SilentSince, run_silent}
use Rattle.silence.proofs.PauseClears.{unheard}
use Rattle.silence.proofs.SilenceClears.{counts}
use Rattle.silence.proofs.CutOff.{feeding, feeding_run, both_count, both_given, pauses}
use Rattle.silence.proofs.Lasts.{Lasts, sampled_lasts, replied_lasts}

-- what `silence_clears` would say of a pause of n zeros
abbrev pub Suffices : (R : Rate) → ℕ → Type 0
Suffices R n =
    (cs zs ds : List Call) → Each Given ((cs ++ zs) ++ ds) → Pause n (counted R) cs zs → counted R ((cs ++ zs) ++ ds) < 2 ^ 63
    → answers receiver (run receiver (fresh_at R) (cs ++ zs)) ds ≡ map (later_told (counted R (cs ++ zs))) (answers receiver (fresh_at R) ds)

-- the first answer is that the carrier is there
unfoldable says_yes : List Told → Bool
says_yes [] = false
says_yes (t ∷ ts) = yes t.answer
  where
    yes : Paper → Bool
    yes (carrier there) = there
    yes (refusal why) = false
    yes nothing = false
    yes (frame o) = false
    yes done = false

-- ---- n samples, after which a wait is held since the last of them
module _ (R : Rate) (F : Facts R) (xs : List ℤ) (small : Sixteen xs) (n : ℕ) (long : length xs ≡ n) (few : n + 384 * R.p < 2 ^ 63) (burst : TakenBurst)
    (waits : history_all R.taps R.p (fed xs) ≡ standing xs (held_as burst) (wait_after R.p 1) (Some (end_after_lem n (384 * R.p))) n) where
  abbrev Held : Control → Type 0
  Held = Lasts (n + 15 * R.p) (n + 384 * R.p)

  sampled_held : (v : ℕ → Float) (c : Control) → Held c → c.owed ≡ false → (c.sample ≡ 2 ^ 63 → ⊥) → (n + 15 * R.p < c.sample + 1 → Unmatched v)
      → Held (control_of (sampled R.p v c))
  sampled_held v c L free end none = sampled_lasts R.p (n + 15 * R.p) (n + 384 * R.p) v c L free none

  abbrev Lasting : History → Type 0
  Lasting = SilentSince R.taps R.p (15 * R.p) n (λ ys. Unit {0}) (λ ys g. tt) (unheard R F n) Held sampled_held (replied_lasts R.p (n + 15 * R.p) (n + 384 * R.p))

  abbrev first : History
  first = standing xs (held_as burst) (wait_after R.p 1) (Some (end_after_lem n (384 * R.p))) n

  first_lasting : Lasting first
  first_lasting =
      let some = F.some in
      record {
        count = sym long;
        good = tt;
        zeros = λ k l u. absurd (omega arith);
        holds = record { waits = omega arith; owing = λ o. absurd (false≢true o); timer = λ l. ap Some (min-eq_left (omega arith)) };
      }

  abbrev quiet : List ℤ
  quiet = zeros (384 * R.p)

  abbrev last : History
  last = run (rules R) start (feeding xs ++ feeding quiet)

  enough : length xs + 384 * R.p ≤ 2 ^ 63
  enough = omega arith

  last_lasting : Lasting last
  last_lasting =
      subst Lasting (sym (run_joined (rules R) (feeding xs) (feeding quiet) start ∙ ap (λ (h : History). run (rules R) h (feeding quiet)) (feeding_run R (fed xs) start ∙ waits)))
      (run_silent R.taps R.p (15 * R.p) n (λ ys. Unit {0}) (λ ys g. tt) (unheard R F n) Held sampled_held (replied_lasts R.p (n + 15 * R.p) (n + 384 * R.p))
      (feeding quiet) (pauses R F xs small (384 * R.p) enough).silent first first_lasting)

  carrier_there : last.control.dcd ≡ Some (n + 384 * R.p)
  carrier_there =
      let a = both_count R F xs small (384 * R.p) enough in
      let b = counts R F (feeding xs ++ feeding quiet) (both_given R F xs small (384 * R.p) enough) in
      last_lasting.holds.timer (omega arith)

  abbrev asked : List Call
  asked = one query ∷ []

  asked_given : Each Given asked
  unfolding Each Given Callable
  asked_given = (tt, tt)

  abbrev before : List Call
  before = feeding xs ++ feeding quiet

  all_given : Each Given (before ++ asked)
  all_given = each_joined Given before asked (both_given R F xs small (384 * R.p) enough) asked_given

  -- a query counts nothing
  asked_last : run (rules R) start (before ++ asked) ≡ last
  unfolding run history_next single
  asked_last = run_joined (rules R) before asked start

  below : counted R (before ++ asked) < 2 ^ 63
  below =
      let a = both_count R F xs small (384 * R.p) enough in
      let b = counts R F before (both_given R F xs small (384 * R.p) enough) in
      let c = counts R F (before ++ asked) all_given in
      let d : (run (rules R) start (before ++ asked)).control.sample ≡ last.control.sample = ap (λ (h : History). h.control.sample) asked_last in
      omega arith

  pub too_short : Suffices R (384 * R.p) → ⊥
  unfolding answers told_to single later_paper says_yes
  too_short claim =
      let same = claim (feeding xs) (feeding quiet) asked all_given (pauses R F xs small (384 * R.p) enough) below in
      let here : says_yes (answers receiver (run receiver (fresh_at R) before) asked) ≡ true =
      ap says_yes (goes_on R F before asked (both_given R F xs small (384 * R.p) enough) asked_given) ∙ ap timer_held carrier_there in
      let fresh : answers receiver (fresh_at R) asked ≡ answers (rules R) start asked = (receiver_run R F asked asked_given).1 in
      true≢false (sym here ∙ ap says_yes same ∙ ap (λ (l : List Told). says_yes (map (later_told (counted R before)) l)) fresh)
