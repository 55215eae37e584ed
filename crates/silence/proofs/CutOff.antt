-- Samples that break off after a burst was found, its frame still to come: the wait that is then held, and a pause after them. Over every such list, at a rate. Assumes nothing.
use Rattle.std.specs.Prelude.{Some, None}
use mathlib.Core.Path.{◌≡◌, refl, sym, ap, ◌∙◌, subst}
use mathlib.Core.Bool.{false}
use mathlib.Core.List.{List, [], ◌∷◌, ◌++◌, map, map-append, append_assoc}
use Prim.Native.Nat.{ℕ, zero, suc, ◌+◌, ◌*◌, ◌^◌, ◌≤◌, ◌<◌}
use native.Mathlib.Omega.{arith}
use lib.IntN.{ℤ}
use lib.ListN.{length, length-append}
use lib.Ieee.{Float}
use Rattle.machine.specs.Runs.{run, Each}
use Rattle.shaping.specs.Rate.{Rate}
use Rattle.shaping.proofs.RateFacts.{Facts}
use Rattle.protocol.specs.declared.Kind.{Kind}
use Rattle.search.specs.declared.Control.{Control}
use Rattle.search.specs.TakenBurst.{TakenBurst, held_as}
use Rattle.search.specs.Search.{end_after_lem, same_kind, wait_after}
use Rattle.search.specs.Turn.{Outcome, cleared, owing, control_of}
use Rattle.search.proofs.SampleByWait.{sampled_free}
use Rattle.demodulator_run.specs.Rules.{Single, History, history_all, single_rules}
use Rattle.demodulator_run.specs.Demands.{ear_of, taken_at_lem}
use Rattle.demodulator_run.specs.Stretch.{Sixteen}
use Rattle.demodulator_run.specs.Calls.{Call, one, history_next, rules, Given}
use Rattle.demodulator_run.proofs.Pass.{controlled}
use Rattle.demodulator_run.proofs.Sixteen.{sixteen_append}
use Rattle.demodulator_examples.proofs.Fed.{fed, fed_append, fed_sampled, eight_at, next, next_is}
use Rattle.demodulator_examples.proofs.Steps.{standing, Hits, none, hears}
use Rattle.demodulator_examples.proofs.Table.{pause as zeros, pause_length as zeros-length, sixteen_pause as sixteen-zeros}
use Rattle.demodulator_examples.proofs.Take.{one_more, fed_all_lem, after_take}
use Rattle.demodulator_examples.proofs.AsCalls.{as_given, as_counted}
use Rattle.silence.specs.Silence.{Gives, Silent, counted as count_of, Pause}
use Rattle.silence.proofs.SearchBounds.{failed}

-- ---- the calls of a caller that accepts at once
abbrev pub feeding : List ℤ → List Call
feeding xs = map one (fed xs)

pub feeding_append : (xs ys : List ℤ) → feeding (xs ++ ys) ≡ feeding xs ++ feeding ys
feeding_append xs ys = ap (map one) (fed_append xs ys) ∙ map-append one (fed xs) (fed ys)

pub feeding_run : (R : Rate) (cs : List Single) (h : History) → run (rules R) h (map one cs) ≡ run (single_rules R.taps R.p) h cs
unfolding run history_next
feeding_run R [] h = refl
feeding_run R (c ∷ cs) h = feeding_run R cs _

zeros_silent : (n : ℕ) → Each Silent (feeding (zeros n))
unfolding Each Gives fed zeros
zeros_silent zero = tt
zeros_silent (suc n) = (refl, (tt, zeros_silent n))

module _ (R : Rate) (F : Facts R) where
  pub feeding_given : (xs : List ℤ) → Sixteen xs → Each Given (feeding xs)
  feeding_given xs s = as_given R F (fed xs) (fed_sampled xs s)

  pub feeding_count : (xs : List ℤ) → Sixteen xs → length xs ≤ 2 ^ 63 → count_of R (feeding xs) ≡ length xs
  feeding_count xs s few = as_counted R F (fed xs) (fed_sampled xs s) ∙ fed_all_lem R F xs s few

  -- whatever came before, n zeros are a pause of n
  module _ (xs : List ℤ) (s : Sixteen xs) (n : ℕ) (few : length xs + n ≤ 2 ^ 63) where
    pub both_count : count_of R (feeding xs ++ feeding (zeros n)) ≡ length xs + n
    both_count =
        let e = length-append xs (zeros n) in
        let l = zeros-length n in
        ap (count_of R) (sym (feeding_append xs (zeros n))) ∙ feeding_count (xs ++ zeros n) (sixteen_append xs (zeros n) s (sixteen-zeros n)) (omega arith) ∙ omega arith

    pub both_given : Each Given (feeding xs ++ feeding (zeros n))
    both_given = subst (Each Given) (feeding_append xs (zeros n)) (feeding_given (xs ++ zeros n) (sixteen_append xs (zeros n) s (sixteen-zeros n)))

    pub pauses : Pause n (count_of R) (feeding xs) (feeding (zeros n))
    pauses = record { silent = zeros_silent n; long = let a = feeding_count xs s (omega arith) in let b = both_count in omega arith }

  -- ---- n samples at which nothing matches, x, at which a kind does, and y, at which none does
  module _ (n : ℕ) (front : List ℤ) (x y : ℤ) (more : List ℤ) (long : length front ≡ n) (small : Sixteen (front ++ (x ∷ y ∷ more))) (few : length (front ++ (x ∷ y ∷ more)) ≤ 2 ^ 63)
      (silent : (m : ℕ) → m ≤ n → Hits (ear_of R.taps R.p (front ++ (x ∷ y ∷ more)) m) none) (k : Kind)
      (first : Hits (ear_of R.taps R.p (front ++ (x ∷ y ∷ more)) (n + 1)) (same_kind k)) (second : Hits (ear_of R.taps R.p (front ++ (x ∷ y ∷ more)) (n + 1 + 1)) none) where
    abbrev all : List ℤ
    all = front ++ (x ∷ y ∷ more)

    abbrev up_to_X : List ℤ
    up_to_X = front ++ (x ∷ [])

    abbrev pub cut_off : List ℤ
    cut_off = up_to_X ++ (y ∷ [])

    abbrev burst : TakenBurst
    burst = taken_at_lem (ear_of R.taps R.p all) k (n + 1)

    length_x : length up_to_X ≡ n + 1
    length_x = length-append front (x ∷ []) ∙ omega arith

    part : all ≡ up_to_X ++ (y ∷ more)
    part = sym (append_assoc front (x ∷ []) (y ∷ more))

    below : n + 1 < 2 ^ 63
    below = let e = length-append front (x ∷ y ∷ more) in omega arith

    misses : Hits (eight_at R cut_off) none
    misses = subst (λ (v : ℕ → Float). Hits v none) (hears R all up_to_X y more (n + 1) length_x part below) second

    -- a wait is held, and the timer has its 384p
    pub waits : history_all R.taps R.p (fed cut_off) ≡ standing cut_off (held_as burst) (wait_after R.p 1) (Some (end_after_lem (n + 1 + 1) (384 * R.p))) (n + 1 + 1)
    waits =
        let (t, e) = after_take R F n front x (y ∷ more) long small few silent k first in
        let c : Control = controlled (held_as burst) None t false (n + 1) in
        one_more R F up_to_X y
        ∙ ap (λ (h : History). next R h y) e
        ∙ next_is R (standing up_to_X (held_as burst) None t (n + 1)) y refl below
        ∙ ap (λ (o : Outcome). record { samples = cut_off; control = owing false (control_of o) }) (sampled_free R.p (eight_at R cut_off) c refl)
        ∙ ap (λ (d : Control). record { samples = cut_off; control = owing false d }) (failed R.p (eight_at R cut_off) misses burst (cleared (n + 1 + 1) t) false (n + 1 + 1))
