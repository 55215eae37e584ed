-- The padding left is what the last preamble set, by the latency then, less the places of the reads since. Assumes nothing.
use mathlib.Core.Path.{◌≡◌, refl, sym, ap, subst, ◌∙◌}
use mathlib.Core.Logic.{◌↔◌}
use mathlib.Core.Bool.{Bool, true, false, not, cond, ◌&&◌}
use mathlib.Core.List.{List, [], ◌∷◌, ◌++◌, append_assoc}
use Prim.Native.Nat.{ℕ, ◌-◌}
use native.Mathlib.Nat.{sub-add-eq}
use native.Mathlib.Omega.{arith}
use lib.Dec.{T}
use lib.Ieee.{Float}
use lib.Ieee.Fits.{and_l, and_r}
use Rattle.machine.specs.Runs.{run, Each}
use Rattle.machine.proofs.Parts.{run_joined}
use Rattle.shaping.specs.Rate.{Rate}
use Rattle.shaping.proofs.RateFacts.{Facts}
use Rattle.protocol.specs.Refusals.{PaperRefusal}
use Rattle.given_symbols.specs.declared.Traffic.{Traffic}
use Rattle.modulator.specs.declared.DelaySteps.{DelaySteps}
use Rattle.modulator.specs.declared.ModulatorFrame.TheVariants.{Nothing as NoFrame, Preamble, Symbols as GivenSymbols, EndOfTransmission}
use Rattle.modulator.specs.declared.Progress.{Progress}
use Rattle.modulator.specs.Frame.{padding_of}
use Rattle.modulator.specs.Outcome.{frame_outcome}
use Rattle.modulator_run.specs.Rules.{Call, provide, read, update, ask, Sent, After, start, framed, settled, drained, called, rules, sent_all}
use Rattle.modulator_run.specs.Run.{record_after, Given}
use Rattle.modulator_run.specs.Kinds.{stores, delays, none}
use Rattle.modulator_run.specs.Padding.{latency_of, last_latency, places_of, places_read_lem, PaddingLeft, unset, set}
use Rattle.modulator_run.proofs.EachCall.{Refusing, miscounted, outside, unheaded, large, below, each_call}
use Rattle.modulator_run.proofs.LastCall.{by_last, none_more}
use Rattle.modulator_run.proofs.SenderRun.{sender_run}

abbrev pub padding : Sent → ℕ
padding s = s.progress.tx_delay_padding.0

abbrev latency : Sent → ℕ
latency s = s.buffer.output_latency.0

-- ---- the latency
refused_latency : (c : Call) (number : PaperRefusal) (l : ℕ) → Refusing c number → l ≡ cond (stores c) (latency_of c) l
unfolding stores
refused_latency c number l (miscounted e) = refl
refused_latency c number l (outside e) = refl
refused_latency c number l (unheaded e) = refl
refused_latency c number l (large e) = rw e
refused_latency c number l (below e) = rw e

-- with a call before others: whether it stores, and whether none of the others does
last_one : (a b : Bool) (l m n : ℕ) → cond b (cond a l m) n ≡ cond (not a && b) m (cond b (cond a l 0) n)
last_one true true l m n = refl
last_one true false l m n = refl
last_one false true l m n = refl
last_one false false l m n = refl

none_stored : (cs : List Call) → cond (none stores cs) 0 (last_latency cs) ≡ last_latency cs
unfolding none last_latency
none_stored [] = refl
none_stored (c ∷ cs) = sym (last_one (stores c) (none stores cs) (latency_of c) 0 (last_latency cs))

-- a read is never refused with a number other than 1
pub no_places : (c : Call) (number : PaperRefusal) → Refusing c number → places_of c ≡ 0
unfolding places_of
no_places c number (miscounted e) = refl
no_places c number (outside e) = refl
no_places c number (unheaded e) = refl
no_places c number (large e) = refl
no_places c number (below e) = refl

module _ (R : Rate) where
  latency_next : (s : Sent) (c : Call) → latency (called R s c).sent ≡ cond (stores c) (latency_of c) (latency s)
  unfolding stores latency_of framed drained
  latency_next s =
      each_call R s (λ (c : Call) (a : After). latency a.sent ≡ cond (stores c) (latency_of c) (latency s)) (record {
        refused = λ c number e. refused_latency c number (latency s) e;
        no_frame = λ _. refl;
        delayed = λ _ _ _. refl;
        symbols_given = λ _ _ _. refl;
        last_frame = λ _. refl;
        reads = λ _. refl;
        stored = λ _ _ _ e. rw e;
        told = λ _ _. refl;
        unread = λ _ _. refl;
        idles = λ _ _ _. refl;
        wishes = λ _ _ _. refl;
        rests = λ _ _ _. refl;
      })

  -- after calls, by the last update among them
  latency_from : (cs : List Call) (s : Sent) → latency (run (rules R) s cs) ≡ cond (none stores cs) (latency s) (last_latency cs)
  unfolding run none last_latency
  latency_from [] s = refl
  latency_from (c ∷ cs) s =
      latency_from cs (called R s c).sent ∙ rw (latency_next s c) (last_one (stores c) (none stores cs) (latency_of c) (latency s) (last_latency cs))

  latency_all : (cs : List Call) → latency (sent_all R cs) ≡ last_latency cs
  latency_all cs = latency_from cs start ∙ none_stored cs

  -- ---- the padding, by one call
  padding_set : (s : Sent) (traffic : Traffic) (steps : DelaySteps) (symbols : List Float) → padding (called R s (provide (Preamble traffic steps) symbols)).sent ≡ padding_of R.p steps.0 (latency s)
  unfolding called frame_outcome settled framed
  padding_set s traffic steps symbols = refl

  pub padding_read : (s : Sent) (c : Call) → T (not (delays c)) → padding (called R s c).sent ≡ padding s - places_of c
  unfolding delays places_of framed drained
  padding_read s =
      each_call R s (λ (c : Call) (a : After). T (not (delays c)) → padding a.sent ≡ padding s - places_of c) (record {
        refused = λ c number e _. omega (arith, no_places c number e);
        no_frame = λ _ _. omega arith;
        delayed = λ _ _ _ t. absurd t;
        symbols_given = λ _ _ _ _. omega arith;
        last_frame = λ _ _. omega arith;
        reads = λ _ _. omega arith;
        stored = λ _ _ _ _ _. omega arith;
        told = λ _ _ _. omega arith;
        unread = λ _ _ _. omega arith;
        idles = λ _ _ _ _. omega arith;
        wishes = λ _ _ _ _. omega arith;
        rests = λ _ _ _ _. omega arith;
      })

  -- ---- by all
  padding_since : (cs : List Call) (s : Sent) → T (none delays cs) → padding (run (rules R) s cs) ≡ padding s - places_read_lem cs
  unfolding run none places_read_lem
  padding_since [] s t = omega arith
  padding_since (c ∷ cs) s t =
      padding_since cs (called R s c).sent (and_r (not (delays c)) (none delays cs) t)
      ∙ rw (padding_read s c (and_l (not (delays c)) (none delays cs) t), sub-add-eq (padding s) (places_of c) (places_read_lem cs))

  left_after : (cs : List Call) (n : ℕ) → PaddingLeft R.p cs n → padding (sent_all R cs) ≡ n
  unfolding run
  left_after cs n (unset t) = padding_since cs start t ∙ omega arith
  left_after cs n (set before traffic steps symbols since parts t) =
      let there : Sent = sent_all R before in
      let delay : Call = provide (Preamble traffic steps) symbols in
      ap (λ (ds : List Call). padding (sent_all R ds)) parts
      ∙ ap padding (run_joined (rules R) before (delay ∷ since) start)
      ∙ padding_since since (called R there delay).sent t
      ∙ rw (padding_set there traffic steps symbols, latency_all before)

-- ---- each list of calls leaves some padding
Some : ℕ → List Call → Type 0
Some p cs = (n : ℕ) × PaddingLeft p cs n

module _ (p : ℕ) where
  some_more : (cs : List Call) (c : Call) → delays c ≡ false → Some p cs → Some p (cs ++ c ∷ [])
  unfolding Some
  some_more cs c e (n, unset t) = (0, unset (none_more delays cs c t e))
  some_more cs c e (n, set before traffic steps symbols since parts t) =
      let longer = ap (λ (ds : List Call). ds ++ c ∷ []) parts ∙ append_assoc before (provide (Preamble traffic steps) symbols ∷ since) (c ∷ []) in
      (_, set before traffic steps symbols (since ++ c ∷ []) longer (none_more delays since c t e))

  some_last : (cs : List Call) (c : Call) → Some p cs → Some p (cs ++ c ∷ [])
  unfolding Some delays none
  some_last cs (provide NoFrame symbols) l = some_more cs _ refl l
  some_last cs (provide (Preamble traffic steps) symbols) l = (_, set cs traffic steps symbols [] refl tt)
  some_last cs (provide (GivenSymbols traffic) symbols) l = some_more cs _ refl l
  some_last cs (provide EndOfTransmission symbols) l = some_more cs _ refl l
  some_last cs (read room) l = some_more cs _ refl l
  some_last cs (update fill capacity latency) l = some_more cs _ refl l
  some_last cs ask l = some_more cs _ refl l

  some : (cs : List Call) → Some p cs
  unfolding Some none
  some = by_last (Some p) (0, unset tt) some_last

-- ---- exactly
module _ (R : Rate) where
  pub padding_exactly : (cs : List Call) (n : ℕ) → (padding (sent_all R cs) ≡ n) ↔ PaddingLeft R.p cs n
  unfolding Some
  padding_exactly cs n =
      let l = some R.p cs in
      (λ e. subst (PaddingLeft R.p cs) (sym (left_after R cs l.0 l.1) ∙ e) l.1, left_after R cs n)

-- the record, from a fresh start
pub padding_by_record : (R : Rate) → Facts R → (cs : List Call) → Each Given cs → (n : ℕ) → ((record_after R cs).progress.tx_delay_padding.0 ≡ n) ↔ PaddingLeft R.p cs n
padding_by_record R F cs g n =
    let same = ap (λ (s : Progress). s.tx_delay_padding.0) (sender_run R F cs g).0.progress in
    let left = padding_exactly R cs n in
    (λ e. left.0 (sym same ∙ e), λ l. same ∙ left.1 l)
