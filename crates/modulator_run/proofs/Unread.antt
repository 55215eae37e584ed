-- The frame samples unread are those of the last frame, less the places of the reads since that padding did not take; and
-- reads bring the padding and them, as far as there are places. Assumes nothing.
use mathlib.Core.Path.{◌≡◌, refl, sym, ap, subst, ◌∙◌}
use mathlib.Core.Logic.{◌↔◌, inl, inr}
use mathlib.Core.Bool.{Bool, false, not}
use mathlib.Core.List.{List, [], ◌∷◌, ◌++◌}
use Prim.Native.Nat.{ℕ, ◌+◌, ◌-◌, ◌*◌, min}
use native.Mathlib.Nat.{sub-add-eq}
use native.Mathlib.Omega.{arith}
use lib.Dec.{T}
use lib.ListN.{length}
use lib.Ieee.Fits.{and_l, and_r}
use Rattle.machine.specs.Runs.{run, answers, Each}
use Rattle.machine.proofs.Parts.{run_joined, run_last}
use Rattle.shaping.specs.Rate.{Rate}
use Rattle.shaping.proofs.RateFacts.{Facts}
use Rattle.protocol.specs.Refusals.{PaperRefusal}
use Rattle.modulator.specs.declared.ModulatorFrame.TheVariants.{Nothing as NoFrame, Preamble, Symbols as GivenSymbols, EndOfTransmission}
use Rattle.modulator.specs.Control.{unread}
use Rattle.modulator_run.specs.Rules.{Call, provide, read, update, ask, Sent, After, start, framed, drained, called, rules, sent_all}
use Rattle.modulator_run.specs.Run.{record_after, Given}
use Rattle.modulator_run.specs.Kinds.{replaces, delays, none}
use Rattle.modulator_run.specs.Padding.{places_of, places_read_lem}
use Rattle.modulator_run.specs.Unread.{symbols_of_lem, UnreadLeft, unsent, sent}
use Rattle.modulator_run.specs.Pieces.{counted, total}
use Rattle.modulator_run.proofs.EachCall.{Refusing, miscounted, outside, unheaded, large, below, each_call}
use Rattle.modulator_run.proofs.LastCall.{last_or_none}
use Rattle.modulator_run.proofs.Padding.{padding, no_places, padding_read, padding_exactly}
use Rattle.modulator_run.proofs.SenderRun.{sender_run}

-- frame samples
abbrev pub samples : Sent → ℕ
samples s = unread s.progress

-- ---- one call
-- a refused call provides no frame
not_framed : (c : Call) (number : PaperRefusal) → Refusing c number → replaces c ≡ false
unfolding replaces
not_framed c number (miscounted e) = e
not_framed c number (outside e) = e
not_framed c number (unheaded e) = e
not_framed c number (large e) = refl
not_framed c number (below e) = refl

-- one that sets padding does
undelayed : (c : Call) → T (not (replaces c)) → T (not (delays c))
unfolding replaces delays
undelayed (provide NoFrame symbols) t = tt
undelayed (provide (Preamble traffic steps) symbols) t = t
undelayed (provide (GivenSymbols traffic) symbols) t = tt
undelayed (provide EndOfTransmission symbols) t = tt
undelayed (read room) t = tt
undelayed (update fill capacity latency) t = tt
undelayed ask t = tt

-- ---- u samples with k of padding before them, and rooms of a and of b
rest_unread : (u k a : ℕ) → u - min (a - min a k) u ≡ u - (a - k)
rest_unread u k a = omega arith

unread_twice : (u k a b : ℕ) → u - (a - k) - (b - (k - a)) ≡ u - (a + b - k)
unread_twice u k a b =
    let whole : a - k + (b - (k - a)) ≡ a + b - k = omega arith in
    sym (sub-add-eq u (a - k) (b - (k - a))) ∙ ap (λ (n : ℕ). u - n) whole

rest_of_both : (u k a : ℕ) → k - a + (u - (a - k)) ≡ k + u - a
rest_of_both u k a = omega arith

brought_twice : (n a b : ℕ) → min a n + min b (n - a) ≡ min (a + b) n
brought_twice n a b = omega arith

module _ (R : Rate) where
  samples_set : (s : Sent) (c : Call) → T (replaces c) → samples (called R s c).sent ≡ R.p * symbols_of_lem c
  unfolding replaces symbols_of_lem framed
  samples_set s =
      each_call R s (λ (c : Call) (a : After). T (replaces c) → samples a.sent ≡ R.p * symbols_of_lem c) (record {
        refused = λ c number e t. absurd (subst T (not_framed c number e) t);
        no_frame = λ _ t. absurd t;
        delayed = λ _ _ _ _. omega arith;
        symbols_given = λ _ _ _ _. omega arith;
        last_frame = λ _ _. omega arith;
        reads = λ _ t. absurd t;
        stored = λ _ _ _ _ t. absurd t;
        told = λ _ _ t. absurd t;
        unread = λ _ _ t. absurd t;
        idles = λ _ _ _ t. absurd t;
        wishes = λ _ _ _ t. absurd t;
        rests = λ _ _ _ t. absurd t;
      })

  pub samples_read_lem : (s : Sent) (c : Call) → T (not (replaces c)) → samples (called R s c).sent ≡ samples s - (places_of c - padding s)
  unfolding replaces places_of drained
  samples_read_lem s =
      each_call R s (λ (c : Call) (a : After). T (not (replaces c)) → samples a.sent ≡ samples s - (places_of c - padding s)) (record {
        refused = λ c number e _. omega (arith, no_places c number e);
        no_frame = λ _ _. omega arith;
        delayed = λ _ _ _ t. absurd t;
        symbols_given = λ _ _ e t. absurd (subst (λ (b : Bool). T (not b)) e t);
        last_frame = λ _ t. absurd t;
        reads = λ room _. sub-add-eq s.progress.next_len s.progress.next_read _ ∙ rest_unread (samples s) (padding s) (length room);
        stored = λ _ _ _ _ _. omega arith;
        told = λ _ _ _. omega arith;
        unread = λ _ _ _. omega arith;
        idles = λ _ _ _ _. omega arith;
        wishes = λ _ _ _ _. omega arith;
        rests = λ _ _ _ _. omega arith;
      })

  -- what its answer says were written: padding and frame samples, as far as there are places
  samples_brought : (s : Sent) (c : Call) → counted (called R s c).said.answer ≡ min (places_of c) (padding s + samples s)
  unfolding counted places_of drained
  samples_brought s =
      each_call R s (λ (c : Call) (a : After). counted a.said.answer ≡ min (places_of c) (padding s + samples s)) (record {
        refused = λ c number e. omega (arith, no_places c number e);
        no_frame = λ _. omega arith;
        delayed = λ _ _ _. omega arith;
        symbols_given = λ _ _ _. omega arith;
        last_frame = λ _. omega arith;
        reads = λ _. omega arith;
        stored = λ _ _ _ _. omega arith;
        told = λ _ _. omega arith;
        unread = λ _ _. omega arith;
        idles = λ _ _ _. omega arith;
        wishes = λ _ _ _. omega arith;
        rests = λ _ _ _. omega arith;
      })

  -- ---- all calls
  samples_since : (cs : List Call) (s : Sent) → T (none replaces cs) → samples (run (rules R) s cs) ≡ samples s - (places_read_lem cs - padding s)
  unfolding run none places_read_lem
  samples_since [] s t = omega arith
  samples_since (c ∷ cs) s t =
      let quiet = and_l (not (replaces c)) (none replaces cs) t in
      samples_since cs (called R s c).sent (and_r (not (replaces c)) (none replaces cs) t)
      ∙ rw (samples_read_lem s c quiet, padding_read R s c (undelayed c quiet)) (unread_twice (samples s) (padding s) (places_of c) (places_read_lem cs))

  pub all_brought : (cs : List Call) (s : Sent) → T (none replaces cs) → total (answers (rules R) s cs) ≡ min (places_read_lem cs) (padding s + samples s)
  unfolding answers total none places_read_lem
  all_brought [] s t = omega arith
  all_brought (c ∷ cs) s t =
      let quiet = and_l (not (replaces c)) (none replaces cs) t in
      let rest = all_brought cs (called R s c).sent (and_r (not (replaces c)) (none replaces cs) t) in
      rw (samples_brought s c, rest, samples_read_lem s c quiet, padding_read R s c (undelayed c quiet), rest_of_both (samples s) (padding s) (places_of c))
      (brought_twice (padding s + samples s) (places_of c) (places_read_lem cs))

  unread_after : (cs : List Call) (n : ℕ) → UnreadLeft R.p cs n → samples (sent_all R cs) ≡ n
  unfolding run
  unread_after cs n (unsent t) = samples_since cs start t ∙ omega arith
  unread_after cs n (sent last left h) =
      let there : Sent = sent_all R last.before in
      let kept : padding (called R there last.call).sent ≡ left =
      ap padding (sym (run_last (rules R) last.before last.call start)) ∙ (padding_exactly R (last.before ++ last.call ∷ []) left).1 h
      in
      ap (λ (ds : List Call). samples (sent_all R ds)) last.parts
      ∙ ap samples (run_joined (rules R) last.before (last.call ∷ last.since) start)
      ∙ samples_since last.since (called R there last.call).sent last.unstopped
      ∙ rw (samples_set there last.call last.started, kept)

  -- each list of calls leaves some
  some : (cs : List Call) → (n : ℕ) × UnreadLeft R.p cs n
  some cs = elim (last_or_none replaces cs) [
    | inl t ↦ (0, unsent t)
    | inr last ↦ (_, sent last _ ((padding_exactly R (last.before ++ last.call ∷ []) _).0 refl))
  ]

  pub unread_exactly : (cs : List Call) (n : ℕ) → (samples (sent_all R cs) ≡ n) ↔ UnreadLeft R.p cs n
  unread_exactly cs n =
      let l = some cs in
      (λ e. subst (UnreadLeft R.p cs) (sym (unread_after cs l.0 l.1) ∙ e) l.1, unread_after cs n)

-- the record, from a fresh start
pub unread_by_record : (R : Rate) → Facts R → (cs : List Call) → Each Given cs → (n : ℕ) → (unread (record_after R cs).progress ≡ n) ↔ UnreadLeft R.p cs n
unread_by_record R F cs g n =
    let same = ap unread (sender_run R F cs g).0.progress in
    let left = unread_exactly R cs n in
    (λ e. left.0 (sym same ∙ e), λ l. same ∙ left.1 l)
