-- Document 02 k): no answer depends on what lies past a rate's places in the sender's window and store. Two records that differ there alone
-- answer every list of calls alike, fit or not. Assumes nothing.
use mathlib.Core.Path.{◌≡◌, refl, sym, subst, ap, ◌∙◌}
use mathlib.Core.Logic.{inl, inr}
use mathlib.Core.Bool.{Bool, true, false, cond}
use mathlib.Core.List.{List, [], ◌∷◌, ◌++◌}
use Prim.Native.Nat.{ℕ, zero, suc, ◌+◌, ◌*◌, ◌%◌, ◌≤◌, ◌<◌}
use native.Mathlib.Nat.{mod-lt}
use native.Mathlib.Omega.{arith}
use borrow.Author.Tests.{eqb-true, eqb-false}
use lib.Dec.{eqb}
use lib.IntN.{ℤ, pos}
use lib.ListN.{length, get_or, set, drop, replicate, length-set, length-replicate}
use lib.Seq.{get_or-set_same, get_or-set_other}
use lib.Ieee.{Float, nan, binary32, of_bits, to_signed}
use Rattle.numbers.proofs.Tests.{lt_or_le}
use Rattle.numbers.proofs.Firsts.{firsts_same, written_at}
use Rattle.machine.specs.Runs.{answers}
use Rattle.shaping.specs.Rate.{Rate, rate_fit, rate_of, tap_count}
use Rattle.shaping.proofs.Dot.{dot_same}
use Rattle.pulse.specs.Pulse.{pulses, Line, pushed, after, sample_of, sample_at}
use Rattle.modulator.specs.declared.ModulatorFrame.TheVariants.{EndOfTransmission}
use Rattle.modulator.specs.declared.Progress.{Progress}
use Rattle.modulator.specs.declared.Pending.{Pending}
use Rattle.modulator.specs.declared.SoftModulator.{SoftModulator}
use Rattle.modulator.specs.Paper.{refusal, wrote}
use Rattle.modulator.specs.Frame.{Symbols}
use Rattle.modulator.specs.Control.{Control, zeros_read, samples_read, written_count, read_on, handed_out, room_after}
use Rattle.modulator.specs.Record.{fresh, line_of, control_of, stored_sample, framed}
use Rattle.modulator.specs.Fit.{record_fit_lem}
use Rattle.modulator.specs.Outcome.{Outcome, only, told, sends, frame_outcome, update_outcome, action_outcome}
use Rattle.modulator.specs.Calls.{Left, unless_unfit, settled, drained, provided, updated, ran}
use Rattle.modulator.specs.Calls.{read as readInto}
use Rattle.modulator.proofs.Fitness.{ProgressFacts, record_facts}
use Rattle.modulator_laws.proofs.UnusedPlaces.{SameUsed, unused_untested, written_past, card, strewn, strewn_same}
use Rattle.protocol.specs.Refusals.{bare}
use Rattle.modulator_run.specs.Rules.{Call, provide, read, update, ask, Said}
use Rattle.modulator_run.specs.Run.{left_at, left, said_by, sender}

-- ---- two windows with the same in the places that are used, of which each has all
record SameLine (p : ℕ) (a b : Line) : Type 0 where
  pub window : (i : ℕ) → i < tap_count p → get_or a.window i nan ≡ get_or b.window i nan
  pub cursor : a.cursor ≡ b.cursor
  pub places : tap_count p ≤ length a.window
  pub other_places : tap_count p ≤ length b.window

module _ (p : ℕ) where
  pushed_same : (a b : Line) (x : Float) → SameLine p a b → SameLine p (pushed p a x) (pushed p b x)
  pushed_same a b x u = record {
    window = λ i l. ap (λ (c : ℕ). get_or (set a.window c x) i nan) u.cursor ∙ by_place i l (eqb i b.cursor) refl;
    cursor = ap (λ (c : ℕ). (c + 1) % tap_count p) u.cursor;
    places = omega (arith, length-set a.window a.cursor x, u.places);
    other_places = omega (arith, length-set b.window b.cursor x, u.other_places);
  }
    where
      by_place : (i : ℕ) → i < tap_count p → (t : Bool) → eqb i b.cursor ≡ t → get_or (set a.window b.cursor x) i nan ≡ get_or (set b.window b.cursor x) i nan
      by_place i l true e =
          let here : i ≡ b.cursor = eqb-true i b.cursor e in
          rw (← here) (get_or-set_same a.window i x nan (omega (arith, u.places)) ∙ sym (get_or-set_same b.window i x nan (omega (arith, u.other_places))))
      by_place i l false e =
          get_or-set_other a.window b.cursor i x nan (eqb-false i b.cursor e) ∙ u.window i l ∙ sym (get_or-set_other b.window b.cursor i x nan (eqb-false i b.cursor e))

  after_same : (e : ℕ → Float) (n : ℕ) (a b : Line) → SameLine p a b → SameLine p (after p e n a) (after p e n b)
  unfolding after
  after_same e zero a b u = u
  after_same e (suc n) a b u = pushed_same (after p e n a) (after p e n b) (e n) (after_same e n a b u)

module _ (R : Rate) where
  sum_same : (a b : Line) → SameLine R.p a b → sample_of R a ≡ sample_of R b
  unfolding sample_of
  sum_same a b u =
      ap (to_signed 15) (dot_same R.taps _ _ λ i l.
      ap (λ (c : ℕ). get_or a.window ((c + i) % tap_count R.p) nan) u.cursor ∙ u.window ((b.cursor + i) % tap_count R.p) (mod-lt (b.cursor + i) (omega arith)))

  -- ---- two records so
  pub record Alike (m n : SoftModulator) : Type 0 where
    pub used : SameUsed R.p m n
    pub places : tap_count R.p ≤ length m.filter_win
    pub other_places : tap_count R.p ≤ length n.filter_win

  -- what a call leaves of them
  record Steps (m : SoftModulator) (l k : Left) : Type 0 where
    pub says : said_by l ≡ said_by k
    pub rate : l.modulator.rate ≡ m.rate
    pub alike : Alike l.modulator k.modulator

  module _ (m n : SoftModulator) (a : Alike m n) where
    abbrev u : SameUsed R.p m n
    u = a.used

    lines : SameLine R.p (line_of m) (line_of n)
    lines = record { window = u.window; cursor = u.cursor; places = a.places; other_places = a.other_places }

    -- ---- a frame
    framed_alike : (s : Symbols) (padding : ℕ) (pending : Pending) → Alike (framed R s padding pending m) (framed R s padding pending n)
    unfolding framed
    framed_alike s padding pending =
        let e : ℕ → Float = pulses R.p s.symbol in
        let k : ℕ = R.p * s.count in
        let line = after_same R.p e k (line_of m) (line_of n) lines in
        record {
          used = record {
            rate = u.rate;
            store = λ i l. elim (lt_or_le i k) [
              | inl h ↦ written_at (sample_at R e (line_of m)) k m.next_transmission i (pos 0) h
                  ∙ sum_same _ _ (after_same R.p e (suc i) (line_of m) (line_of n) lines)
                  ∙ sym (written_at (sample_at R e (line_of n)) k n.next_transmission i (pos 0) h)
              | inr h ↦ written_past (sample_at R e (line_of m)) k m.next_transmission i (pos 0) h ∙ u.store i l
                  ∙ sym (written_past (sample_at R e (line_of n)) k n.next_transmission i (pos 0) h)
            ];
            window = line.window;
            cursor = line.cursor;
            progress = refl;
            pending = refl;
            buffer = u.buffer;
          };
          places = line.places;
          other_places = line.other_places;
        }

    -- ---- what comes of a call
    settled_alike : (o : Outcome) → Steps m (settled R m o) (settled R n o)
    unfolding settled framed
    settled_alike (only answer) = record { says = refl; rate = refl; alike = a }
    settled_alike (told answer pending buffer) = record {
      says = refl;
      rate = refl;
      alike = record {
        used = record { rate = u.rate; store = u.store; window = u.window; cursor = u.cursor; progress = u.progress; pending = refl; buffer = refl };
        places = a.places;
        other_places = a.other_places;
      };
    }
    settled_alike (sends frame padding pending) = record { says = refl; rate = refl; alike = framed_alike frame padding pending }

    handed : (s : Progress) → ProgressFacts R.p s → (room : ℕ) → handed_out (stored_sample m) s room ≡ handed_out (stored_sample n) s room
    unfolding handed_out
    handed s f room =
        ap (λ (l : List ℤ). replicate (zeros_read s room) (pos 0) ++ l)
        (firsts_same _ _ (samples_read s room) (λ i h. u.store (s.next_read + i) (omega (arith, f.len, f.read))))

    drained_alike : (room : List ℤ) → ProgressFacts R.p n.progress → Steps m (drained m room) (drained n room)
    unfolding drained
    drained_alike room f =
        let count : ℕ = written_count n.progress (length room) in
        record {
          says =
              ap (λ (s : Progress). record { answer = wrote (written_count s (length room)); room = room_after (stored_sample m) s room }) u.progress
              ∙ ap (λ (l : List ℤ). record { answer = wrote count; room = l ++ drop count room }) (handed n.progress f (length room));
          rate = refl;
          alike = record {
            used = record {
              rate = u.rate;
              store = u.store;
              window = u.window;
              cursor = u.cursor;
              progress = ap (λ (s : Progress). read_on s (length room)) u.progress;
              pending = u.pending;
              buffer = u.buffer;
            };
            places = a.places;
            other_places = a.other_places;
          };
        }

    -- both are refused, or neither
    unless_unfit_lem : (room : List ℤ) (l k : Left) → (record_fit_lem R.p n ≡ true → Steps m l k) → Steps m (unless_unfit R.p m room l) (unless_unfit R.p n room k)
    unless_unfit_lem room l k taken = by_test (record_fit_lem R.p n) refl
      where
        by_test : (fit : Bool) → record_fit_lem R.p n ≡ fit → Steps m (unless_unfit R.p m room l) (unless_unfit R.p n room k)
        by_test true e = rw (unused_untested R.p m n u, e) (taken e)
        by_test false e =
            rw (unused_untested R.p m n u, e)
            (record { says = ap (λ (rate : ℕ). record { answer = refusal (bare (cond (rate_fit rate) 1 15)); room = room }) u.rate; rate = refl; alike = a })

    control_same : control_of m ≡ control_of n
    control_same = λ i. record { progress = u.progress i; pending = u.pending i; buffer = u.buffer i }

    outcome_alike : (f : Control → Outcome) → Steps m (unless_unfit R.p m [] (settled R m (f (control_of m)))) (unless_unfit R.p n [] (settled R n (f (control_of n))))
    outcome_alike f = unless_unfit_lem [] _ _ λ _. subst (λ (s : Control). Steps m (settled R m (f s)) (settled R n (f (control_of n)))) (sym control_same) (settled_alike (f (control_of n)))

    steps : (c : Call) → Steps m (left_at R m c) (left_at R n c)
    unfolding left_at provided readInto updated ran
    steps (provide frame symbols) = outcome_alike (λ s. frame_outcome R.p frame symbols s)
    steps (read room) = unless_unfit_lem room _ _ λ fit. drained_alike room (record_facts R.p n fit).progress
    steps (update fill capacity latency) = outcome_alike (λ s. update_outcome R.p fill capacity latency s)
    steps ask = outcome_alike action_outcome

-- ---- every list of calls, at the rate that the records say
module _ (r : ℕ) where
  own_steps : (m n : SoftModulator) → m.rate ≡ r → Alike (rate_of r) m n → (c : Call) → Steps (rate_of r) m (left m c) (left n c)
  own_steps m n e a c =
      subst (λ (k : ℕ). Steps (rate_of r) m (left_at (rate_of k) m c) (left n c)) (sym e)
      (subst (λ (k : ℕ). Steps (rate_of r) m (left_at (rate_of r) m c) (left_at (rate_of k) n c)) (sym (sym a.used.rate ∙ e)) (steps (rate_of r) m n a c))

  answers_same : (cs : List Call) (m n : SoftModulator) → m.rate ≡ r → Alike (rate_of r) m n → answers sender m cs ≡ answers sender n cs
  unfolding answers
  answers_same [] m n e a = refl
  answers_same (c ∷ cs) m n e a =
      let s = own_steps m n e a c in
      let rest = answers_same cs (left m c).modulator (left n c).modulator (s.rate ∙ e) s.alike in
      λ i. s.says i ∷ rest i

pub unused_unread : (m n : SoftModulator) → Alike (rate_of m.rate) m n → (cs : List Call) → answers sender m cs ≡ answers sender n cs
unused_unread m n a cs = answers_same m.rate cs m n refl a

-- ---- it can be met: a fresh record at 24 kHz, and one with a not-a-number in place 41 of the window and a 1 in place 2,000 of the store
strewn_answers : (room : List ℤ) → let cs = provide EndOfTransmission [] ∷ read room ∷ ask ∷ [] in answers sender strewn cs ≡ answers sender card cs
unfolding fresh
strewn_answers room =
    unused_unread strewn card (record {
      used = strewn_same;
      places = omega (arith, length-set card.filter_win 41 nan, length-replicate 81 (of_bits binary32 0));
      other_places = omega (arith, length-replicate 81 (of_bits binary32 0));
    }) (provide EndOfTransmission [] ∷ read room ∷ ask ∷ [])
