-- One call: on a fit record that says its rate and holds what the rules have sent, it is answered as the rules say and leaves what they say. Assumes nothing.
use mathlib.Core.Path.{◌≡◌, refl, sym, subst, ap, ◌∙◌}
use mathlib.Core.Bool.{true}
use mathlib.Core.List.{List, ◌++◌}
use Prim.Native.Nat.{ℕ, ◌+◌}
use native.Mathlib.Omega.{arith}
use lib.IntN.{ℤ, pos}
use lib.ListN.{length, drop, replicate}
use lib.Ieee.{Float}
use Rattle.numbers.proofs.Firsts.{firsts_same}
use Rattle.shaping.specs.Rate.{Rate, rate_of, per_second}
use Rattle.shaping.proofs.RateFacts.{Facts, own_rate}
use Rattle.modulator.specs.declared.OutputBuffer.{OutputBuffer}
use Rattle.modulator.specs.declared.Pending.{Pending}
use Rattle.modulator.specs.declared.SoftModulator.{SoftModulator}
use Rattle.modulator.specs.Paper.{wrote}
use Rattle.modulator.specs.Control.{zeros_read, samples_read, written_count, handed_out}
use Rattle.modulator.specs.Record.{control_of, stored_sample, with_pending}
use Rattle.modulator.specs.Record.{framed as framedRecord}
use Rattle.modulator.specs.Fit.{record_fit_lem}
use Rattle.modulator.specs.Outcome.{Outcome, only, told, sends, frame_outcome, update_outcome, action_outcome}
use Rattle.modulator.specs.Calls.{Left, settled, drained, provided, updated, ran}
use Rattle.modulator.specs.Calls.{read as readInto}
use Rattle.modulator_laws.proofs.OutcomeLimits.{Few, frame_few, update_few, action_few}
use Rattle.modulator_run.specs.Rules.{Call, provide, read, update, ask, Sent, After, framed, frame_sample, called}
use Rattle.modulator_run.specs.Rules.{settled as settledBy, drained as drainedBy}
use Rattle.modulator_run.specs.Run.{left_at, left, said_by}
use Rattle.modulator_run.specs.Represents.{Remembers, Represents}
use Rattle.modulator_run.proofs.NextFrame.{next_frame}

-- what the rules have sent, with all that the record shows
abbrev shown : SoftModulator → List Float → ℕ → Sent
shown m symbols before = record { symbols = symbols; before = before; progress = m.progress; pending = m.pending; buffer = m.buffer }

module _ (R : Rate) (F : Facts R) where
  -- what the record's call leaves is what the rules' call comes to
  pub record Agrees (l : Left) (a : After) : Type 0 where
    pub represents : Represents R l.modulator a.sent
    pub says : said_by l ≡ a.said

  -- a record that says this rate is called at it
  pub own : (m : SoftModulator) → m.rate ≡ per_second R.p → rate_of m.rate ≡ R
  own m e = ap rate_of e ∙ own_rate R F

  module _ (m : SoftModulator) (xs : List Float) (b : ℕ) (rate : m.rate ≡ per_second R.p) (r : Remembers R m xs b) where
    abbrev s : Sent
    s = shown m xs b

    -- ---- neither window nor store is touched
    pended : (pending : Pending) (buffer : OutputBuffer) → Represents R (with_pending pending buffer m) (shown (with_pending pending buffer m) xs b)
    pended pending buffer = record {
      rate = rate;
      remembers = record {
        window_places_lem = r.window_places_lem;
        window_cursor = r.window_cursor;
        window = r.window;
        store_places = r.store_places;
        store = r.store;
        last = r.last;
      };
      progress = refl;
      pending = refl;
      buffer = refl;
    }

    -- ---- a frame, an update and an action request, by what comes of them
    settled_agrees : (o : Outcome) → Few o → Agrees (settled R m o) (settledBy R s o)
    unfolding Few settled settledBy framedRecord framed
    settled_agrees (only answer) few = record { represents = record { rate = rate; remembers = r; progress = refl; pending = refl; buffer = refl }; says = refl }
    settled_agrees (told answer pending buffer) few = record { represents = pended pending buffer; says = refl }
    settled_agrees (sends frame padding pending) few = record { represents = record { rate = rate; remembers = next_frame R F m xs b r frame padding pending few; progress = refl; pending = refl; buffer = refl }; says = refl }

    -- ---- a read
    -- what the store holds of the frame is the stream's
    handed : (n : ℕ) → handed_out (stored_sample m) m.progress n ≡ handed_out (frame_sample R s) m.progress n
    unfolding handed_out
    handed n =
        ap (λ (l : List ℤ). replicate (zeros_read m.progress n) (pos 0) ++ l)
        (firsts_same _ _ (samples_read m.progress n) (λ i l. r.store (m.progress.next_read + i) (omega arith)))

    drained_agrees : (room : List ℤ) → Agrees (drained m room) (drainedBy R room s)
    unfolding drained drainedBy
    drained_agrees room = record {
      represents = record {
        rate = rate;
        remembers = record {
          window_places_lem = r.window_places_lem;
          window_cursor = r.window_cursor;
          window = r.window;
          store_places = r.store_places;
          store = r.store;
          last = r.last;
        };
        progress = refl;
        pending = refl;
        buffer = refl;
      };
      says = ap (λ (l : List ℤ). record { answer = wrote (written_count m.progress (length room)); room = l ++ drop (written_count m.progress (length room)) room }) (handed (length room));
    }

    each : record_fit_lem R.p m ≡ true → (c : Call) → Agrees (left_at R m c) (called R s c)
    unfolding left_at called provided readInto updated ran
    each fit (provide frame symbols) = rw fit (settled_agrees (frame_outcome R.p frame symbols (control_of m)) (frame_few R.p (control_of m) frame symbols))
    each fit (read room) = rw fit (drained_agrees room)
    each fit (update fill capacity latency) = rw fit (settled_agrees (update_outcome R.p fill capacity latency (control_of m)) (update_few R.p (control_of m) fill capacity latency))
    each fit ask = rw fit (settled_agrees (action_outcome (control_of m)) (action_few R.p (control_of m)))

  pub call_agrees : (m : SoftModulator) (s : Sent) → Represents R m s → record_fit_lem R.p m ≡ true → (c : Call) → Agrees (left m c) (called R s c)
  call_agrees m s r fit c =
      subst (λ (Q : Rate). Agrees (left_at Q m c) (called R s c)) (sym (own m r.rate)) (rw (sym whole) (each m s.symbols s.before r.rate r.remembers fit c))
    where
      whole : shown m s.symbols s.before ≡ s
      whole = rw (r.progress, r.pending, r.buffer)
