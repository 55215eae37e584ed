-- One call: on a record that holds what the rules have heard, it is answered as the rules say and leaves what they say. Assumes nothing.
use mathlib.Core.Path.{◌≡◌, refl, sym, ap, subst}
use mathlib.Core.Bool.{Bool, true, false, not, cond, true≢false, false≢true}
use mathlib.Core.List.{List, [], ◌∷◌, ◌++◌}
use Prim.Native.Nat.{ℕ, ◌^◌, ◌<◌}
use native.Mathlib.Omega.{arith}
use lib.Dec.{eqb, ltb}
use lib.IntN.{ℤ}
use lib.ListN.{length}
use lib.Ieee.{Float}
use Rattle.numbers.specs.Firsts.{written}
use Rattle.shaping.specs.Rate.{Rate}
use Rattle.shaping.proofs.RateFacts.{Facts}
use Rattle.search.specs.declared.Control.{Control}
use Rattle.search.specs.declared.Reply.{Reply}
use Rattle.search.specs.Turn.{Outcome, quiet, offer, sampled}
use Rattle.demodulator.specs.declared.SoftDemodulator.{SoftDemodulator}
use Rattle.demodulator.specs.Spans.{eight}
use Rattle.demodulator.specs.Record.{back, stored, with_control}
use Rattle.demodulator.specs.Calls.{Paper, frame, carrier, Left, refused, finished, admitted_by, demodulated, answered, timer_held, detected, offer_of}
use Rattle.demodulator_run.specs.Filter.{ago}
use Rattle.demodulator_run.specs.Rules.{Single, sample, reply, query, History, After, settled, admitted, given, single}
use Rattle.demodulator_run.specs.Rules.{answered as repliedTo, refused as turned_down}
use Rattle.demodulator_run.specs.Run.{left, left_at, said_by}
use Rattle.demodulator_run.specs.Represents.{Remembers, Represents}
use Rattle.demodulator_run.proofs.SameWindow.{eight_same, window_same}
use Rattle.demodulator_run.proofs.Stored.{stored_remembers}
use Rattle.demodulator_run.proofs.RecordFit.{FitForAll}
use Rattle.demodulator_run.proofs.RateKept.{own}

module _ (R : Rate) (F : Facts R) where
  some : 0 < R.p
  some = let u = F.some in omega arith

  -- what the record's call leaves is what the rules' call comes to
  pub record Agrees (l : Left) (a : After) : Type 0 where
    pub rings : Remembers R l.demodulator a.history.samples
    pub control : l.demodulator.control ≡ a.history.control
    pub says : said_by l ≡ a.said

  -- ---- cases
  both : (b d : Bool) (k l : Left) (x y : After) → b ≡ d → (d ≡ true → Agrees k x) → (d ≡ false → Agrees l y) → Agrees (cond b k l) (cond d x y)
  both true true k l x y e f g = f refl
  both false false k l x y e f g = g refl
  both true false k l x y e f g = absurd (true≢false e)
  both false true k l x y e f g = absurd (false≢true e)

  -- ---- the window and the ring of a record whose control is changed
  recontrolled : (c : Control) (m : SoftDemodulator) (xs : List ℤ) → Remembers R m xs → Remembers R (with_control c m) xs
  recontrolled c m xs r = record {
    window_places_lem = r.window_places_lem;
    window_halves = r.window_halves;
    window_cursor = r.window_cursor;
    window = r.window;
    ring_places_lem = r.ring_places_lem;
    ring_cursor = r.ring_cursor;
    ring = r.ring;
  }

  pub eight_read : (m : SoftDemodulator) (xs : List ℤ) → Remembers R m xs → eight R.p (back R.p m) ≡ eight R.p (ago R.taps R.p xs)
  eight_read m xs r = eight_same R.p some (back R.p m) (ago R.taps R.p xs) r.ring

  finished_agrees : (m : SoftDemodulator) (xs : List ℤ) (room : List Float) (o : Outcome) → Remembers R m xs → Agrees (finished R.p m room o) (settled R.taps R.p xs room o)
  unfolding settled
  finished_agrees m xs room (quiet c) r = record { rings = recontrolled c m xs r; control = refl; says = refl }
  finished_agrees m xs room (offer shown c) r = record {
    rings = recontrolled c m xs r;
    control = refl;
    says = ap (λ (f : ℕ → Float). record { answer = frame (offer_of shown c.sample); room = written f 192 room }) (window_same R.p some (back R.p m) (ago R.taps R.p xs) r.ring shown);
  }

  -- ---- the calls
  module _ (m : SoftDemodulator) (h : History) (r : Represents R m h) (fit : FitForAll R.p m) where
    refused_agrees : (number : ℕ) (room : List Float) → Agrees (refused number m room) (turned_down number room h)
    refused_agrees number room = record { rings = r.rings; control = r.control; says = refl }

    taken_agrees : (x : ℤ) (room : List Float) → Agrees (admitted_by R m x room) (admitted R.taps R.p h x room)
    unfolding admitted_by
    taken_agrees x room =
        let xs = h.samples ++ (x ∷ []) in
        let s = stored_remembers R F m h.samples r.rings x in
        let same : sampled R.p (eight R.p (back R.p (stored R m x))) m.control ≡ sampled R.p (eight R.p (ago R.taps R.p xs)) h.control = rw (eight_read (stored R m x) xs s, r.control) in
        rw same (finished_agrees (stored R m x) xs room (sampled R.p (eight R.p (ago R.taps R.p xs)) h.control) s)

    sample_agrees : (x : ℤ) (room : List Float) → Agrees (demodulated R m x room) (given R.taps R.p h x room)
    unfolding demodulated given
    sample_agrees x room =
        rw fit.for_sample
        (both m.control.owed h.control.owed _ _ _ _ (ap (λ (c : Control). c.owed) r.control) (λ _. refused_agrees 2 room)
        (λ _. both (ltb (length room) 192) (ltb (length room) 192) _ _ _ _ refl (λ _. refused_agrees 4 room)
        (λ _. both (eqb m.control.sample (2 ^ 63)) (eqb h.control.sample (2 ^ 63)) _ _ _ _ (ap (λ (c : Control). eqb c.sample (2 ^ 63)) r.control) (λ _. refused_agrees 5 room)
        (λ _. taken_agrees x room))))

    reply_agrees : (a : Reply) → Agrees (answered R.p m a []) (repliedTo R.taps R.p h a)
    unfolding answered repliedTo
    reply_agrees a =
        rw fit.for_reply
        (both (not m.control.owed) (not h.control.owed) _ _ _ _ (ap (λ (c : Control). not c.owed) r.control) (λ _. refused_agrees 3 [])
        (λ _. record { rings = recontrolled _ m h.samples r.rings; control = rw (eight_read m h.samples r.rings, r.control); says = refl }))

    query_says : detected R.p m ≡ carrier (timer_held h.control.dcd)
    unfolding detected
    query_says = rw (fit.for_query, r.control)

    pub call_agrees : (c : Single) → Agrees (left_at R m c) (single R.taps R.p h c)
    unfolding left_at single
    call_agrees (sample x room) = sample_agrees x room
    call_agrees (reply a) = reply_agrees a
    call_agrees query = record { rings = r.rings; control = r.control; says = ap (λ (a : Paper). record { answer = a; room = [] }) query_says }

    -- and so at the rate that the record says, as the functions promise
    pub own_agrees : (c : Single) → Agrees (left m c) (single R.taps R.p h c)
    own_agrees c = subst (λ (Q : Rate). Agrees (left_at Q m c) (single R.taps R.p h c)) (sym (own R F m r.rate)) (call_agrees c)
