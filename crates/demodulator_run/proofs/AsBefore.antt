-- Document 02 f), "Show that every answer is the old layout's for every run": over every list of calls, those that will be refused included, from any two records that hold the
-- same, fit or not. At every rate. Assumes nothing.
use mathlib.Core.Path.{◌≡◌, refl, sym, ap, subst, ◌∙◌}
use mathlib.Core.Bool.{Bool, true, false, not, cond, true≢false, false≢true}
use mathlib.Core.List.{List, [], ◌∷◌}
use Prim.Native.Nat.{ℕ, ◌+◌, ◌^◌, ◌<◌}
use native.Mathlib.Omega.{arith}
use lib.Dec.{eqb, ltb}
use lib.IntN.{ℤ}
use lib.ListN.{length}
use lib.Ieee.{Float}
use Rattle.numbers.specs.Firsts.{written}
use Rattle.machine.specs.Runs.{run, answers, Each, Simulates}
use Rattle.machine.proofs.Simulation.{runs_related, answers_alike}
use Rattle.shaping.specs.Rate.{Rate, rate_fit, per_second}
use Rattle.shaping.proofs.RateFacts.{Facts}
use Rattle.search.specs.declared.Control.{Control}
use Rattle.search.specs.declared.Reply.{Reply}
use Rattle.search.specs.Turn.{Outcome, quiet, offer, sampled}
use Rattle.demodulator.specs.declared.SoftDemodulator.{SoftDemodulator}
use Rattle.demodulator.specs.Spans.{eight}
use Rattle.demodulator.specs.Record.{fresh, back, stored}
use Rattle.demodulator.specs.Fit.{unfit_number}
use Rattle.demodulator.specs.Calls.{Paper, refusal, nothing, frame, done, carrier, Left, refused, offer_of, finished, admitted_by, demodulated, answered, detected}
use Rattle.demodulator.specs.Feed.{Stretch, stops_before, goes_on_lem, fed_from, fed, fed_into}
use Rattle.demodulator.proofs.FeedSteps.{rest_from}
use Rattle.demodulator_run.specs.Rules.{Single, sample, reply, query, Said}
use Rattle.demodulator_run.specs.Run.{fresh_at, left_at, said_by}
use Rattle.demodulator_run.specs.Calls.{Call, one, stretch, Told, record_next, told_by, receiver}
use Rattle.demodulator_run.specs.OldLayout.{stored_before, fresh_before, demodulated_before, answered_before, detected_before, left_before, fed_before, next_before, told_before, receiver_before, Alike}
use Rattle.demodulator_run.proofs.SameWindow.{eight_same, window_same}
use Rattle.demodulator_run.proofs.RateKept.{own, call_rate}
use Rattle.demodulator_run.proofs.LayoutsAlike.{record_alike, sample_alike, reply_alike, control_alike, stored_alike, fresh_alike}

module _ (R : Rate) (F : Facts R) where
  some : 0 < R.p
  some = let u = F.some in omega arith

  -- what a call leaves in the two layouts
  record Matched (l k : Left) : Type 0 where
    says : said_by l ≡ said_by k
    alike : Alike R.p l.demodulator k.demodulator

  both : (b d : Bool) (k l x y : Left) → b ≡ d → Matched k x → Matched l y → Matched (cond b k l) (cond d x y)
  both true true k l x y e f g = f
  both false false k l x y e f g = g
  both true false k l x y e f g = absurd (true≢false e)
  both false true k l x y e f g = absurd (false≢true e)

  -- ---- a single call
  module _ (m n : SoftDemodulator) (a : Alike R.p m n) where
    eight_alike : eight R.p (back R.p m) ≡ eight R.p (back R.p n)
    eight_alike = eight_same R.p some (back R.p m) (back R.p n) a.ring

    refused_matched : (number : ℕ) (room : List Float) → Matched (refused number m room) (refused number n room)
    refused_matched number room = record { says = refl; alike = a }

    finished_matched : (room : List Float) (o : Outcome) → Matched (finished R.p m room o) (finished R.p n room o)
    finished_matched room (quiet c) = record { says = refl; alike = control_alike R.p m n a c c refl }
    finished_matched room (offer shown c) = record {
      says = ap (λ (f : ℕ → Float). record { answer = frame (offer_of shown c.sample); room = written f 192 room }) (window_same R.p some (back R.p m) (back R.p n) a.ring shown);
      alike = control_alike R.p m n a c c refl;
    }

  module _ (m n : SoftDemodulator) (a : Alike R.p m n) where
    same_number : unfit_number m ≡ unfit_number n
    same_number = ap (λ (rate : ℕ). cond (rate_fit rate) 1 15) a.rate

    unfit_matched : (room : List Float) → Matched (refused (unfit_number m) m room) (refused (unfit_number n) n room)
    unfit_matched room = subst (λ (number : ℕ). Matched (refused (unfit_number m) m room) (refused number n room)) same_number (refused_matched m n a (unfit_number m) room)

    sample_matched : (x : ℤ) (room : List Float) → Matched (demodulated R m x room) (demodulated_before R n x room)
    unfolding demodulated demodulated_before admitted_by
    sample_matched x room =
        let next : Alike R.p (stored R m x) (stored_before R n x) = stored_alike R F m n a x in
        let same : sampled R.p (eight R.p (back R.p (stored R m x))) m.control ≡ sampled R.p (eight R.p (back R.p (stored_before R n x))) n.control = rw (eight_alike (stored R m x) (stored_before R n x) next, a.control) in
        both _ _ _ _ _ _ (ap not (sample_alike R.p m n a)) (unfit_matched room)
        (both _ _ _ _ _ _ (ap (λ (c : Control). c.owed) a.control) (refused_matched m n a 2 room)
        (both (ltb (length room) 192) (ltb (length room) 192) _ _ _ _ refl (refused_matched m n a 4 room)
        (both _ _ _ _ _ _ (ap (λ (c : Control). eqb c.sample (2 ^ 63)) a.control) (refused_matched m n a 5 room)
        (rw same (finished_matched (stored R m x) (stored_before R n x) next room (sampled R.p (eight R.p (back R.p (stored_before R n x))) n.control))))))

    reply_matched : (r : Reply) → Matched (answered R.p m r []) (answered_before R.p n r [])
    unfolding answered answered_before
    reply_matched r =
        both _ _ _ _ _ _ (ap not (reply_alike R.p m n a)) (unfit_matched [])
        (both _ _ _ _ _ _ (ap (λ (c : Control). not c.owed) a.control) (refused_matched m n a 3 [])
        (record { says = refl; alike = control_alike R.p m n a _ _ (rw (eight_alike m n a, a.control)) }))

    query_same : detected R.p m ≡ detected_before R.p n
    unfolding detected detected_before
    query_same = rw (record_alike R.p m n a, a.rate, a.control)

    single_matched : (c : Single) → Matched (left_at R m c) (left_before R n c)
    unfolding left_at left_before
    single_matched (sample x room) = sample_matched x room
    single_matched (reply r) = reply_matched r
    single_matched query = record { says = ap (λ (p : Paper). record { answer = p; room = [] }) query_same; alike = a }

  -- ---- a stretch
  abbrev rest_before : ℕ → SoftDemodulator → List ℤ → List Float → Stretch SoftDemodulator
  rest_before = fed_from SoftDemodulator (λ m x room. (demodulated_before R m x room).answer) (λ m x room. (demodulated_before R m x room).demodulator) (λ m x room. (demodulated_before R m x room).room)

  record Paired (f g : Stretch SoftDemodulator) : Type 0 where
    answers : f.answer ≡ g.answer
    counts : f.fed ≡ g.fed
    writes : f.room ≡ g.room
    alike : Alike R.p f.state g.state

  module _ (k : ℕ) (m m' n n' : SoftDemodulator) (room room' : List Float) (here : Alike R.p m n) (there : Alike R.p m' n') (f g : Stretch SoftDemodulator) (rest : Paired f g) where
    turn : (a : Paper)
        → Paired (goes_on_lem a (stops_before a k m room) (record { answer = a; fed = k + 1; state = m'; room = room' }) f)
        (goes_on_lem a (stops_before a k n room) (record { answer = a; fed = k + 1; state = n'; room = room' }) g)
    unfolding goes_on_lem
    turn nothing = rest
    turn (frame o) = record { answers = refl; counts = refl; writes = refl; alike = there }
    turn (refusal number) = record { answers = refl; counts = refl; writes = refl; alike = here }
    turn done = record { answers = refl; counts = refl; writes = refl; alike = here }
    turn (carrier held) = record { answers = refl; counts = refl; writes = refl; alike = here }

  rest_paired : (xs : List ℤ) (k : ℕ) (m n : SoftDemodulator) (room : List Float) → Alike R.p m n → Paired (rest_from R k m xs room) (rest_before k n xs room)
  unfolding fed_from
  rest_paired [] k m n room a = record { answers = refl; counts = refl; writes = refl; alike = a }
  rest_paired (x ∷ xs) k m n room a =
      let l : Left = demodulated R m x room in
      let b : Left = demodulated_before R n x room in
      let s = sample_matched m n a x room in
      subst (λ (t : Said).
      Paired
      (goes_on_lem t.answer (stops_before t.answer k m room) (record { answer = t.answer; fed = k + 1; state = l.demodulator; room = t.room }) (rest_from R (k + 1) l.demodulator xs t.room))
      (rest_before k n (x ∷ xs) room)) (sym s.says)
      (turn k m l.demodulator n b.demodulator room b.room a s.alike (rest_from R (k + 1) l.demodulator xs b.room) (rest_before (k + 1) b.demodulator xs b.room)
      (rest_paired xs (k + 1) l.demodulator b.demodulator b.room s.alike) b.answer)

  stretch_paired : (xs : List ℤ) (m n : SoftDemodulator) (room : List Float) → Alike R.p m n → Paired (fed_into R m xs room) (fed_before R n xs room)
  unfolding fed
  stretch_paired [] m n room a = record { answers = rw (record_alike R.p m n a, a.rate); counts = refl; writes = refl; alike = a }
  stretch_paired (x ∷ xs) m n room a = rest_paired (x ∷ xs) 0 m n room a

  -- ---- every list of calls
  abbrev Any : Call → Type 0
  Any c = Unit {0}

  any_calls : (cs : List Call) → Each Any cs
  unfolding Each
  any_calls [] = tt
  any_calls (c ∷ cs) = (tt, any_calls cs)

  told_alike : (m n : SoftDemodulator) → Alike R.p m n → (c : Call) → Any c → told_by R m c ≡ told_before R n c
  unfolding told_by told_before
  told_alike m n a (one c) g = let e = (single_matched m n a c).says in λ i. record { answer = (e i).answer; fed = 0; room = (e i).room }
  told_alike m n a (stretch xs room) g = let e = stretch_paired xs m n room a in λ i. record { answer = e.answers i; fed = e.counts i; room = e.writes i }

  next_alike : (m n : SoftDemodulator) → Alike R.p m n → (c : Call) → Any c → Alike R.p (record_next R m c) (next_before R n c)
  unfolding record_next next_before
  next_alike m n a (one c) g = (single_matched m n a c).alike
  next_alike m n a (stretch xs room) g = (stretch_paired xs m n room a).alike

  -- the record says the rate at which it is called
  record Beside (m n : SoftDemodulator) : Type 0 where
    rate : m.rate ≡ per_second R.p
    alike : Alike R.p m n

  follows : Simulates SoftDemodulator SoftDemodulator Call Told receiver (receiver_before R) Beside Any
  follows = record {
    alike = λ m n b c g. subst (λ (Q : Rate). told_by Q m c ≡ told_before R n c) (sym (own R F m b.rate)) (told_alike m n b.alike c g);
    related = λ m n b c g.
        subst (λ (Q : Rate). Beside (record_next Q m c) (next_before R n c)) (sym (own R F m b.rate))
        (record { rate = call_rate R m c ∙ b.rate; alike = next_alike m n b.alike c g });
  }

  pub as_before : (m n : SoftDemodulator) → m.rate ≡ per_second R.p → Alike R.p m n → (cs : List Call)
      → (answers receiver m cs ≡ answers (receiver_before R) n cs) × Alike R.p (run receiver m cs) (run (receiver_before R) n cs)
  as_before m n e a cs =
      let b : Beside m n = record { rate = e; alike = a } in
      (answers_alike follows cs (any_calls cs) m n b, (runs_related follows cs (any_calls cs) m n b).alike)

  -- so also from a fresh start
  pub as_before_fresh : (cs : List Call) → answers receiver (fresh_at R) cs ≡ answers (receiver_before R) (fresh_before (per_second R.p)) cs
  unfolding fresh
  as_before_fresh cs = (as_before (fresh_at R) (fresh_before (per_second R.p)) refl (fresh_alike R F) cs).0
