-- From a fresh desk each open seat's receiver is one that was started at one of the two rates, and called since: so it is fit, and is answered neither 1 nor 15. Assumes nothing.
use mathlib.Core.Path.{◌≡◌, refl, sym, ap, ◌∙◌, subst}
use mathlib.Core.Bool.{Bool, true, false, cond}
use mathlib.Core.List.Memᴰ
use mathlib.Core.List.{List, [], ◌∷◌, ◌++◌, Memᴰ}
use Prim.Native.Nat.{ℕ, ◌<◌}
use lib.Dec.{eqb}
use lib.ListN.{get_or-replicate}
use Rattle.machine.specs.Runs.{run, answers, Each}
use Rattle.machine.proofs.Parts.{run_last, answers_joined, each_joined}
use Rattle.shaping.specs.Rate.{Rate, rate_of, rate_fit, samples_in_lem}
use Rattle.shaping.proofs.RateFacts.{Facts, rate_facts}
use Rattle.protocol.specs.Refusals.{bare}
use Rattle.demodulator.specs.declared.SoftDemodulator.{SoftDemodulator}
use Rattle.demodulator.specs.Record.{fresh}
use Rattle.demodulator.specs.Fit.{record_fit_lem}
use Rattle.demodulator.specs.Calls.{refusal}
use Rattle.demodulator_run.specs.Run.{fresh_at}
use Rattle.demodulator_run.specs.Calls.{Call, Told, receiver, Given}
use Rattle.demodulator_run.proofs.RateKept.{call_rate}
use Rattle.demodulator_run.proofs.ReceiverRun.{fit_throughout}
use Rattle.demodulator_run.proofs.NeverUnfit.{never_unfit}
use Rattle.desk.specs.declared.Desk.{Desk}
use Rattle.desk.specs.Desk.{fresh_desk}
use Rattle.desk.proofs.SeatLaws.{never_both}
use Rattle.desk_run.specs.Seat.{Seat, SeatCall, opening, giving, closing, seat, seat_next, started, with_receiver, fit, SeatGiven}
use Rattle.desk_run.specs.Desk.{DeskCall, at, listing, desk, seat_of, desk_next, DeskGiven, Whole}
use Rattle.desk_run.specs.OwnCalls.{own_call}
use Rattle.desk_run.proofs.SeatRun.{whole_next, next_own}
use Rattle.desk_run.proofs.Isolation.{started_at}

-- ---- a receiver that was started at one of the two rates, and called since
pub record Exercised (m : SoftDemodulator) : Type 0 where
  pub rate : ℕ
  pub calls : List Call
  pub fits : rate_fit rate ≡ true
  pub given : Each Given calls
  pub same : m ≡ run receiver (fresh rate) calls

run_rate : (cs : List Call) (m : SoftDemodulator) → (run receiver m cs).rate ≡ m.rate
unfolding run
run_rate [] m = refl
run_rate (c ∷ cs) m = run_rate cs (receiver.next m c) ∙ call_rate (rate_of m.rate) m c

begins : (rate : ℕ) → rate_fit rate ≡ true → Exercised (fresh rate)
unfolding run Each
begins rate f = record { rate = rate; calls = []; fits = f; given = tt; same = refl }

module _ (m : SoftDemodulator) (s : Exercised m) where
  abbrev R : Rate
  R = rate_of s.rate

  F : Facts R
  F = rate_facts s.rate s.fits

  runs : m ≡ run receiver (fresh_at R) s.calls
  runs = s.same ∙ ap (λ (x : SoftDemodulator). run receiver x s.calls) (started_at s.rate s.fits)

  its_rate : m.rate ≡ s.rate
  unfolding fresh
  its_rate = ap (λ (x : SoftDemodulator). x.rate) s.same ∙ run_rate s.calls (fresh s.rate)

  pub rate_fit_lem : rate_fit m.rate ≡ true
  rate_fit_lem = ap rate_fit its_rate ∙ s.fits

  pub record_fit_law : fit m ≡ true
  record_fit_law =
      ap (λ (n : ℕ). record_fit_lem (samples_in_lem n) m) its_rate ∙ ap (record_fit_lem (samples_in_lem s.rate)) runs ∙ (fit_throughout R F s.calls s.given).for_query

  module _ (c : Call) (g : Given c) where
    more : Each Given (s.calls ++ c ∷ [])
    unfolding Each
    more = each_joined Given s.calls (c ∷ []) s.given (g, tt)

    called : Exercised (receiver.next m c)
    called = record {
      rate = s.rate;
      calls = s.calls ++ c ∷ [];
      fits = s.fits;
      given = more;
      same = ap (λ (x : SoftDemodulator). receiver.next x c) s.same ∙ sym (run_last receiver s.calls c (fresh s.rate));
    }

    among : Memᴰ (receiver.says m c) (answers receiver (fresh_at R) (s.calls ++ c ∷ []))
    unfolding answers
    among =
        subst (λ (l : List Told). Memᴰ (receiver.says m c) l) (sym (answers_joined receiver s.calls (c ∷ []) (fresh_at R)))
        (Memᴰ.append_right (answers receiver (fresh_at R) s.calls) (Memᴰ.head (ap (λ (x : SoftDemodulator). receiver.says x c) runs)))

    pub never_either : ((receiver.says m c).answer ≡ refusal (bare 1) → ⊥) × ((receiver.says m c).answer ≡ refusal (bare 15) → ⊥)
    never_either = never_unfit R F (s.calls ++ c ∷ []) more (receiver.says m c) among

-- ---- a seat: if it is open, its receiver is such a one
unfoldable pub Sits : Seat → Type 0
Sits x = x.opened ≡ true → Exercised x.receiver

module _ (x : Seat) (sits : Sits x) where
  open_sits : (rate : ℕ) (b f : Bool) → rate_fit rate ≡ f → Sits (cond b x (cond f (started rate) x))
  unfolding Sits
  open_sits rate true f e = sits
  open_sits rate false true e = λ _. begins rate e
  open_sits rate false false e = sits

  give_sits : (c : Call) → Given c → (b : Bool) → x.opened ≡ b → Sits (cond b (with_receiver (receiver.next x.receiver c)) x)
  unfolding Sits
  give_sits c g true o = λ _. called x.receiver (sits o) c g
  give_sits c g false o = sits

  close_sits : (b f : Bool) → Sits (cond b (cond f (record { opened = false; receiver = x.receiver }) x) x)
  unfolding Sits
  close_sits true true = λ e. absurd (never_both e refl)
  close_sits true false = sits
  close_sits false f = sits

  sits_next : (c : SeatCall) → SeatGiven c → Sits (seat_next x c)
  unfolding seat_next SeatGiven
  sits_next (opening rate) g = open_sits rate x.opened (rate_fit rate) refl
  sits_next (giving c) g = give_sits c g x.opened refl
  sits_next closing g = close_sits x.opened (fit x.receiver)

-- ---- the desk
pub record Good (d : Desk) : Type 0 where
  pub whole : Whole d
  pub sit : (s : ℕ) → s < 8 → Sits (seat_of d s)

pub good_fresh : Good fresh_desk
unfolding Whole Sits
good_fresh = record { whole = (refl, refl); sit = λ s l e. absurd (never_both e (get_or-replicate 8 s false false l)) }

module _ (d : Desk) (g : Good d) where
  sits_by : (x : Seat) → Sits x → (c : SeatCall) → SeatGiven c → (b : Bool) → Sits (run seat x (cond b (c ∷ []) []))
  unfolding run
  sits_by x k c v true = sits_next x k c v
  sits_by x k c v false = k

  sits_own : (x : Seat) → Sits x → (s : ℕ) (c : DeskCall) → DeskGiven c → Sits (run seat x (own_call s c))
  unfolding run DeskGiven
  sits_own x k s (at t c) v = sits_by x k c v (eqb t s)
  sits_own x k s listing v = k

  good_next : (c : DeskCall) → DeskGiven c → Good (desk_next d c)
  good_next c v = record {
    whole = whole_next d g.whole c;
    sit = λ s l. subst Sits (sym (next_own d g.whole s l c)) (sits_own (seat_of d s) (g.sit s l) s c v);
  }

pub good_run : (cs : List DeskCall) → Each DeskGiven cs → (d : Desk) → Good d → Good (run desk d cs)
unfolding run Each
good_run [] v d g = g
good_run (c ∷ cs) v d g = good_run cs v.1 (desk_next d c) (good_next d g c v.0)
