-- "A seat's answers depend only on calls to that seat since its last open, so a replay of one seat is the session again": over every list of desk calls, from every desk of eight
-- seats, reached or made up. Assumes nothing.
use mathlib.Core.Path.{◌≡◌, refl, sym, ap, ◌∙◌}
use mathlib.Core.Logic.{⊎_elim}
use mathlib.Core.Bool.{Bool, true, false, cond}
use mathlib.Core.List.{List, [], ◌∷◌, ◌++◌, map}
use Prim.Native.Nat.{ℕ, ◌<◌}
use Rattle.machine.specs.Runs.{run, answers, Each}
use Rattle.machine.proofs.Parts.{run_joined, answers_joined}
use Rattle.shaping.specs.Rate.{rate_of, rate_fit}
use Rattle.shaping.proofs.RateFacts.{two_rates, rate_facts}
use Rattle.protocol.specs.Refusals.{bare}
use Rattle.demodulator.specs.declared.SoftDemodulator.{SoftDemodulator}
use Rattle.demodulator.specs.Record.{fresh}
use Rattle.demodulator.specs.Calls.{refusal, done, made}
use Rattle.demodulator_run.specs.Rules.{start}
use Rattle.demodulator_run.specs.Run.{fresh_at}
use Rattle.demodulator_run.specs.Calls.{Call, Told, receiver, rules, Given}
use Rattle.demodulator_run.proofs.ReceiverRun.{receiver_run}
use Rattle.desk.specs.declared.Desk.{Desk}
use Rattle.desk.specs.Passage.{seat_is_open}
use Rattle.desk_run.specs.Seat.{Seat, SeatCall, opening, giving, seat, seat_says, seat_next, started, with_receiver, told}
use Rattle.desk_run.specs.Desk.{DeskCall, seat_of, desk, Whole}
use Rattle.desk_run.specs.OwnCalls.{own_calls, own_answers, alone}
use Rattle.desk_run.proofs.SeatRun.{seat_run, seat_answers, own_alone}

-- two sessions in which a seat begins alike and has the same calls answer it alike, whatever the other seats are and are given
pub isolation : (s : ℕ) → s < 8 → (d e : Desk) → Whole d → Whole e → (cs ds : List DeskCall) → seat_of d s ≡ seat_of e s → own_calls s cs ≡ own_calls s ds
    → own_answers s cs (answers desk d cs) ≡ own_answers s ds (answers desk e ds)
isolation s l d e w v cs ds same calls =
    seat_answers s l cs d w ∙ ap (λ (x : Seat). answers seat x (own_calls s cs)) same ∙ ap (answers seat (seat_of e s)) calls ∙ sym (seat_answers s l ds e v)

-- ---- an open that is admitted, whatever the closed seat's record holds
module _ (s : Seat) (rate : ℕ) (closed : s.opened ≡ false) (fits : rate_fit rate ≡ true) where
  open_leaves : seat_next s (opening rate) ≡ started rate
  unfolding seat_next
  open_leaves = ap (λ (b : Bool). cond b s (cond (rate_fit rate) (started rate) s)) closed ∙ ap (λ (b : Bool). cond b (started rate) s) fits

  OpenSays : seat_says s (opening rate) ≡ told done
  unfolding seat_says made
  OpenSays =
      ap (λ (b : Bool). told (cond b seat_is_open (made rate).answer)) closed ∙ ap (λ (b : Bool). told (cond b done (refusal (bare 15)))) fits

  after_open : (cs : List SeatCall)
      → (answers seat s (opening rate ∷ cs) ≡ told done ∷ answers seat (started rate) cs) × (run seat s (opening rate ∷ cs) ≡ run seat (started rate) cs)
  unfolding answers run
  after_open cs = (
    ap (λ (t : Told). t ∷ answers seat (seat_next s (opening rate)) cs) OpenSays ∙ ap (λ (x : Seat). told done ∷ answers seat x cs) open_leaves,
    ap (λ (x : Seat). run seat x cs) open_leaves,
  )

-- ---- "since its last open": a seat's calls up to an open that is admitted decide nothing after it
module _ (s : ℕ) (l : s < 8) (d : Desk) (w : Whole d) (cs : List DeskCall) (before after : List SeatCall) (rate : ℕ) (own : own_calls s cs ≡ before ++ opening rate ∷ after)
    (closed : (run seat (seat_of d s) before).opened ≡ false) (fits : rate_fit rate ≡ true) where
  pub since_last_open : own_answers s cs (answers desk d cs) ≡ answers seat (seat_of d s) before ++ told done ∷ answers seat (started rate) after
  since_last_open =
      seat_answers s l cs d w ∙ ap (answers seat (seat_of d s)) own ∙ answers_joined seat before (opening rate ∷ after) (seat_of d s)
      ∙ ap (λ (x : List Told). answers seat (seat_of d s) before ++ x) (after_open (run seat (seat_of d s) before) rate closed fits after).0

  pub left_since_open : seat_of (run desk d cs) s ≡ run seat (started rate) after
  left_since_open =
      seat_run s l cs d w ∙ ap (run seat (seat_of d s)) own ∙ run_joined seat before (opening rate ∷ after) (seat_of d s)
      ∙ (after_open (run seat (seat_of d s) before) rate closed fits after).1

  -- ---- "a replay of one seat is the session again": its calls from the open on, given to any closed seat of any desk, whatever other calls come between
  module _ (t : ℕ) (m : t < 8) (e : Desk) (v : Whole e) (ds : List DeskCall) (again : own_calls t ds ≡ opening rate ∷ after) (shut : (seat_of e t).opened ≡ false) where
    replay_answers : own_answers t ds (answers desk e ds) ≡ told done ∷ answers seat (started rate) after
    replay_answers = seat_answers t m ds e v ∙ ap (answers seat (seat_of e t)) again ∙ (after_open (seat_of e t) rate shut fits after).0

    pub replay : own_answers s cs (answers desk d cs) ≡ answers seat (seat_of d s) before ++ own_answers t ds (answers desk e ds)
    replay = since_last_open ∙ ap (λ (x : List Told). answers seat (seat_of d s) before ++ x) (sym replay_answers)

    pub replay_leaves : seat_of (run desk d cs) s ≡ seat_of (run desk e ds) t
    replay_leaves = left_since_open ∙ sym (seat_run t m ds e v ∙ ap (run seat (seat_of e t)) again ∙ (after_open (seat_of e t) rate shut fits after).1)

  -- ---- with nothing between them
  pub replay_alone : (t : ℕ) → t < 8 → (e : Desk) → Whole e → (seat_of e t).opened ≡ false → let again = alone t (opening rate ∷ after) in
      own_answers s cs (answers desk d cs) ≡ answers seat (seat_of d s) before ++ own_answers t again (answers desk e again)
  replay_alone t m e v shut = replay t m e v (alone t (opening rate ∷ after)) (own_alone t (opening rate ∷ after)) shut

-- ---- "started anew": from its open on a seat is a receiver alone, and so what the rules of document 01 say
pub session_answers : (us : List Call) (m : SoftDemodulator) → answers seat (with_receiver m) (map giving us) ≡ answers receiver m us
unfolding answers seat_says seat_next
session_answers [] m = refl
session_answers (u ∷ us) m = ap (λ (l : List Told). receiver.says m u ∷ l) (session_answers us (receiver.next m u))

pub session_leaves : (us : List Call) (m : SoftDemodulator) → run seat (with_receiver m) (map giving us) ≡ with_receiver (run receiver m us)
unfolding run seat_next
session_leaves [] m = refl
session_leaves (u ∷ us) m = session_leaves us (receiver.next m u)

pub started_at : (rate : ℕ) → rate_fit rate ≡ true → fresh rate ≡ fresh_at (rate_of rate)
started_at rate fits = ap fresh (⊎_elim (λ (e : rate ≡ 48000). rw e refl) (λ (e : rate ≡ 24000). rw e refl) (two_rates rate fits))

module _ (s : ℕ) (l : s < 8) (d : Desk) (w : Whole d) (cs : List DeskCall) (before : List SeatCall) (us : List Call) (rate : ℕ)
    (own : own_calls s cs ≡ before ++ opening rate ∷ map giving us) (closed : (run seat (seat_of d s) before).opened ≡ false) (fits : rate_fit rate ≡ true) where
  pub seat_is_receiver : (own_answers s cs (answers desk d cs) ≡ answers seat (seat_of d s) before ++ told done ∷ answers receiver (fresh rate) us)
      × (seat_of (run desk d cs) s ≡ with_receiver (run receiver (fresh rate) us))
  seat_is_receiver = (
    since_last_open s l d w cs before (map giving us) rate own closed fits
        ∙ ap (λ (x : List Told). answers seat (seat_of d s) before ++ told done ∷ x) (session_answers us (fresh rate)),
    left_since_open s l d w cs before (map giving us) rate own closed fits ∙ session_leaves us (fresh rate),
  )

  pub seat_by_rules : Each Given us → own_answers s cs (answers desk d cs) ≡ answers seat (seat_of d s) before ++ told done ∷ answers (rules (rate_of rate)) start us
  seat_by_rules given =
      seat_is_receiver.0
      ∙ ap (λ (x : List Told). answers seat (seat_of d s) before ++ told done ∷ x)
      (ap (λ (m : SoftDemodulator). answers receiver m us) (started_at rate fits) ∙ (receiver_run (rate_of rate) (rate_facts rate fits) us given).1)
