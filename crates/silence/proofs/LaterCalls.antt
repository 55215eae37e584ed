-- The rules after silence, over stretches and lists of calls: every answer is that of the rules from a fresh start, at a later sample, while the count is not at its end.
-- Assumes nothing.
use mathlib.Core.Path.{◌≡◌, refl, ap, ◌∙◌, subst}
use mathlib.Core.List.{List, [], ◌∷◌, map}
use Prim.Native.Nat.{ℕ, ◌+◌, ◌*◌, ◌^◌, ◌≤◌, ◌<◌}
use native.Mathlib.Nat.{le_refl}
use native.Mathlib.Omega.{arith}
use lib.Dec.{eqb}
use lib.IntN.{ℤ}
use lib.ListN.{length}
use lib.Ieee.{Float}
use Rattle.machine.specs.Runs.{run, answers}
use Rattle.shaping.specs.Rate.{Rate, tap_count}
use Rattle.shaping.specs.Reach.{Finite}
use Rattle.demodulator.specs.Calls.{Paper, refusal, nothing, frame, done, carrier}
use Rattle.demodulator.specs.Feed.{Stretch, stops_before, goes_on_lem, fed_from, fed}
use Rattle.demodulator_run.specs.Rules.{sample, History, After, single}
use Rattle.demodulator_run.specs.Stretch.{sample_said, sample_next, sample_room, stretched}
use Rattle.demodulator_run.specs.Calls.{Call, one, stretch, Told, history_next, told_to, rules}
use Rattle.silence.specs.Later.{later_paper, later_told, later_history, later_after}
use Rattle.silence.proofs.ZeroF.{ZeroFrom}
use Rattle.silence.proofs.CallsKeep.{rest_grows, call_grows, run_grows}
use Rattle.silence.proofs.LaterControl.{pick}
use Rattle.silence.proofs.LaterSingle.{single_later}

module _ (table : List Float) (p : ℕ) (some : 0 < p) (few : p ≤ 10) (size : length table ≤ tap_count p) (fine : Finite table)
    (pre : List ℤ) (since : ℕ) (long : since + 200 * p ≤ length pre) (z : ZeroFrom since (length pre) pre) where
  -- ---- a stretch
  abbrev later_stretch : Stretch History → Stretch History
  later_stretch f = record { answer = later_paper (length pre) f.answer; fed = f.fed; state = later_history pre f.state; room = f.room }

  abbrev rest : ℕ → History → List ℤ → List Float → Stretch History
  rest = fed_from History (sample_said table p) (sample_next table p) (sample_room table p)

  -- it does not reach the count's end
  abbrev Below : Stretch History → Type 0
  Below f = f.state.control.sample < 2 ^ 63

  module _ (n : ℕ) (k k' : History) (xs : List ℤ) (room room' : List Float)
      (more : Below (rest (n + 1) (later_history pre k') xs room') → rest (n + 1) (later_history pre k') xs room' ≡ later_stretch (rest (n + 1) k' xs room')) where
    abbrev older : Paper → Stretch History
    older a = goes_on_lem a (stops_before a n (later_history pre k) room) (record { answer = a; fed = n + 1; state = later_history pre k'; room = room' }) (rest (n + 1) (later_history pre k') xs room')

    turn_later : (a : Paper) → Below (older (later_paper (length pre) a))
        → older (later_paper (length pre) a) ≡ later_stretch (goes_on_lem a (stops_before a n k room) (record { answer = a; fed = n + 1; state = k'; room = room' }) (rest (n + 1) k' xs room'))
    unfolding goes_on_lem later_paper
    turn_later nothing b = more b
    turn_later (frame o) b = refl
    turn_later (refusal why) b = ap (λ (a : Paper). record { answer = a; fed = n; state = later_history pre k; room = room }) (pick (later_paper (length pre)) (eqb n 0) refl refl)
    turn_later done b = ap (λ (a : Paper). record { answer = a; fed = n; state = later_history pre k; room = room }) (pick (later_paper (length pre)) (eqb n 0) refl refl)
    turn_later (carrier there) b = ap (λ (a : Paper). record { answer = a; fed = n; state = later_history pre k; room = room }) (pick (later_paper (length pre)) (eqb n 0) refl refl)

  rest_later : (xs : List ℤ) (n : ℕ) (k : History) (room : List Float) → Below (rest n (later_history pre k) xs room)
      → rest n (later_history pre k) xs room ≡ later_stretch (rest n k xs room)
  unfolding fed_from later_paper
  rest_later [] n k room b = refl
  rest_later (x ∷ xs) n k room b =
      let low = rest_grows table p (k.control.sample + length pre) (x ∷ xs) n (later_history pre k) room (le_refl _) in
      let e : single table p (later_history pre k) (sample x room) ≡ later_after pre (single table p k (sample x room)) = single_later table p some few size fine pre since long z k (sample x room) (omega arith) in
      let a : After = single table p k (sample x room) in
      let whole : After → Stretch History = λ (s : After).
      goes_on_lem s.said.answer (stops_before s.said.answer n (later_history pre k) room) (record { answer = s.said.answer; fed = n + 1; state = s.history; room = s.said.room }) (rest (n + 1) s.history xs s.said.room) in
      ap whole e
      ∙ turn_later n k a.history xs room a.said.room (rest_later xs (n + 1) a.history a.said.room) a.said.answer (subst (λ (s : After). Below (whole s)) e b)

  stretched_later : (xs : List ℤ) (k : History) (room : List Float) → Below (stretched table p (later_history pre k) xs room)
      → stretched table p (later_history pre k) xs room ≡ later_stretch (stretched table p k xs room)
  unfolding fed later_paper
  stretched_later [] k room b = refl
  stretched_later (x ∷ xs) k room b = rest_later (x ∷ xs) 0 k room b

  -- ---- a call
  call_later : (k : History) (c : Call) → (history_next table p (later_history pre k) c).control.sample < 2 ^ 63
      → (told_to table p (later_history pre k) c ≡ later_told (length pre) (told_to table p k c)) × (history_next table p (later_history pre k) c ≡ later_history pre (history_next table p k c))
  unfolding history_next told_to
  call_later k (one c) b =
      let low = call_grows table p (k.control.sample + length pre) (later_history pre k) (one c) (le_refl _) in
      let e = single_later table p some few size fine pre since long z k c (omega arith) in
      (ap (λ (a : After). record { answer = a.said.answer; fed = 0; room = a.said.room }) e, ap (λ (a : After). a.history) e)
  call_later k (stretch xs room) b =
      let e = stretched_later xs k room b in
      (ap (λ (f : Stretch History). record { answer = f.answer; fed = f.fed; room = f.room }) e, ap (λ (f : Stretch History). f.state) e)

  -- ---- all calls
  abbrev here : Rate
  here = record { p = p; taps = table }

  pub calls_later : (cs : List Call) (k : History) → (run (rules here) (later_history pre k) cs).control.sample < 2 ^ 63
      → answers (rules here) (later_history pre k) cs ≡ map (later_told (length pre)) (answers (rules here) k cs)
  unfolding run answers
  calls_later [] k b = refl
  calls_later (c ∷ cs) k b =
      let next : History = history_next table p (later_history pre k) c in
      let low : next.control.sample ≤ (run (rules here) next cs).control.sample = run_grows table p next.control.sample cs next (le_refl _) in
      let (s, e) = call_later k c (omega arith) in
      let k' : History = history_next table p k c in
      ap (λ (h : History). told_to table p (later_history pre k) c ∷ answers (rules here) h cs) e
      ∙ ap (λ (t : Told). t ∷ answers (rules here) (later_history pre k') cs) s
      ∙ ap (λ (l : List Told). later_told (length pre) (told_to table p k c) ∷ l) (calls_later cs k' (subst (λ (h : History). (run (rules here) h cs).control.sample < 2 ^ 63) e b))
