-- While a frame is awaited no sample is searched: the carrier timer is only cleared, and is held for as many samples as it lasts. Over the record. Assumes nothing.
use Rattle.std.specs.Prelude.{Option, Some, None}
use mathlib.Core.Path.{◌≡◌, refl, sym, ap, subst, ◌∙◌}
use mathlib.Core.Bool.{false, not, true≢false}
use mathlib.Core.List.{List, [], ◌∷◌}
use Prim.Native.Nat.{ℕ, suc, ◌+◌, ◌-◌, ◌^◌, ◌≤◌, ◌<◌, min}
use native.Mathlib.Omega.{arith}
use borrow.Author.Tests.{lt-ltb, ltb-true, ltb-false}
use lib.Dec.{eqb, ltb}
use lib.IntN.{ℤ}
use lib.ListN.{length, take}
use lib.Ieee.{Float}
use Rattle.machine.specs.Runs.{run}
use Rattle.shaping.specs.Rate.{Rate, rate_of}
use Rattle.protocol.specs.Refusals.{bare}
use Rattle.search.specs.declared.Waiting.{Waiting}
use Rattle.search.specs.declared.Control.{Control}
use Rattle.search.specs.Turn.{Outcome, quiet, cleared, counted, nearer, waiting_on, waited_turn, comes_to, sampled}
use Rattle.search.proofs.AgeInPass.{by_test}
use Rattle.demodulator.specs.declared.SoftDemodulator.{SoftDemodulator}
use Rattle.demodulator.specs.Spans.{eight}
use Rattle.demodulator.specs.Record.{back, stored}
use Rattle.demodulator.specs.Fit.{fit_for_sample_lem}
use Rattle.demodulator.specs.Calls.{refusal, nothing, frame, is_refusal, timer_held, Left, finished, admitted_by, demodulated}
use Rattle.demodulator.specs.Singles.{blank}
use Rattle.demodulator.specs.Feed.{Stretch, stops_before, fed_from, rest_from}
use Rattle.demodulator_laws.proofs.SampleComes.{Comes, silent, offering, stuck, comes, fed_silent, fed_stuck}
use Rattle.listening.specs.Listener.{listed_of}
use Rattle.listening.proofs.FirstSample.{same_rate, left_by_sample}
use Rattle.figures.specs.FullList.{bit}
use Rattle.figures.specs.Turn.{lasting, resting}
use Rattle.figures.proofs.HeldStretch.{held_in, held_at, held_none}

-- ---- a sample of a wait that has more than one left
sampled_rest : (p : ℕ) (v : ℕ → Float) (c : Control) (w : Waiting) → c.wait ≡ Some w → 1 < w.left
    → sampled p v c ≡ quiet (waiting_on (nearer w) (counted c))
unfolding sampled waited_turn
sampled_rest p v c w e l = ap (λ (d : Option Waiting). comes_to p v (waited_turn d (counted c))) e ∙ rw (lt-ltb 1 w.left l)

module _ (R : Rate) (m : SoftDemodulator) (x : ℤ) (room : List Float) (w : Waiting) (e : m.control.wait ≡ Some w) (some : 1 < w.left) where
  record Rests (l : Left) : Type 0 where
    says : l.answer ≡ nothing
    keeps : l.demodulator.control ≡ waiting_on (nearer w) (counted m.control)

  abbrev RestsBy : Left → Type 0
  RestsBy l = is_refusal l.answer ≡ false → Rests l

  finished_rests : Rests (finished R.p (stored R m x) room (quiet (waiting_on (nearer w) (counted m.control))))
  finished_rests = record { says = refl; keeps = refl }

  sample_rests : RestsBy (demodulated R m x room)
  unfolding demodulated admitted_by
  sample_rests =
      by_test RestsBy (not (fit_for_sample_lem R.p m)) _ _ (λ _ f. absurd (true≢false f))
      (λ _. by_test RestsBy m.control.owed _ _ (λ _ f. absurd (true≢false f))
      (λ _. by_test RestsBy (ltb (length room) 192) _ _ (λ _ f. absurd (true≢false f))
      (λ _. by_test RestsBy (eqb m.control.sample (2 ^ 63)) _ _ (λ _ f. absurd (true≢false f))
      (λ _ _. subst (λ (o : Outcome). Rests (finished R.p (stored R m x) room o)) (sym (sampled_rest R.p (eight R.p (back R.p (stored R m x))) m.control w e some)) finished_rests))))

-- ---- the timer one sample on
lasting_less : (t : Option ℕ) (count : ℕ) → lasting (cleared (count + 1) t) (count + 1) ≡ lasting t count - 1
unfolding cleared
lasting_less None count = refl
lasting_less (Some end) count =
    by_test (λ (t : Option ℕ). lasting t (count + 1) ≡ end - count - 1) (ltb end (count + 1)) None (Some end) (λ q. let under = ltb-true end (count + 1) q in omega arith) (λ q. omega arith)

held_now : (t : Option ℕ) (count : ℕ) → bit (timer_held (cleared (count + 1) t)) ≡ min 1 (lasting t count)
unfolding cleared
held_now None count = refl
held_now (Some end) count =
    by_test (λ (t : Option ℕ). bit (timer_held t) ≡ min 1 (end - count)) (ltb end (count + 1)) None (Some end)
    (λ q. let under = ltb-true end (count + 1) q in omega arith) (λ q. let over = ltb-false end (count + 1) q in omega arith)

one_more_held : (k last : ℕ) → min 1 last + min k (last - 1) ≡ min (suc k) last
one_more_held k last = omega arith

-- ---- a stretch, after n samples
pub record Rested (n : ℕ) (m : SoftDemodulator) (xs : List ℤ) (f : Stretch SoftDemodulator) : Type 0 where
  pub least : n ≤ f.fed
  pub all : held_in m (take (f.fed - n) xs) ≡ min (f.fed - n) (lasting m.control.dcd m.control.sample)

wait_is : (t : Option Waiting) → 1 ≤ resting t → (w : Waiting) × (t ≡ Some w) × (1 < w.left)
wait_is None l = absurd (omega arith)
wait_is (Some w) l = (w, refl, omega arith)

module _ (n : ℕ) (m : SoftDemodulator) (x : ℤ) (xs : List ℤ) (w : Waiting) (e : m.control.wait ≡ Some w) (some : 1 < w.left) where
  rested_silent : (m' : SoftDemodulator) (f : Stretch SoftDemodulator) → m'.control ≡ waiting_on (nearer w) (counted m.control)
      → Rested (n + 1) m' xs f
      → left_by_sample m x ≡ record { answer = nothing; demodulator = m'; room = blank } → Rested n m (x ∷ xs) f
  unfolding listed_of run
  rested_silent m' f k g q =
      let l = g.least in
      let one_more : f.fed - n ≡ suc (f.fed - (n + 1)) = omega arith in
      let later : held_in m' (take (f.fed - (n + 1)) xs) ≡ min (f.fed - (n + 1)) (lasting (cleared (m.control.sample + 1) m.control.dcd) (m.control.sample + 1)) =
      g.all ∙ ap (λ (c : Control). min (f.fed - (n + 1)) (lasting c.dcd c.sample)) k in
      let less = lasting_less m.control.dcd m.control.sample in
      let now : bit (timer_held m'.control.dcd) ≡ min 1 (lasting m.control.dcd m.control.sample) = ap (λ (c : Control). bit (timer_held c.dcd)) k ∙ held_now m.control.dcd m.control.sample in
      record {
        least = omega arith;
        all = rw (one_more, held_at m x (take (f.fed - (n + 1)) xs) _ q, now, later, less) (one_more_held (f.fed - (n + 1)) (lasting m.control.dcd m.control.sample));
      }

  rested_by : ((m' : SoftDemodulator) → m'.rate ≡ m.rate → m'.control ≡ waiting_on (nearer w) (counted m.control) → Rested (n + 1) m' xs (rest_from (rate_of m.rate) (n + 1) m' xs blank))
      → Comes m blank (left_by_sample m) (left_by_sample m x) → Rested n m (x ∷ xs) (rest_from (rate_of m.rate) n m (x ∷ xs) blank)
  rested_by rest (silent m' q) =
      let s : Rests (rate_of m.rate) m x blank w e some (left_by_sample m x) = sample_rests (rate_of m.rate) m x blank w e some (ap (λ (l : Left). is_refusal l.answer) q) in
      let k : m'.control ≡ waiting_on (nearer w) (counted m.control) = ap (λ (l : Left). l.demodulator.control) (sym q) ∙ s.keeps in
      subst (Rested n m (x ∷ xs)) (sym (fed_silent (rate_of m.rate) m x xs blank n m' q)) (rested_silent m' _ k (rest m' (same_rate m x _ q) k) q)
  rested_by rest (offering o m' window q) =
      let s : Rests (rate_of m.rate) m x blank w e some (left_by_sample m x) = sample_rests (rate_of m.rate) m x blank w e some (ap (λ (l : Left). is_refusal l.answer) q) in
      let never : frame o ≡ nothing = ap (λ (l : Left). l.answer) (sym q) ∙ s.says in
      let z : ◌≡◌ {A = ℕ} 0 1 = cc in
      absurd (omega arith)
  rested_by rest (stuck number q all) =
      subst (Rested n m (x ∷ xs)) (sym (fed_stuck (rate_of m.rate) m x xs blank n number q)) (rested_stuck number)
    where
      rested_stuck : (number : ℕ) → Rested n m (x ∷ xs) (stops_before (refusal (bare number)) n m blank)
      rested_stuck number =
          let zero-fed : n - n ≡ 0 = omega arith in
          record { least = omega arith; all = rw zero-fed (held_none m ∙ omega arith) }

pub resting_stretch : (n : ℕ) (m : SoftDemodulator) (xs : List ℤ) → length xs ≤ resting m.control.wait
    → Rested n m xs (rest_from (rate_of m.rate) n m xs blank)
unfolding fed_from
resting_stretch n m [] short =
    let zero-fed : n - n ≡ 0 = omega arith in
    record { least = omega arith; all = rw zero-fed (held_none m ∙ omega arith) }
resting_stretch n m (x ∷ xs) short =
    let w = wait_is m.control.wait (omega arith) in
    let left : resting m.control.wait ≡ w.0.left - 1 = ap resting w.1 in
    rested_by n m x xs w.0 w.1 w.2
    (λ m' kept k.
    let then : resting m'.control.wait ≡ w.0.left - 1 - 1 = ap (λ (c : Control). resting c.wait) k in
    subst (λ (rate : ℕ). Rested (n + 1) m' xs (rest_from (rate_of rate) (n + 1) m' xs blank)) kept (resting_stretch (n + 1) m' xs (omega arith)))
    (comes (rate_of m.rate) m x blank)
