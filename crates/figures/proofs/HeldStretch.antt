-- The carrier over a stretch of at most 24 symbols: a timer that lasts over it is held after each sample, and after the reply to its offer.
-- Over the record. Assumes nothing.
use Rattle.std.specs.Prelude.{Option, Some, None}
use mathlib.Core.Path.{◌≡◌, refl, sym, ap, subst, ◌∙◌}
use mathlib.Core.Logic.{◌⊎◌, inl, inr}
use mathlib.Core.Bool.{true, false, not, ◌&&◌}
use mathlib.Core.List.{List, [], ◌∷◌, map}
use Prim.Native.Nat.{ℕ, suc, ◌+◌, ◌-◌, ◌*◌, ◌^◌, ◌≤◌}
use native.Mathlib.Omega.{arith}
use lib.IntN.{ℤ}
use lib.ListN.{length, take}
use lib.Ieee.{Float}
use Rattle.machine.specs.Runs.{run}
use Rattle.shaping.specs.Rate.{Rate, rate_of}
use Rattle.protocol.specs.Refusals.{bare}
use Rattle.search.specs.Turn.{cleared}
use Rattle.demodulator.specs.declared.SoftDemodulator.{SoftDemodulator}
use Rattle.demodulator.specs.declared.Offer.{Offer}
use Rattle.demodulator.specs.Calls.{Paper, refusal, nothing, frame, done, carrier, is_refusal, timer_held, Left, answered}
use Rattle.demodulator.specs.Singles.{left_at, blank}
use Rattle.demodulator.specs.Feed.{Stretch, stops_before, fed_from, rest_from}
use Rattle.demodulator_laws.proofs.SampleComes.{Comes, silent, offering, stuck, comes, fed_silent, fed_offering, fed_stuck}
use Rattle.listening.specs.Listener.{listed_of, reply_to, own_record}
use Rattle.listening.specs.Verdict.{verdict}
use Rattle.listening.proofs.FirstSample.{left_by_sample, after_reply, same_rate}
use Rattle.figures.specs.FullList.{bit, held_from, record_held}
use Rattle.figures.proofs.CarrierTimer.{Lasts, Kept}
use Rattle.figures.proofs.RecordTimer.{sample_kept, reply_kept, lasts_on, off_or_lasts}

abbrev pub held_in : SoftDemodulator → List ℤ → ℕ
held_in = held_from own_record record_held verdict

pub held_at : (m : SoftDemodulator) (x : ℤ) (xs : List ℤ) (l : Left) → left_by_sample m x ≡ l
    → held_in m (x ∷ xs) ≡ bit (not (is_refusal l.answer) && record_held (after_reply l)) + held_in (after_reply l) xs
unfolding held_from run left_at
held_at m x xs l e = ap (λ (k : Left). bit (not (is_refusal k.answer) && record_held (after_reply k)) + held_in (after_reply k) xs) e

pub held_none : (m : SoftDemodulator) → held_in m [] ≡ 0
unfolding held_from
held_none m = refl

lasting_held : (end : ℕ) (t : Option ℕ) → Lasts end t → timer_held t ≡ true
lasting_held end None h = absurd h
lasting_held end (Some e) h = refl

-- ---- a sample, up to `end`
module _ (end : ℕ) (last : end ≤ 2 ^ 63) where
  pub record Ready (m : SoftDemodulator) (xs : List ℤ) : Type 0 where
    pub small : (rate_of m.rate).p ≤ 10
    pub there : m.control.sample + length xs ≤ end
    pub near : end ≤ m.control.sample + 1 + 24 * (rate_of m.rate).p

  module _ (m : SoftDemodulator) (x : ℤ) (xs : List ℤ) (ready : Ready m (x ∷ xs)) (l : Left) (e : left_by_sample m x ≡ l) (in-it : is_refusal l.answer ≡ false) where
    abbrev R : Rate
    R = rate_of m.rate

    few : m.control.sample ≤ 2 ^ 63
    few = omega (arith, ready.there)

    pub kept_by : Kept R.p (m.control.sample + 1) (cleared (m.control.sample + 1) m.control.dcd) l.demodulator.control
    kept_by =
        subst (λ (k : Left). Kept R.p (m.control.sample + 1) (cleared (m.control.sample + 1) m.control.dcd) k.demodulator.control) e
        (sample_kept R ready.small m x blank few (ap (λ (k : Left). is_refusal k.answer) e ∙ in-it))

    pub next_ready : Ready l.demodulator xs
    next_ready =
        let number = kept_by.count in
        record {
          small = rw (same_rate m x l e) ready.small;
          there = omega (arith, ready.there);
          near = rw (same_rate m x l e) (omega (arith, ready.near));
        }

    pub next_lasts : Lasts end m.control.dcd → Lasts end l.demodulator.control.dcd
    next_lasts h =
        lasts_on R.p end m.control.sample m.control.dcd l.demodulator.control (omega (arith, ready.there)) ready.near kept_by h

    pub next_off : cleared (m.control.sample + 1) m.control.dcd ≡ None
        → (l.demodulator.control.dcd ≡ None) ⊎ Lasts end l.demodulator.control.dcd
    next_off q =
        off_or_lasts R.p end m.control.sample m.control.dcd l.demodulator.control (omega (arith, ready.there)) ready.near kept_by q

  -- a reply
  reply_lasts : (m : SoftDemodulator) → (rate_of m.rate).p ≤ 10 → m.control.sample ≤ end
      → end ≤ m.control.sample + 24 * (rate_of m.rate).p → Lasts end m.control.dcd → (a : Paper) (room : List Float)
      → Lasts end (run own_record m (map reply_to (listed_of verdict a room))).control.dcd
  unfolding run listed_of left_at
  reply_lasts m small there near h (refusal why) room = h
  reply_lasts m small there near h nothing room = h
  reply_lasts m small there near h done room = h
  reply_lasts m small there near h (carrier held) room = h
  reply_lasts m small there near h (frame o) room =
      let K = reply_kept (rate_of m.rate).p small m (omega (arith, there, last)) (verdict o.kind room) in
      elim K.timer [ inl e ↦ subst (Lasts end) (sym e) h | inr l ↦ shorter (answered (rate_of m.rate).p m (verdict o.kind room) []).demodulator.control.dcd l ]
    where
      shorter : (t : Option ℕ) → Lasts (m.control.sample + 24 * (rate_of m.rate).p) t → Lasts end t
      shorter None g = absurd g
      shorter (Some e) g = omega arith

  -- ---- a timer that lasts
  pub record Held (n : ℕ) (m : SoftDemodulator) (xs : List ℤ) (f : Stretch SoftDemodulator) : Type 0 where
    pub least : n ≤ f.fed
    pub all : held_in m (take (f.fed - n) xs) ≡ f.fed - n
    pub stays : Lasts end f.state.control.dcd

  module _ (n : ℕ) (m : SoftDemodulator) (x : ℤ) (xs : List ℤ) (ready : Ready m (x ∷ xs)) (lasts : Lasts end m.control.dcd) where
    held_silent : (m' : SoftDemodulator) (f : Stretch SoftDemodulator) → Held (n + 1) m' xs f → left_by_sample m x ≡ record { answer = nothing; demodulator = m'; room = blank } → Held n m (x ∷ xs) f
    unfolding listed_of run
    held_silent m' f g e =
        let l = g.least in
        let one_more : f.fed - n ≡ suc (f.fed - (n + 1)) = omega arith in
        let on : timer_held m'.control.dcd ≡ true = lasting_held end m'.control.dcd (next_lasts m x xs ready _ e refl lasts) in
        record {
          least = omega arith;
          all = rw (one_more, held_at m x (take (f.fed - (n + 1)) xs) _ e, on, g.all) (omega arith);
          stays = g.stays;
        }

    held_offering : (o : Offer) (m' : SoftDemodulator) (window : List Float) → left_by_sample m x ≡ record { answer = frame o; demodulator = m'; room = window }
        → end ≤ m.control.sample + 1 + 24 * (rate_of m.rate).p → Held n m (x ∷ xs) (record { answer = frame o; fed = n + 1; state = m'; room = window })
    held_offering o m' window e near =
        let one : n + 1 - n ≡ 1 = omega arith in
        let r = next_ready m x xs ready _ e refl in
        let k = (kept_by m x xs ready _ e refl).count in
        let now : Lasts end m'.control.dcd = next_lasts m x xs ready _ e refl lasts in
        let same = same_rate m x _ e in
        let then = reply_lasts m' r.small (omega (arith, r.there)) (rw same (omega arith)) now (frame o) window in
        let on : timer_held (after_reply (record { answer = frame o; demodulator = m'; room = window })).control.dcd ≡ true = lasting_held end (after_reply (record { answer = frame o; demodulator = m'; room = window })).control.dcd then in
        record {
          least = omega arith;
          all = rw (one, held_at m x [] _ e, on, held_none (after_reply (record { answer = frame o; demodulator = m'; room = window })));
          stays = now;
        }

    held_stuck : (number : ℕ) → Held n m (x ∷ xs) (stops_before (refusal (bare number)) n m blank)
    held_stuck number =
        let zero-fed : n - n ≡ 0 = omega arith in
        record { least = omega arith; all = rw zero-fed (held_none m); stays = lasts }

    held_by : ((m' : SoftDemodulator) → m'.rate ≡ m.rate → Ready m' xs → Lasts end m'.control.dcd → Held (n + 1) m' xs (rest_from (rate_of m.rate) (n + 1) m' xs blank))
        → Comes m blank (left_by_sample m) (left_by_sample m x) → Held n m (x ∷ xs) (rest_from (rate_of m.rate) n m (x ∷ xs) blank)
    held_by rest (silent m' e) =
        subst (Held n m (x ∷ xs)) (sym (fed_silent (rate_of m.rate) m x xs blank n m' e))
        (held_silent m' _ (rest m' (same_rate m x _ e) (next_ready m x xs ready _ e refl) (next_lasts m x xs ready _ e refl lasts)) e)
    held_by rest (offering o m' window e) =
        subst (Held n m (x ∷ xs)) (sym (fed_offering (rate_of m.rate) m x xs blank n o m' window e)) (held_offering o m' window e ready.near)
    held_by rest (stuck number e all) =
        subst (Held n m (x ∷ xs)) (sym (fed_stuck (rate_of m.rate) m x xs blank n number e)) (held_stuck number)

  pub lasting_stretch : (n : ℕ) (m : SoftDemodulator) (xs : List ℤ) → Ready m xs → Lasts end m.control.dcd
      → Held n m xs (rest_from (rate_of m.rate) n m xs blank)
  unfolding fed_from
  lasting_stretch n m [] ready lasts =
      let zero-fed : n - n ≡ 0 = omega arith in
      record { least = omega arith; all = rw zero-fed (held_none m); stays = lasts }
  lasting_stretch n m (x ∷ xs) ready lasts =
      held_by n m x xs ready lasts
      (λ m' kept r h. subst (λ (rate : ℕ). Held (n + 1) m' xs (rest_from (rate_of rate) (n + 1) m' xs blank)) kept (lasting_stretch (n + 1) m' xs r h))
      (comes (rate_of m.rate) m x blank)
