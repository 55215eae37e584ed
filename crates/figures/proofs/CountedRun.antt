-- The count and the rate after samples that were listened to: each counts one at most, and the rate stays. Over the record. Assumes nothing.
use mathlib.Core.Path.{◌≡◌, refl, sym, ap, subst, ◌∙◌}
use mathlib.Core.Bool.{false}
use mathlib.Core.List.{List, [], ◌∷◌}
use Prim.Native.Nat.{ℕ, ◌+◌, ◌^◌, ◌≤◌, ◌<◌}
use native.Mathlib.Omega.{arith}
use lib.IntN.{ℤ}
use lib.ListN.{length}
use lib.Ieee.{Float}
use Rattle.machine.specs.Runs.{run}
use Rattle.shaping.specs.Rate.{rate_of, samples_in_lem}
use Rattle.demodulator.specs.declared.SoftDemodulator.{SoftDemodulator}
use Rattle.demodulator.specs.declared.Offer.{Offer}
use Rattle.demodulator.specs.Calls.{nothing, frame, is_refusal, Left, answered}
use Rattle.demodulator.specs.Singles.{reply, left_at, blank}
use Rattle.demodulator_laws.proofs.SampleComes.{Comes, silent, offering, stuck, comes}
use Rattle.demodulator_run.proofs.Refused.{rate_kept}
use Rattle.listening.specs.Listener.{listed_of}
use Rattle.listening.specs.Verdict.{verdict}
use Rattle.listening.proofs.FirstSample.{heard_all, left_by_sample, after_reply, run_at, same_rate}
use Rattle.figures.proofs.RecordTimer.{sample_kept, reply_kept}

module _ (m' : SoftDemodulator) (o : Offer) (window : List Float) where
  replied_count : (after_reply (record { answer = frame o; demodulator = m'; room = window })).control.sample ≡ (answered (samples_in_lem m'.rate) m' (verdict o.kind window) []).demodulator.control.sample
  unfolding listed_of run left_at
  replied_count = refl

  replied_rate : (after_reply (record { answer = frame o; demodulator = m'; room = window })).rate ≡ m'.rate
  unfolding listed_of run left_at
  replied_rate = rate_kept (rate_of m'.rate) m' (reply (verdict o.kind window))

module _ (m : SoftDemodulator) (small : samples_in_lem m.rate ≤ 10) (few : m.control.sample < 2 ^ 63) where
  pub record Near (d : SoftDemodulator) : Type 0 where
    pub count : d.control.sample ≤ m.control.sample + 1
    pub same : d.rate ≡ m.rate

  first_count : (x : ℤ) (l : Left) → left_by_sample m x ≡ l → is_refusal l.answer ≡ false
      → l.demodulator.control.sample ≡ m.control.sample + 1
  first_count x l e fine =
      ap (λ (j : Left). j.demodulator.control.sample) (sym e)
      ∙ (sample_kept (rate_of m.rate) small m x blank (omega arith) (ap (λ (j : Left). is_refusal j.answer) e ∙ fine)).count

  near_by : (x : ℤ) → Comes m blank (left_by_sample m) (left_by_sample m x) → Near (after_reply (left_by_sample m x))
  unfolding listed_of run
  near_by x (silent m' e) =
      let l : Left = record { answer = nothing; demodulator = m'; room = blank } in
      let k : m'.control.sample ≡ m.control.sample + 1 = first_count x l e refl in
      let here : Near m' = record { count = omega arith; same = same_rate m x l e } in
      subst (λ (j : Left). Near (after_reply j)) (sym e) here
  near_by x (offering o m' window e) =
      let l : Left = record { answer = frame o; demodulator = m'; room = window } in
      let k : m'.control.sample ≡ m.control.sample + 1 = first_count x l e refl in
      let same : m'.rate ≡ m.rate = same_rate m x l e in
      let s : samples_in_lem m'.rate ≤ 10 = rw same small in
      let c : (answered (samples_in_lem m'.rate) m' (verdict o.kind window) []).demodulator.control.sample ≡ m'.control.sample = (reply_kept (samples_in_lem m'.rate) s m' (omega arith) (verdict o.kind window)).count in
      let here : Near (after_reply l) = record { count = rw (replied_count m' o window, c) (omega arith); same = replied_rate m' o window ∙ same } in
      subst (λ (j : Left). Near (after_reply j)) (sym e) here
  near_by x (stuck number e all) =
      let here : Near m = record { count = omega arith; same = refl } in
      subst (λ (j : Left). Near (after_reply j)) (sym (all x)) here

pub record Counted (m d : SoftDemodulator) (n : ℕ) : Type 0 where
  pub count : d.control.sample ≤ m.control.sample + n
  pub same : d.rate ≡ m.rate

pub counted_run : (m : SoftDemodulator) (xs : List ℤ) → samples_in_lem m.rate ≤ 10 → m.control.sample + length xs ≤ 2 ^ 63
    → Counted m (heard_all m xs) (length xs)
unfolding run
counted_run m [] small few = record { count = omega arith; same = refl }
counted_run m (x ∷ xs) small few =
    let first : Near m small (omega arith) (after_reply (left_by_sample m x)) = near_by m small (omega arith) x (comes (rate_of m.rate) m x blank) in
    let n = first.count in
    let later = counted_run (after_reply (left_by_sample m x)) xs (rw first.same small) (omega arith) in
    let k = later.count in
    let all : Counted m (heard_all (after_reply (left_by_sample m x)) xs) (length (x ∷ xs)) = record { count = omega arith; same = later.same ∙ first.same } in
    subst (λ (d : SoftDemodulator). Counted m d (length (x ∷ xs))) (sym (run_at m x (left_by_sample m x) refl xs)) all
