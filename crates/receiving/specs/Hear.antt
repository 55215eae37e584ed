-- A call with bytes, said once for any receiver: what it answers, how many bytes it consumes, and what it leaves. Assumes nothing.
use Rattle.protocol.specs.declared.Refusal.{Refusal}
use Rattle.std.specs.Prelude.{◌≡◌, cond, List, ◌++◌, ℕ, ◌-◌, ◌*◌, eqb, ltb, ℤ, length, take, drop, Option, None, Result, Ok, Err}
use Rattle.machine.specs.Runs.{Machine, answers}
use Rattle.shaping.specs.Rate.{rate_of}
use Rattle.protocol.specs.Refusals.{on_paper}
use Rattle.demodulator.specs.declared.SoftDemodulator.{SoftDemodulator}
use Rattle.demodulator.specs.Record.{fresh}
use Rattle.demodulator.specs.Calls.{Paper, refusal, nothing, is_refusal}
use Rattle.demodulator.specs.Feed.{empty_said}
use Rattle.demodulator.specs.Singles.{Single, Said}
use Rattle.listening.specs.Listener.{listener, own_record}
use Rattle.listening.specs.Verdict.{verdict}
use Rattle.receiving.specs.declared.Receiving.{Receiving}
use Rattle.receiving.specs.declared.AfterBytes.{AfterBytes}
use Rattle.receiving.specs.Pairs.{samples_of, odd_of, waiting}
use Rattle.receiving.specs.Text.{Batch, batch_of, told_to}

-- ---- the bytes
-- the most samples of a call
abbrev pub most_samples : ℕ
most_samples = 8192

-- a call looks at the bytes of so many, and at none where the room has no place for a line
abbrev pub looked : List ℕ → ℕ → List ℕ
looked bytes places = take (cond (ltb places 97) 0 (2 * most_samples)) bytes

-- "Receive reads i16 samples, low byte first": the byte that waits and these
abbrev pub samples_in_lem : Option ℕ → List ℕ → List ℤ
samples_in_lem odd bytes = samples_of (waiting odd ++ bytes)

-- of the bytes that were looked at a call consumes those of the `n` samples that went in, and an odd one after them if all went in;
-- the byte that waits was consumed before; a refused call consumes none
abbrev pub consumed_of : Option ℕ → List ℕ → Paper → ℕ → ℕ
consumed_of odd bytes told n = cond (is_refusal told) 0 (cond (eqb n (length (samples_in_lem odd bytes))) (length bytes) (2 * n - length (waiting odd)))

-- ---- what a call leaves: `text` is what is written to the front of the room
pub record Intake (S : Type 0) : Type 0 where
  pub answer : Paper
  pub consumed : ℕ
  pub text : List ℕ
  pub state : S
  pub odd : Option ℕ

-- the call's own bytes are those that it looks at; `empty` is what a call with no sample is answered with
unfoldable pub intake_of : {S : Type 0} → Machine S Single Said → (S → Paper) → S → Option ℕ → List ℕ → ℕ → Intake S
intake_of {S} m empty s odd bytes places =
    let xs : List ℤ = samples_in_lem odd bytes in
    let told : Paper = told_to (empty s) (answers (listener m verdict) s xs) in
    let b : Batch S = batch_of m s xs places in
    record {
      answer = told;
      consumed = consumed_of odd bytes told b.count;
      text = b.text;
      state = b.state;
      odd = odd_of (waiting odd ++ take (consumed_of odd bytes told b.count) bytes);
    }

-- ---- the record
-- no sample: nothing, or 15 or 1 where the record is unfit with no filtered value tested
abbrev pub empty_told : SoftDemodulator → Paper
empty_told m = empty_said (rate_of m.rate).p m

abbrev pub record_intake : Receiving → List ℕ → ℕ → Intake SoftDemodulator
record_intake r bytes places = intake_of own_record empty_told r.demodulator r.odd (looked bytes places) places

-- document 02 k): "The two programs .. stay at 48 kHz"
abbrev pub fresh_receiving : Receiving
fresh_receiving = record { demodulator = fresh 48000; odd = None }

abbrev pub receipt_paper : Result Unit Refusal → Paper
receipt_paper (Err why) = refusal (on_paper why)
receipt_paper (Ok _) = nothing

-- ---- what the functions promise
abbrev pub NewSays : Receiving → Type 0
NewSays r = r ≡ fresh_receiving

pub record HearSays (receiving : Receiving) (bytes lines : List ℕ) (r : AfterBytes) (after : List ℕ) : Type 0 where
  pub answers : receipt_paper r.answer ≡ (record_intake receiving bytes (length lines)).answer
  pub consumes : r.consumed ≡ (record_intake receiving bytes (length lines)).consumed
  pub counts : r.written ≡ length (record_intake receiving bytes (length lines)).text
  pub leaves : r.receiving ≡ record { demodulator = (record_intake receiving bytes (length lines)).state; odd = (record_intake receiving bytes (length lines)).odd }
  pub writes : after ≡ (record_intake receiving bytes (length lines)).text ++ drop (length (record_intake receiving bytes (length lines)).text) lines
