-- Each promise of `modulator` leaves one answer, one record and, where room is lent, one room. Assumes nothing.
use Rattle.std.specs.Prelude.{Result}
use Rattle.modulator.specs.declared.After.{After}
use Rattle.protocol.specs.declared.Refusal.{Refusal}
use mathlib.Core.Path.{◌≡◌}
use mathlib.Core.List.{List}
use Prim.Native.Nat.{ℕ}
use lib.IntN.{ℤ}
use lib.Ieee.{Float}
use Rattle.numbers.proofs.Answer.{same_answer}
use Rattle.modulator.specs.declared.SampleCount.{SampleCount}
use Rattle.modulator.specs.declared.SoftModulator.{SoftModulator}
use Rattle.modulator.specs.declared.ModulatorFrame.{ModulatorFrame}
use Rattle.modulator.specs.declared.ModulatorAction.{ModulatorAction}
use Rattle.modulator.specs.Calls.{NewSays, ProvideNextFrameSays, ReadOutputSamplesSays, UpdateOutputBufferSays, RunSays}
use Rattle.modulator_laws.proofs.Papers.{done_once, read_once, action_once}

-- what is made of an answer and a record is one where these are
joined : {A R : Type 0} (make : A → SoftModulator → R) {a b : A} {m n : SoftModulator} → a ≡ b → m ≡ n → make a m ≡ make b n
joined make p q = cc

pub new_only_answer : (rate : ℕ) (r s : After Unit) → NewSays rate r → NewSays rate s → r ≡ s
new_only_answer rate r s p q =
    let answers = done_once r.answer s.answer (same_answer p.answers q.answers) in
    let records = same_answer p.leaves q.leaves in
    joined {R = After Unit} (λ (answer : Result Unit Refusal) (left : SoftModulator). record { answer = answer; modulator = left }) answers records

pub provide_next_frame_only_answer : (m : SoftModulator) (frame : ModulatorFrame) (symbols : List Float) (r s : After Unit)
    → ProvideNextFrameSays m frame symbols r → ProvideNextFrameSays m frame symbols s → r ≡ s
provide_next_frame_only_answer m frame symbols r s p q =
    let answers = done_once r.answer s.answer (same_answer p.answers q.answers) in
    let records = same_answer p.leaves q.leaves in
    joined {R = After Unit} (λ (answer : Result Unit Refusal) (left : SoftModulator). record { answer = answer; modulator = left }) answers records

pub read_output_samples_only_answer : (m : SoftModulator) (room : List ℤ) (r s : After SampleCount) (a b : List ℤ)
    → ReadOutputSamplesSays m room r a → ReadOutputSamplesSays m room s b → (r ≡ s) × (a ≡ b)
read_output_samples_only_answer m room r s a b p q =
    let answers = read_once r.answer s.answer (same_answer p.answers q.answers) in
    let records = same_answer p.leaves q.leaves in
    (joined {R = After SampleCount} (λ (answer : Result SampleCount Refusal) (left : SoftModulator). record { answer = answer; modulator = left }) answers records, same_answer p.writes q.writes)

pub update_output_buffer_only_answer : (m : SoftModulator) (fill capacity latency : SampleCount) (r s : After Unit)
    → UpdateOutputBufferSays m fill capacity latency r → UpdateOutputBufferSays m fill capacity latency s → r ≡ s
update_output_buffer_only_answer m fill capacity latency r s p q =
    let answers = done_once r.answer s.answer (same_answer p.answers q.answers) in
    let records = same_answer p.leaves q.leaves in
    joined {R = After Unit} (λ (answer : Result Unit Refusal) (left : SoftModulator). record { answer = answer; modulator = left }) answers records

pub run_only_answer : (m : SoftModulator) (r s : After ModulatorAction) → RunSays m r → RunSays m s → r ≡ s
run_only_answer m r s p q =
    let answers = action_once r.answer s.answer (same_answer p.answers q.answers) in
    let records = same_answer p.leaves q.leaves in
    joined {R = After ModulatorAction} (λ (answer : Result ModulatorAction Refusal) (left : SoftModulator). record { answer = answer; modulator = left }) answers records
