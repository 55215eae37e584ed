-- No two answers of a call say the same on paper. Assumes nothing.
use Rattle.std.specs.Prelude.{Result, Ok, Err}
use Rattle.modulator.specs.declared.SampleCount.{SampleCount}
use Rattle.protocol.specs.declared.Refusal.{Refusal}
use mathlib.Core.Path.{◌≡◌, refl, sym, ap, ◌∙◌}
use Prim.Native.Nat.{ℕ}
use Rattle.protocol.proofs.Numbers.{numbered, numbered_back, refusal_once}
use Rattle.modulator.specs.declared.ModulatorAction.{ModulatorAction}
use Rattle.modulator.specs.declared.ModulatorAction.TheVariants.{TransmissionWillEnd, ReadOutput, SetIdle, GetNextFrame, Nothing as NoAction}
use Rattle.modulator.specs.Paper.{Paper, refusal, done, wrote, transmit_end, read_output, idle, get_frame, nothing, done_paper, read_paper, action_paper}

pub done_once : (a b : Result Unit Refusal) → done_paper a ≡ done_paper b → a ≡ b
done_once (Err a) (Err b) e = ap Err (refusal_once a b (cc))
done_once (Err a) (Ok _) e = cc
done_once (Ok _) (Err b) e = cc
done_once (Ok _) (Ok _) e = refl

pub read_once : (a b : Result SampleCount Refusal) → read_paper a ≡ read_paper b → a ≡ b
read_once (Err a) (Err b) e = ap Err (refusal_once a b (cc))
read_once (Err a) (Ok n) e = cc
read_once (Ok n) (Err b) e = cc
read_once (Ok n) (Ok m) e = let counts : n.0 ≡ m.0 = cc in ap (λ (k : ℕ). Ok (record { 0 = k })) counts

-- An action is read back from the paper, where `done` and `wrote` stand for none.
action_of : Paper → Result ModulatorAction Refusal
action_of (refusal n) = Err (numbered n)
action_of done = Ok NoAction
action_of (wrote n) = Ok NoAction
action_of (transmit_end n) = Ok (TransmissionWillEnd (record { 0 = n }))
action_of read_output = Ok ReadOutput
action_of (idle state) = Ok (SetIdle state)
action_of get_frame = Ok GetNextFrame
action_of nothing = Ok NoAction

action_back : (a : Result ModulatorAction Refusal) → action_of (action_paper a) ≡ a
unfolding action_of
action_back (Err why) = ap Err (numbered_back why)
action_back (Ok (TransmissionWillEnd n)) = refl
action_back (Ok ReadOutput) = refl
action_back (Ok (SetIdle state)) = refl
action_back (Ok GetNextFrame) = refl
action_back (Ok NoAction) = refl

pub action_once : (a b : Result ModulatorAction Refusal) → action_paper a ≡ action_paper b → a ≡ b
action_once a b e = sym (action_back a) ∙ ap action_of e ∙ action_back b
