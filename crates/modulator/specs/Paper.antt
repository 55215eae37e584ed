-- The paper's answers of the sender: a refusal, or the paper's values; and what each answer of its functions is on paper. Assumes nothing.
use Rattle.modulator.specs.declared.SampleCount.{SampleCount}
use Rattle.protocol.specs.declared.Refusal.{Refusal}
use Rattle.std.specs.Prelude.{Bool, ℕ, Result, Ok, Err}
use Rattle.protocol.specs.Refusals.{PaperRefusal, on_paper}
use Rattle.modulator.specs.declared.ModulatorAction.{ModulatorAction}
use Rattle.modulator.specs.declared.ModulatorAction.TheVariants.{TransmissionWillEnd, ReadOutput, SetIdle, GetNextFrame, Nothing as NoAction}

pub data Paper : Type 0 where
  refusal : PaperRefusal → Paper
  done : Paper
  wrote : ℕ → Paper
  transmit_end : ℕ → Paper
  read_output : Paper
  idle : Bool → Paper
  get_frame : Paper
  nothing : Paper

abbrev pub done_paper : Result Unit Refusal → Paper
done_paper (Err why) = refusal (on_paper why)
done_paper (Ok _) = done

abbrev pub read_paper : Result SampleCount Refusal → Paper
read_paper (Err why) = refusal (on_paper why)
read_paper (Ok n) = wrote n.0

abbrev pub action_paper : Result ModulatorAction Refusal → Paper
action_paper (Err why) = refusal (on_paper why)
action_paper (Ok (TransmissionWillEnd n)) = transmit_end n.0
action_paper (Ok ReadOutput) = read_output
action_paper (Ok (SetIdle state)) = idle state
action_paper (Ok GetNextFrame) = get_frame
action_paper (Ok NoAction) = nothing
