-- A receiver that is lent: the promise of its own call by value, of the record that is there before and the one that is there after. Assumes nothing.
use Rattle.protocol.specs.declared.Refusal.{Refusal}
use Rattle.std.specs.Prelude.{List, ℤ, Float, Result}
use Rattle.search.specs.declared.Reply.{Reply}
use Rattle.demodulator.specs.declared.SoftDemodulator.{SoftDemodulator}
use Rattle.demodulator.specs.Calls.{ReplySays}
use Rattle.demodulator.specs.Feed.{FeedSays}
use Rattle.desk.specs.declared.Fed.{Fed}

abbrev pub FeedInSays : SoftDemodulator → List ℤ → List Float → Fed → SoftDemodulator → List Float → Type 0
FeedInSays m xs room r next after = FeedSays m xs room (record { answer = r.answer; fed = r.fed; demodulator = next }) after

abbrev pub ReplyInSays : SoftDemodulator → Reply → Result Unit Refusal → SoftDemodulator → Type 0
ReplyInSays m reply r next = ReplySays m reply (record { answer = r; demodulator = next })
