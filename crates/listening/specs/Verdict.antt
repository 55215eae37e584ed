-- Document 01, 'The two programs': the receive program's reply to an offer, by which replays and figures listen too. Assumes nothing.
use Rattle.std.specs.Prelude.{cond, List, Float}
use Rattle.protocol.specs.declared.Kind.{Kind}
use Rattle.search.specs.declared.Reply.{Reply}
use Rattle.search.specs.declared.Reply.TheVariants.{Accepted, Rejected}
use Rattle.house.specs.Accept.{accepted, symbol_at}

-- "accepts an offer exactly if its first two sliced bytes are the burst's word"
unfoldable pub verdict : Kind → List Float → Reply
verdict kind symbols = cond (accepted kind (symbol_at symbols)) Accepted Rejected
