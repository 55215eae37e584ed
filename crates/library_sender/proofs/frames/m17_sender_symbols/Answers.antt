-- `frames::m17_sender_symbols` meets its contract. Assumes nothing.
use borrow.Author.Rules.{rules}
use Rattle.library_sender.proofs.frames.m17_sender_symbols.Goals as goal

pub returns : goal.returns
returns c = rw c.choose_traffic-traffic.ensures at c.provide.ensures
