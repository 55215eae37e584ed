-- `write_entry` meets its contract: each room has a tail written. Assumes nothing.
use Prim.Native.Nat.{◌*◌, ◌≤◌}
use borrow.Author.Rules.{rules}
use lib.ListN.{length}
use Rattle.numbers.specs.Firsts.{firsts}
use Rattle.demodulator.specs.Spans.{symbol_at}
use Rattle.plain.specs.Values.{from_whole}
use Rattle.plain.specs.Rest.{numbers_of_lem, offer_of_due}
use Rattle.plain.proofs.RoomLaws.{placed}
use Rattle.plain.proofs.heard.Heard.write_entry.Goals as goal

pub returns : goal.returns
returns c =
    let numbers : 5 * c.args.count ≤ length c.args.numbers.now = search rules in
    let symbols : 192 * c.args.count ≤ length c.args.symbols.now = search rules in
    record {
      numbered = placed c.args.numbers.now (5 * c.args.count) 5 (numbers_of_lem (offer_of_due c.args.due)) _ numbers c.write_numbers.ensures;
      written =
          placed c.args.symbols.now (192 * c.args.count) 192
          (firsts (symbol_at c.args.self.now.p c.args.due.shown (from_whole c.args.self.now.table.now c.args.self.now.p c.args.self.now.recording.now c.args.due.sample)) 192) _ symbols c.write_symbols.ensures;
    }
