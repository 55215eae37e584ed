-- `list_at` meets its contract. Assumes nothing.
use Rattle.plain.specs.Listing.{rules_list}
use Rattle.plain.proofs.ListingCases.{few_numbers, few_symbols, all_listed}
use Rattle.plain.proofs.heard.Heard.list_at.Goals as goal

pub returns-then-numbers-count : goal.returns-then-numbers-count
returns-then-numbers-count c =
    let a = c.args in
    few_numbers (rules_list a.self.now.table.now a.self.now.p a.self.now.recording.now a.replies.now) a.numbers.now a.symbols.now c.count_offers-count.result
    c.count_offers-count.ensures c.if-numbers-count.true

pub returns-then-symbols-count : goal.returns-then-symbols-count
returns-then-symbols-count c =
    let a = c.args in
    few_symbols (rules_list a.self.now.table.now a.self.now.p a.self.now.recording.now a.replies.now) a.numbers.now a.symbols.now c.count_offers-count.result
    c.count_offers-count.ensures c.if-symbols-count.true

pub returns : goal.returns
returns c =
    let a = c.args in
    all_listed (rules_list a.self.now.table.now a.self.now.p a.self.now.recording.now a.replies.now) a.numbers.now a.symbols.now c.count_offers-count.result
    c.count_offers-count.ensures c.if-numbers-count.false c.if-symbols-count.false _ _ c.write_offers.ensures
