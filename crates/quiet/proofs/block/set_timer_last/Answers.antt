-- `set_timer_last` meets its contract. Assumes nothing.
use native.Mathlib.Omega.{arith}
use Rattle.quiet.proofs.BlockLaws.{no_carrier, carrier_last, carrier_then, carrier_ready}
use borrow.Author.Rules.{rules}
use Rattle.quiet.proofs.block.set_timer_last.Goals as goal

pub last_carrier-j-requires : goal.last_carrier-j-requires
last_carrier-j-requires c = let p = c.requires in (p.0.values.rate, p.0.few, p.0.values.long, p.1)

pub count-requires : goal.count-requires
count-requires c = let p = c.requires in (p.0.free, p.0.count)

pub returns-then-j-eq0 : goal.returns-then-j-eq0
returns-then-j-eq0 c =
    let p = c.requires in
    no_carrier _ _ _ _ _ p.0 p.2 _ c.last_carrier-j.ensures c.if-j-eq0.true _ c.count.ensures

pub overflow_add-place : goal.overflow_add-place
overflow_add-place c =
    let p = c.requires in
    let long = p.0.values.long in
    let few = p.0.few in
    let most = c.last_carrier-j.ensures.most in
    search rules

pub search_last-set-requires : goal.search_last-set-requires
search_last-set-requires c =
    let p = c.requires in
    let long = p.0.values.long in
    let few = p.0.few in
    let count = p.0.count in
    let most = c.last_carrier-j.ensures.most in
    (p.0.values.rate, omega arith, p.0.free, omega arith)

pub overflow_sub-rest : goal.overflow_sub-rest
overflow_sub-rest c = let most = c.last_carrier-j.ensures.most in search rules

pub returns-then-rest-eq0 : goal.returns-then-rest-eq0
returns-then-rest-eq0 c =
    let p = c.requires in
    carrier_last _ _ _ _ _ p.0 p.2 _ c.last_carrier-j.ensures c.if-j-eq0.false _ c.search_last-set.ensures c.if-rest-eq0.true

pub count-requires-2 : goal.count-requires-2
count-requires-2 c =
    let p = c.requires in
    carrier_ready _ _ _ _ _ p.0 p.2 _ c.last_carrier-j.ensures c.if-j-eq0.false _ c.search_last-set.ensures

pub returns : goal.returns
returns c =
    let p = c.requires in
    carrier_then _ _ _ _ _ p.0 p.2 _ c.last_carrier-j.ensures c.if-j-eq0.false _ c.search_last-set.ensures
    c.if-rest-eq0.false _ c.count-2.ensures
