-- `search_marked` meets its contract. The loop's invariant: the samples so far are in the control. Assumes nothing.
use mathlib.Core.Path.{◌≡◌, sym, ◌∙◌}
use mathlib.Core.Bool.{true}
use native.Mathlib.Omega.{arith}
use Rattle.quiet.specs.Parts.{is_free_lem}
use Rattle.quiet.proofs.Midway.{midway_start, midway_stops, midway_ends, midway_counts, midway_searches, free_parts}
use borrow.Author.Rules.{rules}
use Rattle.quiet.proofs.block.search_marked.Goals as goal
use Rattle.quiet.proofs.block.search_marked.Lts as Lts
use Rattle.quiet.proofs.block.search_marked.Reads as Reads
use Rattle.quiet.proofs.block.search_marked.Tie as Tie

abbrev After-next_marked-next : Type 0
After-next_marked-next = Lts.After-next_marked Tie.the-claims Reads.Pre Reads.Post goal.the-invariant-loop-fed goal.the-decreases-loop-fed

free_now : (s : After-next_marked-next) → is_free_lem s.args.p s.loop-fed.now ≡ true
free_now s = sym s.is_free.ensures ∙ s.if-not-is_free.false

pub loop-fed-init : goal.loop-fed-init
loop-fed-init c = midway_start _ _ _ _ _

pub is_free-requires : goal.is_free-requires
is_free-requires c = c.requires.0.values.rate

pub returns-then-not-is_free : goal.returns-then-not-is_free
returns-then-not-is_free c =
    midway_stops _ _ _ _ _ c.requires.0 _ _ c.loop-fed.invariant (sym c.is_free.ensures ∙ c.if-not-is_free.true)

pub next_marked-next-requires : goal.next_marked-next-requires
next_marked-next-requires c =
    let few = c.requires.0.few in
    let most = c.loop-fed.invariant.most in
    search rules

pub overflow_sub-n : goal.overflow_sub-n
overflow_sub-n c = let most = c.loop-fed.invariant.most in search rules

pub count-requires : goal.count-requires
count-requires c =
    let count = c.requires.0.count in
    let number = c.loop-fed.invariant.number in
    let most = c.loop-fed.invariant.most in
    ((free_parts _ _ (free_now c.before.before)).0, omega arith)

pub returns-then-next-n : goal.returns-then-next-n
returns-then-next-n c =
    midway_counts _ _ _ _ _ c.requires.0 _ _ c.loop-fed.invariant (free_now c.before.before.before) _ c.requires.1 _ c.is_held-held.ensures _
    c.next_marked-next.ensures (omega arith) c.if-next-n.true _ c.count.ensures

pub overflow_add-place : goal.overflow_add-place
overflow_add-place c =
    let long = c.requires.0.values.long in
    let few = c.requires.0.few in
    let most = c.next_marked-next.ensures.most in
    search rules

pub overflow_sub-more : goal.overflow_sub-more
overflow_sub-more c = let least = c.next_marked-next.ensures.least in search rules

pub overflow_add-more : goal.overflow_add-more
overflow_add-more c =
    let few = c.requires.0.few in
    let most = c.next_marked-next.ensures.most in
    search rules

pub search_last-now-requires : goal.search_last-now-requires
search_last-now-requires c =
    let block = c.requires.0 in
    let rate = block.values.rate in
    let long = block.values.long in
    let few = block.few in
    let count = block.count in
    let number = c.loop-fed.invariant.number in
    let least = c.next_marked-next.ensures.least in
    let most = c.next_marked-next.ensures.most in
    (rate, omega arith, (free_parts _ _ (free_now c.before.before)).0, omega arith)

pub overflow_add-fed : goal.overflow_add-fed
overflow_add-fed c =
    let few = c.requires.0.few in
    let most = c.next_marked-next.ensures.most in
    search rules

pub loop-fed-smaller : goal.loop-fed-smaller
loop-fed-smaller c =
    let least = c.next_marked-next.ensures.least in
    let most = c.next_marked-next.ensures.most in
    search rules

pub loop-fed-preserved : goal.loop-fed-preserved
loop-fed-preserved c =
    midway_searches _ _ _ _ _ c.requires.0 _ _ c.loop-fed.invariant (free_now c.before.before.before) _ c.requires.1 _ c.is_held-held.ensures _
    c.next_marked-next.ensures c.if-next-n.false _ c.search_last-now.ensures

pub returns : goal.returns
returns c =
    midway_ends _ _ _ _ _ c.requires.0 _ _ c.loop-fed.invariant (omega arith)
