-- `part::find_offer` meets its contract: at each turn the offers before the samples that are left are before the asked one. Assumes nothing.
use mathlib.Core.Path.{◌≡◌, sym, ap, ◌∙◌}
use mathlib.Core.Bool.{true, false}
use mathlib.Core.List.{List, []}
use Prim.Native.Nat.{ℕ, ◌+◌, ◌-◌, ◌≤◌, ◌<◌, zero-le}
use native.Mathlib.Omega.{arith}
use borrow.Author.Rules.{rules}
use lib.IntN.{ℤ}
use lib.ListN.{length, take, drop, length-drop}
use lib.Seq.{drop-drop}
use Rattle.numbers.proofs.Tail.{tail_lent}
use Rattle.demodulator.specs.declared.SoftDemodulator.{SoftDemodulator}
use Rattle.demodulator.specs.Calls.{heard_paper, made}
use Rattle.listening.specs.declared.Listened.{Listened}
use Rattle.listening.specs.Listen.{is_offer, ListenSays}
use Rattle.listening.proofs.FirstSample.{record_offers}
use Rattle.replay.specs.FullRun.{first_from}
use Rattle.replay.specs.Part.{is_found_lem, found_from, found_in, finding}
use Rattle.replay.proofs.OneTurn.{found_some, turn_found, turn_none, turn_passed, turn_most, turn_moves, none_left}
use Rattle.replay.proofs.part.find_offer.Goals as goal

-- ---- what was heard of the samples that are left
module _ (xs : List ℤ) (fed : ℕ) (some_left : fed < length xs) (m : SoftDemodulator) (r : Listened) (says : ListenSays m (take (length xs - fed) (drop fed xs)) r) where
  heard : ListenSays m (drop fed xs) r
  heard = rw (tail_lent xs fed) at says

  more : 1 ≤ length (drop fed xs)
  more = omega (arith, length-drop fed xs)

  fed_most : fed + r.fed ≤ length xs
  fed_most = omega (arith, turn_most 0 m (drop fed xs) more r heard, length-drop fed xs)

  fed_least : is_offer (heard_paper r.answer) ≡ true → 1 ≤ r.fed
  fed_least = turn_moves 0 m (drop fed xs) more r heard

  module _ (a : ℕ) where
    found_here : is_found_lem (found_from a (heard_paper r.answer)) ≡ true
        → found_in (found_from a (heard_paper r.answer)) r.window ≡ finding (first_from a (record_offers m (drop fed xs)))
    found_here = turn_found a m (drop fed xs) more r heard

    none_here : is_offer (heard_paper r.answer) ≡ false → record_offers m (drop fed xs) ≡ []
    none_here = turn_none a m (drop fed xs) more r heard

    passed_here : is_found_lem (found_from a (heard_paper r.answer)) ≡ false
        → first_from a (record_offers m (drop fed xs)) ≡ first_from a (record_offers r.demodulator (drop (fed + r.fed) xs))
    passed_here e = turn_passed a m (drop fed xs) more r heard e ∙ ap (λ (ys : List ℤ). first_from a (record_offers r.demodulator ys)) (drop-drop r.fed fed xs)

pub loop-fed-init : goal.loop-fed-init
unfolding made
loop-fed-init c =
    let a = c.args in
    (zero-le, ap (λ (m : SoftDemodulator). first_from a.sample (record_offers m a.samples.now)) (sym c.new-begun.ensures.leaves))

pub returns-then-is_some : goal.returns-then-is_some
returns-then-is_some c =
    let e = c.pick_offer-found.ensures in
    let is = ap is_found_lem (sym e) ∙ found_some _ ∙ sym c.is_some.ensures ∙ c.if-is_some.true in
    rw e (found_here c.args.samples.now _ c.loop-fed-test.true _ _ c.listen-heard.ensures c.args.sample is ∙ ap finding (sym c.loop-fed.invariant.1))

pub returns-then-not-is_offered : goal.returns-then-not-is_offered
unfolding first_from finding
returns-then-not-is_offered c =
    let none = none_here c.args.samples.now _ c.loop-fed-test.true _ _ c.listen-heard.ensures c.args.sample (sym c.is_offered.ensures ∙ c.if-not-is_offered.true) in
    sym (ap finding (c.loop-fed.invariant.1 ∙ ap (first_from c.args.sample) none))

pub overflow_add-fed : goal.overflow_add-fed
overflow_add-fed c =
    let u = fed_most c.args.samples.now _ c.loop-fed-test.true _ _ c.listen-heard.ensures in
    search rules

pub loop-fed-smaller : goal.loop-fed-smaller
loop-fed-smaller c =
    let v = fed_least c.args.samples.now _ c.loop-fed-test.true _ _ c.listen-heard.ensures (sym c.is_offered.ensures ∙ c.if-not-is_offered.false) in
    omega (arith, fed_most c.args.samples.now _ c.loop-fed-test.true _ _ c.listen-heard.ensures, v)

pub loop-fed-preserved : goal.loop-fed-preserved
loop-fed-preserved c =
    let passed = ap is_found_lem (sym c.pick_offer-found.ensures) ∙ found_some _ ∙ sym c.is_some.ensures ∙ c.if-is_some.false in
    (fed_most c.args.samples.now _ c.loop-fed-test.true _ _ c.listen-heard.ensures, c.loop-fed.invariant.1 ∙ passed_here c.args.samples.now _ c.loop-fed-test.true _ _ c.listen-heard.ensures c.args.sample passed)

pub returns : goal.returns
returns c =
    let l = c.loop-fed in
    let a = c.args in
    let all : length a.samples.now ≤ l.fed = search rules in
    sym (ap finding l.invariant.1 ∙ none_left a.sample l.left a.samples.now l.fed all)
