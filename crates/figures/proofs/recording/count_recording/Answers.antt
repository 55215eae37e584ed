-- `recording::count_recording` meets its contract: before each turn the figures are those of the samples that went in. Assumes nothing.
use Rattle.std.specs.Prelude.{Some, None}
use mathlib.Core.Path.{◌≡◌, ap}
use Prim.Native.Nat.{ℕ, ◌+◌, ◌-◌, ◌*◌, ◌≤◌}
use native.Mathlib.Omega.{arith}
use borrow.Author.Rules.{rules}
use lib.ListN.{length, take, drop}
use Rattle.shaping.specs.Rate.{samples_in_lem}
use Rattle.shaping.proofs.RateFacts.{rate_known}
use Rattle.demodulator.specs.Record.{fresh}
use Rattle.demodulator.specs.Calls.{made}
use Rattle.figures.specs.declared.Figures.{Figures}
use Rattle.figures.specs.Totals.{no_figures_lem, plus, Fit}
use Rattle.figures.specs.FullList.{record_figures}
use Rattle.figures.specs.Turn.{Short}
use Rattle.figures.proofs.RecordingLaws.{Heard, begins, ends, turn_short, turn_inside, turn_fit, turn_on, turn_stops, turn_few, turn_two}
use Rattle.figures.proofs.recording.count_recording.Goals as goal
use Rattle.figures.proofs.recording.count_recording.Goals.{After-count_next-n, After-take_turn-turn}

-- ---- a turn, from the places that the code has behind it
module _ (h : After-count_next-n) where
  span_is : 24 * h.samples_in-span.result ≡ 24 * samples_in_lem h.args.rate
  span_is = ap (λ (p : ℕ). 24 * p) h.samples_in-span.ensures

  short_here : Short h.loop-fed.left (take (h.loop-fed.fed + h.count_next-n.result - h.loop-fed.fed) (drop h.loop-fed.fed h.args.samples.now))
  short_here =
      turn_short h.args.rate h.args.samples.now h.requires.0 h.requires.1 _ span_is _ _ _ _ h.loop-fed.invariant h.loop-fed-test.true h.count_next-n.result h.count_next-n.ensures

module _ (t : After-take_turn-turn) where
  inside_here : t.loop-fed.fed + t.take_turn-turn.result.fed ≤ length t.args.samples.now
  inside_here =
      turn_inside t.args.rate t.args.samples.now t.requires.0 t.requires.1 _ (span_is t.before.before) _ _ _ _ t.loop-fed.invariant t.loop-fed-test.true t.count_next-n.result t.count_next-n.ensures t.take_turn-turn.result t.take_turn-turn.ensures

  fit_here : (added : Figures) → t.take_turn-turn.result.figures ≡ Some added → Fit t.loop-fed.figures added
  fit_here =
      turn_fit t.args.rate t.args.samples.now t.requires.0 t.requires.1 _ (span_is t.before.before) _ _ _ _ t.loop-fed.invariant t.loop-fed-test.true t.count_next-n.result t.count_next-n.ensures t.take_turn-turn.result t.take_turn-turn.ensures

  on_here : (added : Figures) → t.take_turn-turn.result.figures ≡ Some added → (sum : Figures) → sum ≡ plus t.loop-fed.figures added
      → Heard t.args.rate t.args.samples.now (24 * t.samples_in-span.result) t.take_turn-turn.result.demodulator sum (t.loop-fed.fed + t.take_turn-turn.result.fed) (24 * t.samples_in-span.result)
  on_here =
      turn_on t.args.rate t.args.samples.now t.requires.0 t.requires.1 _ (span_is t.before.before) _ _ _ _ t.loop-fed.invariant t.loop-fed-test.true t.count_next-n.result t.count_next-n.ensures t.take_turn-turn.result t.take_turn-turn.ensures

  stops_here : t.take_turn-turn.result.fed ≡ 0 → t.loop-fed.figures ≡ record_figures no_figures_lem (fresh t.args.rate) t.args.samples.now
  stops_here =
      turn_stops t.args.rate t.args.samples.now t.requires.0 t.requires.1 _ (span_is t.before.before) _ _ _ _ t.loop-fed.invariant t.loop-fed-test.true t.count_next-n.result t.count_next-n.ensures t.take_turn-turn.result t.take_turn-turn.ensures

  two_here : t.take_turn-turn.result.figures ≡ None → 2 ≤ t.count_next-n.result
  two_here =
      turn_two t.args.rate t.args.samples.now t.requires.0 t.requires.1 _ (span_is t.before.before) _ _ _ _ t.loop-fed.invariant t.loop-fed-test.true t.count_next-n.result t.count_next-n.ensures t.take_turn-turn.result t.take_turn-turn.ensures

  few_here : t.take_turn-turn.result.figures ≡ None → t.count_next-n.result ≤ t.loop-fed.most
  few_here =
      turn_few t.args.rate t.args.samples.now t.requires.0 t.requires.1 _ (span_is t.before.before) _ _ _ _ t.loop-fed.invariant t.loop-fed-test.true t.count_next-n.result t.count_next-n.ensures t.take_turn-turn.result t.take_turn-turn.ensures

pub overflow_mul-span : goal.overflow_mul-span
overflow_mul-span c =
    let known = rate_known c.args.rate c.requires.0 in let e = c.samples_in-span.ensures in search rules

pub loop-fed-init : goal.loop-fed-init
unfolding made
loop-fed-init c =
    let a = c.args in
    let known = rate_known a.rate c.requires.0 in
    let e = c.samples_in-span.ensures in
    let some : 1 ≤ 24 * c.samples_in-span.result = omega arith in
    rw (c.no_figures-figures.ensures, c.new-begun.ensures.leaves) (begins a.rate a.samples.now (24 * c.samples_in-span.result) some)

pub count_next-n-requires : goal.count_next-n-requires
count_next-n-requires c = let i = c.loop-fed.invariant.inside in let t = c.loop-fed-test.true in (omega arith, c.loop-fed.invariant.least)

pub take_turn-turn-requires : goal.take_turn-turn-requires
take_turn-turn-requires c = short_here c.before

pub returns-then-turn-eq0 : goal.returns-then-turn-eq0
returns-then-turn-eq0 c = stops_here c.before.before.before c.if-turn-eq0.true

pub add_figures-figures-requires : goal.add_figures-figures-requires
add_figures-figures-requires c = fit_here c.before.before.before _ c.in-Some.is

pub overflow_add-fed : goal.overflow_add-fed
overflow_add-fed c =
    let u = inside_here c.before.before.before.before.before.before in
    let few = c.requires.1 in
    search rules

pub loop-fed-smaller-in-Some : goal.loop-fed-smaller-in-Some
loop-fed-smaller-in-Some c =
    let u = inside_here c.before.before.before.before.before.before in
    let i = c.loop-fed.invariant.least in
    let some = c.if-turn-eq0.false in
    let known = rate_known c.args.rate c.requires.0 in
    let e = c.samples_in-span.ensures in
    omega arith

pub loop-fed-preserved-in-Some : goal.loop-fed-preserved-in-Some
loop-fed-preserved-in-Some c =
    on_here c.before.before.before.before.before.before _ c.in-Some.is c.add_figures-figures.result c.add_figures-figures.ensures

pub loop-fed-smaller : goal.loop-fed-smaller
loop-fed-smaller c =
    let two = two_here c.before c.in-None.is in
    let few = few_here c.before c.in-None.is in
    omega arith

pub loop-fed-preserved : goal.loop-fed-preserved
loop-fed-preserved c =
    let two = two_here c.before c.in-None.is in
    let few = few_here c.before c.in-None.is in
    let i = c.loop-fed.invariant in
    let span = i.few in
    record { inside = i.inside; least = omega arith; few = omega arith; leaves = i.leaves; counts = i.counts }

pub returns : goal.returns
returns c =
    let a = c.args in
    ends a.rate a.samples.now _ _ _ _ _ c.loop-fed.invariant c.loop-fed-test.false
