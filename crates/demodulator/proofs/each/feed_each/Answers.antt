-- `feed_each` meets its contract: at each turn the stretch from the start is what the samples that are left make of the record by now. Assumes nothing.
use mathlib.Core.Path.{◌≡◌, refl, sym, ap, ◌∙◌}
use mathlib.Core.Bool.{true}
use mathlib.Core.List.{List, ◌∷◌}
use Prim.Native.Nat.{ℕ, ◌+◌, ◌≤◌, ◌<◌}
use lib.Arith.{lt_of_le-ne}
use native.Mathlib.Numerals.{add-one}
use native.Mathlib.Omega.{arith}
use borrow.Author.Rules.{rules, sfits_of, scaled_Fits}
use mir.Syntax.{w16}
use mir.Val.{SFits}
use mir.Facts.{to_z-of_z}
use lib.IntN.{ℤ, pos}
use lib.ListN.{length, get_or, drop, drop_of_length-le, length-drop}
use lib.Seq.{drop-drop}
use Rattle.numbers.proofs.Tail.{tail_lent}
use Rattle.shaping.specs.Rate.{rate_fit, rate_at}
use Rattle.demodulator.specs.declared.SoftDemodulator.{SoftDemodulator}
use Rattle.demodulator.specs.Fit.{halves_agree_lem}
use Rattle.demodulator.specs.Feed.{Stretch, rest_from}
use Rattle.demodulator.specs.Steps.{Steps}
use Rattle.demodulator.specs.Stretch.{joined, Stretches}
use Rattle.demodulator.proofs.HalvesKept.{KeepsHalves, step_kept}
use Rattle.demodulator.proofs.FeedSteps.{drop_at, fed_on, fed_ends, fed_out, one_at_most}
use Rattle.demodulator.proofs.StretchFeeds.{plain_facts}
use Rattle.demodulator.proofs.each.feed_each.Goals as goal
use Rattle.demodulator.proofs.each.feed_each.Goals.{At-loop-fed, After-advance_stretch-stretched, After-step-stepped}

abbrev heard-by : At-loop-fed → List ℤ
heard-by l = l.args.samples.now

-- all samples from the start
abbrev whole : At-loop-fed → ℕ → Stretch SoftDemodulator
whole l rate =
    let a = l.args in
    rest_from (rate_at a.p) 0 (joined a.filter_win.now a.rx_win.now a.places rate a.control) a.samples.now a.room.now

stretched : (a : After-advance_stretch-stretched) → Stretches a.args.p a.is_plain-plain.result a.loop-fed.filter_win a.loop-fed.rx_win a.loop-fed.next a.loop-fed.now (drop a.loop-fed.fed (heard-by a.before.before.before.before.before))
    a.advance_stretch-stretched.result a.advance_stretch-stretched.new.filter_win a.advance_stretch-stretched.new.rx_win
stretched a = rw (tail_lent (heard-by a.before.before.before.before.before) a.loop-fed.fed) at a.advance_stretch-stretched.ensures

abbrev now-fed : After-advance_stretch-stretched → ℕ
now-fed a = a.loop-fed.fed + a.advance_stretch-stretched.result.fed

most_fed : (a : After-advance_stretch-stretched) → now-fed a ≤ length (heard-by a.before.before.before.before.before)
most_fed a =
    let left = (stretched a).most in
    let long = length-drop a.loop-fed.fed (heard-by a.before.before.before.before.before) in
    omega (arith, left, long, a.loop-fed.invariant.0)

same_after : (a : After-advance_stretch-stretched) → a.args.halves ≡ halves_agree_lem a.args.p a.advance_stretch-stretched.new.filter_win
same_after a = a.loop-fed.invariant.4 ∙ (stretched a).halves

-- the record after it
abbrev record-after : After-advance_stretch-stretched → ℕ → SoftDemodulator
record-after a rate = joined a.advance_stretch-stretched.new.filter_win a.advance_stretch-stretched.new.rx_win a.advance_stretch-stretched.result.places rate a.advance_stretch-stretched.result.control

told_after : (a : After-advance_stretch-stretched) → (rate : ℕ) → rate_fit rate ≡ true → whole a.before.before.before.before.before rate ≡ rest_from (rate_at a.args.p) (now-fed a) (record-after a rate) (drop (now-fed a) (heard-by a.before.before.before.before.before)) a.loop-fed.room
told_after a rate known =
    let plain = a.loop-fed.invariant.2 in
    a.loop-fed.invariant.5 rate known
    ∙ (stretched a).feeds rate known a.loop-fed.room (λ e. omega (arith, plain.room_enough e, a.loop-fed.invariant.1)) a.loop-fed.fed
    ∙ ap (λ (q : List ℤ). rest_from (rate_at a.args.p) (now-fed a) (record-after a rate) q a.loop-fed.room) (drop-drop a.advance_stretch-stretched.result.fed a.loop-fed.fed (heard-by a.before.before.before.before.before))

abbrev sample-of : After-step-stepped → ℤ
sample-of s = get_or (heard-by s.before.before.before.before.before.before.before.before.before.before.before.before.before.before) (now-fed s.before.before.before.before.before.before.before.before.before) (pos 0)

fits_of : (s : After-step-stepped) → SFits w16 (sample-of s)
fits_of s = sfits_of s.sample-1.given

-- one is left
below : (s : After-step-stepped) → now-fed s.before.before.before.before.before.before.before.before.before < length (heard-by s.before.before.before.before.before.before.before.before.before.before.before.before.before.before)
below s =
    let most = most_fed s.before.before.before.before.before.before.before.before.before in
    let other = s.if-fed-samples.false in
    lt_of_le-ne most other

stepped : (s : After-step-stepped) → Steps s.args.p s.advance_stretch-stretched.new.filter_win s.advance_stretch-stretched.new.rx_win s.advance_stretch-stretched.result.places s.advance_stretch-stretched.result.control (sample-of s) s.loop-fed.room
    s.step-stepped.result s.step-stepped.new.filter_win s.step-stepped.new.rx_win s.step-stepped.new.room
stepped s rate fit = rw (to_z-of_z {w = w16} {z = sample-of s} (fits_of s)) at (s.step-stepped.ensures rate fit)

-- what the step keeps, of a record at some rate
kept : (s : After-step-stepped)
    → KeepsHalves s.args.p (record-after s.before.before.before.before.before.before.before.before.before 48000)
    (joined s.step-stepped.new.filter_win s.step-stepped.new.rx_win s.step-stepped.result.places 48000 s.step-stepped.result.control)
kept s = step_kept _ _ (stretched s.before.before.before.before.before.before.before.before.before).lent.window_long _ _ _ _ _ (stepped s 48000 refl)

left_of : (s : After-step-stepped) → drop (now-fed s.before.before.before.before.before.before.before.before.before) (heard-by s.before.before.before.before.before.before.before.before.before.before.before.before.before.before) ≡ sample-of s ∷ drop (now-fed s.before.before.before.before.before.before.before.before.before + 1) (heard-by s.before.before.before.before.before.before.before.before.before.before.before.before.before.before)
left_of s = rw (drop_at (now-fed s.before.before.before.before.before.before.before.before.before) (heard-by s.before.before.before.before.before.before.before.before.before.before.before.before.before.before) (pos 0) (below s), add-one (now-fed s.before.before.before.before.before.before.before.before.before))

-- all samples from the start, by the one that is next
told_next : (s : After-step-stepped) → (rate : ℕ) → rate_fit rate ≡ true → whole s.before.before.before.before.before.before.before.before.before.before.before.before.before.before rate ≡ rest_from (rate_at s.args.p) (now-fed s.before.before.before.before.before.before.before.before.before) (record-after s.before.before.before.before.before.before.before.before.before rate) (sample-of s ∷ drop (now-fed s.before.before.before.before.before.before.before.before.before + 1) (heard-by s.before.before.before.before.before.before.before.before.before.before.before.before.before.before)) s.loop-fed.room
told_next s rate known = rw (left_of s) at (told_after s.before.before.before.before.before.before.before.before.before rate known)

pub loop-fed-init : goal.loop-fed-init
loop-fed-init c =
    let plain = plain_facts c.is_plain-plain.result c.args.halves c.args.room.now (length c.args.samples.now) c.is_plain-plain.ensures in
    (search rules, refl, plain, c.requires.0, c.requires.1, λ rate known. refl)

pub advance_stretch-stretched-requires : goal.advance_stretch-stretched-requires
advance_stretch-stretched-requires c = let i = c.loop-fed.invariant in (i.3, λ e. sym i.4 ∙ i.2.halves_agree_law e)

pub overflow_add-fed : goal.overflow_add-fed
overflow_add-fed c =
    let long = c.well_formed.1.1.1.1.1.1.0.0 in
    omega (arith, long, most_fed c.before.before.before)

pub shape_of-room-then-fed-samples : goal.shape_of-room-then-fed-samples
shape_of-room-then-fed-samples c = let kept = c.loop-fed.invariant.1 in search rules

pub returns-then-fed-samples : goal.returns-then-fed-samples
returns-then-fed-samples c rate known =
    let xs = heard-by c.before.before.before.before.before.before.before.before.before in
    let out : length xs ≤ now-fed c.before.before.before.before = omega (arith, c.if-fed-samples.true) in
    told_after c.before.before.before.before rate known ∙ rw (drop_of_length-le xs out) (fed_out _ _ _ _)

pub offset_bounds-samples-fed-in-loop-fed : goal.offset_bounds-samples-fed-in-loop-fed
offset_bounds-samples-fed-in-loop-fed c =
    scaled_Fits (now-fed c.before.before.before.before) (length (heard-by c.before.before.before.before.before.before.before.before.before)) 2 (lt_of_le-ne (most_fed c.before.before.before.before) c.if-fed-samples.false) c.well_formed.1.1.1.1.1.1.0.1

pub bounds-samples-fed : goal.bounds-samples-fed
bounds-samples-fed c = lt_of_le-ne (most_fed c.before.before.before.before) c.if-fed-samples.false

pub step-stepped-requires : goal.step-stepped-requires
step-stepped-requires c = same_after c.before.before.before.before.before.before.before.before

pub overflow_add-count : goal.overflow_add-count
overflow_add-count c =
    let most : c.count_in-last.result ≤ 1 = rw c.count_in-last.ensures (one_at_most c.step-stepped.result.answer) in
    let long = c.well_formed.1.1.1.1.1.1.0.0 in
    omega (arith, long, below c.before.before.before.before.before.before.before.before)

pub shape_of-room-then-not-is_quiet : goal.shape_of-room-then-not-is_quiet
shape_of-room-then-not-is_quiet c =
    let kept = c.loop-fed.invariant.1 in
    search rules

pub returns-then-not-is_quiet : goal.returns-then-not-is_quiet
returns-then-not-is_quiet c rate known =
    let quiet-not = sym c.is_quiet.ensures ∙ c.if-not-is_quiet.true in
    rw (c.tell.ensures, c.count_in-last.ensures) (told_next c.before.before.before.before.before.before.before.before.before rate known ∙ fed_ends _ _ _ _ _ _ _ _ _ (stepped c.before.before.before.before.before.before.before.before.before rate known) quiet-not)

pub overflow_add-fed-in-loop-fed : goal.overflow_add-fed-in-loop-fed
overflow_add-fed-in-loop-fed c =
    let long = c.well_formed.1.1.1.1.1.1.0.0 in
    omega (arith, long, below c.before.before.before.before.before.before.before)

pub loop-fed-smaller : goal.loop-fed-smaller
loop-fed-smaller c = omega (arith, below c.before.before.before.before.before.before.before)

pub loop-fed-preserved : goal.loop-fed-preserved
loop-fed-preserved c =
    let l = c.loop-fed in
    let lent = (stretched c.before.before.before.before.before.before.before.before.before.before.before.before.before.before.before.before).lent in
    let quiet = sym c.is_quiet.ensures ∙ c.if-not-is_quiet.false in (
      omega (arith, below c.before.before.before.before.before.before.before),
      search rules,
      l.invariant.2,
      record { known = lent.known; window_long = (kept c.before.before.before.before.before.before.before).places; ring_long = omega (arith, (kept c.before.before.before.before.before.before.before).ring, lent.ring_long) },
      same_after c.before.before.before.before.before.before.before.before.before.before.before.before.before.before.before.before ∙ (kept c.before.before.before.before.before.before.before).same,
      λ rate known. told_next c.before.before.before.before.before.before.before rate known ∙ fed_on _ _ _ _ _ _ _ _ _ (stepped c.before.before.before.before.before.before.before rate known) quiet,
    )

pub returns : goal.returns
returns c rate known =
    let xs = heard-by c.before in
    let out : length xs ≤ c.loop-fed.fed = search rules in
    c.loop-fed.invariant.5 rate known ∙ rw (drop_of_length-le xs out) (fed_out _ _ _ _)
