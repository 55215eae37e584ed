-- `store_all` meets its contract: after k turns the first k samples are stored. Assumes nothing.
use mathlib.Core.Path.{refl, sym, ap, ◌∙◌}
use Prim.Native.Nat.{◌<◌}
use native.Mathlib.Numerals.{add-one}
use native.Mathlib.Omega.{arith}
use mir.Syntax.{w16}
use mir.Facts.{to_z-of_z}
use borrow.Author.Rules.{sfits_of}
use lib.IntN.{pos}
use lib.ListN.{take, get_or}
use Rattle.std.proofs.lemmas.List.{length-take-le, get_or-take}
use Rattle.shaping.specs.Rate.{rate_at}
use Rattle.demodulator.specs.Record.{stored, filtered_after}
use Rattle.demodulator.specs.Stretch.{stored_to, joined}
use Rattle.demodulator.proofs.stretch.store_all.Goals as goal

pub loop-k-init : goal.loop-k-init
unfolding stored_to
loop-k-init c = record { inside = c.requires.inside; leaves = λ rate control. refl }

pub loop-k-preserved : goal.loop-k-preserved
unfolding stored_to
loop-k-preserved c =
    let a = c.args in
    let R = rate_at a.p in
    let k = c.loop-k.k in
    let s = c.loop-k.invariant in
    let long = length-take-le a.n a.samples.now c.requires.samples in
    let below : k < a.n = omega arith in
    let item = get_or-take a.n a.samples.now k (pos 0) below in
    let fits = sfits_of c.store_known-arg-in-loop-k-2-1.given in
    let one = rw (c.samples-before.ensures, to_z-of_z {w = w16} {z = get_or (take a.n a.samples.now) k (pos 0)} fits, item) at c.store_known-next.ensures in
    let x = get_or a.samples.now k (pos 0) in
    record {
      inside = one.inside;
      leaves = λ rate control.
          one.leaves rate control (c.requires.values rate control k below ∙ sym (ap (λ m. filtered_after R m x) (s.leaves rate control)))
          ∙ ap (λ m. stored R m x) (s.leaves rate control)
          ∙ ap (stored_to R (joined a.filter_win.now a.rx_win.now a.places rate control) a.samples.now) (sym (add-one k));
    }
