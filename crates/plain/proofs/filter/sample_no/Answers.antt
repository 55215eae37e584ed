-- `sample_no` meets its contract. Assumes nothing.
use mathlib.Core.Path.{ap, ◌∙◌}
use borrow.Author.Rules.{sfits_of}
use mir.Syntax.{w16}
use mir.Facts.{to_z-of_z}
use lib.IntN.{pos}
use lib.ListN.{get_or}
use lib.Ieee.{binary32, of_int}
use Rattle.demodulator_run.specs.Filter.{sample_no_lem}
use Rattle.plain.proofs.SampleLaws.{zero_sample, sample_at, sample_past}
use Rattle.plain.proofs.filter.sample_no.Goals as goal

pub returns-then-number-eq0 : goal.returns-then-number-eq0
unfolding sample_no_lem
returns-then-number-eq0 c = rw c.if-number-eq0.true zero_sample

pub returns-then-recording-at : goal.returns-then-recording-at
returns-then-recording-at c = zero_sample ∙ ap (of_int binary32) (sample_past c.args.recording.now c.args.number c.if-number-eq0.false c.if-recording-at.true)

pub returns : goal.returns
returns c =
    let a = c.args in
    ap (of_int binary32) (to_z-of_z {w = w16} {z = get_or a.recording.now _ (pos 0)} (sfits_of c.result-1.given) ∙ sample_at a.recording.now a.number c.if-number-eq0.false)
