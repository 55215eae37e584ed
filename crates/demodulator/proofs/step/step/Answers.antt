-- `step` meets its contract. Assumes nothing.
use mathlib.Core.Path.{◌≡◌, refl, sym, ◌∙◌}
use mathlib.Core.Bool.{true, false}
use Prim.Native.Nat.{ℕ}
use native.Mathlib.Omega.{arith}
use mir.Facts.{to_z-of_z}
use Rattle.shaping.specs.Rate.{rate_fit}
use Rattle.demodulator.specs.Record.{assembled}
use Rattle.demodulator.specs.Fit.{fit_for_sample_lem}
use Rattle.demodulator.proofs.Fitness.{record_facts, sample_record}
use Rattle.demodulator.proofs.CallCases.{refuses, sample_unfit, sample_owed, sample_cramped, sample_last}
use Rattle.demodulator.proofs.step.step.Goals as goal
use Rattle.demodulator.proofs.step.step.Lts as Lts
use Rattle.demodulator.proofs.step.step.Reads as Reads
use Rattle.demodulator.proofs.step.step.Tie as Tie

abbrev Else-not-fit_for_sample : Type 0
Else-not-fit_for_sample = Lts.Else1 Tie.the-claims Reads.Pre Reads.Post

abbrev Then-not-fit_for_sample : Type 0
Then-not-fit_for_sample = Lts.Then1 Tie.the-claims Reads.Pre Reads.Post

fit : (c : Else-not-fit_for_sample) → let a = c.args in (rate : ℕ) → rate_fit rate ≡ true → fit_for_sample_lem a.p (assembled rate a.filter_win.now a.places.filter_cursor a.rx_win.now a.places.rx_cursor a.control) ≡ true
fit c rate known = sym (c.fit_for_sample.ensures rate c.args.filter_win.now known c.requires) ∙ c.if-not-fit_for_sample.false

unfit : (c : Then-not-fit_for_sample) → let a = c.args in (rate : ℕ) → rate_fit rate ≡ true → fit_for_sample_lem a.p (assembled rate a.filter_win.now a.places.filter_cursor a.rx_win.now a.places.rx_cursor a.control) ≡ false
unfit c rate known = sym (c.fit_for_sample.ensures rate c.args.filter_win.now known c.requires) ∙ c.if-not-fit_for_sample.true

pub returns-then-not-fit_for_sample : goal.returns-then-not-fit_for_sample
returns-then-not-fit_for_sample c = refuses _ _ _ _ _ _ _ _ _ c.refused.ensures (λ rate known. sample_unfit _ _ _ _ known (unfit c.before.before rate known))

pub returns-then-control : goal.returns-then-control
returns-then-control c =
    refuses _ _ _ _ _ _ _ _ _ c.refused-then-control.ensures (λ rate known. sample_owed _ _ _ _ (fit c.before.before.before rate known) c.if-control.true)

pub returns-then-room-lt192 : goal.returns-then-room-lt192
returns-then-room-lt192 c =
    refuses _ _ _ _ _ _ _ _ _ c.refused-then-room-lt192.ensures (λ rate known. sample_cramped _ _ _ _ (fit c.before.before.before.before rate known) c.if-control.false c.if-room-lt192.true)

pub returns-then-control-eq-LAST_COUNT : goal.returns-then-control-eq-LAST_COUNT
returns-then-control-eq-LAST_COUNT c =
    refuses _ _ _ _ _ _ _ _ _ c.refused-then-control-eq-LAST_COUNT.ensures (λ rate known. sample_last _ _ _ _ (fit c.before.before.before.before.before.before rate known) c.if-control.false c.if-room-lt192.false c.if-control-eq-LAST_COUNT.true)

pub advance-requires : goal.advance-requires
advance-requires c =
    let f = fit c.before.before.before.before.before.before.before in
    let most = (record_facts _ _ (sample_record _ _ (f 48000 refl))).control.count in
    record { known = omega arith; fit = f; no_reply = c.if-control.false; room_enough = c.if-room-lt192.false; count = omega arith }

pub returns : goal.returns
returns c =
    λ rate known. rw (to_z-of_z c.ranges.sample) at (c.advance.ensures rate known)
