-- `open` meets its contract: the refusals in their order, then the part after the last pause. Assumes nothing.
use mathlib.Core.Path.{sym, ◌∙◌}
use native.Mathlib.Omega.{arith}
use Rattle.shaping.proofs.RateFacts.{rate_known}
use Rattle.replay.proofs.Refusals.{opens_15, opens_4, opens_5, opens_14_at_0, opens_14_beyond}
use Rattle.replay.proofs.PartAnswer.{opens, heard, opens_none, opens_found, numbers_fit}
use Rattle.replay.proofs.open.Goals as goal

pub returns-then-not-is_rate : goal.returns-then-not-is_rate
returns-then-not-is_rate c = opens_15 _ _ _ _ (sym c.is_rate.ensures ∙ c.if-not-is_rate.true)

pub returns-then-room-lt192 : goal.returns-then-room-lt192
returns-then-room-lt192 c = opens_4 _ _ _ _ (sym c.is_rate.ensures ∙ c.if-not-is_rate.false) c.if-room-lt192.true

pub returns-then-recording-gt9223372036854775808 : goal.returns-then-recording-gt9223372036854775808
returns-then-recording-gt9223372036854775808 c = opens_5 _ _ _ _ (sym c.is_rate.ensures ∙ c.if-not-is_rate.false) c.if-room-lt192.false c.if-recording-gt9223372036854775808.true

pub returns-then-sample-eq0 : goal.returns-then-sample-eq0
returns-then-sample-eq0 c = opens_14_at_0 _ _ _ _ (sym c.is_rate.ensures ∙ c.if-not-is_rate.false) c.if-room-lt192.false c.if-recording-gt9223372036854775808.false c.if-sample-eq0.true

pub returns-then-recording-sample : goal.returns-then-recording-sample
returns-then-recording-sample c =
    opens_14_beyond _ _ _ _ (sym c.is_rate.ensures ∙ c.if-not-is_rate.false) c.if-room-lt192.false c.if-recording-gt9223372036854775808.false c.if-recording-sample.true

pub find_pause-start-requires : goal.find_pause-start-requires
find_pause-start-requires c =
    let two = rate_known c.args.rate (sym c.is_rate.ensures ∙ c.if-not-is_rate.false) in
    let r = c.samples_in-span.ensures in
    let m = c.if-recording-sample.false in
    (omega arith, omega arith)

-- ---- the part is heard
pub number_in_whole-requires : goal.number_in_whole-requires
number_in_whole-requires c =
    let O = opens _ (sym c.is_rate.ensures ∙ c.if-not-is_rate.false) c.if-room-lt192.false c.if-recording-gt9223372036854775808.false c.all_sixteen.ensures c.if-sample-eq0.false c.if-recording-sample.false
    c.samples_in-span.ensures c.find_pause-start.ensures in
    let f = heard _ c.args.recording.now _ _ _ c.find_offer-first.ensures in
    numbers_fit _ _ _ _ _ O c.find_offer-first.result f c.in-Some.offer c.in-Some.is

pub returns-in_default : goal.returns-in_default
returns-in_default c =
    let O = opens _ (sym c.is_rate.ensures ∙ c.if-not-is_rate.false) c.if-room-lt192.false c.if-recording-gt9223372036854775808.false c.all_sixteen.ensures c.if-sample-eq0.false c.if-recording-sample.false
    c.samples_in-span.ensures c.find_pause-start.ensures in
    let f = heard _ c.args.recording.now _ _ _ c.find_offer-first.ensures in
    opens_none _ _ _ _ _ O c.find_offer-first.result f c.in_default.is

pub returns : goal.returns
returns c =
    let O = opens _ (sym c.is_rate.ensures ∙ c.if-not-is_rate.false) c.if-room-lt192.false c.if-recording-gt9223372036854775808.false c.all_sixteen.ensures c.if-sample-eq0.false c.if-recording-sample.false
    c.samples_in-span.ensures c.find_pause-start.ensures in
    let f = heard _ c.args.recording.now _ _ _ c.find_offer-first.ensures in
    opens_found _ _ _ _ _ O c.find_offer-first.result f c.in-Some.offer c.in-Some.is _ _ c.number_in_whole.ensures c.write_window.ensures
