-- Small instances of the laws of the wish, of the padding and of refused calls: what they ask can be met, and what they then say. Assumes nothing.
use mathlib.Core.Path.{◌≡◌, refl, sym, subst, ◌∙◌}
use mathlib.Core.Bool.{true, false}
use mathlib.Core.List.{List, [], ◌∷◌, ◌++◌}
use lib.Dec.{T, lit<}
use lib.IntN.{ℤ, pos}
use lib.ListN.{replicate}
use Rattle.machine.specs.Runs.{run, answers, Each}
use Rattle.shaping.specs.Rate.{at48}
use Rattle.shaping.proofs.RateFacts.{facts48}
use Rattle.protocol.specs.Refusals.{bare}
use Rattle.given_symbols.specs.declared.Traffic.TheVariants.{Bert}
use Rattle.modulator.specs.declared.ModulatorFrame.TheVariants.{Nothing as NoFrame, Preamble, EndOfTransmission}
use Rattle.modulator.specs.Paper.{refusal}
use Rattle.modulator.specs.Outcome.{frame_outcome, update_outcome, action_by}
use Rattle.modulator.proofs.Cases.{read_unfit}
use Rattle.modulator_laws.proofs.Instances.{astray, astray_unfit}
use Rattle.modulator_run.specs.Rules.{Call, provide, read, update, ask, start, framed, settled, called, rules, sent_all}
use Rattle.modulator_run.specs.Run.{left_at, left, sender, record_after, Delay, Given}
use Rattle.modulator_run.specs.Kinds.{stores, raises, drops, delays, none}
use Rattle.modulator_run.specs.Wish.{Wished}
use Rattle.modulator_run.specs.Padding.{latency_of, last_latency, places_of, places_read_lem, PaddingLeft, unset, set}
use Rattle.modulator_run.proofs.Wish.{wish, wish_exactly, wish_by_record}
use Rattle.modulator_run.proofs.Padding.{padding, padding_exactly, padding_by_record}
use Rattle.modulator_run.proofs.Refused.{refused_nothing, refused_skipped, refused_record, skipped_record}

-- ---- room for 2,000 samples, then for one less, then a frame: the wish stays until none
abbrev wishing : List Call
wishing = update 100 2100 0 ∷ update 1 2000 0 ∷ provide EndOfTransmission [] ∷ ask ∷ []

wishing_given : Each Given wishing
unfolding Each Given Delay
wishing_given = (tt, (tt, (tt, (tt, tt))))

wished : Wished 10 wishing
unfolding raises stores drops none
wished = record { before = []; call = update 100 2100 0; since = update 1 2000 0 ∷ provide EndOfTransmission [] ∷ ask ∷ []; parts = refl; started = tt; unstopped = tt }

wish_there : wish (sent_all at48 wishing) ≡ true
wish_there = (wish_exactly at48 wishing).1 wished

wish_of_record : (record_after at48 wishing).pending.try_get_frame ≡ true
wish_of_record = (wish_by_record at48 facts48 wishing wishing_given).1 wished

wish_dropped : wish (sent_all at48 (wishing ++ provide NoFrame [] ∷ update 1 2000 0 ∷ [])) ≡ false
unfolding run called frame_outcome settled framed update_outcome action_by
wish_dropped = refl

unwished : Wished 10 (wishing ++ provide NoFrame [] ∷ update 1 2000 0 ∷ []) → ⊥
unwished w = subst T (sym ((wish_exactly at48 (wishing ++ provide NoFrame [] ∷ update 1 2000 0 ∷ [])).1 w) ∙ wish_dropped) tt

-- ---- a latency of 400 when the preamble comes, and two reads since: 25 * 480 - 400 - (600 + 1,000)
abbrev read_since : List Call
read_since = read (replicate 600 (pos 7)) ∷ update 9 5 0 ∷ update 0 2000 9 ∷ provide EndOfTransmission [] ∷ read (replicate 1000 (pos 7)) ∷ []

abbrev delaying : List Call
delaying = update 0 2000 400 ∷ provide (Preamble Bert (record { 0 = 25 })) [] ∷ read_since

delaying_given : Each Given delaying
unfolding Each Given Delay
delaying_given = (tt, (lit< tt, (tt, (tt, (tt, (tt, (tt, tt)))))))

left_of_it : PaddingLeft 10 delaying 10000
unfolding stores delays none latency_of last_latency places_of places_read_lem
left_of_it = set (update 0 2000 400 ∷ []) Bert (record { 0 = 25 }) [] read_since refl tt

padding_there : padding (sent_all at48 delaying) ≡ 10000
padding_there = (padding_exactly at48 delaying 10000).1 left_of_it

padding_of_record : (record_after at48 delaying).progress.tx_delay_padding.0 ≡ 10000
padding_of_record = (padding_by_record at48 facts48 delaying delaying_given 10000).1 left_of_it

-- without a preamble
none_set : padding (sent_all at48 read_since) ≡ 0
unfolding delays none
none_set = (padding_exactly at48 read_since 0).1 (unset tt)

-- ---- capacity below fill, by the rules; and a read of an unfit record
below_unsent : (called at48 start (update 9 5 0)).sent ≡ start
unfolding called update_outcome settled
below_unsent = (refused_nothing at48 start (update 9 5 0) (bare 9) refl).0

below_skipped : answers (rules at48) start (update 9 5 0 ∷ wishing) ≡ (called at48 start (update 9 5 0)).said ∷ answers (rules at48) start wishing
unfolding called update_outcome settled
below_skipped = (refused_skipped at48 start (update 9 5 0) (bare 9) wishing refl).1

abbrev room : List ℤ
room = pos 7 ∷ []

astray_refuses : (left astray (read room)).answer ≡ refusal (bare 1)
unfolding left_at
astray_refuses = rw (read_unfit at48 astray room astray_unfit)

astray_kept : (left astray (read room)).room ≡ room
astray_kept = (refused_record astray (read room) (bare 1) astray_refuses).1

astray_skipped : run sender astray (read room ∷ wishing) ≡ run sender astray wishing
astray_skipped = (skipped_record astray (read room) (bare 1) wishing astray_refuses).0
