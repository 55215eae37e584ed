-- Small instances: what the laws of a run ask can be met, and what they then say. Assumes nothing.
use Rattle.std.specs.Prelude.{None}
use mathlib.Core.Path.{◌≡◌, refl, ap, ◌∙◌}
use mathlib.Core.Bool.{false}
use mathlib.Core.List.Memᴰ
use mathlib.Core.List.{List, [], ◌∷◌}
use Prim.Native.Nat.{ℕ, ◌+◌, ◌*◌, ◌%◌}
use native.Mathlib.Nat.{mod-lt}
use native.Mathlib.Omega.{arith}
use lib.Dec.{T, lit<, lit≤}
use lib.IntN.{pos, negsuc}
use lib.ListN.{get_or, replicate, get_or-replicate}
use lib.Ieee.{Float}
use Rattle.numbers.specs.Sum.{nought}
use Rattle.numbers.specs.Below.{all_below}
use Rattle.numbers.proofs.Ring.{Recent, push, by_age}
use Rattle.machine.specs.Runs.{run, answers, Each}
use Rattle.shaping.specs.Rate.{Rate, at48, at24}
use Rattle.shaping.proofs.RateFacts.{facts48}
use Rattle.shaping.specs.Taps.{taps}
use Rattle.protocol.specs.declared.Kind.TheVariants.{Lsf}
use Rattle.protocol.specs.Refusals.{bare}
use Rattle.decode.specs.Correlator.{in_range}
use Rattle.search.specs.declared.Control.{Control}
use Rattle.search.specs.declared.Reply.TheVariants.{Accepted}
use Rattle.search.specs.Fit.{candidate_fit_lem, control_fit_lem}
use Rattle.demodulator.specs.declared.SoftDemodulator.{SoftDemodulator}
use Rattle.demodulator.specs.Record.{assembled}
use Rattle.demodulator.specs.Fit.{halves_agree_lem, record_fit_lem}
use Rattle.demodulator.specs.Calls.{refusal, nothing, carrier}
use Rattle.demodulator.specs.Feed.{goes_on_lem, fed_from, fed}
use Rattle.demodulator_laws.proofs.ExampleBurst.{held_at}
use Rattle.demodulator_run.specs.Filter.{filtered}
use Rattle.demodulator_run.specs.Rules.{Said, sample, reply, query, After, start, given, answered, single}
use Rattle.demodulator_run.specs.Run.{fresh_at, Callable}
use Rattle.demodulator_run.specs.Stretch.{Sixteen}
use Rattle.demodulator_run.specs.Calls.{Call, one, stretch, Told, told_one, history_next, told_to, rules, receiver, Given}
use Rattle.demodulator_run.specs.Represents.{Represents}
use Rattle.demodulator_run.specs.Demands.{AgeAtMost}
use Rattle.demodulator_run.specs.OldLayout.{fresh_before, receiver_before, Alike}
use Rattle.demodulator_run.proofs.Causal.{filtered_old}
use Rattle.demodulator_run.proofs.InRange.{small_none, small_more, in_range_lem}
use Rattle.demodulator_run.proofs.Sixteen.{taps_size, taps_bounded}
use Rattle.demodulator_run.proofs.RecordFit.{FitForAll}
use Rattle.demodulator_run.proofs.ReceiverRun.{fit_throughout, goes_on}
use Rattle.demodulator_run.proofs.LayoutsAlike.{even_alike}
use Rattle.demodulator_run.proofs.AsBefore.{as_before, as_before_fresh}
use Rattle.demodulator_run.proofs.Refused.{refused_nothing}
use Rattle.demodulator_run.proofs.AtEachRate.{receiver_run_48, receiver_run_24, never_unfit_48, never_unfit_24, demand_three_48, demand_three_24}
use Rattle.demodulator_run.proofs.Worked.{room, unheard, first, first24}

-- ---- a ring of three places that is to hold 7, 14, 21, ..
abbrev sevens : ℕ → ℕ
sevens k = 7 * k

empty : Recent 3 0 sevens 0 (replicate 3 0) 0
empty = record {
  long = lit≤ tt;
  inside = lit< tt;
  holds = λ i l. get_or-replicate 3 ((0 + i) % 3) 0 0 (mod-lt (0 + i) (lit< tt)) ∙ omega arith;
}

one_stored : Recent 3 0 sevens 1 (7 ∷ 0 ∷ 0 ∷ []) 1
one_stored = push 3 0 sevens sevens 0 (replicate 3 0) 0 7 empty (λ k l. refl) refl

newest_is_7 : get_or (7 ∷ 0 ∷ 0 ∷ []) ((1 + 2) % 3) 0 ≡ sevens 1
newest_is_7 = by_age 3 0 sevens 1 (7 ∷ 0 ∷ 0 ∷ []) 1 one_stored 0 (lit< tt)

-- ---- filtered values
old_meets : filtered taps 10 (pos 1 ∷ pos 2 ∷ []) 1 ≡ filtered taps 10 (pos 1 ∷ []) 1
old_meets = filtered_old taps 10 (taps_size at48 facts48) (pos 1 ∷ []) (pos 2) 1 (lit≤ tt)

in_range_meets : T (in_range (filtered taps 10 (negsuc 32767 ∷ []) 1))
in_range_meets = in_range_lem taps 10 (taps_bounded at48 facts48) (negsuc 32767 ∷ []) (small_more [] (negsuc 32767) small_none (lit≤ tt)) 1

-- ---- calls of each kind: a query, a reply that nobody asked for, the least sample and a stretch without their room, a sample that is admitted, and a stretch of none
abbrev cramped : List Float
cramped = replicate 191 nought

abbrev mixed : List Call
mixed =
    one query
    ∷ one (reply Accepted)
    ∷ one (sample (negsuc 32767) cramped)
    ∷ stretch (pos 1 ∷ negsuc 0 ∷ []) cramped
    ∷ one (sample (pos 32767) room)
    ∷ stretch [] cramped
    ∷ []

mixed_given : Each Given mixed
unfolding Each Given Callable Sixteen
mixed_given = (tt, (tt, (record { sfits = lit≤ tt }, ((record { sfits = lit≤ tt }, (record { sfits = lit≤ tt }, tt)), (record { sfits = lit≤ tt }, (tt, tt))))))

mixed_represents : Represents at48 (run receiver (fresh_at at48) mixed) (run (rules at48) start mixed)
mixed_represents = (receiver_run_48 mixed mixed_given).0

mixed_represents_24 : Represents at24 (run receiver (fresh_at at24) mixed) (run (rules at24) start mixed)
mixed_represents_24 = (receiver_run_24 mixed mixed_given).0

-- the record's answers, from the rules' alone; the fifth is that to the sample that is admitted
abbrev answered_by : Said → List Told
answered_by fifth =
    record { answer = carrier false; fed = 0; room = [] }
    ∷ record { answer = refusal (bare 3); fed = 0; room = [] }
    ∷ record { answer = refusal (bare 4); fed = 0; room = cramped }
    ∷ record { answer = refusal (bare 4); fed = 0; room = cramped }
    ∷ told_one fifth
    ∷ record { answer = nothing; fed = 0; room = cramped }
    ∷ []

mixed_rules : (R : Rate) → single R.taps R.p start (sample (pos 32767) room) ≡ unheard → answers (rules R) start mixed ≡ answered_by unheard.said
unfolding answers told_to history_next fed fed_from goes_on_lem single given answered
mixed_rules R e = ap (λ (a : After). answered_by a.said) e

mixed_answers : answers receiver (fresh_at at48) mixed ≡ answered_by unheard.said
mixed_answers = (receiver_run_48 mixed mixed_given).1 ∙ mixed_rules at48 first

mixed_answers_24 : answers receiver (fresh_at at24) mixed ≡ answered_by unheard.said
mixed_answers_24 = (receiver_run_24 mixed mixed_given).1 ∙ mixed_rules at24 first24

-- the first, of a query, is neither 1 nor 15
abbrev first_told : Told
first_told = record { answer = carrier false; fed = 0; room = [] }

mixed_never_unfit : (first_told.answer ≡ refusal (bare 1) → ⊥) × (first_told.answer ≡ refusal (bare 15) → ⊥)
mixed_never_unfit = never_unfit_48 mixed mixed_given first_told (rw mixed_answers (Memᴰ.head refl))

mixed_never_unfit_24 : (first_told.answer ≡ refusal (bare 1) → ⊥) × (first_told.answer ≡ refusal (bare 15) → ⊥)
mixed_never_unfit_24 = never_unfit_24 mixed mixed_given first_told (rw mixed_answers_24 (Memᴰ.head refl))

-- no age is above 11, or 6
mixed_age : AgeAtMost 11 (run receiver (fresh_at at48) mixed).control.candidate
mixed_age = (demand_three_48 mixed mixed_given).ages

mixed_age_24 : AgeAtMost 6 (run receiver (fresh_at at24) mixed).control.candidate
mixed_age_24 = (demand_three_24 mixed mixed_given).ages

mixed_fit : FitForAll 10 (run receiver (fresh_at at48) mixed)
mixed_fit = fit_throughout at48 facts48 mixed mixed_given

-- and the same calls once more are answered as the rules do
mixed_goes_on : answers receiver (run receiver (fresh_at at48) mixed) mixed ≡ answers (rules at48) (run (rules at48) start mixed) mixed
mixed_goes_on = goes_on at48 facts48 mixed mixed mixed_given mixed_given

-- a refused sample is not heard, nor a refused stretch
mixed_unheard : history_next taps 10 start (one (sample (pos 32767) [])) ≡ start
unfolding told_to single given
mixed_unheard = (refused_nothing taps 10 start (one (sample (pos 32767) [])) (bare 4) refl).0

stretch_unheard : history_next taps 10 start (stretch (pos 32767 ∷ []) []) ≡ start
unfolding told_to fed fed_from goes_on_lem single given
stretch_unheard = (refused_nothing taps 10 start (stretch (pos 32767 ∷ []) []) (bare 4) refl).0

-- ---- the layout before: records that no run reaches, at other cursors, and unfit by an age of 0
abbrev ageless : Control
ageless = record { candidate = held_at Lsf 0; wait = None; dcd = None; owed = false; sample = 7 }

abbrev straight : SoftDemodulator
straight = assembled 48000 (replicate 162 (pos 7)) 80 (replicate 1920 nought) 1919 ageless

abbrev round : SoftDemodulator
round = assembled 48000 (replicate 81 (pos 7)) 3 (replicate 1920 nought) 5 ageless

straight_unfit : record_fit_lem 10 straight ≡ false
unfolding record_fit_lem halves_agree_lem control_fit_lem candidate_fit_lem all_below
straight_unfit = refl

made_up_alike : Alike 10 straight round
made_up_alike = even_alike at48 facts48 48000 (pos 7) nought 80 3 1919 5 ageless (lit< tt) (lit< tt) (lit< tt) (lit< tt)

mixed_as_before : answers receiver straight mixed ≡ answers (receiver_before at48) round mixed
mixed_as_before = (as_before at48 facts48 straight round refl made_up_alike mixed).0

fresh_as_before : answers receiver (fresh_at at48) mixed ≡ answers (receiver_before at48) (fresh_before 48000) mixed
fresh_as_before = as_before_fresh at48 facts48 mixed
