-- Document 02 l): the figures of one recording, by its full list of offers. Assumes nothing.
use Rattle.std.specs.Prelude.{Bool, not, cond, ◌&&◌, ◌||◌, List, [], ◌∷◌, ℕ, ◌+◌, eqb, leb, ℤ, Float, Option, Some}
use Rattle.numbers.specs.Firsts.{firsts}
use Rattle.machine.specs.Runs.{Machine}
use Rattle.shaping.specs.Rate.{Rate}
use Rattle.search.specs.declared.Reply.{Reply}
use Rattle.search.specs.declared.Reply.TheVariants.{Accepted, Rejected}
use Rattle.search.specs.Search.{rank}
use Rattle.demodulator.specs.declared.SoftDemodulator.{SoftDemodulator}
use Rattle.demodulator.specs.Calls.{is_refusal, timer_held}
use Rattle.demodulator.specs.Singles.{Single, Said}
use Rattle.demodulator_run.specs.Rules.{History, start}
use Rattle.listening.specs.Listener.{Listed, Rule, listener, offers, own_record}
use Rattle.listening.specs.Verdict.{verdict}
use Rattle.listening.specs.Rules.{rules_at}
use Rattle.figures.specs.declared.Figures.{Figures}
use Rattle.figures.specs.Totals.{total_at, lesser, greater, no_figures_lem}

-- ---- the places at which an offer is counted: "offers by kind, accepted and rejected by kind, offers at each age from 1 to 11 as j) reports it"
abbrev pub reply_place : Reply → ℕ
reply_place Accepted = 4
reply_place Rejected = 8

abbrev pub is_aged : Listed → ℕ → Bool
is_aged o i = leb 1 o.due.age && leb o.due.age 11 && eqb i (11 + o.due.age)

unfoldable pub is_counted : Listed → ℕ → Bool
is_counted o i = eqb i (rank o.due.kind) || eqb i (reply_place o.reply + rank o.due.kind) || is_aged o i

abbrev pub bit : Bool → ℕ
bit t = cond t 1 0

-- how many of a list are counted at a place
unfoldable pub number_at_lem : ℕ → List Listed → ℕ
number_at_lem i [] = 0
number_at_lem i (o ∷ later) = bit (is_counted o i) + number_at_lem i later

-- ---- "the offers' smallest and largest gain", after those already seen
unfoldable pub least_from : Option Float → List Listed → Option Float
least_from g [] = g
least_from g (o ∷ later) = least_from (lesser g (Some o.due.gain)) later

unfoldable pub greatest_from : Option Float → List Listed → Option Float
greatest_from g [] = g
greatest_from g (o ∷ later) = greatest_from (greater g (Some o.due.gain)) later

-- ---- figures, and after them a list of offers and so many samples with the carrier held
abbrev pub carrier_place : ℕ
carrier_place = 23

abbrev pub after_at : Figures → List Listed → ℕ → ℕ → ℕ
after_at f list held i = total_at f.totals i + (number_at_lem i list + cond (eqb i carrier_place) held 0)

unfoldable pub after : Figures → List Listed → ℕ → Figures
after f list held = record {
  totals = firsts (after_at f list held) 24;
  smallest = least_from f.smallest list;
  largest = greatest_from f.largest list;
}

-- ---- "the samples after which (and after any reply) the carrier is held": of any receiver, with a rule of reply, each sample once.
-- One that is refused is none of them.
module _ {S : Type 0} (m : Machine S Single Said) (held : S → Bool) (rule : Rule) where
  unfoldable pub held_from : S → List ℤ → ℕ
  held_from s [] = 0
  held_from s (x ∷ xs) =
      bit (not (is_refusal ((listener m rule).says s x).answer) && held ((listener m rule).next s x)) + held_from ((listener m rule).next s x) xs

abbrev pub history_held : History → Bool
history_held h = timer_held h.control.dcd

abbrev pub record_held : SoftDemodulator → Bool
record_held m = timer_held m.control.dcd

-- ---- "each with a fresh receiver .. Replies follow the receive program's rule."
unfoldable pub figures_of : Rate → List ℤ → Figures
figures_of R xs = after no_figures_lem (offers (rules_at R) verdict start xs) (held_from (rules_at R) history_held verdict start xs)

-- the same of a record
unfoldable pub record_figures : Figures → SoftDemodulator → List ℤ → Figures
record_figures f m xs = after f (offers own_record verdict m xs) (held_from own_record record_held verdict m xs)
