-- What an offer reports, document 02 j), by what a caller sees: the record before and after each single call, by the contracts' own definitions, and the answers. Assumes nothing.
use Rattle.std.specs.Prelude.{◌≡◌, ◌⊎◌, true, false, List, ℕ, ◌+◌, ◌-◌, ◌*◌, ◌≤◌, ◌<◌, T, ℤ, Float, Some, None}
use Rattle.std.specs.Float.Ieee.{lt}
use Rattle.numbers.specs.Firsts.{written}
use Rattle.shaping.specs.Rate.{Rate}
use Rattle.protocol.specs.declared.Kind.{Kind}
use Rattle.protocol.specs.declared.SyncBurst.TheVariants.{Frame}
use Rattle.decode.specs.declared.Correlation.{Correlation}
use Rattle.decode.specs.Correlator.{symbol_of, correlation, matches}
use Rattle.search.specs.TakenBurst.{TakenBurst, held_as, taken}
use Rattle.search.specs.Search.{rank}
use Rattle.demodulator.specs.declared.Offer.{Offer}
use Rattle.demodulator.specs.Spans.{eight}
use Rattle.demodulator.specs.Record.{back}
use Rattle.demodulator.specs.Calls.{frame}
use Rattle.demodulator_run.specs.Rules.{Single, sample}
use Rattle.demodulator_run.specs.CallerSees.{Moment, control_at, left_then, Admitted}

-- ---- what is heard at a call, in the record that it leaves
module _ (R : Rate) {ss : List Single} (t : Moment ss) where
  abbrev pub heard_then : ℕ → Float
  heard_then = eight R.p (back R.p (left_then R t).demodulator)

  abbrev pub correlated : Kind → Correlation
  correlated kind = correlation (Frame kind) heard_then

  abbrev pub MatchesThen : Kind → Type 0
  MatchesThen kind = T (matches (Frame kind) heard_then)

-- ---- "Each candidate carries the sample at which it was taken"
-- a candidate of the kind is taken at sample n: the kind matches there, and after the call that candidate is held, with that sample's values; one that was held before it is older
pub record TakeSeen (R : Rate) (ss : List Single) (kind : Kind) (n : ℕ) : Type 0 where
  pub moment : Moment ss
  pub admitted : Admitted R moment
  pub number : (left_then R moment).demodulator.control.sample ≡ n
  pub matched : MatchesThen R moment kind
  pub holds : (left_then R moment).demodulator.control.candidate ≡ held_as (taken kind (correlated R moment kind) n)
  pub new : (t : TakenBurst) → (control_at R moment).candidate ≡ held_as t → t.taken_at < n

-- ---- "the age at which the wait was set"
-- the wait that the offer ends is set at sample s: none was held before the call, and after it one is, which keeps what the offer reports and ends with it.
-- `failed`: "the candidate whose failure set the wait"
pub record WaitSeen (R : Rate) (ss : List Single) (o : Offer) : Type 0 where
  pub moment : Moment ss
  pub admitted : Admitted R moment
  pub s : ℕ
  pub number : (left_then R moment).demodulator.control.sample ≡ s
  pub free : (control_at R moment).wait ≡ None
  pub set : (left_then R moment).demodulator.control.wait ≡ Some (record { left = 184 * R.p - o.age; age = o.age; replaced = o.replaced })
  pub ends : o.sample ≡ s + (184 * R.p - o.age)
  pub failed : TakenBurst
  pub held : (control_at R moment).candidate ≡ held_as failed
  pub lost : MatchesThen R moment failed.kind → ⊥

module _ (R : Rate) {ss : List Single} {o : Offer} (W : WaitSeen R ss o) where
  -- the kind's diff on the sample that set the wait is above the held candidate's
  abbrev pub AboveSeen : Kind → Type 0
  AboveSeen j = T (lt W.failed.diff (correlated R W.moment j).diff)

  -- "if on the sample that set the wait an earlier-listed kind matched with a larger diff"
  abbrev pub CornerSeen : Type 0
  CornerSeen = (j : Kind) × (rank j < rank W.failed.kind) × MatchesThen R W.moment j × AboveSeen j

  -- "Where a later-listed kind replaced the candidate on the sample that set the wait"
  abbrev pub ReplacedSeen : Kind → Type 0
  ReplacedSeen j = (rank W.failed.kind < rank j) × MatchesThen R W.moment j × (AboveSeen j → ⊥)

-- ---- "Show that the offer's place follows by 01's rule: 1,840 later, or 1,839 in the named corner."
-- "Where a later-listed kind replaced the candidate .. the offer carries a mark and the new one's sample, and falls due 1,840 less the reported age after it."
-- document 02 k): "due places 920 and 919"
pub record OfferPlace (R : Rate) (ss : List Single) (o : Offer) (plain corner : ℕ) : Type 0 where
  pub wait : WaitSeen R ss o
  pub place :
      ((o.replaced ≡ false) × ((j : Kind) → ReplacedSeen R wait j → ⊥) × (o.kind ≡ wait.failed.kind) × (o.taken_at ≡ wait.failed.taken_at)
      × ((CornerSeen R wait × (o.sample ≡ o.taken_at + corner)) ⊎ ((CornerSeen R wait → ⊥) × (o.sample ≡ o.taken_at + plain))))
      ⊎ ((o.replaced ≡ true) × ReplacedSeen R wait o.kind × (o.sample ≡ o.taken_at + (plain - o.age)))

-- ---- the reported age is the number of samples from taken-at to the one that set the wait, one more in the corner. Of a marked offer: from where the replaced candidate
-- was taken, while taken-at is the sample that set the wait. It is at least 1
pub record OfferAge (R : Rate) (ss : List Single) (o : Offer) (limit : ℕ) : Type 0 where
  pub wait : WaitSeen R ss o
  pub least : 1 ≤ o.age
  pub most : o.age ≤ limit
  pub count :
      ((o.replaced ≡ false) × ((CornerSeen R wait × (o.taken_at + o.age ≡ wait.s + 1)) ⊎ ((CornerSeen R wait → ⊥) × (o.taken_at + o.age ≡ wait.s))))
      ⊎ ((o.replaced ≡ true) × (o.taken_at ≡ wait.s) × (wait.failed.taken_at + o.age ≡ wait.s))

-- ---- taken-at is a sample where that kind matched and was taken, and kind, gain and shift are that sample's: the offer tells the gain, and the symbols in the caller's
-- room are made with both
pub record OfferTaken (R : Rate) (ss : List Single) (o : Offer) : Type 0 where
  pub take : TakeSeen R ss o.kind o.taken_at
  pub gain : o.gain ≡ (correlated R take.moment o.kind).gain
  pub moment : Moment ss
  pub value : ℤ
  pub room : List Float
  pub is_sample : moment.call ≡ sample value room
  pub answer : (left_then R moment).answer ≡ frame o
  pub symbols : (left_then R moment).room
      ≡ written (λ (i : ℕ). symbol_of (correlated R take.moment o.kind).gain (correlated R take.moment o.kind).shift (back R.p (left_then R moment).demodulator (R.p * (191 - i)))) 192 room
