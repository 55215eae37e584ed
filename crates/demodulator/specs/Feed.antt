-- A stretch of samples in one call, said once for any receiver: the single samples one after the other, until one brings an offer or would be refused. Assumes nothing.
use Rattle.demodulator.specs.declared.Offer.{Offer}
use Rattle.protocol.specs.declared.Refusal.{Refusal}
use Rattle.std.specs.Prelude.{◌≡◌, Bool, true, false, cond, List, [], ◌∷◌, ℕ, ◌+◌, eqb, ℤ, Float, Option, Some, None, Result, Ok, Err}
use Rattle.shaping.specs.Rate.{Rate, rate_of}
use Rattle.protocol.specs.Refusals.{bare}
use Rattle.demodulator.specs.declared.SoftDemodulator.{SoftDemodulator}
use Rattle.demodulator.specs.declared.AfterStretch.{AfterStretch}
use Rattle.demodulator.specs.Fit.{unfit_number, record_fit_lem}
use Rattle.demodulator.specs.Calls.{Paper, refusal, nothing, frame, done, carrier, heard_paper, demodulated}

-- what a stretch leaves: its answer, how many samples went in, the receiver and the room
pub record Stretch (S : Type 0) : Type 0 where
  pub answer : Paper
  pub fed : ℕ
  pub state : S
  pub room : List Float

-- "Every refusal returns its number only, with record and buffers as they were": so a stretch is refused only where no sample went in.
-- After `n` that did, the answer is quiet, and the caller, who gives the rest, gets the refusal.
abbrev pub stops_before : {S : Type 0} → Paper → ℕ → S → List Float → Stretch S
stops_before why n s room = record { answer = cond (eqb n 0) why nothing; fed = n; state = s; room = room }

-- by the answer to the next sample: a quiet one goes on with the rest; one with an offer is the last that goes in;
-- one that would be refused does not go in (and a sample is never answered as a reply or a carrier query is)
unfoldable pub goes_on_lem : {S : Type 0} → Paper → (before last rest : Stretch S) → Stretch S
goes_on_lem nothing before last rest = rest
goes_on_lem (frame o) before last rest = last
goes_on_lem (refusal number) before last rest = before
goes_on_lem done before last rest = before
goes_on_lem (carrier there) before last rest = before

-- ---- any receiver: what it says to a sample with its room, what it is after it, and what the room then holds
module _ (S : Type 0) (said : S → ℤ → List Float → Paper) (next : S → ℤ → List Float → S) (after : S → ℤ → List Float → List Float) where
  -- the samples that are left, after `n` that went in
  unfoldable pub fed_from : ℕ → S → List ℤ → List Float → Stretch S
  fed_from n s [] room = record { answer = nothing; fed = n; state = s; room = room }
  fed_from n s (x ∷ xs) room =
      goes_on_lem (said s x room) (stops_before (said s x room) n s room)
      (record { answer = said s x room; fed = n + 1; state = next s x room; room = after s x room })
      (fed_from (n + 1) (next s x room) xs (after s x room))

  -- "a call that gives neither tests no filtered value": an empty stretch gives no sample, and what it is answered with is given
  unfoldable pub fed : (S → Paper) → S → List ℤ → List Float → Stretch S
  fed none s [] room = record { answer = none s; fed = 0; state = s; room = room }
  fed none s (x ∷ xs) room = fed_from 0 s (x ∷ xs) room

-- ---- the record
abbrev pub sample_said : Rate → SoftDemodulator → ℤ → List Float → Paper
sample_said R m x room = (demodulated R m x room).answer

abbrev pub sample_next : Rate → SoftDemodulator → ℤ → List Float → SoftDemodulator
sample_next R m x room = (demodulated R m x room).demodulator

abbrev pub sample_room : Rate → SoftDemodulator → ℤ → List Float → List Float
sample_room R m x room = (demodulated R m x room).room

-- the samples that are left, after `n` that went in
abbrev pub rest_from : Rate → ℕ → SoftDemodulator → List ℤ → List Float → Stretch SoftDemodulator
rest_from R = fed_from SoftDemodulator (sample_said R) (sample_next R) (sample_room R)

-- no sample: quiet, or refused where the receiver is unfit even so
abbrev pub empty_said : ℕ → SoftDemodulator → Paper
empty_said p m = cond (record_fit_lem p m) nothing (refusal (bare (unfit_number m)))

abbrev pub fed_into : Rate → SoftDemodulator → List ℤ → List Float → Stretch SoftDemodulator
fed_into R = fed SoftDemodulator (sample_said R) (sample_next R) (sample_room R) (empty_said R.p)

-- ---- an answer, as the code looks at it
abbrev pub is_quiet_lem : Result (Option Offer) Refusal → Bool
is_quiet_lem (Err why) = false
is_quiet_lem (Ok None) = true
is_quiet_lem (Ok (Some o)) = false

abbrev pub went_in : Result (Option Offer) Refusal → ℕ
went_in (Err why) = 0
went_in (Ok None) = 1
went_in (Ok (Some o)) = 1

abbrev pub told_after : ℕ → Result (Option Offer) Refusal → Result (Option Offer) Refusal
told_after n (Err why) = cond (eqb n 0) (Err why) (Ok None)
told_after n (Ok None) = Ok None
told_after n (Ok (Some o)) = Ok (Some o)

-- ---- what the function promises
pub record FeedSays (m : SoftDemodulator) (xs : List ℤ) (room : List Float) (r : AfterStretch) (after : List Float) : Type 0 where
  pub answers : heard_paper r.answer ≡ (fed_into (rate_of m.rate) m xs room).answer
  pub counts : r.fed ≡ (fed_into (rate_of m.rate) m xs room).fed
  pub leaves : r.demodulator ≡ (fed_into (rate_of m.rate) m xs room).state
  pub writes : after ≡ (fed_into (rate_of m.rate) m xs room).room

abbrev pub FeedsNothing : SoftDemodulator → AfterStretch → Type 0
FeedsNothing m r = (room : List Float) → FeedSays m [] room r room
