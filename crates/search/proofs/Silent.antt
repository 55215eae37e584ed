-- A search in which no burst matches, with no candidate held, leaves the control. Assumes nothing.
use mathlib.Core.Path.{◌≡◌, refl, sym, ◌∙◌}
use mathlib.Core.Bool.{Bool, true, false, true≢false, ◌||◌}
use mathlib.Core.List.{List}
use Prim.Native.Nat.{ℕ}
use lib.Ieee.{Float, lt, of_bits}
use Rattle.protocol.specs.declared.Kind.{Kind}
use Rattle.protocol.specs.declared.Kind.TheVariants.{Lsf, Bert, Stream, Packet}
use Rattle.protocol.specs.declared.SyncBurst.{SyncBurst}
use Rattle.protocol.specs.declared.SyncBurst.TheVariants.{Frame, Preamble, EndOfTransmission}
use Rattle.decode.specs.declared.Spread.{Spread}
use Rattle.decode.specs.Correlator.{least_gain, threshold, diff_of, matches}
use Rattle.decode.specs.Parts.{values_of}
use Rattle.search.specs.declared.Candidate.{Candidate}
use Rattle.search.specs.declared.Candidate.TheVariants.{Nothing}
use Rattle.search.specs.declared.Control.{Control}
use Rattle.search.specs.Search.{carried, missed, tried, passed, searched}
use Rattle.search.specs.Fit.{held}
use Rattle.search.proofs.HeldOrNot.{HeldOrNot, not_held, is_held, held_or_not}
use Rattle.search.proofs.Compared.{match_own, Sensed, compared_own}

pub nothing_held : {candidate : Candidate} → HeldOrNot candidate → held candidate ≡ false → candidate ≡ Nothing
nothing_held not_held e = refl
nothing_held (is_held t) e = absurd (true≢false e)

-- ---- the second part, where no kind matches
module _ (p : ℕ) (v : ℕ → Float) (c : Control) (none : (kind : Kind) → matches (Frame kind) v ≡ false) (free : c.candidate ≡ Nothing) where
  tried_silent : (kind : Kind) → tried p v kind c ≡ c
  unfolding tried missed
  tried_silent kind = rw (none kind, free)

  pub passed_silent : passed p v c ≡ c
  unfolding passed
  passed_silent = rw (tried_silent Lsf, tried_silent Bert, tried_silent Stream, tried_silent Packet)

-- ---- the whole, where no burst does
abbrev pub Unmatched : (ℕ → Float) → Type 0
Unmatched v = (burst : SyncBurst) → matches burst v ≡ false

module _ (p : ℕ) (v : ℕ → Float) (c : Control) (none : Unmatched v) where
  carried_silent : (burst : SyncBurst) → carried p burst v c ≡ c
  unfolding carried
  carried_silent burst = rw (none burst)

  pub silent_search : held c.candidate ≡ false → searched p v c ≡ c
  unfolding searched
  silent_search free = rw (carried_silent Preamble, carried_silent EndOfTransmission) (passed_silent p v c (λ kind. none (Frame kind)) (nothing_held (held_or_not c.candidate) free))

-- "Gain below 16.0: no match."
faint_diff : (gain : Float) (distance : ℕ → Float) → lt gain least_gain ≡ true → lt (diff_of gain distance) threshold ≡ false
unfolding diff_of lt of_bits
faint_diff gain distance e = rw e

pub faint : {vs us : List Float} {s : Spread} → Sensed vs us s → lt s.gain least_gain ≡ true → Unmatched (values_of vs)
faint {vs} {us} {s} sensed e burst = match_own burst (values_of vs) _ (compared_own sensed burst _ refl) ∙ faint_diff s.gain _ e

-- the six tests at once, and each of them
six_false : (a b c d e f : Bool) → a || b || c || d || e || f ≡ false → (a ≡ false) × (b ≡ false) × (c ≡ false) × (d ≡ false) × (e ≡ false) × (f ≡ false)
six_false true b c d e f h = absurd (true≢false h)
six_false false true c d e f h = absurd (true≢false h)
six_false false false true d e f h = absurd (true≢false h)
six_false false false false true e f h = absurd (true≢false h)
six_false false false false false true f h = absurd (true≢false h)
six_false false false false false false true h = absurd (true≢false h)
six_false false false false false false false h = (refl, refl, refl, refl, refl, refl)

pub unmatched : (v : ℕ → Float) (preamble end lsf bert stream packet : Bool)
    → preamble ≡ matches Preamble v → end ≡ matches EndOfTransmission v → lsf ≡ matches (Frame Lsf) v → bert ≡ matches (Frame Bert) v → stream ≡ matches (Frame Stream) v → packet ≡ matches (Frame Packet) v
    → preamble || end || lsf || bert || stream || packet ≡ false → Unmatched v
unmatched v preamble end lsf bert stream packet p e l b s k none Preamble = sym p ∙ (six_false preamble end lsf bert stream packet none).0
unmatched v preamble end lsf bert stream packet p e l b s k none EndOfTransmission = sym e ∙ (six_false preamble end lsf bert stream packet none).1
unmatched v preamble end lsf bert stream packet p e l b s k none (Frame Lsf) = sym l ∙ (six_false preamble end lsf bert stream packet none).2
unmatched v preamble end lsf bert stream packet p e l b s k none (Frame Bert) = sym b ∙ (six_false preamble end lsf bert stream packet none).3
unmatched v preamble end lsf bert stream packet p e l b s k none (Frame Stream) = sym s ∙ (six_false preamble end lsf bert stream packet none).4
unmatched v preamble end lsf bert stream packet p e l b s k none (Frame Packet) = sym k ∙ (six_false preamble end lsf bert stream packet none).5
