-- The six bursts in a row, so that a test of each, or of each two, is computed. Assumes nothing.
use mathlib.Core.Path.{◌≡◌, refl, sym, ap, ◌∙◌}
use mathlib.Core.Bool.{Bool}
use mathlib.Core.List.{[], ◌∷◌}
use Prim.Native.Nat.{ℕ, ◌<◌}
use lib.Dec.{T, lit<}
use lib.ListN.{get_or}
use Rattle.numbers.specs.Below.{all_below}
use Rattle.numbers.proofs.Below.{all_below_lem}
use Rattle.protocol.specs.declared.Kind.{Kind}
use Rattle.protocol.specs.declared.Kind.TheVariants.{Lsf, Bert, Stream, Packet}
use Rattle.protocol.specs.declared.SyncBurst.{SyncBurst}
use Rattle.protocol.specs.declared.SyncBurst.TheVariants.{Frame, Preamble, EndOfTransmission}

abbrev pub burst_at : ℕ → SyncBurst
burst_at i = get_or (Frame Lsf ∷ Frame Bert ∷ Frame Stream ∷ Frame Packet ∷ Preamble ∷ EndOfTransmission ∷ []) i Preamble

abbrev pub rank : SyncBurst → ℕ
rank (Frame Lsf) = 0
rank (Frame Bert) = 1
rank (Frame Stream) = 2
rank (Frame Packet) = 3
rank Preamble = 4
rank EndOfTransmission = 5

at_rank : (b : SyncBurst) → burst_at (rank b) ≡ b
at_rank (Frame Lsf) = refl
at_rank (Frame Bert) = refl
at_rank (Frame Stream) = refl
at_rank (Frame Packet) = refl
at_rank Preamble = refl
at_rank EndOfTransmission = refl

pub same_rank : (b c : SyncBurst) → rank b ≡ rank c → b ≡ c
same_rank b c e = sym (at_rank b) ∙ ap burst_at e ∙ at_rank c

pub rank_below : (b : SyncBurst) → rank b < 6
rank_below (Frame Lsf) = lit< tt
rank_below (Frame Bert) = lit< tt
rank_below (Frame Stream) = lit< tt
rank_below (Frame Packet) = lit< tt
rank_below Preamble = lit< tt
rank_below EndOfTransmission = lit< tt

-- the kinds come first
pub kind_below : (k : Kind) → rank (Frame k) < 4
kind_below Lsf = lit< tt
kind_below Bert = lit< tt
kind_below Stream = lit< tt
kind_below Packet = lit< tt

pub for_each : (n : ℕ) (t : SyncBurst → Bool) → T (all_below n (λ i. t (burst_at i))) → (b : SyncBurst) → rank b < n → T (t b)
for_each n t h b l = rw (at_rank b) at (all_below_lem n (λ i. t (burst_at i)) h (rank b) l)

pub for_each_two : (n : ℕ) (t : SyncBurst → SyncBurst → Bool) → T (all_below n (λ i. all_below n (λ j. t (burst_at i) (burst_at j)))) → (b c : SyncBurst) → rank b < n → rank c < n → T (t b c)
for_each_two n t h b c l m = for_each n (t b) (for_each n (λ a. all_below n (λ j. t a (burst_at j))) h b l) c m
