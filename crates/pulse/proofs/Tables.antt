-- A sum over the table that a rate has is that rate's sample. Assumes nothing.
use mathlib.Core.Path.{◌≡◌, ap, ◌∙◌}
use mathlib.Core.List.{List}
use Prim.Native.Nat.{ℕ}
use lib.ListN.{length}
use lib.Ieee.{Float, to_signed}
use Rattle.shaping.specs.Rate.{Known, rate_at, tap_count}
use Rattle.shaping.specs.Sum.{dot, in_ring}
use Rattle.shaping.proofs.RateFacts.{facts}
use Rattle.pulse.specs.Pulse.{sample_of, line_at}

module _ (p : ℕ) (known : Known p) (table : List Float) (own : table ≡ (rate_at p).taps) where
  pub table_long : length table ≡ tap_count p
  table_long = rw own (facts p known).number

  pub table_sample : (window : List Float) (cursor : ℕ) (sum : Float) → sum ≡ dot table (in_ring (length table) window cursor) → to_signed 15 sum ≡ sample_of (rate_at p) (line_at window cursor)
  unfolding sample_of
  table_sample window cursor sum q = ap (to_signed 15) (q ∙ rw (table_long, own))
