-- What a burst's comparison came to tells whether it matches, and a comparison from the spread that the six bursts share is the burst's own. Assumes nothing.
use mathlib.Core.Path.{◌≡◌, sym, ap}
use mathlib.Core.List.{List, map}
use Prim.Native.Nat.{ℕ}
use lib.Ieee.{Float, lt}
use Rattle.protocol.specs.declared.SyncBurst.{SyncBurst}
use Rattle.decode.specs.declared.Correlation.{Correlation}
use Rattle.decode.specs.declared.Spread.{Spread}
use Rattle.decode.specs.Correlator.{threshold, zero_unsigned, correlation, matches}
use Rattle.decode.specs.Parts.{values_of, spread_of, answer_from}
use Rattle.decode.proofs.Same.{six_alike}

pub match_own : (burst : SyncBurst) (v : ℕ → Float) (m : Correlation) → m ≡ correlation burst v → matches burst v ≡ lt m.diff threshold
unfolding matches
match_own burst v m e = sym (ap (λ (o : Correlation). lt o.diff threshold) e)

-- eight values heard once, and their spread
pub record Sensed (vs us : List Float) (s : Spread) : Type 0 where
  pub values : us ≡ map zero_unsigned vs
  pub spread : s ≡ spread_of (values_of us)

pub compared_own : {vs us : List Float} {s : Spread} → Sensed vs us s → (burst : SyncBurst) (m : Correlation) → m ≡ answer_from burst (values_of us) s → m ≡ correlation burst (values_of vs)
compared_own {vs} {us} {s} sensed burst m = six_alike burst vs us s m sensed.values sensed.spread
