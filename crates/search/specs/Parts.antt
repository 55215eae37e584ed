-- What the crate's own functions promise of a search: the definitions of `Search`, of comparisons that are made once. Assumes nothing.
use Rattle.std.specs.Prelude.{◌≡◌, ℕ, Float}
use Rattle.protocol.specs.declared.Kind.{Kind}
use Rattle.protocol.specs.declared.SyncBurst.{SyncBurst}
use Rattle.protocol.specs.declared.SyncBurst.TheVariants.{Frame}
use Rattle.decode.specs.declared.Correlation.{Correlation}
use Rattle.decode.specs.Correlator.{correlation}
use Rattle.search.specs.declared.Control.{Control}
use Rattle.search.specs.Search.{carried, tried}

-- `m` is what the burst's comparison came to, of whichever values
abbrev pub Carries : ℕ → Correlation → Control → Control → Type 0
Carries p m c r = (burst : SyncBurst) (v : ℕ → Float) → m ≡ correlation burst v → r ≡ carried p burst v c

abbrev pub Tries : ℕ → Kind → Correlation → Control → Control → Type 0
Tries p kind m c r = (v : ℕ → Float) → m ≡ correlation (Frame kind) v → r ≡ tried p v kind c
