-- Readers that agree at the eight places lead to the same search, and so to the same reply. Assumes nothing.
use mathlib.Core.Path.{◌≡◌, refl}
use mathlib.Core.Bool.{false}
use Prim.Native.Nat.{ℕ, ◌<◌}
use lib.Ieee.{Float}
use Rattle.protocol.specs.declared.Kind.{Kind}
use Rattle.protocol.specs.declared.Kind.TheVariants.{Lsf, Bert, Stream, Packet}
use Rattle.protocol.specs.declared.SyncBurst.{SyncBurst}
use Rattle.protocol.specs.declared.SyncBurst.TheVariants.{Frame, Preamble, EndOfTransmission}
use Rattle.decode.proofs.Same.{correlation_same, matches_same}
use Rattle.search.specs.declared.Control.{Control}
use Rattle.search.specs.declared.Reply.{Reply}
use Rattle.search.specs.declared.Reply.TheVariants.{Accepted, Rejected}
use Rattle.search.specs.Search.{carried, tried, passed, searched}
use Rattle.search.specs.Turn.{owing, replied}

module _ (p : ℕ) (v w : ℕ → Float) (agree : (i : ℕ) → i < 8 → v i ≡ w i) where
  carried_same : (burst : SyncBurst) (c : Control) → carried p burst v c ≡ carried p burst w c
  unfolding carried
  carried_same burst c = rw (matches_same burst v w agree)

  tried_same : (kind : Kind) (c : Control) → tried p v kind c ≡ tried p w kind c
  unfolding tried
  tried_same kind c = rw (matches_same (Frame kind) v w agree, correlation_same (Frame kind) v w agree)

  passed_same : (c : Control) → passed p v c ≡ passed p w c
  unfolding passed
  passed_same c = rw (tried_same Lsf c, tried_same Bert _, tried_same Stream _, tried_same Packet _)

  pub searched_same : (c : Control) → searched p v c ≡ searched p w c
  unfolding searched
  searched_same c = rw (carried_same Preamble c, carried_same EndOfTransmission _, passed_same _)

  pub replied_same : (reply : Reply) (c : Control) → replied p v reply c ≡ replied p w reply c
  unfolding replied
  replied_same Accepted c = refl
  replied_same Rejected c = searched_same (owing false c)
