-- `search_at` meets its contract: four tries, one after the other. Assumes nothing.
use mathlib.Core.Path.{◌≡◌}
use Prim.Native.Nat.{ℕ, ◌<◌}
use lib.Ieee.{Float, nan}
use Rattle.numbers.proofs.Firsts.{firsts_at}
use Rattle.decode.specs.Parts.{values_of}
use Rattle.demodulator.specs.Spans.{eight}
use Rattle.plain.specs.Values.{from_whole}
use Rattle.plain.specs.SearchPart.{free}
use Rattle.plain.proofs.PursuitLaws.{search_by_tries}
use Rattle.plain.proofs.heard.Heard.search_at.Goals as goal

pub returns : goal.returns
returns c =
    let a = c.args in
    let v : ℕ → Float = eight a.self.now.p (from_whole a.self.now.table.now a.self.now.p a.self.now.recording.now a.k) in
    let same : (i : ℕ) → i < 8 → values_of c.eight_values-values.result i ≡ v i = λ i l. rw c.eight_values-values.ensures (firsts_at v 8 i nan l) in
    search_by_tries a.k a.self.now.p (values_of c.eight_values-values.result) v same (free a.candidate) c.try_kind-after_lsf.result c.try_kind-after_bert.result
    c.try_kind-after_stream.result c.try_kind.result c.try_kind-after_lsf.ensures c.try_kind-after_bert.ensures c.try_kind-after_stream.ensures c.try_kind.ensures
