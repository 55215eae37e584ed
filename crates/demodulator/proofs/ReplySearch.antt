-- What a reply hands to a search, and what that leaves. Assumes nothing.
use Rattle.std.specs.Prelude.{Ok}
use mathlib.Core.Path.{◌≡◌, ap, ◌∙◌}
use mathlib.Core.Bool.{true}
use mathlib.Core.List.{List, []}
use Prim.Native.Nat.{ℕ}
use lib.Ieee.{Float}
use Rattle.numbers.specs.Firsts.{firsts}
use Rattle.decode.specs.Parts.{values_of}
use Rattle.search.specs.declared.Control.{Control}
use Rattle.search.specs.declared.Reply.{Reply}
use Rattle.search.specs.Promises.{RepliedSays}
use Rattle.search.proofs.SearchSame.{replied_same}
use Rattle.demodulator.specs.declared.SoftDemodulator.{SoftDemodulator}
use Rattle.demodulator.specs.Spans.{eight}
use Rattle.demodulator.specs.Record.{back, with_control}
use Rattle.demodulator.specs.Fit.{fit_for_reply_lem}
use Rattle.demodulator.specs.Calls.{done_paper, answered}
use Rattle.demodulator.proofs.Readers.{eight_at}
use Rattle.demodulator.proofs.CallCases.{reply_taken}

module _ (p : ℕ) (m : SoftDemodulator) (fit : fit_for_reply_lem p m ≡ true) (values : List Float) (e : values ≡ firsts (eight p (back p m)) 8) where
  pub replies : m.control.owed ≡ true → (reply : Reply) (settled : Control) → RepliedSays p m.control reply values settled
      → (done_paper (Ok tt) ≡ (answered p m reply []).answer) × (with_control settled m ≡ (answered p m reply []).demodulator)
  replies owed reply settled s =
      let t = reply_taken p m reply [] fit owed in
      let same = s ∙ replied_same p (values_of values) (eight p (back p m)) (eight_at p values (back p m) e) reply m.control in
      (rw t, ap (λ (d : Control). with_control d m) same ∙ rw t)
