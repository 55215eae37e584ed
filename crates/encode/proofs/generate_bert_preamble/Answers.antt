-- `generate_bert_preamble` meets its contract: the first i symbols are the preamble's, turned.
use mathlib.Core.Path.{◌≡◌, refl, ap, ◌∙◌}
use mathlib.Core.List.{List, [], append-nil}
use Prim.Native.Nat.{ℕ, ◌<◌, ◌+◌, ◌-◌}
use native.Mathlib.Omega.{arith}
use native.Mathlib.Numerals.{add-one}
use lib.ListN.{length, get_or, drop}
use lib.Seq.{get_or-drop}
use Rattle.std.proofs.lemmas.List.{get_or-append_right, drop_all}
use lib.Ieee.{Float, nan}
use Rattle.numbers.specs.Firsts.{firsts, written}
use Rattle.numbers.proofs.Firsts.{length_firsts, written_step}
use Rattle.encode.proofs.Repeats.{bert_turns}
use Rattle.encode.proofs.generate_bert_preamble.Invariants.{turned}
use Rattle.encode.proofs.generate_bert_preamble.Goals as goal

pub loop-symbol-init : goal.loop-symbol-init
unfolding firsts
loop-symbol-init c = refl

-- what is not yet written is the preamble's
unwritten : (f : ℕ → Float) (n : ℕ) (l : List Float) → get_or (written f n l) n nan ≡ get_or l n nan
unwritten f n l =
    let here : n + (n - n) ≡ n = omega arith in
    get_or-append_right (firsts f n) (drop n l) n n nan (length_firsts f n) (omega arith) ∙ get_or-drop n l (n - n) nan ∙ ap (λ (k : ℕ). get_or l k nan) here

pub loop-symbol-preserved : goal.loop-symbol-preserved
loop-symbol-preserved c =
    let plain = c.generate_preamble-symbols.result in
    let l = c.loop-symbol in
    let i = l.symbol-index in
    let f = turned plain in
    let within : i < length plain = omega arith in
    rw (l.invariant, unwritten f i plain, add-one i) (written_step f i plain nan within)

pub returns : goal.returns
returns c =
    let plain = c.generate_preamble-symbols.result in
    let done : c.loop-symbol.symbol-index ≡ 192 = omega arith in
    let none : drop 192 plain ≡ [] = drop_all 192 plain (omega arith) in
    (rw (done, none, append-nil (firsts (turned plain) 192), c.generate_preamble-symbols.ensures) at c.loop-symbol.invariant) ∙ bert_turns
