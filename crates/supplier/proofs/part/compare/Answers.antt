-- `part::compare` meets its contract: the parts up to now are in the stretch, and what is left is beside what is left of it. Assumes nothing.
use Rattle.std.specs.Prelude.{Some}
use Rattle.std.specs.Option.{is_some}
use lib.Ieee.{Float}
use mathlib.Core.Path.{◌≡◌, sym, ap, ◌∙◌}
use Prim.Native.Nat.{ℕ, ◌+◌, ◌*◌, ◌<◌}
use native.Mathlib.Omega.{arith}
use lib.ListN.{length, take, drop}
use mathlib.Core.List.{List}
use lib.IntN.{ℤ}
use Rattle.modulator.specs.Calls.{made}
use Rattle.given_symbols.specs.declared.Traffic.TheVariants.{Ordinary}
use Rattle.modulator.specs.declared.ModulatorFrame.TheVariants.{Symbols as GivenSymbols}
use Rattle.modulator.specs.declared.SoftModulator.{SoftModulator}
use Rattle.house.specs.Line.{good_line, symbols_of_lem, no_symbols, read_line}
use Rattle.house.proofs.Lines.{has_symbols, some_symbols}
use Rattle.supplier.specs.declared.part.AfterPart.{AfterPart}
use Rattle.supplier.specs.Parts.{is_yes, PartSays}
use Rattle.supplier.proofs.FirstLine.{chunk_at}
use Rattle.supplier.proofs.PartByPart.{Stands, padding_stops, padding_within, preamble_stops, preamble_stands, line_good, all_lines, line_stops, line_stands, end_stops, end_long, end_yes}
use Rattle.supplier.proofs.part.compare.Goals as goal

-- ---- the line's part, as what is promised of its reading has it
line_said : (padding : ℕ) (lines : List ℕ) (samples : List ℤ) (m : SoftModulator) (at i : ℕ) → Stands padding lines samples m at i → i < length lines
    → (line : List ℕ) → line ≡ take 97 (drop i lines) → (symbols : List Float) → read_line line ≡ Some symbols → (r : AfterPart)
    → PartSays m (GivenSymbols Ordinary) symbols samples at r → PartSays m (GivenSymbols Ordinary) (symbols_of_lem (take 97 (drop i lines))) samples at r
line_said padding lines samples m at i st some line own symbols read r said = rw (some_symbols line read ∙ ap symbols_of_lem own) at said

pub returns-then-not-is_yes : goal.returns-then-not-is_yes
returns-then-not-is_yes c =
    let a = c.args in
    padding_stops a.padding a.lines.now a.samples.now c.requires _ c.meet_padding-zeros.ensures
    (sym c.is_yes.ensures ∙ c.if-not-is_yes.true)

pub part-first-requires : goal.part-first-requires
part-first-requires c =
    let a = c.args in
    let zeros = ap is_yes (sym c.meet_padding-zeros.ensures) ∙ sym c.is_yes.ensures ∙ c.if-not-is_yes.false in
    padding_within a.padding a.lines.now a.samples.now c.requires zeros

pub returns-then-not-is_yes-2 : goal.returns-then-not-is_yes-2
unfolding no_symbols made
returns-then-not-is_yes-2 c =
    let a = c.args in
    let zeros = ap is_yes (sym c.meet_padding-zeros.ensures) ∙ sym c.is_yes.ensures ∙ c.if-not-is_yes.false in
    let begun = c.new-begun in
    let first = c.part-first in
    preamble_stops a.padding a.lines.now a.samples.now c.requires zeros begun.result.modulator begun.ensures.leaves
    first.result first.ensures (sym c.is_yes-2.ensures ∙ c.if-not-is_yes-2.true)

pub loop-line-init : goal.loop-line-init
unfolding no_symbols made
loop-line-init c =
    let a = c.args in
    let zeros = ap is_yes (sym c.meet_padding-zeros.ensures) ∙ sym c.is_yes.ensures ∙ c.if-not-is_yes.false in
    let begun = c.new-begun in
    let first = c.part-first in
    preamble_stands a.padding a.lines.now a.samples.now c.requires zeros begun.result.modulator begun.ensures.leaves
    first.result first.ensures (sym c.is_yes-2.ensures ∙ c.if-not-is_yes-2.false)

pub unwrap-symbols-requires : goal.unwrap-symbols-requires
unwrap-symbols-requires c =
    let l = c.loop-line in
    let some : 97 * l.line-index < length c.args.lines.now = omega (arith, c.as_chunks.ensures.front_len) in
    let line = chunk_at c.as_chunks.result.0.now 97 c.args.lines.now l.line-index c.as_chunks.ensures.front (omega (arith, c.as_chunks.ensures.front_len)) in
    ap is_some c.line_symbols.ensures ∙ has_symbols _ ∙ ap good_line line ∙ line_good _ _ _ _ _ _ l.invariant some

pub part-next-requires : goal.part-next-requires
part-next-requires c = c.loop-line.invariant.within

pub returns-then-not-is_yes-3 : goal.returns-then-not-is_yes-3
returns-then-not-is_yes-3 c =
    let l = c.loop-line in
    let some : 97 * l.line-index < length c.args.lines.now = omega (arith, c.as_chunks.ensures.front_len) in
    let line = chunk_at c.as_chunks.result.0.now 97 c.args.lines.now l.line-index c.as_chunks.ensures.front (omega (arith, c.as_chunks.ensures.front_len)) in
    let said = line_said _ _ _ _ _ _ l.invariant some _ line _ (sym c.line_symbols.ensures ∙ c.unwrap-symbols.ensures) _ c.part-next.ensures in
    line_stops _ _ _ _ _ _ l.invariant some c.part-next.result said (sym c.is_yes-in-loop-line.ensures ∙ c.if-not-is_yes-3.true)

pub loop-line-preserved : goal.loop-line-preserved
loop-line-preserved c =
    let l = c.loop-line in
    let some : 97 * l.line-index < length c.args.lines.now = omega (arith, c.as_chunks.ensures.front_len) in
    let line = chunk_at c.as_chunks.result.0.now 97 c.args.lines.now l.line-index c.as_chunks.ensures.front (omega (arith, c.as_chunks.ensures.front_len)) in
    let said = line_said _ _ _ _ _ _ l.invariant some _ line _ (sym c.line_symbols.ensures ∙ c.unwrap-symbols.ensures) _ c.part-next.ensures in
    let next : 97 * (l.line-index + 1) ≡ 97 * l.line-index + 97 = omega arith in
    rw next (line_stands _ _ _ _ _ _ l.invariant some c.part-next.result said (sym c.is_yes-in-loop-line.ensures ∙ c.if-not-is_yes-3.false))

pub part-last-requires : goal.part-last-requires
part-last-requires c = c.loop-line.invariant.within

pub returns-then-not-is_yes-4 : goal.returns-then-not-is_yes-4
unfolding no_symbols made
returns-then-not-is_yes-4 c =
    let l = c.loop-line in
    let all = all_lines _ _ _ _ _ _ l.invariant (omega (arith, c.as_chunks.ensures.front_len)) in
    end_stops _ _ _ _ _ _ l.invariant all c.part-last.result c.part-last.ensures (sym c.is_yes-3.ensures ∙ c.if-not-is_yes-4.true)

pub returns-then-end-samples : goal.returns-then-end-samples
unfolding no_symbols made
returns-then-end-samples c =
    let l = c.loop-line in
    let all = all_lines _ _ _ _ _ _ l.invariant (omega (arith, c.as_chunks.ensures.front_len)) in
    let last = c.part-last in
    end_long _ _ _ _ _ _ l.invariant all last.result last.ensures
    (sym c.is_yes-3.ensures ∙ c.if-not-is_yes-4.false) c.if-end-samples.true

pub returns : goal.returns
unfolding no_symbols made
returns c =
    let l = c.loop-line in
    let all = all_lines _ _ _ _ _ _ l.invariant (omega (arith, c.as_chunks.ensures.front_len)) in
    let last = c.part-last in
    end_yes _ _ _ _ _ _ l.invariant all last.result last.ensures
    (sym c.is_yes-3.ensures ∙ c.if-not-is_yes-4.false) c.if-end-samples.false
