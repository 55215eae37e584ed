-- `text::first_bad` meets its contract: the lines before the place are good. Assumes nothing.
use mathlib.Core.Path.{◌≡◌, sym, ap, ◌∙◌}
use Prim.Native.Nat.{ℕ, ◌+◌, ◌*◌, ◌/◌, ◌≤◌, ◌<◌}
use native.Mathlib.Omega.{arith}
use borrow.Author.Rules.{rules}
use lib.ListN.{length, drop, length-drop}
use Rattle.std.specs.Option.{is_some}
use mathlib.Core.Bool.{not}
use Rattle.house.specs.Line.{good_line}
use Rattle.house.proofs.Lines.{has_symbols}
use Rattle.sending.specs.Text.{in_line}
use Rattle.supplier.proofs.FirstLine.{bad_few, bad_line, bad_later, bad_none, chunk_at, next_chunk}
use Rattle.supplier.proofs.text.first_bad.Goals as goal

pub returns-then-is_none : goal.returns-then-is_none
returns-then-is_none c =
    let l = c.loop-before in
    let t = c.args.lines.now in
    let within : l.before < length t / 97 = omega (arith, c.as_chunks.ensures.front_len) in
    let enough : 97 ≤ length (drop (97 * l.before) t) = omega (arith, length-drop (97 * l.before) t) in
    let whole = c.as_chunks.result.0.now in
    let read = ap is_some c.line_symbols-read.ensures ∙ has_symbols _ ∙ ap good_line (chunk_at whole 97 t l.before c.as_chunks.ensures.front within) in
    sym (l.invariant ∙ bad_line (l.before + 1) (drop (97 * l.before) t) enough (sym read ∙ c.is_none.ensures ∙ ap not c.if-is_none.true))

pub loop-before-preserved : goal.loop-before-preserved
loop-before-preserved c =
    let l = c.loop-before in
    let t = c.args.lines.now in
    let within : l.before < length t / 97 = omega (arith, c.as_chunks.ensures.front_len) in
    let enough : 97 ≤ length (drop (97 * l.before) t) = omega (arith, length-drop (97 * l.before) t) in
    let whole = c.as_chunks.result.0.now in
    let read = ap is_some c.line_symbols-read.ensures ∙ has_symbols _ ∙ ap good_line (chunk_at whole 97 t l.before c.as_chunks.ensures.front within) in
    l.invariant ∙ bad_later (l.before + 1) (drop (97 * l.before) t) enough (sym read ∙ c.is_none.ensures ∙ ap not c.if-is_none.false) ∙ next_chunk l.before t

pub returns-then-is_empty : goal.returns-then-is_empty
returns-then-is_empty c =
    let l = c.loop-before in
    let t = c.args.lines.now in
    let none : length c.as_chunks.result.1.now ≡ 0 = search rules in
    let all : length t ≤ 97 * l.before = omega (arith, none, c.as_chunks.ensures.front_len, c.as_chunks.ensures.back_len) in
    sym (l.invariant ∙ bad_none (l.before + 1) t (97 * l.before) all)

pub returns : goal.returns
returns c =
    let l = c.loop-before in
    let t = c.args.lines.now in
    let some : 0 < length c.as_chunks.result.1.now = search rules in
    let done : l.before ≡ length c.as_chunks.result.0.now = omega arith in
    let size = length-drop (97 * l.before) t in
    let few = bad_few (l.before + 1) (drop (97 * l.before) t) (omega (arith, size, some, done, c.as_chunks.ensures.front_len, c.as_chunks.ensures.back_len)) (omega (arith, size, done, c.as_chunks.ensures.front_len, c.as_chunks.ensures.back_len)) in
    sym (l.invariant ∙ few ∙ ap (λ (n : ℕ). in_line (n + 1)) done)
