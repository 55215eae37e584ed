-- `layout::check_numbers` meets its contract. Assumes nothing.
use mathlib.Core.Path.{refl}
use mathlib.Core.Bool.{true, false}
use borrow.Author.Tests.{not-true, not-false}
use borrow.Author.Rules.{rules}
use Rattle.library_sender.proofs.Promises.{code_by_tests}
use Rattle.library_sender.proofs.layout.check_numbers.Goals as goal

pub returns-then-not-known : goal.returns-then-not-known
returns-then-not-known c = code_by_tests _ false _ c.if-not-known.true refl

pub returns-then-not-plain : goal.returns-then-not-plain
returns-then-not-plain c = code_by_tests _ true false c.if-not-known.false c.if-not-plain.true

pub returns : goal.returns
returns c = code_by_tests _ true true c.if-not-known.false c.if-not-plain.false
