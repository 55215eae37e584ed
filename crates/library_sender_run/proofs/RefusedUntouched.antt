-- A refused call leaves every lent place, of whatever memory. Assumes nothing.
use mathlib.Core.Path.{◌≡◌, refl, ap, ◌∙◌}
use mathlib.Core.Bool.{true}
use Prim.Native.Nat.{ℕ, ◌≤◌}
use borrow.Author.Tests.{le-leb}
use lib.Dec.{leb}
use Rattle.library_sender.specs.Memory.{Memory, Export, Coded, code_of, memory_says, memory_next}
use Rattle.library_sender.specs.Exports.{Says, M17SenderNewSays}
use Rattle.library_sender_run.specs.Chain.{Untouched}

pub refused_untouched : (m : Memory) (e : Export) → 100 ≤ (memory_says m e).code → Untouched m e (memory_next m e) (memory_says m e)
unfolding memory_says memory_next
refused_untouched m e big =
    let large : leb 100 (code_of m e) ≡ true = le-leb 100 (code_of m e) big in
    record { memory = rw large refl; room = rw large refl; told = rw large refl }

-- by what the exports promise
pub refused_export : (m : Memory) (e : Export) (a : Coded) (after : Memory) → Says m e a after → 100 ≤ a.code → Untouched m e after a
refused_export m e a after p big =
    let u = refused_untouched m e (rw (ap (λ (x : Coded). x.code) p.answers) at big) in
    record { memory = p.leaves ∙ u.memory; room = ap (λ (x : Coded). x.room) p.answers ∙ u.room; told = ap (λ (x : Coded). x.told) p.answers ∙ u.told }

pub refused_new : (m : Memory) (rate code : ℕ) (after : Memory) → M17SenderNewSays m rate code after → 100 ≤ code → after ≡ m
refused_new m rate code after p big = p.leaves ∙ rw (le-leb 100 code big) refl
