-- How many of a read's bytes a turn takes; none is lost that the count does not tell of. Assumes nothing.
use mathlib.Core.Path.{◌≡◌, sym, ap, ◌∙◌}
use mathlib.Core.List.{List, [], ◌∷◌, ◌++◌}
use Prim.Native.Nat.{ℕ, ◌≤◌, ◌<◌, min}
use native.Mathlib.Omega.{arith}
use lib.ListN.{length, length-append, length-take}
use lib.Seq.{take-append-le}
use Rattle.modulator.specs.Paper.{done}
use Rattle.sending.specs.declared.Sending.{Sending}
use Rattle.sending.specs.Calls.{Left, lacking, added, held, turned}
use Rattle.sending.specs.Run.{Fitting, calls_from, AllDone, AllTaken}
use Rattle.sending.proofs.Turns.{moved_some, turned_fit, told_fit}
use Rattle.sending.proofs.RefusedTurn.{refused_exactly}

module _ (s : Sending) (bytes : List ℕ) where
  -- A turn that is not refused takes as many of its bytes as the line lacks, and all where they are no more.
  pub bytes_taken : (turned s bytes).answer ≡ done → (turned s bytes).taken ≡ min (length bytes) (lacking s)
  bytes_taken fine =
      ap (λ (l : Left). l.taken) (turned_fit s bytes (told_fit s.modulator (sym (refused_exactly s bytes) ∙ fine))) ∙ omega (arith, length-take (lacking s) bytes)

  module _ (more : List ℕ) (some : 0 < length bytes) (full : lacking s ≤ length bytes) where
    added_same : added s (bytes ++ more) ≡ added s bytes
    added_same = take-append-le (lacking s) bytes more full

    held_same : held s (bytes ++ more) ≡ held s bytes
    unfolding held
    held_same = rw added_same

    -- Bytes after those that the line lacks change nothing: they can be given again to the next turn.
    pub surplus : turned s (bytes ++ more) ≡ turned s bytes
    unfolding turned
    surplus =
        let also : 0 < length (bytes ++ more) = omega (arith, length-append bytes more) in
        rw (added_same, moved_some s (bytes ++ more) also, held_same, ← moved_some s bytes some)

-- over all reads of the program
pub all_taken : (reads : List (List ℕ)) (s : Sending) → Fitting s reads → AllDone (calls_from s reads) → AllTaken s reads
unfolding Fitting calls_from AllDone AllTaken
all_taken [] s fit fine = tt
all_taken (bytes ∷ reads) s fit fine = (
  bytes_taken s bytes fine.0 ∙ omega (arith, fit.1.0),
  λ on. all_taken reads (turned s bytes).sending (fit.1.1 on) (rw on at fine.1),
)
