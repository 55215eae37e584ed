-- `generate_ending` meets its contract. The loop's invariant: the first i symbols are written, and zeros follow. Assumes nothing.
use mathlib.Core.Path.{◌≡◌, refl, sym, ap, ◌∙◌}
use mathlib.Core.List.{List, ◌++◌}
use Prim.Native.Nat.{ℕ, ◌+◌}
use borrow.Author.Tests.{lt-ltb}
use lib.ListN.{drop, replicate}
use lib.Ieee.{Float, binary32, of_bits, of_int}
use Rattle.numbers.specs.Firsts.{firsts, written}
use Rattle.numbers.proofs.Firsts.{firsts_same, firsts_cut}
use Rattle.encode.specs.Frames.{frame_of, end_sign, ending_symbol}
use Rattle.encode.proofs.generate_ending.Goals as goal

-- the zeros that are overwritten at the front
unfoldable flushing : List Float
flushing = replicate 272 (of_bits binary32 0)

zeros : drop 192 flushing ≡ firsts (λ (j : ℕ). ending_symbol (192 + j)) 80
unfolding flushing firsts
zeros = refl

-- the zeros that are left are the last eighty symbols
flushed : written ending_symbol 192 flushing ≡ firsts ending_symbol 272
unfolding flushing
flushed = ap (λ (l : List Float). firsts ending_symbol 192 ++ l) zeros ∙ sym (firsts_cut ending_symbol 192 80)

-- the end's symbols come first
ended : (end : List Float) → end ≡ frame_of end_sign → end ≡ firsts ending_symbol 192
unfolding frame_of
ended end e = e ∙ firsts_same (λ (j : ℕ). of_int binary32 (end_sign j)) ending_symbol 192 (λ i l. rw (lt-ltb i 192 l))

pub returns : goal.returns
unfolding flushing
returns c = rw (c.copy_from_slice.ensures.after, ended _ c.generate_end_of_transmission-end.ensures) flushed
