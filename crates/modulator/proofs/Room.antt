-- What is in the caller's room once one piece is written to its front, and the tail from there is lent on for a second. Assumes nothing.
use mathlib.Core.Path.{◌≡◌, sym, ◌∙◌}
use mathlib.Core.List.{List, [], ◌++◌, append_assoc, append-nil}
use Prim.Native.Nat.{ℕ, ◌+◌, ◌-◌, ◌≤◌, ◌<◌}
use native.Mathlib.Omega.{arith}
use lib.ListN.{length, take, drop, replicate, length-append, length-drop, length-replicate, get_or-replicate, drop_of_length-le}
use lib.Seq.{take_all, take_at, drop_at, drop-drop, ext_get_or}
use Rattle.numbers.specs.Firsts.{firsts, written}
use Rattle.numbers.proofs.Firsts.{length_firsts, firsts_at}

module _ {A : Type 0} where
  -- ---- one value, over and over
  pub same_value : (a d : A) (n : ℕ) → firsts (λ (i : ℕ). a) n ≡ replicate n a
  same_value a d n =
      let f : ℕ → A = λ (i : ℕ). a in
      ext_get_or d (firsts f n) (replicate n a) (length_firsts f n ∙ sym (length-replicate n a))
      (λ i l. let k : i < n = rw length_firsts at l in firsts_at f n i d k ∙ sym (get_or-replicate n i a d k))

  -- ---- the first piece, and the tail that is lent
  module _ (f : ℕ → A) (a : ℕ) (room : List A) (h : a ≤ length room) where
    pub length_front : length (written f a room) ≡ length room
    length_front = simp (length-append, length-drop) (omega (arith, length_firsts f a))

    -- `&mut room[a..]`
    abbrev pub tail : List A
    tail = take (length (written f a room) - a) (drop a (written f a room))

    drop_front : drop a (written f a room) ≡ drop a room
    drop_front = drop_at (firsts f a) (drop a room) a (length_firsts f a)

    no_longer : length (drop a room) ≤ length (written f a room) - a
    no_longer = rw length_front (simp length-drop (omega arith))

    pub tail_is : tail ≡ drop a room
    tail_is = rw drop_front (take_all (length (written f a room) - a) (drop a room) no_longer)

    -- the second piece, and the room as it is back
    pub both_written : (g : ℕ → A) (b : ℕ)
        → take a (written f a room) ++ (written g b tail ++ drop (length (written f a room) - a) (drop a (written f a room)))
        ≡ (firsts f a ++ firsts g b) ++ drop (a + b) room
    both_written g b =
        let behind : drop (length (written f a room) - a) (drop a (written f a room)) ≡ [] = rw drop_front (drop_of_length-le (drop a room) no_longer) in
        rw (behind, tail_is, take_at (firsts f a) (drop a room) a (length_firsts f a), drop-drop) (simp (append-nil, append_assoc))
