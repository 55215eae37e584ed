-- Lines in a room: how long they are, and what a tail that is lent comes back as. Assumes nothing.
use mathlib.Core.Path.{◌≡◌, ap, ◌∙◌}
use mathlib.Core.List.{List, [], ◌∷◌, ◌++◌, append-nil, flat_map}
use Prim.Native.Nat.{ℕ, ◌-◌, ◌≤◌}
use native.Mathlib.Omega.{arith}
use lib.Dec.{lit≤}
use lib.IntN.{ℤ}
use lib.ListN.{length, take, drop, length-append, length-drop, drop_of_length-le}
use lib.Seq.{take_all}
use lib.Ieee.{Float}
use Rattle.numbers.proofs.Firsts.{length_firsts}
use Rattle.machine.specs.Runs.{Machine, run}
use Rattle.machine.proofs.Parts.{given_joined}
use Rattle.search.specs.declared.Reply.{Reply}
use Rattle.search.specs.declared.Reply.TheVariants.{Accepted, Rejected}
use Rattle.demodulator.specs.Calls.{Paper, refusal, nothing, frame, done, carrier}
use Rattle.demodulator.specs.Singles.{Single, Said}
use Rattle.house.specs.Line.{line_of}
use Rattle.listening.specs.Listener.{Listed, listed_of, listener, offers}
use Rattle.listening.specs.Verdict.{verdict}
use Rattle.listening.proofs.Listener.{offers_joined}
use Rattle.receiving.specs.Text.{if_accepted, lines_of, text_from}

-- ---- a line
pub length_line : (window : List Float) → length (line_of window) ≡ 97
unfolding line_of
length_line window = simp (length-append, length_firsts)

accepted_at_most : (r : Reply) (window : List Float) → length (if_accepted r (line_of window)) ≤ 97
unfolding if_accepted
accepted_at_most Accepted window = omega (arith, length_line window)
accepted_at_most Rejected window = lit≤ tt

-- ---- the lines of offers
pub line_alone : (o : Listed) → lines_of (o ∷ []) ≡ if_accepted o.reply (line_of o.symbols)
unfolding lines_of flat_map
line_alone o = append-nil (if_accepted o.reply (line_of o.symbols))

pub lines_joined : (xs ys : List Listed) → lines_of (xs ++ ys) ≡ lines_of xs ++ lines_of ys
unfolding lines_of
lines_joined = given_joined (λ (o : Listed). if_accepted o.reply (line_of o.symbols))

pub text_joined : {S : Type 0} (m : Machine S Single Said) (s : S) (xs ys : List ℤ) → text_from m s (xs ++ ys) ≡ text_from m s xs ++ text_from m (run (listener m verdict) s xs) ys
text_joined m s xs ys = ap lines_of (offers_joined m verdict s xs ys) ∙ lines_joined (offers m verdict s xs) _

-- an answer makes one line at most
pub line_short : (a : Paper) (window : List Float) → length (lines_of (listed_of verdict a window)) ≤ 97
unfolding listed_of lines_of flat_map
line_short (frame o) window = rw append-nil (accepted_at_most (verdict o.kind window) window)
line_short (refusal number) window = lit≤ tt
line_short nothing window = lit≤ tt
line_short done window = lit≤ tt
line_short (carrier there) window = lit≤ tt

-- ---- the tail of a room from a place on, as it is lent
abbrev pub tail : {A : Type 0} → List A → ℕ → List A
tail room at = take (length room - at) (drop at room)

module _ {A : Type 0} (room : List A) (at : ℕ) where
  no_longer : length (drop at room) ≤ length room - at
  no_longer = simp length-drop (omega arith)

  pub tail_is : tail room at ≡ drop at room
  tail_is = take_all (length room - at) (drop at room) no_longer

  -- and the room once the tail is back
  pub tail_back : (after : List A) → take at room ++ (after ++ drop (length room - at) (drop at room)) ≡ take at room ++ after
  tail_back after =
      let past : drop (length room - at) (drop at room) ≡ [] = drop_of_length-le (drop at room) no_longer in
      rw (past, append-nil after)
