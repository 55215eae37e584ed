-- What the theorems ask is met: a recording with a pause, at each rate, and calls that are refused. Assumes nothing.
use Rattle.std.specs.Prelude.{Err}
use mathlib.Core.Path.{◌≡◌, refl, ◌∙◌}
use mathlib.Core.List.{List, [], ◌∷◌, ◌++◌}
use Prim.Native.Nat.{ℕ, ◌+◌, ◌^◌, ◌≤◌}
use native.Mathlib.Omega.{arith}
use lib.Dec.{lit≤, lit<}
use lib.IntN.{ℤ, pos}
use lib.ListN.{length, drop, replicate, length-append, length-replicate, get_or-replicate, get_or-append}
use lib.Ieee.{Float, binary32, of_bits}
use Rattle.shaping.specs.Rate.{at48, at24}
use Rattle.shaping.proofs.RateFacts.{facts48, facts24}
use Rattle.protocol.specs.declared.Refusal.TheVariants.{RoomTooSmall, WrongRate, NoSuchSample}
use Rattle.replay.specs.FullRun.{all_offers, first_from, later_found}
use Rattle.replay.specs.Pauses.{PauseAt}
use Rattle.replay.specs.Open.{OpenSays}
use Rattle.replay.proofs.TailAnswer.{tail_answer}
use Rattle.replay.proofs.Refusals.{opens_15, opens_4, opens_14_at_0, opens_14_beyond}

-- ---- n zeros, and any samples after them
abbrev paused : ℕ → List ℤ → List ℤ
paused n after = replicate n (pos 0) ++ after

module _ (n : ℕ) (after : List ℤ) where
  long : length (paused n after) ≡ n + length after
  long = length-append (replicate n (pos 0)) after ∙ (let e = length-replicate n (pos 0) in omega arith)

  pub begins_paused : PauseAt n (paused n after) n
  begins_paused = record {
    most = let e = long in omega arith;
    least = omega arith;
    zeros = λ k l u.
        get_or-append (replicate n (pos 0)) after (pos 0) k (let e = length-replicate n (pos 0) in omega arith)
        ∙ get_or-replicate n k (pos 0) (pos 0) u;
  }

-- the sample after the pause asked for, whatever it and the others are: the answer is a fresh receiver's to them
module _ (after : List ℤ) where
  pub after_pause_48 : 4000 + length after ≤ 2 ^ 63
      → first_from 4001 (all_offers at48 (paused 4000 after)) ≡ later_found 4000 (first_from 1 (all_offers at48 (drop 4000 (paused 4000 after))))
  after_pause_48 few = tail_answer at48 facts48 (paused 4000 after) 4000 (begins_paused 4000 after) (let e = long 4000 after in omega arith) 4001 (lit< tt)

  pub after_pause_24 : 2000 + length after ≤ 2 ^ 63
      → first_from 2001 (all_offers at24 (paused 2000 after)) ≡ later_found 2000 (first_from 1 (all_offers at24 (drop 2000 (paused 2000 after))))
  after_pause_24 few = tail_answer at24 facts24 (paused 2000 after) 2000 (begins_paused 2000 after) (let e = long 2000 after in omega arith) 2001 (lit< tt)

-- ---- refusals, in their order: a call to which all of them apply, and then one less
abbrev room_of : ℕ → List Float
room_of n = replicate n (of_bits binary32 0)

refused_15 : OpenSays 44100 [] 0 (room_of 191) (Err WrongRate) (room_of 191)
refused_15 = opens_15 44100 [] 0 (room_of 191) refl

refused_4 : OpenSays 48000 [] 0 (room_of 191) (Err RoomTooSmall) (room_of 191)
refused_4 = opens_4 48000 [] 0 (room_of 191) refl (lit< tt)

refused_14 : OpenSays 48000 [] 0 (room_of 192) (Err NoSuchSample) (room_of 192)
refused_14 = opens_14_at_0 48000 [] 0 (room_of 192) refl (lit≤ tt) (lit≤ tt) refl

refused_14_beyond : OpenSays 24000 (pos 0 ∷ []) 2 (room_of 192) (Err NoSuchSample) (room_of 192)
refused_14_beyond = opens_14_beyond 24000 (pos 0 ∷ []) 2 (room_of 192) refl (lit≤ tt) (lit≤ tt) (lit< tt)
