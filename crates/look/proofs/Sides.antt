-- The marks as the code finds them: each burst's signs written out. Assumes nothing.
use mathlib.Core.Path.{◌≡◌, refl, sym, ◌∙◌}
use mathlib.Core.Bool.{Bool, true, false, not, ◌&&◌, ◌||◌}
use Prim.Native.Nat.{ℕ}
use lib.Ieee.{Float, lt}
use Rattle.numbers.specs.Below.{all_below}
use Rattle.protocol.specs.Bursts.{signs_of}
use Rattle.protocol.specs.declared.Kind.TheVariants.{Lsf, Bert, Stream, Packet}
use Rattle.protocol.specs.declared.SyncBurst.TheVariants.{Frame, Preamble, EndOfTransmission}
use Rattle.decode.specs.Correlator.{least_gain, gain_of, shift_of}
use Rattle.look.specs.Marks.{top_of, bottom_of, sides_like, sides_of, mark_from}

module _ (gain : Float) (u0 u1 u2 u3 u4 u5 u6 u7 : Bool) where
  abbrev pub frame_found : Bool
  frame_found =
      not (lt gain least_gain)
      && (u0 && u1 && u2 && u3 && not u4 && not u5 && u6 && not u7
      || not u0 && u1 && not u2 && not u3 && u4 && u5 && u6 && u7
      || not u0 && not u1 && not u2 && not u3 && u4 && u5 && not u6 && u7
      || u0 && not u1 && u2 && u3 && not u4 && not u5 && not u6 && not u7)

  abbrev pub carrier_found : Bool
  carrier_found =
      not (lt gain least_gain)
      && (u0 && not u1 && u2 && not u3 && u4 && not u5 && u6 && not u7
      || u0 && u1 && u2 && u3 && u4 && u5 && not u6 && u7)

module _ (gain shift : Float) (u : ℕ → Float) where
  abbrev above : ℕ → Bool
  above i = lt shift (u i)

  abbrev pub frame_at : Bool
  frame_at = frame_found gain (above 0) (above 1) (above 2) (above 3) (above 4) (above 5) (above 6) (above 7)

  abbrev pub carrier_at : Bool
  carrier_at = carrier_found gain (above 0) (above 1) (above 2) (above 3) (above 4) (above 5) (above 6) (above 7)

  frame_sides : frame_at ≡ not (lt gain least_gain) && (sides_of (Frame Lsf) shift u || sides_of (Frame Bert) shift u || sides_of (Frame Stream) shift u || sides_of (Frame Packet) shift u)
  unfolding sides_like all_below signs_of
  frame_sides = refl

  carrier_sides : carrier_at ≡ not (lt gain least_gain) && (sides_of Preamble shift u || sides_of EndOfTransmission shift u)
  unfolding sides_like all_below signs_of
  carrier_sides = refl

  frame_marked : frame_at ≡ true → mark_from gain shift u ≡ 2
  unfolding mark_from
  frame_marked e = rw (sym frame_sides ∙ e)

  carrier_marked : frame_at ≡ false → carrier_at ≡ true → mark_from gain shift u ≡ 1
  unfolding mark_from
  carrier_marked e g = rw (sym frame_sides ∙ e, sym carrier_sides ∙ g)

  none_marked : frame_at ≡ false → carrier_at ≡ false → mark_from gain shift u ≡ 0
  unfolding mark_from
  none_marked e g = rw (sym frame_sides ∙ e, sym carrier_sides ∙ g)

-- from extremes that were found before
module _ (high low : Float) (u : ℕ → Float) (h : high ≡ top_of u 7) (l : low ≡ bottom_of u 7) where
  pub frame_found_lem : frame_at (gain_of high low) (shift_of high low) u ≡ true
      → 2 ≡ mark_from (gain_of (top_of u 7) (bottom_of u 7)) (shift_of (top_of u 7) (bottom_of u 7)) u
  frame_found_lem e = rw (sym h, sym l) (sym (frame_marked (gain_of high low) (shift_of high low) u e))

  pub carrier_found_lem : frame_at (gain_of high low) (shift_of high low) u ≡ false → carrier_at (gain_of high low) (shift_of high low) u ≡ true
      → 1 ≡ mark_from (gain_of (top_of u 7) (bottom_of u 7)) (shift_of (top_of u 7) (bottom_of u 7)) u
  carrier_found_lem e g = rw (sym h, sym l) (sym (carrier_marked (gain_of high low) (shift_of high low) u e g))

  pub none_found : frame_at (gain_of high low) (shift_of high low) u ≡ false → carrier_at (gain_of high low) (shift_of high low) u ≡ false
      → 0 ≡ mark_from (gain_of (top_of u 7) (bottom_of u 7)) (shift_of (top_of u 7) (bottom_of u 7)) u
  none_found e g = rw (sym h, sym l) (sym (none_marked (gain_of high low) (shift_of high low) u e g))
