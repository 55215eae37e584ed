-- The refusals of opening, in their order, as the promise has them. Assumes nothing.
use Rattle.std.specs.Prelude.{Option, Result, Err}
use Rattle.demodulator.specs.declared.Offer.{Offer}
use Rattle.protocol.specs.declared.Refusal.{Refusal}
use mathlib.Core.Path.{◌≡◌, refl, sym, ap, ◌∙◌}
use mathlib.Core.Bool.{true, false, ◌||◌}
use mathlib.Core.List.{List}
use Prim.Native.Nat.{ℕ, ◌^◌, ◌≤◌, ◌<◌}
use native.Mathlib.Omega.{arith}
use borrow.Author.Tests.{lt-ltb, le-ltb, eq-eqb, ne_eqb}
use lib.Dec.{eqb, ltb}
use lib.IntN.{ℤ}
use lib.ListN.{length}
use lib.Ieee.{Float}
use Rattle.shaping.specs.Rate.{rate_fit, rate_of}
use Rattle.protocol.specs.declared.Refusal.TheVariants.{RoomTooSmall, CountAtItsEnd, WrongRate, NoSuchSample}
use Rattle.replay.specs.FullRun.{all_offers, first_from}
use Rattle.replay.specs.Open.{Left, opened_paper, refused, shows, opened, OpenSays}

module _ (rate : ℕ) (xs : List ℤ) (a : ℕ) (room : List Float) where
  -- the promise, by what the call leaves
  pub promised : (l : Left) → opened rate xs a room ≡ l → (r : Result (Option Offer) Refusal) (after : List Float) → opened_paper r ≡ l.answer → after ≡ l.room
      → OpenSays rate xs a room r after
  promised l e r after p w = record { answers = p ∙ sym (ap (λ (k : Left). k.answer) e); writes = w ∙ sym (ap (λ (k : Left). k.room) e) }

  pub opens_15 : rate_fit rate ≡ false → OpenSays rate xs a room (Err WrongRate) room
  opens_15 e = promised (refused 15 room) (unfold opened in rw e) _ room refl refl

  module _ (e : rate_fit rate ≡ true) where
    pub opens_4 : length room < 192 → OpenSays rate xs a room (Err RoomTooSmall) room
    opens_4 l = promised (refused 4 room) (unfold opened in rw (e, lt-ltb (length room) 192 l)) _ room refl refl

    module _ (l : 192 ≤ length room) where
      pub opens_5 : 2 ^ 63 < length xs → OpenSays rate xs a room (Err CountAtItsEnd) room
      opens_5 n = promised (refused 5 room) (unfold opened in rw (e, le-ltb (length room) 192 l, lt-ltb (2 ^ 63) (length xs) n)) _ room refl refl

      module _ (n : length xs ≤ 2 ^ 63) where
        none_such : eqb a 0 || ltb (length xs) a ≡ true → OpenSays rate xs a room (Err NoSuchSample) room
        none_such f = promised (refused 14 room) (unfold opened in rw (e, le-ltb (length room) 192 l, le-ltb (2 ^ 63) (length xs) n, f)) _ room refl refl

        pub opens_14_at_0 : a ≡ 0 → OpenSays rate xs a room (Err NoSuchSample) room
        opens_14_at_0 z = none_such (rw (eq-eqb a 0 z))

        pub opens_14_beyond : length xs < a → OpenSays rate xs a room (Err NoSuchSample) room
        opens_14_beyond b = none_such (rw (ne_eqb a 0 (λ z. omega arith), lt-ltb (length xs) a b))

        pub opened_shows : 1 ≤ a → a ≤ length xs → opened rate xs a room ≡ shows (first_from a (all_offers (rate_of rate) xs)) room
        unfolding opened
        opened_shows f g = rw (e, le-ltb (length room) 192 l, le-ltb (2 ^ 63) (length xs) n, ne_eqb a 0 (λ z. omega arith), le-ltb (length xs) a g)
