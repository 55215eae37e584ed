-- Where the list ends, what is unread, and how long it is at the most: over any receiver, and then of the list that the contract names. Assumes nothing.
use mathlib.Core.Path.{◌≡◌, refl, sym, ap}
use mathlib.Core.Bool.{Bool, false}
use mathlib.Core.List.{List, [], ◌∷◌, ◌++◌, map, map-append}
use Prim.Native.Nat.{ℕ, suc, ◌+◌, ◌*◌, ◌≤◌}
use native.Mathlib.Omega.{arith}
use borrow.Author.Tests.{le-ltb}
use lib.Dec.{ltb}
use lib.IntN.{ℤ}
use lib.ListN.{length, take, length-map}
use lib.Ieee.{Float}
use Rattle.machine.specs.Runs.{Machine}
use Rattle.search.specs.declared.Reply.{Reply}
use Rattle.demodulator.specs.Record.{fresh}
use Rattle.demodulator.specs.Calls.{Paper, refusal, nothing, frame, done, carrier}
use Rattle.demodulator.specs.Singles.{Single, sample, reply, Said, blank}
use Rattle.demodulator_run.specs.Run.{single_receiver}
use Rattle.plain.specs.List.{Entry, offer_then, list_from}
use Rattle.plain.specs.Rest.{reply_of}
use Rattle.plain.specs.Listing.{first_list, too_small, Roomy}

-- ---- one sample, by its answer
front_by : (a : Paper) (room : List Float) (g on g' on' : List Entry) (n : ℕ) → g ≡ take (suc n) g' → on ≡ take n on'
    → offer_then a room g on ≡ take (suc n) (offer_then a room g' on')
unfolding offer_then
front_by (frame o) room g on g' on' n e f = ap (λ (es : List Entry). record { due = o; symbols = room } ∷ es) f
front_by (refusal number) room g on g' on' n e f = e
front_by nothing room g on g' on' n e f = e
front_by done room g on g' on' n e f = e
front_by (carrier there) room g on g' on' n e f = e

unread_by : (a : Paper) (room : List Float) (g on g' on' : List Entry) (n : ℕ) → (length g ≤ n → g' ≡ g) → (suc (length on) ≤ n → on' ≡ on)
    → length (offer_then a room g on) ≤ n → offer_then a room g' on' ≡ offer_then a room g on
unfolding offer_then
unread_by (frame o) room g on g' on' n e f h = ap (λ (es : List Entry). record { due = o; symbols = room } ∷ es) (f h)
unread_by (refusal number) room g on g' on' n e f h = e h
unread_by nothing room g on g' on' n e f h = e h
unread_by done room g on g' on' n e f h = e h
unread_by (carrier there) room g on g' on' n e f h = e h

module _ {S : Type 0} (m : Machine S Single Said) where
  front_from : (xs : List ℤ) (rs more : List Reply) (s : S) → list_from m s xs rs ≡ take (suc (length rs)) (list_from m s xs (rs ++ more))
  unfolding list_from
  front_from [] rs more s = refl
  front_from (x ∷ xs) [] [] s = front_by (m.says s (sample x blank)).answer _ _ [] _ [] 0 (front_from xs [] [] _) refl
  front_from (x ∷ xs) [] (y ∷ more) s = front_by (m.says s (sample x blank)).answer _ _ [] _ _ 0 (front_from xs [] (y ∷ more) _) refl
  front_from (x ∷ xs) (r ∷ rs) more s =
      front_by (m.says s (sample x blank)).answer _ _ _ _ _ (suc (length rs)) (front_from xs (r ∷ rs) more _) (front_from xs rs more _)

  unread_from : (xs : List ℤ) (rs more : List Reply) (s : S) → length (list_from m s xs rs) ≤ length rs → list_from m s xs (rs ++ more) ≡ list_from m s xs rs
  unfolding list_from
  unread_from [] rs more s h = refl
  unread_from (x ∷ xs) [] [] s h = refl
  unread_from (x ∷ xs) [] (y ∷ more) s h =
      unread_by (m.says s (sample x blank)).answer _ _ [] _ _ 0 (unread_from xs [] (y ∷ more) _) (λ few. absurd (omega arith)) h
  unread_from (x ∷ xs) (r ∷ rs) more s h =
      unread_by (m.says s (sample x blank)).answer _ _ _ _ _ (suc (length rs)) (unread_from xs (r ∷ rs) more _) (λ few. unread_from xs rs more _ (omega arith)) h

-- ---- an offer is answered, or is the last
most_by : (a : Paper) (room : List Float) (g on : List Entry) (n : ℕ) → length g ≤ n → length on + 1 ≤ n → length (offer_then a room g on) ≤ n
unfolding offer_then
most_by (frame o) room g on n e f = omega arith
most_by (refusal number) room g on n e f = e
most_by nothing room g on n e f = e
most_by done room g on n e f = e
most_by (carrier there) room g on n e f = e

most_from : {S : Type 0} (m : Machine S Single Said) (xs : List ℤ) (rs : List Reply) (s : S) → length (list_from m s xs rs) ≤ length rs + 1
unfolding list_from
most_from m [] rs s = omega arith
most_from m (x ∷ xs) [] s = most_by (m.says s (sample x blank)).answer _ _ [] _ (most_from m xs [] _) (omega arith)
most_from m (x ∷ xs) (y ∷ rs) s =
    let on = most_from m xs rs (m.next (m.next s (sample x blank)) (reply y)) in
    most_by (m.says s (sample x blank)).answer _ _ _ _ (most_from m xs (y ∷ rs) _) (omega arith)

-- ---- of the list that the contract names
module _ (rate : ℕ) (xs : List ℤ) (replies : List Bool) where
  replies_long : length (map reply_of replies) ≡ length replies
  replies_long = length-map replies reply_of

  -- "a list of replies shorter than the offers ends both at the first unanswered offer, which is listed": with fewer replies the list is the front of that with more, an offer for each reply
  -- and one
  pub ends_unanswered : (more : List Bool) → first_list rate xs replies ≡ take (suc (length replies)) (first_list rate xs (replies ++ more))
  unfolding first_list
  ends_unanswered more = rw (map-append reply_of replies more, sym replies_long) (front_from single_receiver xs (map reply_of replies) (map reply_of more) (fresh rate))

  -- "replies left over are unread": where each offer has its reply, any that come after change nothing
  pub left_unread : (more : List Bool) → length (first_list rate xs replies) ≤ length replies → first_list rate xs (replies ++ more) ≡ first_list rate xs replies
  unfolding first_list
  left_unread more all =
      rw (map-append reply_of replies more) (unread_from single_receiver xs (map reply_of replies) (map reply_of more) (fresh rate) (omega (arith, all, replies_long)))

  pub listed_most : length (first_list rate xs replies) ≤ length replies + 1
  unfolding first_list
  listed_most = omega (arith, most_from single_receiver xs (map reply_of replies) (fresh rate), replies_long)

  -- room for an offer more than there are replies is always enough
  pub room_suffices : (numbers : List ℕ) (symbols : List Float) → Roomy (length replies + 1) numbers symbols
      → too_small (length (first_list rate xs replies)) numbers symbols ≡ false
  room_suffices numbers symbols room =
      let n : ltb (length numbers) (5 * length (first_list rate xs replies)) ≡ false = le-ltb (length numbers) (5 * length (first_list rate xs replies)) (omega (arith, listed_most, room.0)) in
      let s : ltb (length symbols) (192 * length (first_list rate xs replies)) ≡ false = le-ltb (length symbols) (192 * length (first_list rate xs replies)) (omega (arith, listed_most, room.1)) in
      rw (n, s) refl
