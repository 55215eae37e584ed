-- The list by the rules, one sample further. Assumes nothing.
use Rattle.std.specs.Prelude.{Option}
use mathlib.Core.Path.{◌≡◌, refl, sym, ap, ◌∙◌}
use mathlib.Core.Logic.{inl, inr}
use mathlib.Core.Bool.{false}
use mathlib.Core.List.{List, [], ◌∷◌, ◌++◌, append-nil}
use Prim.Native.Nat.{ℕ, ◌+◌, ◌^◌, ◌≤◌, ◌<◌}
use native.Mathlib.Nat.{eq-or-lt_of_le}
use native.Mathlib.Numerals.{add-one}
use native.Mathlib.Omega.{arith}
use borrow.Author.Tests.{lt-ltb, le-ltb, ne_eqb}
use lib.Dec.{ltb, eqb}
use lib.IntN.{ℤ, pos}
use lib.ListN.{length, get_or, take, drop, drop_of_length-le, length-replicate}
use lib.Seq.{take-suc, drop-cons}
use lib.Ieee.{Float, binary32, of_bits}
use Rattle.numbers.specs.Firsts.{firsts}
use Rattle.shaping.specs.Rate.{tap_count}
use Rattle.search.specs.declared.Candidate.{Candidate}
use Rattle.search.specs.declared.Control.{Control}
use Rattle.search.specs.declared.Shown.{Shown}
use Rattle.search.specs.declared.Reply.{Reply}
use Rattle.search.specs.Turn.{cleared, waited_turn, Outcome, quiet, offer, sampled}
use Rattle.demodulator.specs.Calls.{offer_of}
use Rattle.demodulator.specs.Spans.{eight, symbol_at}
use Rattle.demodulator.specs.Singles.{reply, blank}
use Rattle.demodulator_run.specs.Filter.{ago}
use Rattle.demodulator_run.specs.Rules.{History, After, settled, given, single, single_rules}
use Rattle.plain.specs.declared.pursuit.Pursuit.{Pursuit}
use Rattle.plain.specs.List.{Entry, offer_then, list_from}
use Rattle.plain.specs.Values.{from_whole}
use Rattle.plain.specs.SearchPart.{control_of, free}
use Rattle.plain.specs.Rest.{look_from}
use Rattle.plain.proofs.SampleLaws.{whole_ago}

pub blank_long : length blank ≡ 192
unfolding blank
blank_long = length-replicate 192 (of_bits binary32 0)

-- ---- the list once the samples up to k are in
module _ (table : List Float) (p : ℕ) (xs : List ℤ) where
  abbrev pub at : ℕ → Control → History
  at k c = record { samples = take k xs; control = c }

  abbrev pub after : ℕ → Control → List Reply → List Entry
  after k c rs = list_from (single_rules table p) (at k c) (drop k xs) rs

  abbrev pub shown_entry : Shown → ℕ → ℕ → Entry
  shown_entry shown d n = record { due = offer_of shown n; symbols = firsts (symbol_at p shown (from_whole table p xs d)) 192 }

  -- and after one more sample, by its outcome
  unfoldable pub then_outcome : ℕ → Outcome → List Reply → List Entry
  then_outcome d (quiet c) rs = after d c rs
  then_outcome d (offer shown c) [] = shown_entry shown d c.sample ∷ []
  then_outcome d (offer shown c) (r ∷ rs) = shown_entry shown d c.sample ∷ list_from (single_rules table p) (single table p (at d c) (reply r)).history (drop d xs) rs

module _ (table : List Float) (p : ℕ) (size : length table ≡ tap_count p) (xs : List ℤ) (short : length xs ≤ 65536) where
  pub none_after : (k : ℕ) → length xs ≤ k → (c : Control) (rs : List Reply) → after table p xs k c rs ≡ []
  unfolding list_from
  none_after k past c rs = rw (drop_of_length-le xs {i = k} past)

  -- ---- one sample
  module _ (k : ℕ) (more : k < length xs) (s : Pursuit) (t : Option ℕ) where
    abbrev x : ℤ
    x = get_or xs k (pos 0)

    one_more : take k xs ++ (x ∷ []) ≡ take (k + 1) xs
    one_more = sym (take-suc xs k (pos 0) more) ∙ ap (λ (n : ℕ). take n xs) (sym (add-one k))

    then_rest : drop k xs ≡ x ∷ drop (k + 1) xs
    then_rest = drop-cons xs k (pos 0) more ∙ ap (λ (n : ℕ). x ∷ drop n xs) (sym (add-one k))

    admits : given table p (at table p xs k (control_of s k t)) x blank ≡ settled table p (take (k + 1) xs) blank (sampled p (eight p (from_whole table p xs (k + 1))) (control_of s k t))
    unfolding given
    admits =
        let room : ltb (length blank) 192 ≡ false = le-ltb (length blank) 192 (omega (arith, blank_long)) in
        let count : eqb k (2 ^ 63) ≡ false = ne_eqb k (2 ^ 63) (λ e. omega arith) in
        rw (room, count, one_more, whole_ago table p size xs (k + 1) (omega arith))

    entry_is : (shown : Shown) (n : ℕ)
        → record { due = offer_of shown n; symbols = firsts (symbol_at p shown (ago table p (take (k + 1) xs))) 192 ++ drop 192 blank } ≡ shown_entry table p xs shown (k + 1) n
    entry_is shown n =
        rw (whole_ago table p size xs (k + 1) (omega arith), drop_of_length-le blank {i = 192} (omega (arith, blank_long)), append-nil (firsts (symbol_at p shown (from_whole table p xs (k + 1))) 192)) refl

    -- the list by what the sample came to: without a reply, and with one
    abbrev then_ends : After → List Entry
    then_ends a = offer_then a.said.answer a.said.room (list_from (single_rules table p) a.history (drop (k + 1) xs) []) []

    abbrev then_replied : Reply → List Reply → After → List Entry
    then_replied r rs a =
        offer_then a.said.answer a.said.room (list_from (single_rules table p) a.history (drop (k + 1) xs) (r ∷ rs))
        (list_from (single_rules table p) (single table p a.history (reply r)).history (drop (k + 1) xs) rs)

    by_outcome : (o : Outcome) → given table p (at table p xs k (control_of s k t)) x blank ≡ settled table p (take (k + 1) xs) blank o → (rs : List Reply)
        → list_from (single_rules table p) (at table p xs k (control_of s k t)) (x ∷ drop (k + 1) xs) rs ≡ then_outcome table p xs (k + 1) o rs
    unfolding list_from single settled offer_then then_outcome
    by_outcome (quiet c) e [] = ap then_ends e
    by_outcome (quiet c) e (r ∷ rs) =
        ap (then_replied r rs) e
    by_outcome (offer shown c) e [] =
        ap then_ends e
        ∙ ap (λ (y : Entry). y ∷ []) (entry_is shown c.sample)
    by_outcome (offer shown c) e (r ∷ rs) =
        ap (then_replied r rs) e
        ∙ ap (λ (y : Entry). y ∷ list_from (single_rules table p) (single table p (at table p xs (k + 1) c) (reply r)).history (drop (k + 1) xs) rs) (entry_is shown c.sample)

    pub heard : (o : Outcome) → sampled p (eight p (from_whole table p xs (k + 1))) (control_of s k t) ≡ o → (rs : List Reply)
        → after table p xs k (control_of s k t) rs ≡ then_outcome table p xs (k + 1) o rs
    heard o e rs =
        ap (λ (ys : List ℤ). list_from (single_rules table p) (at table p xs k (control_of s k t)) ys rs) then_rest
        ∙ by_outcome o (admits ∙ ap (settled table p (take (k + 1) xs) blank) e) rs

  -- ---- with no wait, the next sample is searched
  pub look : (k : ℕ) → k ≤ length xs → (candidate : Candidate) (t : Option ℕ) (rs : List Reply)
      → after table p xs k (control_of (free candidate) k t) rs ≡ look_from table p xs (k + 1) candidate (cleared (k + 1) t) rs
  unfolding look_from then_outcome sampled waited_turn
  look k there candidate t rs = elim (eq-or-lt_of_le there) [
    | inl e ↦ none_after k (omega arith) _ rs ∙ rw (lt-ltb (length xs) (k + 1) (omega arith))
    | inr more ↦ heard k more (free candidate) t _ refl rs ∙ rw (le-ltb (length xs) (k + 1) (omega arith))
  ]
