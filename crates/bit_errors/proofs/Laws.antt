-- What the link-test desk can rely on, of the answers. Assumes nothing.
use mathlib.Core.Path.{◌≡◌, refl, sym, ap, ◌∙◌}
use mathlib.Core.Logic.{◌↔◌}
use mathlib.Core.Bool.{Bool, true, false, not, cond}
use mathlib.Core.List.{List, [], ◌∷◌, ◌++◌}
use Prim.Native.Nat.{ℕ, zero, suc, ◌+◌, ◌≤◌, ◌<◌}
use native.Mathlib.Omega.{arith}
use borrow.Author.Tests.{eqb-true, eq-eqb}
use lib.Dec.{eqb}
use lib.ListN.{length, get_or}
use lib.Ieee.{Float, nan}
use Rattle.protocol.specs.Refusals.{bare}
use Rattle.decode.specs.Slicer.{sliced}
use Rattle.bit_errors.specs.Errors.{Paper, refusal, errors, bits_of, differences, bit_errors_lem}
use Rattle.bit_errors.proofs.Counts.{symmetric, few, none, same, joined, two_bits, number_of_bits, bits_joined, first_symbol}

-- the count of two lists of symbols
abbrev pub count : List Float → List Float → ℕ
count sent received = differences (bits_of sent) (bits_of received)

-- all slices agree
abbrev pub Agree : List Float → List Float → Type 0
Agree sent received = (i : ℕ) → i < length sent → sliced (get_or sent i nan) ≡ sliced (get_or received i nan)

-- ---- the answer of two payloads is their count
counted : (sent received : List Float) → length sent ≡ 184 → length received ≡ 184 → bit_errors_lem sent received ≡ errors (count sent received)
unfolding bit_errors_lem
counted sent received l m = rw (eq-eqb (length sent) 184 l, eq-eqb (length received) 184 m)

-- the number that an answer tells
number_in : Paper → ℕ
number_in (refusal why) = 0
number_in (errors n) = n

-- ---- none
agree_if_none : (sent received : List Float) → length sent ≡ length received → count sent received ≡ 0 → Agree sent received
agree_if_none [] received l z i m = absurd (omega arith)
agree_if_none (x ∷ xs) [] l z i m = absurd (omega arith)
agree_if_none (x ∷ xs) (y ∷ ys) l z zero m = same (sliced x) (sliced y) (two_bits x ∙ sym (two_bits y)) (omega (arith, first_symbol x y xs ys))
agree_if_none (x ∷ xs) (y ∷ ys) l z (suc i) m = agree_if_none xs ys (omega arith) (omega (arith, first_symbol x y xs ys)) i (omega arith)

none_if_agree : (sent received : List Float) → length sent ≡ length received → Agree sent received → count sent received ≡ 0
unfolding bits_of differences
none_if_agree [] [] l a = refl
none_if_agree [] (y ∷ ys) l a = absurd (omega arith)
none_if_agree (x ∷ xs) [] l a = absurd (omega arith)
none_if_agree (x ∷ xs) (y ∷ ys) l a =
    let head : differences (sliced x) (sliced y) ≡ 0 = ap (λ (bits : List ℕ). differences (sliced x) bits) (sym (a 0 (omega arith))) ∙ none (sliced x) in
    let rest : count xs ys ≡ 0 = none_if_agree xs ys (omega arith) (λ i m. a (suc i) (omega arith)) in
    omega (arith, first_symbol x y xs ys, head, rest)

-- "0 exactly if all slices agree"
pub none_exactly : (sent received : List Float) → length sent ≡ 184 → length received ≡ 184 → (bit_errors_lem sent received ≡ errors 0) ↔ Agree sent received
unfolding number_in
none_exactly sent received l m =
    let answer = counted sent received l m in (
      λ told. agree_if_none sent received (l ∙ sym m) (ap number_in (sym answer ∙ told)),
      λ agree. answer ∙ ap errors (none_if_agree sent received (l ∙ sym m) agree),
    )

-- ---- which payload was sent makes no difference, refused or not
pub count_symmetric : (sent received : List Float) → bit_errors_lem sent received ≡ bit_errors_lem received sent
unfolding bit_errors_lem
count_symmetric sent received = go (eqb (length sent) 184) (eqb (length received) 184)
  where
    go : (t u : Bool)
        → cond (not t) (refusal (bare 6)) (cond (not u) (refusal (bare 6)) (errors (count sent received)))
        ≡ cond (not u) (refusal (bare 6)) (cond (not t) (refusal (bare 6)) (errors (count received sent)))
    go true true = ap errors (symmetric (bits_of sent) (bits_of received))
    go true false = refl
    go false true = refl
    go false false = refl

-- ---- at most two bits a symbol
number_few : (sent received : List Float) → number_in (bit_errors_lem sent received) ≤ 368
unfolding bit_errors_lem number_in
number_few sent received = go (eqb (length sent) 184) refl (eqb (length received) 184)
  where
    go : (t : Bool) → eqb (length sent) 184 ≡ t → (u : Bool) → number_in (cond (not t) (refusal (bare 6)) (cond (not u) (refusal (bare 6)) (errors (count sent received)))) ≤ 368
    go true e true = omega (arith, few (bits_of sent) (bits_of received), number_of_bits sent, eqb-true (length sent) 184 e)
    go true e false = omega arith
    go false e u = omega arith

pub at_most : (sent received : List Float) (n : ℕ) → bit_errors_lem sent received ≡ errors n → n ≤ 368
unfolding number_in
at_most sent received n told =
    let same : number_in (bit_errors_lem sent received) ≡ n = ap number_in told in
    omega (arith, same, number_few sent received)

-- ---- the sum over the parts of a split
pub count_joined : (a b c d : List Float) → length a ≡ length b → length (a ++ c) ≡ 184 → length (b ++ d) ≡ 184 → bit_errors_lem (a ++ c) (b ++ d) ≡ errors (count a b + count c d)
count_joined a b c d l m n =
    let sum : count (a ++ c) (b ++ d) ≡ count a b + count c d =
    rw (bits_joined a c, bits_joined b d) (joined (bits_of a) (bits_of b) (bits_of c) (bits_of d) (omega (arith, number_of_bits a, number_of_bits b))) in
    counted (a ++ c) (b ++ d) m n ∙ ap errors sum
