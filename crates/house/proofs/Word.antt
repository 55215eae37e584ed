-- Eight symbols read as a word: its size, one symbol more, and the window's line that it begins. Assumes nothing.
use mathlib.Core.Path.{◌≡◌, refl, sym, ap, ◌∙◌}
use mathlib.Core.Bool.{cond}
use mathlib.Core.List.{List}
use Prim.Native.Nat.{ℕ, zero, suc, ◌+◌, ◌*◌, ◌^◌, ◌≤◌, ◌<◌}
use native.Mathlib.Nat.{pow-succ', pow-le-pow_right}
use native.Mathlib.Omega.{arith}
use lib.Dec.{T, eqb, eqb→eq, lit<}
use lib.ListN.{take}
use lib.Seq.{get_or-take}
use lib.Ieee.{Float, nan}
use Rattle.protocol.specs.declared.Kind.{Kind}
use Rattle.protocol.specs.declared.Kind.TheVariants.{Lsf, Bert, Stream, Packet}
use Rattle.protocol.specs.Bursts.{word_of}
use Rattle.house.specs.Line.{bits_of, line_of}
use Rattle.house.specs.Accept.{read_bits, symbol_at, sliced_word_lem, accepted, word_in}
use Rattle.house.proofs.Bits.{bits_below}
use Rattle.house.proofs.RoundTrip.{value_at}

module _ (v : ℕ → Float) where
  read_fits : (n : ℕ) → read_bits v n < 4 ^ n
  unfolding read_bits
  read_fits zero = lit< tt
  read_fits (suc n) = omega (arith, read_fits n, bits_below (v n), pow-succ' 4 n)

  pub read_below : (n : ℕ) → n ≤ 8 → read_bits v n < 65536
  read_below n l = omega (arith, read_fits n, pow-le-pow_right {n = 4} (lit< tt) l)

  pub read_step : (n : ℕ) → 4 * read_bits v n + bits_of (v n) ≡ read_bits v (suc n)
  unfolding read_bits
  read_step n = refl

-- ---- the rule sees the first eight symbols only
pub read_same : (v w : ℕ → Float) (n : ℕ) → ((i : ℕ) → i < n → v i ≡ w i) → read_bits v n ≡ read_bits w n
unfolding read_bits
read_same v w zero h = refl
read_same v w (suc n) h = rw (read_same v w n λ i l. h i (omega arith), h n (omega arith))

pub accepted_same : (kind : Kind) (v w : ℕ → Float) → ((i : ℕ) → i < 8 → v i ≡ w i) → accepted kind v ≡ accepted kind w
unfolding accepted
accepted_same kind v w h = rw (read_same v w 8 h)

pub accepted_take : (kind : Kind) (symbols : List Float) → accepted kind (symbol_at (take 8 symbols)) ≡ accepted kind (symbol_at symbols)
accepted_take kind symbols = accepted_same kind (symbol_at (take 8 symbols)) (symbol_at symbols) λ i l. get_or-take 8 symbols i nan l

-- ---- they are the first four digits of the window's line, two bytes
pub word_of_line : (symbols : List Float) → sliced_word_lem symbols ≡ word_in (line_of symbols)
unfolding read_bits word_in
word_of_line symbols =
    rw (value_at symbols 0 (lit< tt), value_at symbols 1 (lit< tt), value_at symbols 2 (lit< tt), value_at symbols 3 (lit< tt)) (omega arith)

pub accepted_by_line : (kind : Kind) (symbols : List Float) → accepted kind (symbol_at symbols) ≡ eqb (word_in (line_of symbols)) (word_of kind)
unfolding accepted
accepted_by_line kind symbols = ap (λ (word : ℕ). eqb word (word_of kind)) (word_of_line symbols)

-- ---- no window is accepted as two kinds
kind_of : ℕ → Kind
kind_of word = cond (eqb word 0x55f7) Lsf (cond (eqb word 0xdf55) Bert (cond (eqb word 0xff5d) Stream Packet))

kind_back : (kind : Kind) → kind_of (word_of kind) ≡ kind
unfolding kind_of word_of
kind_back Lsf = refl
kind_back Bert = refl
kind_back Stream = refl
kind_back Packet = refl

accepted_word : (kind : Kind) (v : ℕ → Float) → T (accepted kind v) → read_bits v 8 ≡ word_of kind
unfolding accepted
accepted_word kind v h = eqb→eq (read_bits v 8) (word_of kind) h

pub one_kind : (j k : Kind) (v : ℕ → Float) → T (accepted j v) → T (accepted k v) → j ≡ k
one_kind j k v a b = sym (kind_back j) ∙ ap kind_of (sym (accepted_word j v a) ∙ accepted_word k v b) ∙ kind_back k
