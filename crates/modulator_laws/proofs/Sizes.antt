-- How large the values that enter the window are: a symbol within ±1 makes a pulse within ±35,461, and the symbols of every frame that is taken are such. Assumes nothing.
use mathlib.Core.Path.{◌≡◌, refl, ◌∙◌}
use mathlib.Core.List.{List, [], ◌∷◌}
use Prim.Native.Nat.{ℕ, zero, suc, ◌+◌, ◌-◌, ◌*◌, ◌/◌, ◌%◌, ◌≤◌, ◌<◌}
use native.Mathlib.Nat.{div-lt_iff_lt-mul, mul-le-mul_right, mul_comm, mul-suc, mod-lt, le_of_suc-le-suc}
use native.Mathlib.Omega.{arith}
use lib.Dec.{T, eqb, leb, ltb, lit≤, lit<, leb→le}
use lib.IntN.{ℤ, pos, negsuc, nat_abs}
use lib.ListN.{get_or, set}
use lib.Ieee.{Float, nan, binary32, of_bits, of_int, neg, mul, le}
use lib.Ieee.Fits.{and_i, and_l, and_r}
use lib.Ieee.Positive.{num, den, den_pos}
use Rattle.numbers.specs.Within.{Within, reach}
use Rattle.numbers.specs.Below.{all_below}
use Rattle.numbers.proofs.Below.{all_below_lem}
use Rattle.numbers.proofs.Bounds.{within_more, between, within→tests, mul_within, whole_within}
use Rattle.protocol.specs.declared.SyncBurst.TheVariants.{EndOfTransmission as EndBurst}
use Rattle.protocol.specs.Bursts.{signs_of}
use Rattle.encode.specs.Frames.{preamble_sign, bert_preamble_symbol, end_sign}
use Rattle.pulse.specs.Pulse.{pulses, Line, after}
use Rattle.pulse.proofs.Pulses.{symbol_inside}
use Rattle.given_symbols.specs.declared.Traffic.{Traffic}
use Rattle.given_symbols.specs.declared.Traffic.TheVariants.{Ordinary, Bert}
use Rattle.given_symbols.specs.Offender.{symbol_fit, all_fit}
use Rattle.modulator.specs.Frame.{Symbols, preamble_symbol, preamble, given, ending}
use Rattle.modulator.specs.Fit.{pulse_fit}
use Rattle.modulator_laws.proofs.Picked.{picked}

-- what holds of a value and of the places of a list is so once it is stored
stored : {A : Type 0} (P : A → Type 0) (l : List A) (c i : ℕ) (x d : A) → P x → P (get_or l i d) → P (get_or (set l c x) i d)
stored P [] c i x d p q = q
stored P (y ∷ l) zero zero x d p q = p
stored P (y ∷ l) zero (suc i) x d p q = q
stored P (y ∷ l) (suc c) zero x d p q = q
stored P (y ∷ l) (suc c) (suc i) x d p q = stored P l c i x d p q

-- ---- one value
-- |t| is 1 at most, so |t| * n is n at most
reach_of_one : (t : Float) (n : ℕ) → Within t 1 → reach t n ≤ n
unfolding reach
reach_of_one t n w =
    let d = den t in
    let size : num t * n ≤ d * n = mul-le-mul_right n (omega (arith, w.1)) in
    let some : 0 < d = den_pos t in
    let whole : suc n * d ≡ d * n + d = mul_comm (suc n) d ∙ mul-suc d n in
    let below : (num t * n + (d - 1)) / d < suc n = (div-lt_iff_lt-mul some).1 (omega (arith, size, some, whole)) in
    le_of_suc-le-suc below

-- what is no refusal
pub symbol_size : (x : Float) → T (symbol_fit x) → Within x 1
unfolding symbol_fit of_bits
symbol_size x t =
    let low = of_bits binary32 0xbf80_0000 in
    let high = of_bits binary32 0x3f80_0000 in
    between low x high 1 (refl, refl) (refl, refl) (and_l (le low x) (le x high) t) (and_r (le low x) (le x high) t)

-- "the symbol times 35461.0"
pub pulse_size : (x : Float) → Within x 1 → Within (mul binary32 x (of_bits binary32 0x470a_8500)) 35461
unfolding of_bits
pulse_size x w =
    let full = of_bits binary32 0x470a_8500 in
    let small : reach x 35461 ≤ 35461 = reach_of_one x 35461 w in
    within_more (mul binary32 x full) (reach x 35461) 35461 small (mul_within binary32 x full 35461 (omega arith) w.0 (tt, lit≤ tt))

pub pulses_size : (p : ℕ) (symbol : ℕ → Float) (n : ℕ) → ((i : ℕ) → i < n → Within (symbol i) 1) → (t : ℕ) → t < p * n → Within (pulses p symbol t) 35461
unfolding pulses of_bits
pulses_size p symbol n h t l =
    picked (λ (x : Float). Within x 35461) (eqb (t % p) 0) (mul binary32 (symbol (t / p)) (of_bits binary32 0x470a_8500)) (of_bits binary32 0)
    (λ _. pulse_size (symbol (t / p)) (h (t / p) (symbol_inside p n t l)))
    (λ _. (tt, lit≤ tt))

pub within_pulse : (x : Float) → Within x 35461 → T (pulse_fit x)
unfolding pulse_fit of_bits
within_pulse x w =
    let low = of_bits binary32 0xc70a_8500 in
    let high = of_bits binary32 0x470a_8500 in
    let both = within→tests low x high 35461 (refl, refl) (refl, refl) w in
    and_i (le low x) (le x high) both.0 both.1

-- ---- the window
pub window_stays : (p : ℕ) (e : ℕ → Float) (n : ℕ) (line : Line) (i : ℕ) → ((t : ℕ) → t < n → T (pulse_fit (e t))) → T (pulse_fit (get_or line.window i nan))
    → T (pulse_fit (get_or (after p e n line).window i nan))
unfolding after
window_stays p e zero line i h w = w
window_stays p e (suc n) line i h w =
    stored (λ (x : Float). T (pulse_fit x)) (after p e n line).window (after p e n line).cursor i (e n) nan (h n (omega arith)) (window_stays p e n line i (λ t l. h t (omega arith)) w)

-- ---- the frames' symbols
-- no symbol is larger than 1
abbrev pub Small : Symbols → Type 0
Small s = (i : ℕ) → i < s.count → Within (s.symbol i) 1

-- one computed test over the burst's eight signs
sign_size : (j : ℕ) → j < 8 → nat_abs (get_or (signs_of EndBurst) j (pos 0)) ≤ 1
unfolding all_below signs_of
sign_size j l = leb→le _ 1 (all_below_lem 8 (λ (k : ℕ). leb (nat_abs (get_or (signs_of EndBurst) k (pos 0))) 1) tt j l)

whole_small : (z : ℤ) → nat_abs z ≤ 1 → Within (of_int binary32 z) 1
whole_small z h = within_more (of_int binary32 z) (nat_abs z) 1 h (whole_within binary32 z (omega arith))

pub preamble_small : (traffic : Traffic) → Small (preamble traffic)
unfolding preamble_symbol preamble_sign bert_preamble_symbol of_int neg
preamble_small Ordinary i l = whole_small (preamble_sign i) (picked (λ (z : ℤ). nat_abs z ≤ 1) (eqb (i % 2) 0) (pos 1) (negsuc 0) (λ _. lit≤ tt) (λ _. lit≤ tt))
preamble_small Bert i l = picked (λ (z : ℤ). Within (neg (of_int binary32 z)) 1) (eqb (i % 2) 0) (pos 1) (negsuc 0) (λ _. (tt, lit≤ tt)) (λ _. (tt, lit≤ tt))

pub ending_small : Small ending
unfolding end_sign of_bits
ending_small i l =
    picked (λ (x : Float). Within x 1) (ltb i 192) (of_int binary32 (end_sign i)) (of_bits binary32 0)
    (λ _. whole_small (end_sign i) (sign_size (i % 8) (mod-lt i (lit< tt))))
    (λ _. (tt, lit≤ tt))

pub given_small : (symbols : List Float) → T (all_fit symbols) → Small (given symbols)
given_small symbols t i l = symbol_size (get_or symbols i nan) (all_below_lem 192 (λ (j : ℕ). symbol_fit (get_or symbols j nan)) t i l)
