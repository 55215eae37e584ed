-- "Whatever the send program writes from good lines is accepted, with the stated zeros put before it." Assumes nothing.
use mathlib.Core.Path.{◌≡◌, refl, sym, ap, ◌∙◌}
use mathlib.Core.List.{List, [], ◌∷◌, ◌++◌, flatten}
use Prim.Native.Nat.{ℕ, zero, suc, ◌≤◌}
use native.Mathlib.Omega.{arith}
use lib.IntN.{ℤ, pos}
use lib.ListN.{length, get_or, drop, replicate}
use lib.Ieee.Casts.{to_signed_in}
use mir.Syntax.{w16}
use mir.Val.{SFits}
use Rattle.numbers.specs.Firsts.{firsts}
use Rattle.machine.specs.Runs.{Each}
use Rattle.machine.proofs.Parts.{each_joined}
use Rattle.modulator_run.specs.Stream.{sent_at}
use Rattle.house.specs.Samples.{bytes_of}
use Rattle.house.proofs.Samples.{sample_back}
use Rattle.sending.specs.Text.{none, bad_line_lem, stream_samples, samples_sent, sample_bytes}
use Rattle.sending.specs.Calls.{opened}
use Rattle.sending.specs.Run.{Fitting, calls_over, written_by}
use Rattle.sending.proofs.SendRun.{send_run}
use Rattle.supplier.specs.Check.{yes, ours, checked}
use Rattle.supplier.proofs.CheckExactly.{yes_where}

-- ---- samples of sixteen bits that have the same bytes are the same
two_heads : {a b c d : ℕ} {l k : List ℕ} → ◌≡◌ {A = List ℕ} (a ∷ (b ∷ l)) (c ∷ (d ∷ k)) → (a ≡ c) × ((b ≡ d) × (l ≡ k))
two_heads {a} {b} {c} {d} {l} {k} e = (ap (λ (z : List ℕ). get_or z 0 0) e, (ap (λ (z : List ℕ). get_or z 1 0) e, ap (drop 2) e))

never_empty : {a : ℕ} {l : List ℕ} → ◌≡◌ {A = List ℕ} (a ∷ l) [] → ⊥
never_empty e = let z : suc _ ≡ 0 = ap length e in omega (arith, z)

bytes_first : (x : ℤ) (xs : List ℤ) → sample_bytes (x ∷ xs) ≡ get_or (bytes_of x) 0 0 ∷ (get_or (bytes_of x) 1 0 ∷ sample_bytes xs)
unfolding sample_bytes flatten bytes_of
bytes_first x xs = refl

bytes_nil : sample_bytes [] ≡ []
unfolding sample_bytes flatten
bytes_nil = refl

same_bytes : (xs ys : List ℤ) → Each (SFits w16) xs → Each (SFits w16) ys → sample_bytes xs ≡ sample_bytes ys → xs ≡ ys
unfolding Each
same_bytes [] [] a b e = refl
same_bytes [] (y ∷ ys) a b e = absurd (never_empty (sym (sym bytes_nil ∙ e ∙ bytes_first y ys)))
same_bytes (x ∷ xs) [] a b e = absurd (never_empty (sym (bytes_first x xs) ∙ e ∙ bytes_nil))
same_bytes (x ∷ xs) (y ∷ ys) a b e =
    let heads = two_heads (sym (bytes_first x xs) ∙ e ∙ bytes_first y ys) in
    let first : x ≡ y = sym (sample_back x a.0.sfits) ∙ rw (heads.0, heads.1.0) (sample_back y b.0.sfits) in
    rw (first, same_bytes xs ys a.1 b.1 heads.1.1)

-- ---- what is sent has sixteen bits
each_firsts : (f : ℕ → ℤ) → ((i : ℕ) → SFits w16 (f i)) → (n : ℕ) → Each (SFits w16) (firsts f n)
unfolding firsts Each
each_firsts f h zero = tt
each_firsts f h (suc n) = each_joined (SFits w16) (firsts f n) (f n ∷ []) (each_firsts f h n) (h n, tt)

pub sent_sixteen : (text : List ℕ) → Each (SFits w16) (samples_sent text)
unfolding stream_samples sent_at
sent_sixteen text = each_firsts _ (λ i. record { sfits = to_signed_in 15 _ }) _

-- From every text of good lines, in whatever pieces `send` reads it: the samples whose bytes it writes, after the stated zeros.
pub send_accepted : (padding : ℕ) → padding ≤ 122400 → (reads : List (List ℕ)) → Fitting opened.sending reads → bad_line_lem (flatten reads) ≡ none
    → (samples : List ℤ) → Each (SFits w16) samples → sample_bytes samples ≡ written_by (calls_over reads)
    → checked padding (flatten reads) (replicate padding (pos 0) ++ samples) ≡ yes
unfolding ours
send_accepted padding few reads fit good samples sixteen written =
    let text : List ℕ = flatten reads in
    let same : samples ≡ samples_sent text = same_bytes samples (samples_sent text) sixteen (sent_sixteen text) (written ∙ (send_run reads fit).written) in
    yes_where padding text (replicate padding (pos 0) ++ samples) (few, good) (ap (λ (l : List ℤ). replicate padding (pos 0) ++ l) same)
