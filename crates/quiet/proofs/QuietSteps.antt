-- n quiet steps in one, of a control that waits for nothing and holds nothing: samples at which no burst matches are only counted, and the
-- timer is cleared once for all of them. Assumes nothing.
use Rattle.std.specs.Prelude.{None}
use mathlib.Core.Path.{◌≡◌, refl, ap, subst, ◌∙◌}
use mathlib.Core.Bool.{Bool, true, false}
use Prim.Native.Nat.{ℕ, zero, suc, ◌+◌, ◌^◌, ◌≤◌, ◌<◌}
use native.Mathlib.Omega.{arith}
use lib.Ieee.{Float}
use Rattle.search.specs.declared.Control.{Control}
use Rattle.search.specs.Search.{searched}
use Rattle.search.specs.Turn.{control_of, counted_to, counted}
use Rattle.search.specs.Fit.{held}
use Rattle.search.proofs.SampleByWait.{sampled_free}
use Rattle.search.proofs.Silent.{Unmatched, silent_search}
use Rattle.quiet.specs.Parts.{Leads}
use Rattle.quiet.proofs.Leading.{leads_none, leads_step, leads_next}
use Rattle.quiet.proofs.GoesOn.{Goes, goes_back, counted_once, goes_counted}

-- the control once m samples are counted: none leaves the timer too
abbrev pub reached : ℕ → Control → Control
reached zero c = c
reached (suc m) c = counted_to (c.sample + suc m) c

reached_wait : (m : ℕ) (c : Control) → (reached m c).wait ≡ c.wait
reached_wait zero c = refl
reached_wait (suc m) c = refl

reached_counted : (m : ℕ) (c : Control) → counted (reached m c) ≡ counted_to (c.sample + suc m) c
reached_counted zero c = refl
reached_counted (suc m) c =
    let next : c.sample + suc m + 1 ≡ c.sample + suc (suc m) = omega arith in
    counted_once (c.sample + suc m) (c.sample + suc m + 1) c (omega arith) ∙ ap (λ (n : ℕ). counted_to n c) next

reached_goes : (p m : ℕ) (c : Control) → Goes p c → c.sample + m < 2 ^ 63 → Goes p (reached m c)
reached_goes p zero c g l = g
reached_goes p (suc m) c g l = goes_counted p (c.sample + suc m) c g (omega arith) l

module _ (p : ℕ) (v : ℕ → ℕ → Float) (c : Control) (g : Goes p c) (free : c.wait ≡ None) (at : ℕ) where
  -- one more, which is searched
  search_next : (m : ℕ) → c.sample + suc m ≤ 2 ^ 63 → Leads p v at m c (reached m c)
      → Leads p v at (suc m) c (searched p (v (at + m)) (counted_to (c.sample + suc m) c))
  search_next m l before =
      let d = reached m c in
      let goes_on = goes_back p d (reached_goes p m c g (omega arith)) in
      let ends = ap control_of (sampled_free p (v (at + m)) d (reached_wait m c ∙ free)) ∙ ap (searched p (v (at + m))) (reached_counted m c) in
      leads_next p v at m c d _ before goes_on ends

  module _ (nothing : held c.candidate ≡ false) where
    -- "Searching, with nothing held": n samples at which no burst matches
    pub quiet_steps : (n : ℕ) → c.sample + n ≤ 2 ^ 63 → ((i : ℕ) → i < n → Unmatched (v (at + i))) → Leads p v at n c (reached n c)
    quiet_steps zero l none = leads_none p v at c
    quiet_steps (suc n) l none =
        subst (Leads p v at (suc n) c) (silent_search p (v (at + n)) (counted_to (c.sample + suc n) c) (none n (omega arith)) nothing)
        (search_next n l (quiet_steps n (omega arith) (λ i h. none i (omega arith))))

    -- and one after them that is searched
    pub search_after : (m : ℕ) → c.sample + suc m ≤ 2 ^ 63 → ((i : ℕ) → i < m → Unmatched (v (at + i)))
        → Leads p v at (suc m) c (searched p (v (at + m)) (counted_to (c.sample + suc m) c))
    search_after m l none = search_next m l (quiet_steps m (omega arith) none)

  -- the next one, whatever is held
  pub search_one : c.sample + 1 ≤ 2 ^ 63 → Leads p v at 1 c (searched p (v at) (counted_to (c.sample + 1) c))
  search_one l =
      subst (Leads p v at 1 c) (ap control_of (sampled_free p (v at) c free)) (leads_step p v at c (goes_back p c g))

  -- the m after this one are unmatched, if nothing is held; else there are none
  pub search_some : (m : ℕ) → c.sample + suc m ≤ 2 ^ 63 → (b : Bool) → held c.candidate ≡ b → (b ≡ true → m ≡ 0)
      → (b ≡ false → (i : ℕ) → i < m → Unmatched (v (at + i)))
      → Leads p v at (suc m) c (searched p (v (at + m)) (counted_to (c.sample + suc m) c))
  search_some m l true e none some =
      let zero-m : m ≡ 0 = none refl in
      let here : at + 0 ≡ at = omega arith in
      rw (zero-m, here) (search_one (omega arith))
  search_some m l false e none some = search_after e m l (some refl)

  pub quiet_counted : held c.candidate ≡ false → (n : ℕ) → 1 ≤ n → c.sample + n ≤ 2 ^ 63 → ((i : ℕ) → i < n → Unmatched (v (at + i)))
      → Leads p v at n c (counted_to (c.sample + n) c)
  quiet_counted nothing zero s l none = absurd (omega arith)
  quiet_counted nothing (suc n) s l none = quiet_steps nothing (suc n) l none
