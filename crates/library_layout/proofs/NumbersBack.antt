-- Numbers that are a receiver's come back as they were, where what is not held is 0; and what is written is such. Assumes nothing.
use Rattle.std.specs.Prelude.{Option, Some, None}
use Rattle.search.specs.declared.Waiting.{Waiting}
use mathlib.Core.Path.{◌≡◌, refl, sym, ap, ◌∙◌}
use mathlib.Core.Bool.{true, cond, ◌&&◌}
use mathlib.Core.List.{List, [], ◌∷◌}
use Prim.Native.Nat.{ℕ, zero, suc, ◌≤◌, ◌<◌, ◌%◌}
use native.Mathlib.Nat.{mod-eq_of_lt}
use native.Mathlib.Omega.{arith}
use borrow.Author.Tests.{leb-true}
use lib.Dec.{leb, eqb}
use lib.ListN.{length, get_or}
use lib.Seq.{ext_get_or}
use lib.Ieee.{Float, nan}
use lib.Ieee.Bits.{is_true}
use lib.Ieee.Fits.{and_l, and_r}
use Rattle.numbers.specs.Firsts.{firsts}
use Rattle.numbers.proofs.Firsts.{length_firsts, firsts_at}
use Rattle.numbers.proofs.Tests.{holds}
use Rattle.protocol.specs.declared.Kind.TheVariants.{Lsf, Bert, Stream, Packet}
use Rattle.search.specs.declared.Candidate.{Candidate}
use Rattle.search.specs.declared.Candidate.TheVariants.{Nothing, Held}
use Rattle.search.specs.declared.Control.{Control}
use Rattle.library_codes.specs.Codes.{flag_number}
use Rattle.library_layout.specs.Layout.{kind_at, is_receiver, candidate_in, wait_in, timer_in, control_in, no_level, no_levels, candidate_numbers, wait_numbers, timer_numbers, numbers_of_lem, levels_of}
use Rattle.library_layout.specs.Within.{Plain}

-- ---- part by part
-- a held candidate's numbers, given three levels
held_again : (kind age since : ℕ) (diff gain shift : Float) → kind ≤ 4 → age ≤ 255
    → (kind ≡ 0 → (age ≡ 0) × (since ≡ 0) × (diff ≡ no_level) × (gain ≡ no_level) × (shift ≡ no_level))
    → candidate_numbers (cond (eqb kind 0) Nothing (Held (kind_at kind) (age % 256) diff gain shift since))
    ≡ record { kind = kind; age = age; taken_at = since; levels = diff ∷ gain ∷ shift ∷ [] }
unfolding kind_at
held_again zero age since diff gain shift k a none = let n = none refl in rw (n.0, n.1, n.2, n.3, n.4)
held_again (suc zero) age since diff gain shift k a none = let m : age % 256 ≡ age = mod-eq_of_lt (omega arith) in rw m
held_again (suc (suc zero)) age since diff gain shift k a none = let m : age % 256 ≡ age = mod-eq_of_lt (omega arith) in rw m
held_again (suc (suc (suc zero))) age since diff gain shift k a none = let m : age % 256 ≡ age = mod-eq_of_lt (omega arith) in rw m
held_again (suc (suc (suc (suc zero)))) age since diff gain shift k a none = let m : age % 256 ≡ age = mod-eq_of_lt (omega arith) in rw m
held_again (suc (suc (suc (suc (suc kind))))) age since diff gain shift k a none = absurd (omega arith)

flag_again : (n : ℕ) → n ≤ 1 → flag_number (eqb n 1) ≡ n
flag_again zero l = refl
flag_again (suc zero) l = refl
flag_again (suc (suc n)) l = absurd (omega arith)

wait_again : (held left kept mark : ℕ) → held ≤ 1 → left ≤ 65535 → kept ≤ 255 → mark ≤ 1 → (held ≡ 0 → (left ≡ 0) × (kept ≡ 0) × (mark ≡ 0))
    → wait_numbers (cond (eqb held 0) None (Some (record { left = left % 65536; age = kept % 256; replaced = eqb mark 1 })))
    ≡ record { held = held; left = left; age = kept; mark = mark }
wait_again zero left kept mark h l a m none = let n = none refl in rw (n.0, n.1, n.2)
wait_again (suc zero) left kept mark h l a m none =
    let x : left % 65536 ≡ left = mod-eq_of_lt (omega arith) in
    let y : kept % 256 ≡ kept = mod-eq_of_lt (omega arith) in
    let f = flag_again mark m in
    λ i. record { held = 1; left = x i; age = y i; mark = f i }
wait_again (suc (suc held)) left kept mark h l a m none = absurd (omega arith)

timer_again : (held end : ℕ) → held ≤ 1 → (held ≡ 0 → end ≡ 0)
    → timer_numbers (cond (eqb held 0) None (Some end)) ≡ record { held = held; end = end }
timer_again zero end t none = rw (none refl)
timer_again (suc zero) end t none = refl
timer_again (suc (suc held)) end t none = absurd (omega arith)

-- a list by its places
listed : {A : Type 0} (d : A) (l : List A) (n : ℕ) → length l ≡ n → firsts (λ (i : ℕ). get_or l i d) n ≡ l
listed d l n e =
    ext_get_or d (firsts (λ (i : ℕ). get_or l i d) n) l (length_firsts (λ (i : ℕ). get_or l i d) n ∙ sym e)
    (λ i k. let b : i < n = rw length_firsts at k in firsts_at (λ (i : ℕ). get_or l i d) n i d b)

module _ (n : List ℕ) where
  record Bounds : Type 0 where
    kind_most : get_or n 4 0 ≤ 4
    age_most : get_or n 5 0 ≤ 255
    held_most : get_or n 7 0 ≤ 1
    left_most : get_or n 8 0 ≤ 65535
    kept_most : get_or n 9 0 ≤ 255
    mark_most : get_or n 10 0 ≤ 1
    timer_most : get_or n 11 0 ≤ 1
    owed_most : get_or n 13 0 ≤ 1

  bounds : is_receiver n ≡ true → Bounds
  bounds e =
      let a = leb (get_or n 4 0) 4 in
      let b = leb (get_or n 5 0) 255 in
      let c = leb (get_or n 7 0) 1 in
      let d = leb (get_or n 8 0) 65535 in
      let f = leb (get_or n 9 0) 255 in
      let g = leb (get_or n 10 0) 1 in
      let h = leb (get_or n 11 0) 1 in
      let o = leb (get_or n 13 0) 1 in
      let t7 = holds e in
      let t6 = and_l (a && b && c && d && f && g && h) o t7 in
      let t5 = and_l (a && b && c && d && f && g) h t6 in
      let t4 = and_l (a && b && c && d && f) g t5 in
      let t3 = and_l (a && b && c && d) f t4 in
      let t2 = and_l (a && b && c) d t3 in
      let t1 = and_l (a && b) c t2 in
      record {
        kind_most = leb-true (get_or n 4 0) 4 (is_true a (and_l a b t1));
        age_most = leb-true (get_or n 5 0) 255 (is_true b (and_r a b t1));
        held_most = leb-true (get_or n 7 0) 1 (is_true c (and_r (a && b) c t2));
        left_most = leb-true (get_or n 8 0) 65535 (is_true d (and_r (a && b && c) d t3));
        kept_most = leb-true (get_or n 9 0) 255 (is_true f (and_r (a && b && c && d) f t4));
        mark_most = leb-true (get_or n 10 0) 1 (is_true g (and_r (a && b && c && d && f) g t5));
        timer_most = leb-true (get_or n 11 0) 1 (is_true h (and_r (a && b && c && d && f && g) h t6));
        owed_most = leb-true (get_or n 13 0) 1 (is_true o (and_r (a && b && c && d && f && g && h) o t7));
      }

  module _ (l : List Float) (many : length n ≡ 14) (three : length l ≡ 3) where
    pub numbers_back : is_receiver n ≡ true → Plain n l
        → (numbers_of_lem (get_or n 0 0) (get_or n 1 0) (get_or n 2 0) (control_in n l) ≡ n) × (levels_of (control_in n l) ≡ l)
    unfolding candidate_in wait_in timer_in firsts
    numbers_back e p =
        let b = bounds e in
        let level : (k : ℕ) → get_or n 4 0 ≡ 0 → get_or l k nan ≡ get_or no_levels k nan =
        λ k z. ap (λ (x : List Float). get_or x k nan) (p.no_candidate z).2 in
        let h =
        held_again (get_or n 4 0) (get_or n 5 0) (get_or n 6 0) (get_or l 0 nan) (get_or l 1 nan) (get_or l 2 nan) b.kind_most b.age_most
        (λ z. ((p.no_candidate z).0, (p.no_candidate z).1, level 0 z, level 1 z, level 2 z)) in
        let d =
        wait_again (get_or n 7 0) (get_or n 8 0) (get_or n 9 0) (get_or n 10 0) b.held_most b.left_most b.kept_most b.mark_most p.no_wait in
        let t = timer_again (get_or n 11 0) (get_or n 12 0) b.timer_most p.no_timer in
        let o = flag_again (get_or n 13 0) b.owed_most in
        let numbers : numbers_of_lem (get_or n 0 0) (get_or n 1 0) (get_or n 2 0) (control_in n l) ≡ firsts (λ (i : ℕ). get_or n i 0) 14 =
        λ i.
        get_or n 0 0 ∷ get_or n 1 0 ∷ get_or n 2 0 ∷ get_or n 3 0 ∷ (h i).kind ∷ (h i).age ∷ (h i).taken_at
        ∷ (d i).held ∷ (d i).left ∷ (d i).age ∷ (d i).mark ∷ (t i).held ∷ (t i).end ∷ o i ∷ [] in
        let levels : levels_of (control_in n l) ≡ firsts (λ (i : ℕ). get_or l i nan) 3 = λ i. (h i).levels in
        (numbers ∙ listed 0 n 14 many, levels ∙ listed nan l 3 three)

-- ---- and what is written is such
plain_candidate : (k : Candidate) → let h = candidate_numbers k in h.kind ≡ 0 → (h.age ≡ 0) × (h.taken_at ≡ 0) × (h.levels ≡ no_levels)
plain_candidate Nothing z = (refl, refl, refl)
plain_candidate (Held Lsf age diff gain shift since) z = absurd (omega arith)
plain_candidate (Held Bert age diff gain shift since) z = absurd (omega arith)
plain_candidate (Held Stream age diff gain shift since) z = absurd (omega arith)
plain_candidate (Held Packet age diff gain shift since) z = absurd (omega arith)

plain_wait : (w : Option Waiting) → let d = wait_numbers w in d.held ≡ 0 → (d.left ≡ 0) × (d.age ≡ 0) × (d.mark ≡ 0)
plain_wait None z = (refl, refl, refl)
plain_wait (Some w) z = absurd (omega arith)

plain_timer : (t : Option ℕ) → (timer_numbers t).held ≡ 0 → (timer_numbers t).end ≡ 0
plain_timer None z = refl
plain_timer (Some end) z = absurd (omega arith)

pub written_plain : (rate windowCursor ringCursor : ℕ) (c : Control) → Plain (numbers_of_lem rate windowCursor ringCursor c) (levels_of c)
written_plain rate windowCursor ringCursor c =
    record { no_candidate = plain_candidate c.candidate; no_wait = plain_wait c.wait; no_timer = plain_timer c.dcd }
