-- A control's numbers mean that control, and are a receiver's. Assumes nothing.
use Rattle.std.specs.Prelude.{Option, Some, None}
use Rattle.search.specs.declared.Waiting.{Waiting}
use mathlib.Core.Path.{◌≡◌, refl}
use mathlib.Core.Bool.{Bool, true, false, cond, ◌&&◌}
use mathlib.Core.List.{List}
use Prim.Native.Nat.{ℕ, ◌<◌, ◌%◌}
use native.Mathlib.Nat.{mod-eq_of_lt, mod-lt}
use native.Mathlib.Omega.{arith}
use borrow.Author.Tests.{le-leb}
use lib.Dec.{leb, eqb, lit<}
use lib.ListN.{get_or}
use lib.Ieee.{Float, nan}
use Rattle.protocol.specs.declared.Kind.TheVariants.{Lsf, Bert, Stream, Packet}
use Rattle.search.specs.declared.Candidate.{Candidate}
use Rattle.search.specs.declared.Candidate.TheVariants.{Nothing, Held}
use Rattle.search.specs.declared.Control.{Control}
use Rattle.search.specs.Search.{age_of}
use Rattle.search.proofs.AgeInPass.{by_test}
use Rattle.library_codes.specs.Codes.{flag_number}
use Rattle.library_layout.specs.declared.notation.CandidateNumbers.{CandidateNumbers}
use Rattle.library_layout.specs.declared.notation.WaitNumbers.{WaitNumbers}
use Rattle.library_layout.specs.declared.notation.TimerNumbers.{TimerNumbers}
use Rattle.library_layout.specs.Layout.{kind_at, is_receiver, candidate_in, wait_in, timer_in, control_in, candidate_numbers, wait_numbers, timer_numbers, numbers_of_lem, levels_of}
use Rattle.library_layout.specs.Within.{left_of, kept_age, Holdable}

-- ---- part by part
abbrev candidate_by : CandidateNumbers → Candidate
candidate_by h =
    cond (eqb h.kind 0) Nothing
    (Held (kind_at h.kind) (h.age % 256) (get_or h.levels 0 nan) (get_or h.levels 1 nan) (get_or h.levels 2 nan) h.taken_at)

candidate_back : (c : Candidate) → age_of c < 256 → candidate_by (candidate_numbers c) ≡ c
unfolding kind_at
candidate_back Nothing l = refl
candidate_back (Held Lsf age diff gain shift since) l = rw (mod-eq_of_lt l)
candidate_back (Held Bert age diff gain shift since) l = rw (mod-eq_of_lt l)
candidate_back (Held Stream age diff gain shift since) l = rw (mod-eq_of_lt l)
candidate_back (Held Packet age diff gain shift since) l = rw (mod-eq_of_lt l)

flag_back : (b : Bool) → (eqb (flag_number b) 1 ≡ b) × (leb (flag_number b) 1 ≡ true)
flag_back true = (refl, refl)
flag_back false = (refl, refl)

abbrev wait_by : WaitNumbers → Option Waiting
wait_by d = cond (eqb d.held 0) None (Some (record { left = d.left % 65536; age = d.age % 256; replaced = eqb d.mark 1 }))

wait_back : (w : Option Waiting) → left_of w < 65536 → kept_age w < 256 → wait_by (wait_numbers w) ≡ w
wait_back None l k = refl
wait_back (Some w) l k =
    let f = (flag_back w.replaced).0 in
    let m = mod-eq_of_lt l in
    let n = mod-eq_of_lt k in
    λ i. Some (record { left = m i; age = n i; replaced = f i })

abbrev timer_by : TimerNumbers → Option ℕ
timer_by t = cond (eqb t.held 0) None (Some t.end)

timer_back : (t : Option ℕ) → timer_by (timer_numbers t) ≡ t
timer_back None = refl
timer_back (Some end) = refl

-- ---- the whole control, where its ages are below 256 and its wait below 65,536
pub control_back : (rate windowCursor ringCursor : ℕ) (c : Control) → Holdable c
    → control_in (numbers_of_lem rate windowCursor ringCursor c) (levels_of c) ≡ c
unfolding candidate_in wait_in timer_in
control_back rate windowCursor ringCursor c h =
    let x : candidate_by (candidate_numbers c.candidate) ≡ c.candidate = candidate_back c.candidate h.age in
    let y : wait_by (wait_numbers c.wait) ≡ c.wait = wait_back c.wait h.left h.kept in
    let z : timer_by (timer_numbers c.dcd) ≡ c.dcd = timer_back c.dcd in
    let o = (flag_back c.owed).0 in
    λ i. record { candidate = x i; wait = y i; dcd = z i; owed = o i; sample = c.sample }

-- ---- they are a receiver's
kind_small : (c : Candidate) → age_of c < 256 → (leb (candidate_numbers c).kind 4 ≡ true) × (leb (candidate_numbers c).age 255 ≡ true)
kind_small Nothing l = (refl, refl)
kind_small (Held Lsf age diff gain shift since) l = (refl, le-leb age 255 (omega arith))
kind_small (Held Bert age diff gain shift since) l = (refl, le-leb age 255 (omega arith))
kind_small (Held Stream age diff gain shift since) l = (refl, le-leb age 255 (omega arith))
kind_small (Held Packet age diff gain shift since) l = (refl, le-leb age 255 (omega arith))

record WaitSmall (d : WaitNumbers) : Type 0 where
  held : leb d.held 1 ≡ true
  left : leb d.left 65535 ≡ true
  age : leb d.age 255 ≡ true
  mark : leb d.mark 1 ≡ true

wait_small : (w : Option Waiting) → left_of w < 65536 → kept_age w < 256 → WaitSmall (wait_numbers w)
wait_small None l k = record { held = refl; left = refl; age = refl; mark = refl }
wait_small (Some w) l k =
    record {
      held = refl;
      left = le-leb w.left 65535 (omega arith);
      age = le-leb w.age 255 (omega arith);
      mark = (flag_back w.replaced).1;
    }

timer_small : (t : Option ℕ) → leb (timer_numbers t).held 1 ≡ true
timer_small None = refl
timer_small (Some end) = refl

abbrev Eight : Bool → Bool → Bool → Bool → Bool → Bool → Bool → Bool → Bool
Eight a b c d e f g h = a && b && c && d && e && f && g && h

pub written_receiver : (rate windowCursor ringCursor : ℕ) (c : Control) → Holdable c
    → is_receiver (numbers_of_lem rate windowCursor ringCursor c) ≡ true
written_receiver rate windowCursor ringCursor c h =
    let k = kind_small c.candidate h.age in
    let w = wait_small c.wait h.left h.kept in
    let t = timer_small c.dcd in
    let o = (flag_back c.owed).1 in
    λ i. Eight (k.0 i) (k.1 i) (w.held i) (w.left i) (w.age i) (w.mark i) (t i) (o i)

-- ---- whatever the numbers, what they mean is a control that a record can hold: so what is written of it means the same
pub in_holdable : (n : List ℕ) (l : List Float) → Holdable (control_in n l)
unfolding candidate_in wait_in
in_holdable n l = record {
  age = by_test (λ (c : Candidate). age_of c < 256) (eqb (get_or n 4 0) 0) _ _ (λ e. lit< tt) (λ e. mod-lt (get_or n 5 0) (lit< tt));
  left = by_test (λ (w : Option Waiting). left_of w < 65536) (eqb (get_or n 7 0) 0) _ _ (λ e. lit< tt) (λ e. mod-lt (get_or n 8 0) (lit< tt));
  kept = by_test (λ (w : Option Waiting). kept_age w < 256) (eqb (get_or n 7 0) 0) _ _ (λ e. lit< tt) (λ e. mod-lt (get_or n 9 0) (lit< tt));
}

pub meant_again : (n : List ℕ) (l : List Float) (rate windowCursor ringCursor : ℕ)
    → control_in (numbers_of_lem rate windowCursor ringCursor (control_in n l)) (levels_of (control_in n l)) ≡ control_in n l
meant_again n l rate windowCursor ringCursor = control_back rate windowCursor ringCursor (control_in n l) (in_holdable n l)
