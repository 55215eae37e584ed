-- What a pass over the four kinds leaves alone, and that it raises an age by one at most: at most one of the kinds matches eight values in range. Assumes nothing.
use Rattle.std.specs.Prelude.{Option, None, Some}
use mathlib.Core.Path.{◌≡◌, refl, ap, ◌∙◌}
use mathlib.Core.Bool.{Bool, true, false, cond}
use Prim.Native.Nat.{ℕ, ◌+◌, ◌^◌, ◌≤◌, ◌<◌}
use native.Mathlib.Nat.{le_refl}
use native.Mathlib.Omega.{arith}
use lib.Dec.{T}
use lib.Ieee.{Float, lt}
use Rattle.numbers.proofs.Tests.{holds}
use Rattle.protocol.specs.declared.Kind.{Kind}
use Rattle.protocol.specs.declared.Kind.TheVariants.{Lsf, Bert, Stream, Packet}
use Rattle.protocol.specs.declared.SyncBurst.{SyncBurst}
use Rattle.protocol.specs.declared.SyncBurst.TheVariants.{Frame, Preamble, EndOfTransmission}
use Rattle.decode.specs.Correlator.{correlation, matches, in_range}
use Rattle.decode.proofs.OneMatch.{one_match}
use Rattle.search.specs.declared.Candidate.{Candidate}
use Rattle.search.specs.declared.Control.{Control}
use Rattle.search.specs.TakenBurst.{TakenBurst, held_in, taken}
use Rattle.search.specs.Search.{rank, same_kind, age_of, carried, matched, missed, tried, passed, searched}
use Rattle.search.proofs.HeldOrNot.{HeldOrNot, not_held, is_held, held_or_not}

-- a property of what a test picks
pub by_test : {A : Type 0} (P : A → Type 0) (t : Bool) (a b : A) → (t ≡ true → P a) → (t ≡ false → P b) → P (cond t a b)
by_test P true a b p q = p refl
by_test P false a b p q = q refl

-- ---- what stays as it was
pub carried_candidate : (p : ℕ) (burst : SyncBurst) (v : ℕ → Float) (c : Control) → (carried p burst v c).candidate ≡ c.candidate
unfolding carried
carried_candidate p burst v c = by_test (λ (d : Control). d.candidate ≡ c.candidate) (matches burst v) _ _ (λ e. refl) (λ e. refl)

pub carried_sample : (p : ℕ) (burst : SyncBurst) (v : ℕ → Float) (c : Control) → (carried p burst v c).sample ≡ c.sample
unfolding carried
carried_sample p burst v c = by_test (λ (d : Control). d.sample ≡ c.sample) (matches burst v) _ _ (λ e. refl) (λ e. refl)

pub record Missed (c d : Control) : Type 0 where
  pub candidate : d.candidate ≡ c.candidate
  pub owed : d.owed ≡ c.owed
  pub sample : d.sample ≡ c.sample

pub missed_keeps : (p : ℕ) (kind : Kind) (held : Option TakenBurst) (c : Control) → Missed c (missed p kind held c)
unfolding missed
missed_keeps p kind None c = record { candidate = refl; owed = refl; sample = refl }
missed_keeps p kind (Some t) c =
    by_test (Missed c) (same_kind t.kind kind) _ _ (λ e. record { candidate = refl; owed = refl; sample = refl }) (λ e. record { candidate = refl; owed = refl; sample = refl })

pub record Hit (c d : Control) : Type 0 where
  pub owed : d.owed ≡ c.owed
  pub sample : d.sample ≡ c.sample

pub matched_keeps : (held : Option TakenBurst) (new : TakenBurst) (c : Control) → Hit c (matched held new c)
unfolding matched
matched_keeps None new c = record { owed = refl; sample = refl }
matched_keeps (Some t) new c = by_test (Hit c) (lt t.diff new.diff) _ _ (λ e. record { owed = refl; sample = refl }) (λ e. record { owed = refl; sample = refl })

tried_sample : (p : ℕ) (v : ℕ → Float) (kind : Kind) (c : Control) → (tried p v kind c).sample ≡ c.sample
unfolding tried
tried_sample p v kind c =
    by_test (λ (d : Control). d.sample ≡ c.sample) (matches (Frame kind) v) _ _
    (λ e. (matched_keeps (held_in c.candidate) _ c).sample) (λ e. (missed_keeps p kind (held_in c.candidate) c).sample)

pub searched_sample : (p : ℕ) (v : ℕ → Float) (c : Control) → (searched p v c).sample ≡ c.sample
unfolding searched passed
searched_sample p v c =
    tried_sample p v Packet _ ∙ tried_sample p v Stream _ ∙ tried_sample p v Bert _ ∙ tried_sample p v Lsf _
    ∙ carried_sample p EndOfTransmission v _ ∙ carried_sample p Preamble v c

pub carried_owed : (p : ℕ) (burst : SyncBurst) (v : ℕ → Float) (c : Control) → (carried p burst v c).owed ≡ c.owed
unfolding carried
carried_owed p burst v c = by_test (λ (d : Control). d.owed ≡ c.owed) (matches burst v) _ _ (λ e. refl) (λ e. refl)

pub tried_owed : (p : ℕ) (v : ℕ → Float) (kind : Kind) (c : Control) → (tried p v kind c).owed ≡ c.owed
unfolding tried
tried_owed p v kind c =
    by_test (λ (d : Control). d.owed ≡ c.owed) (matches (Frame kind) v) _ _
    (λ e. (matched_keeps (held_in c.candidate) _ c).owed) (λ e. (missed_keeps p kind (held_in c.candidate) c).owed)

pub searched_owed : (p : ℕ) (v : ℕ → Float) (c : Control) → (searched p v c).owed ≡ c.owed
unfolding searched passed
searched_owed p v c =
    tried_owed p v Packet _ ∙ tried_owed p v Stream _ ∙ tried_owed p v Bert _ ∙ tried_owed p v Lsf _
    ∙ carried_owed p EndOfTransmission v _ ∙ carried_owed p Preamble v c

-- ---- one match at most
matched_age : (n : ℕ) {candidate : Candidate} → HeldOrNot candidate → (new : TakenBurst) → new.age ≡ 1 → age_of candidate ≤ n → (c : Control) → age_of (matched (held_in candidate) new c).candidate ≤ n + 1
unfolding matched
matched_age n not_held new one h c = omega arith
matched_age n (is_held t) new one h c = by_test (λ (d : Control). age_of d.candidate ≤ n + 1) (lt t.diff new.diff) _ _ (λ e. omega arith) (λ e. omega arith)

same_frame : (j k : Kind) → Frame j ≡ Frame k → j ≡ k
same_frame j k e = cc

-- Midway in a pass, before the kinds of rank i and later: an age has risen by one at most, and not at all if one of these matches.
pub record Passing (v : ℕ → Float) (n i : ℕ) (c : Control) : Type 0 where
  pub most : age_of c.candidate ≤ n + 1
  pub room : (k : Kind) → i ≤ rank k → T (matches (Frame k) v) → age_of c.candidate ≤ n
  pub count : c.sample ≤ 2 ^ 63

pub passing : (v : ℕ → Float) (n : ℕ) (c : Control) → age_of c.candidate ≤ n → c.sample ≤ 2 ^ 63 → Passing v n 0 c
passing v n c h l = record { most = omega arith; room = λ k i t. h; count = l }

module _ (p : ℕ) (v : ℕ → Float) (range : (i : ℕ) → i < 8 → T (in_range (v i))) (n : ℕ) where
  later_silent : (j k : Kind) → rank j + 1 ≤ rank k → T (matches (Frame j) v) → T (matches (Frame k) v) → ⊥
  later_silent j k l s t = omega (arith, ap rank (same_frame j k (one_match v range (Frame j) (Frame k) s t)))

  pub tried_passing : (kind : Kind) (c : Control) → Passing v n (rank kind) c → Passing v n (rank kind + 1) (tried p v kind c)
  unfolding tried
  tried_passing kind c s =
      by_test (Passing v n (rank kind + 1)) (matches (Frame kind) v) _ _
      (λ e. record {
        most = matched_age n (held_or_not c.candidate) _ refl (s.room kind (le_refl _) (holds e)) c;
        room = λ k l t. absurd (later_silent kind k l (holds e) t);
        count = rw (matched_keeps (held_in c.candidate) (taken kind (correlation (Frame kind) v) c.sample) c).sample s.count;
      })
      (λ e.
      let kept = missed_keeps p kind (held_in c.candidate) c in
      record {
        most = rw kept.candidate s.most;
        room = λ k l t. rw kept.candidate (s.room k (omega arith) t);
        count = rw kept.sample s.count;
      })
