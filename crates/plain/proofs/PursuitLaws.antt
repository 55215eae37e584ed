-- What the search makes of the candidate and of the wait depends on no timer, and a wait is held only with a candidate. Assumes nothing.
use Rattle.std.specs.Prelude.{Some, None, Option}
use mathlib.Core.Path.{◌≡◌, refl, sym, ap, ◌∙◌}
use mathlib.Core.Bool.{Bool, true, false, cond}
use Prim.Native.Nat.{ℕ, ◌*◌, ◌<◌}
use lib.Ieee.{Float, lt}
use Rattle.protocol.specs.declared.Kind.{Kind}
use Rattle.protocol.specs.declared.Kind.TheVariants.{Lsf, Bert, Stream, Packet}
use Rattle.protocol.specs.declared.SyncBurst.{SyncBurst}
use Rattle.protocol.specs.declared.SyncBurst.TheVariants.{Frame, Preamble, EndOfTransmission}
use Rattle.decode.specs.Correlator.{correlation, matches}
use Rattle.search.specs.declared.Control.{Control}
use Rattle.search.specs.TakenBurst.{TakenBurst, held_in, held_by, taken}
use Rattle.search.specs.Search.{same_kind, end_after_lem, carried, matched, missed, tried, passed, searched}
use Rattle.search.proofs.SearchSame.{searched_same}
use Rattle.plain.specs.declared.pursuit.Pursuit.{Pursuit}
use Rattle.plain.specs.SearchPart.{idle_timer, control_of, seen}

-- ---- the timer is not read
module _ (k : ℕ) where
  -- a control with another's pursuit, whatever its timer
  abbrev pub Fits : Control → Control → Type 0
  Fits c c₀ = (t : Option ℕ) × (c ≡ control_of (seen c₀) k t)

  fits_cond : (b : Bool) (c c₀ d d₀ : Control) → Fits c c₀ → Fits d d₀ → Fits (cond b c d) (cond b c₀ d₀)
  fits_cond true c c₀ d d₀ f g = f
  fits_cond false c c₀ d d₀ f g = g

  abbrev pub Blind : (Control → Control) → Type 0
  Blind f = (s : Pursuit) (t : Option ℕ) → Fits (f (control_of s k t)) (f (control_of s k idle_timer))

  pub seen_through : (f g : Control → Control) → Blind f → Blind g → (s : Pursuit)
      → seen (g (f (control_of s k idle_timer))) ≡ seen (g (control_of (seen (f (control_of s k idle_timer))) k idle_timer))
  seen_through f g F G s = ap (λ (c : Control). seen (g c)) (F s idle_timer).1 ∙ ap seen (G (seen (f (control_of s k idle_timer))) (F s idle_timer).0).1

  pub blind_then : (f g : Control → Control) → Blind f → Blind g → Blind (λ c. g (f c))
  blind_then f g F G s t =
      let s' : Pursuit = seen (f (control_of s k idle_timer)) in
      let h = G s' (F s t).0 in
      (h.0, ap g (F s t).1 ∙ h.1 ∙ ap (λ (q : Pursuit). control_of q k h.0) (sym (seen_through f g F G s)))

  matched_blind : (h : Option TakenBurst) (new : TakenBurst) (s : Pursuit) (t : Option ℕ) → Fits (matched h new (control_of s k t)) (matched h new (control_of s k idle_timer))
  unfolding matched
  matched_blind None new s t = (t, refl)
  matched_blind (Some u) new s t = fits_cond (lt u.diff new.diff) _ _ _ _ (t, refl) (t, refl)

  missed_blind : (p : ℕ) (kind : Kind) (h : Option TakenBurst) (s : Pursuit) (t : Option ℕ)
      → Fits (missed p kind h (control_of s k t)) (missed p kind h (control_of s k idle_timer))
  unfolding missed
  missed_blind p kind None s t = (t, refl)
  missed_blind p kind (Some u) s t = fits_cond (same_kind u.kind kind) _ _ _ _ (Some (end_after_lem k (384 * p)), refl) (t, refl)

  pub tried_blind : (p : ℕ) (v : ℕ → Float) (kind : Kind) → Blind (tried p v kind)
  unfolding tried
  tried_blind p v kind s t =
      fits_cond (matches (Frame kind) v) _ _ _ _ (matched_blind (held_in s.candidate) (taken kind (correlation (Frame kind) v) k) s t) (missed_blind p kind (held_in s.candidate) s t)

  carried_blind : (p : ℕ) (burst : SyncBurst) (v : ℕ → Float) → Blind (carried p burst v)
  unfolding carried
  carried_blind p burst v s t = fits_cond (matches burst v) _ _ _ _ (Some (end_after_lem k (24 * p)), refl) (t, refl)

  module _ (p : ℕ) (v : ℕ → Float) where
    abbrev early : Control → Control
    early c = carried p EndOfTransmission v (carried p Preamble v c)

    early_blind : Blind early
    early_blind = blind_then (carried p Preamble v) (carried p EndOfTransmission v) (carried_blind p Preamble v) (carried_blind p EndOfTransmission v)

    abbrev one : Control → Control
    one c = tried p v Lsf (early c)

    abbrev two : Control → Control
    two c = tried p v Bert (one c)

    abbrev three : Control → Control
    three c = tried p v Stream (two c)

    one_blind : Blind one
    one_blind = blind_then early (tried p v Lsf) early_blind (tried_blind p v Lsf)

    two_blind : Blind two
    two_blind = blind_then one (tried p v Bert) one_blind (tried_blind p v Bert)

    three_blind : Blind three
    three_blind = blind_then two (tried p v Stream) two_blind (tried_blind p v Stream)

    pub searched_blind : Blind (searched p v)
    unfolding searched passed
    searched_blind = blind_then three (tried p v Packet) three_blind (tried_blind p v Packet)

    -- the first part leaves the pursuit
    seen_carried : (burst : SyncBurst) (s : Pursuit) → seen (carried p burst v (control_of s k idle_timer)) ≡ s
    unfolding carried
    seen_carried burst s = kept (matches burst v)
      where
        kept : (b : Bool) → seen (cond b (control_of s k (Some (end_after_lem k (24 * p)))) (control_of s k idle_timer)) ≡ s
        kept true = refl
        kept false = refl

    seen_early : (s : Pursuit) → seen (early (control_of s k idle_timer)) ≡ s
    seen_early s =
        seen_through (carried p Preamble v) (carried p EndOfTransmission v) (carried_blind p Preamble v) (carried_blind p EndOfTransmission v) s
        ∙ ap (λ (q : Pursuit). seen (carried p EndOfTransmission v (control_of q k idle_timer))) (seen_carried Preamble s)
        ∙ seen_carried EndOfTransmission s

    -- four tries, one after the other, each from what is seen of the one before
    abbrev pub Tries : Kind → Pursuit → Pursuit → Type 0
    Tries kind s r = r ≡ seen (tried p v kind (control_of s k idle_timer))

    four_tries : (s a b c r : Pursuit) → Tries Lsf s a → Tries Bert a b → Tries Stream b c → Tries Packet c r → r ≡ seen (searched p v (control_of s k idle_timer))
    unfolding searched passed
    four_tries s a b c r ea eb ec er =
        let go : Kind → Pursuit → Pursuit = λ kind q. seen (tried p v kind (control_of q k idle_timer)) in
        let e1 : a ≡ seen (one (control_of s k idle_timer)) =
        ea ∙ ap (go Lsf) (sym (seen_early s)) ∙ sym (seen_through early (tried p v Lsf) early_blind (tried_blind p v Lsf) s) in
        let e2 : b ≡ seen (two (control_of s k idle_timer)) = eb ∙ ap (go Bert) e1 ∙ sym (seen_through one (tried p v Bert) one_blind (tried_blind p v Bert) s) in
        let e3 : c ≡ seen (three (control_of s k idle_timer)) = ec ∙ ap (go Stream) e2 ∙ sym (seen_through two (tried p v Stream) two_blind (tried_blind p v Stream) s) in
        er ∙ ap (go Packet) e3 ∙ sym (seen_through three (tried p v Packet) three_blind (tried_blind p v Packet) s)

-- the same of values that agree with others at the eight places
pub search_by_tries : (k p : ℕ) (v w : ℕ → Float) → ((i : ℕ) → i < 8 → v i ≡ w i) → (s a b c r : Pursuit) → Tries k p v Lsf s a → Tries k p v Bert a b
    → Tries k p v Stream b c → Tries k p v Packet c r
    → r ≡ seen (searched p w (control_of s k idle_timer))
search_by_tries k p v w same s a b c r ea eb ec er = four_tries k p v s a b c r ea eb ec er ∙ ap seen (searched_same p v w same (control_of s k idle_timer))

-- ---- a wait is held only with a candidate
abbrev pub Sound : Pursuit → Type 0
Sound s = held_in s.candidate ≡ None → s.wait ≡ None

pub held_some : (u : TakenBurst) → Some u ≡ None → ⊥
held_some u e = cc

sound_cond : (b : Bool) (c d : Control) → Sound (seen c) → Sound (seen d) → Sound (seen (cond b c d))
sound_cond true c d f g = f
sound_cond false c d f g = g

matched_sound : (h : Option TakenBurst) (new : TakenBurst) (c : Control) → Sound (seen (matched h new c))
unfolding matched
matched_sound None new c = λ e. absurd (held_some _ e)
matched_sound (Some u) new c = sound_cond (lt u.diff new.diff) _ _ (λ e. absurd (held_some _ e)) (λ e. absurd (held_some _ e))

missed_sound : (p : ℕ) (kind : Kind) (h : Option TakenBurst) (c : Control) → held_by c ≡ h → Sound (seen c) → Sound (seen (missed p kind h c))
unfolding missed
missed_sound p kind None c e f = f
missed_sound p kind (Some u) c e f = sound_cond (same_kind u.kind kind) _ _ (λ n. absurd (held_some u (sym e ∙ n))) f

tried_sound : (p : ℕ) (v : ℕ → Float) (kind : Kind) (c : Control) → Sound (seen c) → Sound (seen (tried p v kind c))
unfolding tried
tried_sound p v kind c f = sound_cond (matches (Frame kind) v) _ _ (matched_sound (held_by c) _ c) (missed_sound p kind (held_by c) c refl f)

carried_sound : (p : ℕ) (burst : SyncBurst) (v : ℕ → Float) (c : Control) → Sound (seen c) → Sound (seen (carried p burst v c))
unfolding carried
carried_sound p burst v c f = sound_cond (matches burst v) _ _ f f

pub searched_sound : (p : ℕ) (v : ℕ → Float) (c : Control) → Sound (seen c) → Sound (seen (searched p v c))
unfolding searched passed
searched_sound p v c f =
    tried_sound p v Packet _ (tried_sound p v Stream _ (tried_sound p v Bert _ (tried_sound p v Lsf _ (carried_sound p EndOfTransmission v _ (carried_sound p Preamble v c f)))))
