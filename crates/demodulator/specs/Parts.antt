-- What the crate's own functions ask and promise that are lent the window and the ring: the definitions of `Record` and `Fit`, of a record that is given by its parts. Assumes nothing.
use Rattle.std.specs.Prelude.{◌≡◌, Bool, true, ◌&&◌, List, ℕ, ◌+◌, ◌%◌, ltb, ℤ, Float}
use Rattle.shaping.specs.Rate.{rate_fit, rate_at, tap_count, ring_places}
use Rattle.search.specs.declared.Control.{Control}
use Rattle.search.specs.Fit.{control_fit_lem}
use Rattle.demodulator.specs.Record.{assembled, stored}
use Rattle.demodulator.specs.Fit.{halves_agree_lem, fit_for_sample_lem, fit_for_reply_lem}

-- the window and the ring after a sample is stored, whatever the rate says and the control is
abbrev pub Stores : ℕ → List ℤ → ℕ → List Float → ℕ → ℤ → List ℤ → List Float → Type 0
Stores p window windowCursor ring ringCursor x window' ring' =
    (rate : ℕ) (c : Control) → assembled rate window' ((windowCursor + 1) % tap_count p) ring' ((ringCursor + 1) % ring_places p) c ≡ stored (rate_at p) (assembled rate window windowCursor ring ringCursor c) x

-- of a record whose rate is one of the two: of its window fitness reads whether the halves agree, which is tested once, and of its ring a sample's or a reply's places only
abbrev pub TestsRecord : ℕ → Bool → ℕ → ℕ → Control → Bool → Type 0
TestsRecord p halves windowCursor ringCursor c r =
    r ≡ (halves && (ltb windowCursor (tap_count p) && ltb ringCursor (ring_places p)) && control_fit_lem p c)

abbrev pub TestsForSample : ℕ → Bool → List Float → ℕ → ℕ → Control → Bool → Type 0
TestsForSample p halves ring windowCursor ringCursor c r =
    (rate : ℕ) (window : List ℤ) → rate_fit rate ≡ true → halves ≡ halves_agree_lem p window → r ≡ fit_for_sample_lem p (assembled rate window windowCursor ring ringCursor c)

abbrev pub TestsForReply : ℕ → Bool → List Float → ℕ → ℕ → Control → Bool → Type 0
TestsForReply p halves ring windowCursor ringCursor c r =
    (rate : ℕ) (window : List ℤ) → rate_fit rate ≡ true → halves ≡ halves_agree_lem p window → r ≡ fit_for_reply_lem p (assembled rate window windowCursor ring ringCursor c)
