-- A rate of the sound card: the samples in a symbol, and the filter's taps at that rate. Every span of the rules is a multiple of p. Assumes nothing.
use Rattle.std.specs.Prelude.{◌≡◌, Bool, cond, ◌||◌, List, ℕ, ◌+◌, ◌*◌, ◌/◌, ◌%◌, ◌≤◌, eqb, Float, Option, Some, None}
use Rattle.shaping.specs.Taps.{taps, even_taps}

pub record Rate : Type 0 where
  pub p : ℕ
  pub taps : List Float

-- "A symbol makes ten samples", "the 81 taps"; document 02 k): "A symbol makes five samples; the taps are the even-numbered ones of the table, 41 in all."
abbrev pub rate_at : ℕ → Rate
rate_at p = record { p = p; taps = cond (eqb p 10) taps even_taps }

abbrev pub at48 : Rate
at48 = rate_at 10

abbrev pub at24 : Rate
at24 = rate_at 5

-- the two, in words that `omega` reads
abbrev pub Known : ℕ → Type 0
Known p = (5 ≤ p) × (p ≤ 10) × (p % 5 ≡ 0)

-- ---- "A record says its rate": in samples a second, of which there are 4,800 symbols
-- 15: "any rate but the two"
abbrev pub rate_fit : ℕ → Bool
rate_fit rate = eqb rate 48000 || eqb rate 24000

abbrev pub samples_in_lem : ℕ → ℕ
samples_in_lem rate = rate / 4800

abbrev pub rate_of : ℕ → Rate
rate_of rate = rate_at (samples_in_lem rate)

abbrev pub per_second : ℕ → ℕ
per_second p = 4800 * p

-- ---- the spans that the records keep
-- the taps, and the samples that a filter's window holds: 81 at 48 kHz, 41 at 24 kHz
abbrev pub tap_count : ℕ → ℕ
tap_count p = 8 * p + 1

-- document 02 f): "Keep each sample twice, 81 places apart, in 162 places": the places of the receiver's window; k): "41 samples, twice as in f)"
abbrev pub window_places : ℕ → ℕ
window_places p = 2 * tap_count p

-- the filtered values of a frame: 1,920; "the ring has 960 places"
abbrev pub ring_places : ℕ → ℕ
ring_places p = 192 * p

-- the samples of the longest frame that the sender's store takes: 4,000; "length 2,000"
abbrev pub store_places_lem : ℕ → ℕ
store_places_lem p = 400 * p

-- "One step is 480 samples."; "one TxDelay step is 240 samples"
abbrev pub delay_step_lem : ℕ → ℕ
delay_step_lem p = 48 * p

-- "padding above 122,400"; "padding 61,200": the 255 steps that a TxDelay counts at most
abbrev pub padding_limit_lem : ℕ → ℕ
padding_limit_lem p = 255 * delay_step_lem p

-- "The record's limit for a reported end becomes 33,680,832, raised by 4,000 for the frame and 122,400 for padding."; "a reported end 33,554,432 plus 2,000 and 61,200"
abbrev pub end_limit_lem : ℕ → ℕ
end_limit_lem p = 33554432 + store_places_lem p + padding_limit_lem p

-- "at least 2,000"; "a wish needs room of 1,000"
abbrev pub wish_room_lem : ℕ → ℕ
wish_room_lem p = 200 * p

-- ---- what the functions promise
abbrev pub IsRateSays : ℕ → Bool → Type 0
IsRateSays rate r = r ≡ rate_fit rate

abbrev pub SamplesInSays : ℕ → ℕ → Type 0
SamplesInSays rate r = r ≡ samples_in_lem rate

-- the samples in a symbol at a rate that is one of the two
abbrev pub PerSymbolOfSays : ℕ → Option ℕ → Type 0
PerSymbolOfSays rate r = r ≡ cond (rate_fit rate) (Some (samples_in_lem rate)) None

abbrev pub SamplesSays : ℕ → ℕ → Type 0
SamplesSays p r = r ≡ p
