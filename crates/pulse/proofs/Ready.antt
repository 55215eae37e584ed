-- What `push_symbols` promises, by its cases: all symbols are sent, or all is given back as it was. Assumes nothing.
use mathlib.Core.Path.{◌≡◌, refl, sym}
use mathlib.Core.Logic.{⊎_elim}
use mathlib.Core.Bool.{Bool, true, false, cond, and-false}
use mathlib.Core.List.{List}
use Prim.Native.Nat.{ℕ, ◌*◌, ◌/◌, ◌≤◌, ◌<◌}
use native.Mathlib.Nat.{mul_comm, div-lt_iff_lt-mul}
use native.Mathlib.Omega.{arith}
use borrow.Author.Tests.{lt-ltb, le-ltb, le-leb, lt-leb}
use lib.Dec.{ltb}
use lib.IntN.{ℤ}
use lib.ListN.{length}
use lib.Ieee.{Float}
use Rattle.std.specs.Prelude.{Some, None}
use Rattle.std.proofs.lemmas.Option.{cond_some, none-some}
use Rattle.numbers.proofs.Tests.{lt_or_le}
use Rattle.shaping.specs.Rate.{rate_fit, samples_in_lem, rate_at, rate_of, tap_count, PerSymbolOfSays}
use Rattle.pulse.specs.Pulse.{pulses, listed, line_at, Sent}
use Rattle.pulse.specs.Promises.{ready, passed, PushSymbolsSays}

-- ---- what the samples in a symbol say of the rate
pub fit_by : (rate p : ℕ) → PerSymbolOfSays rate (Some p) → rate_fit rate ≡ true
fit_by rate p says = (cond_some _ _ p (sym says)).0

pub counts_by : (rate p : ℕ) → PerSymbolOfSays rate (Some p) → p ≡ samples_in_lem rate
counts_by rate p says = sym (cond_some _ _ p (sym says)).1

cond_none : (b : Bool) (n : ℕ) → None ≡ cond b (Some n) None → b ≡ false
cond_none true n e = absurd (none-some n e)
cond_none false n e = refl

pub unfit_by : (rate : ℕ) → PerSymbolOfSays rate None → rate_fit rate ≡ false
unfit_by rate says = cond_none (rate_fit rate) (samples_in_lem rate) says

-- ---- room for n symbols
module _ (p n room : ℕ) (some : 0 < p) where
  pub room_short : room / p < n → room < p * n
  room_short h = rw (mul_comm p n) ((div-lt_iff_lt-mul some).0 h)

  pub room_enough : n ≤ room / p → p * n ≤ room
  room_enough h = ⊎_elim (λ (l : room < p * n). absurd (let k = (div-lt_iff_lt-mul some).1 (rw (mul_comm p n) at l) in omega arith)) (λ (l : p * n ≤ room). l) (lt_or_le room (p * n))

module _ (rate : ℕ) (window : List Float) (cursor : ℕ) (symbols : List Float) (room : List ℤ) where
  abbrev p : ℕ
  p = samples_in_lem rate

  -- ---- what is ready
  module _ (fit : rate_fit rate ≡ true) (h : cursor < tap_count p) (k : p * length symbols ≤ length room) where
    is_ready : ready rate symbols (line_at window cursor) room ≡ true
    is_ready = rw (fit, lt-ltb cursor (tap_count p) h, le-leb (p * length symbols) (length room) k)

    module _ (r : ℕ) (window' : List Float) (room' : List ℤ) where
      pub sent_says : Sent (rate_of rate) (pulses p (listed symbols)) (p * length symbols) (line_at window cursor) room (line_at window' r) room'
          → PushSymbolsSays rate window cursor symbols room r window' room'
      unfolding passed
      sent_says sent = record { enters = rw is_ready sent.enters; writes = rw is_ready sent.writes }

      pub says_sent : PushSymbolsSays rate window cursor symbols room r window' room'
          → Sent (rate_of rate) (pulses p (listed symbols)) (p * length symbols) (line_at window cursor) room (line_at window' r) room'
      unfolding passed
      says_sent says = record { enters = rw is_ready at says.enters; writes = rw is_ready at says.writes }

  -- by the samples in a symbol, as a function counts them
  pub sent_by : (n : ℕ) → n ≡ p → rate_fit rate ≡ true → cursor < tap_count n → n * length symbols ≤ length room → (r : ℕ) (window' : List Float) (room' : List ℤ)
      → Sent (rate_at n) (pulses n (listed symbols)) (n * length symbols) (line_at window cursor) room (line_at window' r) room' → PushSymbolsSays rate window cursor symbols room r window' room'
  sent_by n e fit h k r window' room' sent = sent_says fit (rw e at h) (rw e at k) r window' room' (rw e at sent)

  -- ---- what is not
  unready : ready rate symbols (line_at window cursor) room ≡ false → PushSymbolsSays rate window cursor symbols room cursor window room
  unfolding passed
  unready e = record { enters = rw e; writes = rw e }

  pub no_rate : rate_fit rate ≡ false → PushSymbolsSays rate window cursor symbols room cursor window room
  no_rate f = unready (rw f)

  module _ (fit : rate_fit rate ≡ true) where
    pub past_window : (n : ℕ) → n ≡ p → tap_count n ≤ cursor → PushSymbolsSays rate window cursor symbols room cursor window room
    past_window n e h = unready (rw (fit, le-ltb cursor (tap_count p) (rw e at h)))

    pub short_room : (n : ℕ) → n ≡ p → length room < n * length symbols → PushSymbolsSays rate window cursor symbols room cursor window room
    short_room n e h = unready (rw (fit, lt-leb (p * length symbols) (length room) (rw e at h)) (and-false (ltb cursor (tap_count p))))
