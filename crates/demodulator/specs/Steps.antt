-- What the functions of a step ask and promise: the definitions of `Calls`, of a record that is given by its parts. Assumes nothing.
use Rattle.std.specs.Prelude.{◌≡◌, true, false, List, ℕ, ◌^◌, ◌≤◌, ◌<◌, ℤ, length, Float, Err}
use Rattle.shaping.specs.Rate.{Known, rate_fit, rate_at}
use Rattle.protocol.specs.declared.Refusal.{Refusal}
use Rattle.search.specs.declared.Control.{Control}
use Rattle.demodulator.specs.declared.step.Places.{Places}
use Rattle.demodulator.specs.declared.step.Stepped.{Stepped}
use Rattle.demodulator.specs.Record.{assembled}
use Rattle.demodulator.specs.Fit.{fit_for_sample_lem}
use Rattle.demodulator.specs.Calls.{DemodAt}

-- nothing refuses the sample
pub record Accepts (p : ℕ) (window : List ℤ) (ring : List Float) (at : Places) (c : Control) (room : List Float) : Type 0 where
  pub known : Known p
  pub fit : (rate : ℕ) → rate_fit rate ≡ true → fit_for_sample_lem p (assembled rate window at.filter_cursor ring at.rx_cursor c) ≡ true
  pub no_reply : c.owed ≡ false
  pub room_enough : 192 ≤ length room
  pub count : c.sample < 2 ^ 63

-- "Every refusal returns its number only, with record and buffers as they were."
abbrev pub unmoved : Refusal → Places → Control → Stepped
unmoved why at c = record { answer = Err why; places = at; control = c }

-- what `demod` promises of a record, of the record's parts, whichever of the two its rate is
abbrev pub Steps : ℕ → List ℤ → List Float → Places → Control → ℤ → List Float → Stepped → List ℤ → List Float → List Float → Type 0
Steps p window ring at c x room r window' ring' room' =
    (rate : ℕ) → rate_fit rate ≡ true → DemodAt (rate_at p) (assembled rate window at.filter_cursor ring at.rx_cursor c) x room
    (record { answer = r.answer; demodulator = assembled rate window' r.places.filter_cursor ring' r.places.rx_cursor r.control })
    room'
