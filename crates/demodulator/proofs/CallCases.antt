-- A call by what applies: refused with the first number that does, or taken. Assumes nothing.
use mathlib.Core.Path.{◌≡◌}
use mathlib.Core.Bool.{true, false}
use mathlib.Core.List.{List}
use Prim.Native.Nat.{ℕ, ◌^◌, ◌≤◌, ◌<◌}
use native.Mathlib.Omega.{arith}
use lib.IntN.{ℤ}
use lib.ListN.{length}
use lib.Ieee.{Float}
use borrow.Author.Tests.{lt-ltb, le-ltb, eq-eqb, ne_eqb}
use Rattle.shaping.specs.Rate.{Rate, rate_fit, rate_at}
use Rattle.protocol.specs.declared.Refusal.{Refusal}
use Rattle.protocol.specs.Refusals.{bare, on_paper}
use Rattle.search.specs.declared.Control.{Control}
use Rattle.search.specs.declared.Reply.{Reply}
use Rattle.search.specs.Turn.{Outcome, sampled}
use Rattle.demodulator.specs.declared.SoftDemodulator.{SoftDemodulator}
use Rattle.demodulator.specs.declared.step.Places.{Places}
use Rattle.demodulator.specs.declared.step.Stepped.{Stepped}
use Rattle.demodulator.specs.Spans.{eight}
use Rattle.demodulator.specs.Record.{assembled, back, stored}
use Rattle.demodulator.specs.Fit.{record_fit_lem, fit_for_sample_lem, fit_for_reply_lem}
use Rattle.demodulator.specs.Calls.{refusal, done, carrier, refused, finished, admitted_by, demodulated, reply_leaves, answered, timer_held, detected}
use Rattle.demodulator.specs.Steps.{unmoved, Steps}

-- ---- a sample
module _ (R : Rate) (m : SoftDemodulator) (x : ℤ) (room : List Float) where
  pub sample_other_rate : rate_fit m.rate ≡ false → demodulated R m x room ≡ refused 15 m room
  unfolding demodulated fit_for_sample_lem record_fit_lem
  sample_other_rate e = rw e

  pub sample_unfit : rate_fit m.rate ≡ true → fit_for_sample_lem R.p m ≡ false → demodulated R m x room ≡ refused 1 m room
  unfolding demodulated
  sample_unfit known e = rw (e, known)

  module _ (fit : fit_for_sample_lem R.p m ≡ true) where
    pub sample_owed : m.control.owed ≡ true → demodulated R m x room ≡ refused 2 m room
    unfolding demodulated
    sample_owed e = rw (fit, e)

    module _ (free : m.control.owed ≡ false) where
      pub sample_cramped : length room < 192 → demodulated R m x room ≡ refused 4 m room
      unfolding demodulated
      sample_cramped l = rw (fit, free, lt-ltb (length room) 192 l)

      module _ (enough : 192 ≤ length room) where
        pub sample_last : m.control.sample ≡ 2 ^ 63 → demodulated R m x room ≡ refused 5 m room
        unfolding demodulated
        sample_last e = rw (fit, free, le-ltb (length room) 192 enough, eq-eqb m.control.sample (2 ^ 63) e)

        pub sample_taken : m.control.sample < 2 ^ 63 → (o : Outcome) → o ≡ sampled R.p (eight R.p (back R.p (stored R m x))) m.control
            → demodulated R m x room ≡ finished R.p (stored R m x) room o
        unfolding demodulated admitted_by
        sample_taken l o e = rw (e, fit, free, le-ltb (length room) 192 enough, ne_eqb m.control.sample (2 ^ 63) (λ same. omega arith))

-- a refusal's step, of a record that is given by its parts
pub refuses : (p : ℕ) (window : List ℤ) (ring room : List Float) (at : Places) (c : Control) (x : ℤ) (why : Refusal) (r : Stepped) → r ≡ unmoved why at c
    → ((rate : ℕ) → rate_fit rate ≡ true
    → let m = assembled rate window at.filter_cursor ring at.rx_cursor c in demodulated (rate_at p) m x room ≡ record { answer = refusal (on_paper why); demodulator = m; room = room })
    → Steps p window ring at c x room r window ring room
refuses p window ring room at c x why r e d rate known = rw e (record { answers = rw (d rate known); leaves = rw (d rate known); writes = rw (d rate known) })

-- ---- a reply
module _ (p : ℕ) (m : SoftDemodulator) (reply : Reply) (room : List Float) where
  pub reply_other_rate : rate_fit m.rate ≡ false → answered p m reply room ≡ refused 15 m room
  unfolding answered fit_for_reply_lem record_fit_lem
  reply_other_rate e = rw e

  pub reply_unfit : rate_fit m.rate ≡ true → fit_for_reply_lem p m ≡ false → answered p m reply room ≡ refused 1 m room
  unfolding answered
  reply_unfit known e = rw (e, known)

  module _ (fit : fit_for_reply_lem p m ≡ true) where
    pub reply_unasked : m.control.owed ≡ false → answered p m reply room ≡ refused 3 m room
    unfolding answered
    reply_unasked e = rw (fit, e)

    pub reply_taken : m.control.owed ≡ true → answered p m reply room ≡ record { answer = done; demodulator = reply_leaves p m reply; room = room }
    unfolding answered
    reply_taken e = rw (fit, e)

-- ---- the carrier
module _ (p : ℕ) (m : SoftDemodulator) where
  pub carrier_other_rate : rate_fit m.rate ≡ false → detected p m ≡ refusal (bare 15)
  unfolding detected record_fit_lem
  carrier_other_rate e = rw e

  pub carrier_unfit : rate_fit m.rate ≡ true → record_fit_lem p m ≡ false → detected p m ≡ refusal (bare 1)
  unfolding detected
  carrier_unfit known e = rw (e, known)

  pub carrier_told : record_fit_lem p m ≡ true → detected p m ≡ carrier (timer_held m.control.dcd)
  unfolding detected
  carrier_told e = rw e
