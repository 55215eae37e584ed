-- A fit control after a sample and after a reply: fit again, but that a search may raise an age of 254 to 255, and that a reply before the first sample, which no run
-- gives, may take a candidate at sample 0. Over p, the samples in a symbol, from 2 up. Assumes nothing.
use Rattle.std.specs.Prelude.{Some, None, Option}
use mathlib.Core.Path.{◌≡◌, refl, ap}
use mathlib.Core.Logic.{◌⊎◌, inl, inr}
use mathlib.Core.Bool.{Bool, true, false}
use Prim.Native.Nat.{ℕ, zero, suc, ◌^◌, ◌≤◌, ◌<◌}
use native.Mathlib.Omega.{arith}
use lib.Dec.{T, ltb}
use borrow.Author.Tests.{ltb-true, ltb-false}
use lib.Ieee.{Float}
use Rattle.decode.specs.Correlator.{in_range}
use Rattle.search.specs.declared.Candidate.TheVariants.{Nothing}
use Rattle.search.specs.declared.Waiting.{Waiting}
use Rattle.search.specs.declared.Control.{Control}
use Rattle.search.specs.declared.Reply.{Reply}
use Rattle.search.specs.declared.Reply.TheVariants.{Accepted, Rejected}
use Rattle.search.specs.TakenBurst.{TakenBurst, held_in}
use Rattle.search.specs.Search.{age_of, searched}
use Rattle.search.specs.Turn.{control_of, counted, freed, owing, due_turn, comes_to, sampled, replied}
use Rattle.search.specs.Fit.{control_fit_lem}
use Rattle.search.proofs.TurnFits.{counted_fit, freed_fit}
use Rattle.search.proofs.SampleByWait.{sampled_free, sampled_rest, sampled_due}
use Rattle.demodulator_laws.proofs.WaitFits.{waiting_fit, settled_fit}
use Rattle.demodulator_laws.proofs.SearchFits.{Outgrown, Unnumbered, search_fits, uncounted_fits}

pub either : (t : Bool) → (t ≡ true) ⊎ (t ≡ false)
either true = inl refl
either false = inr refl

module _ (p : ℕ) (symbol : 2 ≤ p) (v : ℕ → Float) (range : (i : ℕ) → i < 8 → T (in_range (v i))) where
  -- with no candidate there is no age to outgrow
  unaged : (c : Control) → c.candidate ≡ Nothing → T (control_fit_lem p c) → c.owed ≡ false → 1 ≤ c.sample → T (control_fit_lem p (searched p v c))
  unaged c unheld fit free one = elim (search_fits p symbol v range c fit free one) [ inl t ↦ t | inr o ↦ absurd (omega (arith, o.was, ap age_of unheld)) ]

  due_fits : (held : Option TakenBurst) (w : Waiting) (c : Control) → T (control_fit_lem p c) → c.owed ≡ false → 1 ≤ c.sample → T (control_fit_lem p (control_of (comes_to p v (due_turn held w (freed c)))))
  unfolding due_turn
  due_fits None w c fit free one = unaged (freed c) refl (freed_fit p c fit c.owed) free one
  due_fits (Some t) w c fit free one = freed_fit p c fit true

  module _ (c : Control) (fit : T (control_fit_lem p c)) where
    module _ (l : c.sample < 2 ^ 63) (free : c.owed ≡ false) where
      by_wait : (wait : Option Waiting) → c.wait ≡ wait → T (control_fit_lem p (control_of (sampled p v c))) ⊎ Outgrown p c (control_of (sampled p v c))
      by_wait None e =
          rw (sampled_free p v c e)
          (elim (search_fits p symbol v range (counted c) (counted_fit p c fit l) free (omega arith)) [ inl t ↦ inl t | inr o ↦ inr (record { was = o.was; is = o.is; else_fit = o.else_fit }) ])
      by_wait (Some w) e =
          elim (either (ltb 1 w.left)) [
            | inl t ↦ let k = ltb-true 1 w.left t in inl (rw (sampled_rest p v c w e k) (waiting_fit p (counted c) (counted_fit p c fit l) w e k))
            | inr t ↦ inl (rw (sampled_due p v c w e (ltb-false 1 w.left t)) (due_fits (held_in c.candidate) w (counted c) (counted_fit p c fit l) free (omega arith)))
          ]

      pub sampled_fits : T (control_fit_lem p (control_of (sampled p v c))) ⊎ Outgrown p c (control_of (sampled p v c))
      sampled_fits = by_wait c.wait refl

    -- a reply is owed with no candidate held
    pub replied_fits : c.candidate ≡ Nothing → 1 ≤ c.sample → (reply : Reply) → T (control_fit_lem p (replied p v reply c))
    unfolding replied
    replied_fits unheld one Accepted = settled_fit p c fit
    replied_fits unheld one Rejected = unaged (owing false c) unheld (settled_fit p c fit) refl one

    -- or before a sample is counted, which no run comes to
    pub replied_either : c.candidate ≡ Nothing → (reply : Reply) → T (control_fit_lem p (replied p v reply c)) ⊎ Unnumbered p c (replied p v reply c)
    replied_either unheld reply = by_count c.sample refl reply
      where
        by_count : (n : ℕ) → c.sample ≡ n → (reply : Reply) → T (control_fit_lem p (replied p v reply c)) ⊎ Unnumbered p c (replied p v reply c)
        by_count (suc n) e reply = inl (replied_fits unheld (omega arith) reply)
        by_count zero e Accepted = inl (unfold replied in settled_fit p c fit)
        by_count zero e Rejected =
            unfold replied in
            elim (uncounted_fits p symbol v range (owing false c) (settled_fit p c fit) refl e (ap age_of unheld)) [
              | inl t ↦ inl t
              | inr o ↦ inr (record { was = o.was; holds = o.holds; else_fit = o.else_fit })
            ]
