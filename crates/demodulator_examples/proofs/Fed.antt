-- A caller that gives one sample after the other and accepts at once whatever is offered: each of its samples is heard. Assumes nothing.
use mathlib.Core.Path.{◌≡◌, refl, sym, ap, ◌∙◌}
use mathlib.Core.Bool.{Bool, true, false, not, cond}
use mathlib.Core.List.{List, [], ◌∷◌, ◌++◌, append-nil, append_assoc}
use Prim.Native.Nat.{ℕ, ◌+◌, ◌^◌, ◌≤◌, ◌<◌}
use native.Mathlib.Omega.{arith}
use lib.Dec.{not_T, eqb, eqb→eq}
use lib.IntN.{ℤ}
use lib.ListN.{length}
use lib.Ieee.{Float}
use lib.Ieee.Bits.{is_false}
use Rattle.machine.specs.Runs.{run, Each}
use Rattle.shaping.specs.Rate.{Rate}
use Rattle.search.specs.declared.Reply.TheVariants.{Accepted}
use Rattle.search.specs.Turn.{control_of, owing, sampled, replied}
use Rattle.demodulator.specs.Spans.{eight}
use Rattle.demodulator.specs.Calls.{done}
use Rattle.demodulator_run.specs.Filter.{ago}
use Rattle.demodulator_run.specs.Rules.{Single, sample, reply, History, After, refused, admitted, given, answered, single, single_rules}
use Rattle.demodulator_run.specs.Run.{Callable}
use Rattle.demodulator_run.specs.Stretch.{Sixteen}
use Rattle.demodulator_run.proofs.Count.{sampled_count}
use Rattle.demodulator_run.proofs.RunFits.{settled_heard}
use Rattle.demodulator_run.proofs.Worked.{room}

-- ---- the calls
unfoldable pub fed : List ℤ → List Single
fed [] = []
fed (x ∷ xs) = sample x room ∷ reply Accepted ∷ fed xs

pub fed_append : (xs ys : List ℤ) → fed (xs ++ ys) ≡ fed xs ++ fed ys
unfolding fed
fed_append [] ys = refl
fed_append (x ∷ xs) ys = ap (λ (l : List Single). sample x room ∷ reply Accepted ∷ l) (fed_append xs ys)

pub fed_split : (xs : List ℤ) (x : ℤ) (ys : List ℤ) → fed (xs ++ (x ∷ ys)) ≡ fed xs ++ (sample x room ∷ reply Accepted ∷ fed ys)
unfolding fed
fed_split xs x ys = fed_append xs (x ∷ ys)

-- ---- i16s
pub fed_sampled : (xs : List ℤ) → Sixteen xs → Each Callable (fed xs)
unfolding fed Sixteen Each Callable
fed_sampled [] s = tt
fed_sampled (x ∷ xs) s = (s.0, (tt, fed_sampled xs s.1))

-- ---- a count that is not full
pub not_full : (n : ℕ) → n < 2 ^ 63 → eqb n (2 ^ 63) ≡ false
not_full n l = is_false (eqb n (2 ^ 63)) (not_T (eqb n (2 ^ 63)) (λ u. let e : n ≡ 2 ^ 63 = eqb→eq n (2 ^ 63) u in omega arith))

module _ (R : Rate) where
  -- ---- one sample and its reply
  abbrev pub next : History → ℤ → History
  next h x = (single R.taps R.p (single R.taps R.p h (sample x room)).history (reply Accepted)).history

  -- what is heard when the newest is x
  abbrev pub eight_at : List ℤ → ℕ → Float
  eight_at xs = eight R.p (ago R.taps R.p xs)

  pub taken_in : (h : History) (x : ℤ) → h.control.owed ≡ false → h.control.sample < 2 ^ 63 → single R.taps R.p h (sample x room) ≡ admitted R.taps R.p h x room
  unfolding single given
  taken_in h x o l = rw (o, not_full h.control.sample l)

  replied_in : (h : History) → (single R.taps R.p h (reply Accepted)).history ≡ record { samples = h.samples; control = owing false h.control }
  unfolding single answered replied
  replied_in h = go h.control.owed refl
    where
      go : (b : Bool) → h.control.owed ≡ b
          → (cond (not b) (refused 3 [] h) (record {
            said = record { answer = done; room = [] };
            history = record { samples = h.samples; control = owing false h.control };
          })).history ≡ record { samples = h.samples; control = owing false h.control }
      go true e = refl
      go false e = ap (λ (b : Bool). record { samples = h.samples; control = owing b h.control }) e

  pub next_is : (h : History) (x : ℤ) → h.control.owed ≡ false → h.control.sample < 2 ^ 63
      → next h x ≡ record { samples = h.samples ++ (x ∷ []); control = owing false (control_of (sampled R.p (eight_at (h.samples ++ (x ∷ []))) h.control)) }
  next_is h x o l =
      replied_in (single R.taps R.p h (sample x room)).history
      ∙ ap (λ (g : History). record { samples = g.samples; control = owing false g.control })
      (ap (λ (a : After). a.history) (taken_in h x o l) ∙ settled_heard R.taps R.p (h.samples ++ (x ∷ [])) room (sampled R.p (eight_at (h.samples ++ (x ∷ []))) h.control))

  -- ---- all of them
  pub fed_heard : (xs : List ℤ) (h : History) → h.control.owed ≡ false → h.control.sample + length xs ≤ 2 ^ 63 → (run (single_rules R.taps R.p) h (fed xs)).samples ≡ h.samples ++ xs
  unfolding run fed
  fed_heard [] h o l = sym (append-nil h.samples)
  fed_heard (x ∷ xs) h o l =
      let e = next_is h x o (omega arith) in
      let count : (next h x).control.sample ≡ h.control.sample + 1 =
      ap (λ (g : History). g.control.sample) e ∙ sampled_count R.p (eight_at (h.samples ++ (x ∷ []))) h.control in
      fed_heard xs (next h x) (ap (λ (g : History). g.control.owed) e) (omega arith)
      ∙ ap (λ (g : History). g.samples ++ xs) e
      ∙ append_assoc h.samples (x ∷ []) xs
