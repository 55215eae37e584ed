-- Samples of 16 bits: those that a run of calls accepts are such, and so its filtered values are within ±1,000,000. Assumes nothing.
use mathlib.Core.Path.{sym, subst}
use mathlib.Core.Bool.{not}
use mathlib.Core.List.{List, [], ◌∷◌, ◌++◌}
use Prim.Native.Nat.{ℕ, suc, ◌+◌, ◌*◌, ◌^◌, ◌≤◌}
use native.Mathlib.Omega.{arith}
use lib.Dec.{T, eqb, ltb}
use lib.IntN.{ℤ}
use lib.ListN.{length}
use lib.Ieee.{Float}
use mir.Syntax.{w16}
use mir.Val.{SFits}
use Rattle.numbers.specs.Sixteen.{AllSixteen}
use Rattle.machine.specs.Runs.{run, Each}
use Rattle.shaping.specs.Rate.{Rate, tap_count}
use Rattle.shaping.proofs.RateFacts.{Facts}
use Rattle.shaping.proofs.Receiver.{bounded, size16}
use Rattle.decode.specs.Correlator.{in_range}
use Rattle.search.proofs.AgeInPass.{by_test}
use Rattle.demodulator_run.specs.Filter.{filtered}
use Rattle.demodulator_run.specs.Rules.{Single, sample, reply, query, History, After, start, given, answered, single, history_all, single_rules}
use Rattle.demodulator_run.specs.Run.{Callable}
use Rattle.demodulator_run.specs.Stretch.{Sixteen}
use Rattle.demodulator_run.proofs.CallKeeps.{settled_samples}
use Rattle.demodulator_run.proofs.InRange.{Small, small_none, small_more, Bounded, in_range_lem}

-- ---- lists of such samples
pub sixteen_append : (xs ys : List ℤ) → Sixteen xs → Sixteen ys → Sixteen (xs ++ ys)
unfolding Sixteen
sixteen_append [] ys s t = t
sixteen_append (x ∷ xs) ys s t = (s.0, sixteen_append xs ys s.1 t)

pub sixteen_front : (xs ys : List ℤ) → Sixteen (xs ++ ys) → Sixteen xs
unfolding Sixteen
sixteen_front [] ys s = tt
sixteen_front (x ∷ xs) ys s = (s.0, sixteen_front xs ys s.1)

pub sixteen_back : (xs ys : List ℤ) → Sixteen (xs ++ ys) → Sixteen ys
unfolding Sixteen
sixteen_back [] ys s = s
sixteen_back (x ∷ xs) ys s = sixteen_back xs ys s.1

-- by their places, as a lent slice has them
pub each_sixteen : (xs : List ℤ) → AllSixteen xs → Each (SFits w16) xs
unfolding Each
each_sixteen [] s = tt
each_sixteen (x ∷ xs) s = (s 0 (omega arith), each_sixteen xs (λ k l. s (suc k) (omega arith)))

as_given : (xs : List ℤ) → Each (SFits w16) xs → Sixteen xs
unfolding Each Sixteen
as_given [] e = tt
as_given (x ∷ xs) e = (e.0, as_given xs e.1)

pub sixteen_list : (xs : List ℤ) → AllSixteen xs → Sixteen xs
sixteen_list xs s = as_given xs (each_sixteen xs s)

-- ---- what a run accepts
module _ (table : List Float) (p : ℕ) where
  abbrev SmallAfter : After → Type 0
  SmallAfter a = Small a.history.samples

  pub small_called : (h : History) (c : Single) → Callable c → Small h.samples → SmallAfter (single table p h c)
  unfolding single given answered Callable
  small_called h (sample x room) f s =
      by_test SmallAfter h.control.owed _ _ (λ _. s)
      (λ _. by_test SmallAfter (ltb (length room) 192) _ _ (λ _. s)
      (λ _. by_test SmallAfter (eqb h.control.sample (2 ^ 63)) _ _ (λ _. s)
      (λ _. subst Small (sym (settled_samples table p (h.samples ++ (x ∷ [])) room _)) (small_more h.samples x s (size16 x f)))))
  small_called h (reply r) f s = by_test SmallAfter (not h.control.owed) _ _ (λ _. s) (λ _. s)
  small_called h query f s = s

  small_run : (cs : List Single) (h : History) → Each Callable cs → Small h.samples → Small (run (single_rules table p) h cs).samples
  unfolding run Each
  small_run [] h f s = s
  small_run (c ∷ cs) h f s = small_run cs (single table p h c).history f.1 (small_called h c f.0 s)

-- ---- at a rate
module _ (R : Rate) (F : Facts R) where
  pub taps_bounded : Bounded R.taps
  taps_bounded x h = bounded R F x (λ i l. h i (rw F.number l))

  pub filtered_range : (cs : List Single) → Each Callable cs → (k : ℕ) → T (in_range (filtered R.taps R.p (history_all R.taps R.p cs).samples k))
  filtered_range cs f = in_range_lem R.taps R.p taps_bounded (history_all R.taps R.p cs).samples (small_run R.taps R.p cs start f small_none)

  -- "for i = 0 to 80"
  pub taps_size : length R.taps ≤ tap_count R.p
  taps_size = omega (arith, F.number)
