-- Whoever asks for a fresh receiver at one of the two rates and then makes any calls, each on the memory that the one before it left,
-- is answered as the rules answer. Assumes nothing.
use mathlib.Core.Path.{◌≡◌, refl, sym, ap, subst, ◌∙◌}
use mathlib.Core.Bool.{true}
use mathlib.Core.List.{List, ◌∷◌, map}
use Prim.Native.Nat.{ℕ}
use Rattle.machine.specs.Runs.{run, answers, Each}
use Rattle.shaping.specs.Rate.{Rate, at48, at24, rate_fit, per_second}
use Rattle.shaping.proofs.RateFacts.{Facts, facts48, facts24, own_fit}
use Rattle.demodulator_run.specs.Rules.{start}
use Rattle.demodulator_run.specs.Run.{fresh_at}
use Rattle.demodulator_run.specs.Calls.{rules, Given}
use Rattle.demodulator_run.specs.Represents.{Represents}
use Rattle.library_receiver.specs.Memory.{Memory, record_in, laid_out, Export, Coded}
use Rattle.library_receiver.specs.Promises.{M17ReceiverNewSays}
use Rattle.library_receiver_run.specs.Runs.{memory, call_of, coded_all, Chain, ends, calls}
use Rattle.library_receiver_run.proofs.MemoryRun.{memory_run}

-- what the exports promise of a list of calls is what the machine does
pub chain_run : {m after : Memory} {es : List Export} {ys : List Coded} → Chain m es ys after
    → (ys ≡ answers memory m es) × (after ≡ run memory m es)
unfolding answers run
chain_run (ends m) = (refl, refl)
chain_run (calls m n after e es a ys x rest) =
    let k = chain_run rest in
    let told = k.0 ∙ ap (λ (s : Memory). answers memory s es) x.leaves in
    (λ i. x.answers i ∷ told i, k.1 ∙ ap (λ (s : Memory). run memory s es) x.leaves)

-- ---- any memory is lent to `m17_receiver_new`
module _ (R : Rate) (F : Facts R) (m : Memory) (code : ℕ) (begun : Memory)
    (new : M17ReceiverNewSays m (per_second R.p) code begun) where
  pub is_made : (code ≡ 0) × (begun ≡ laid_out (fresh_at R))
  is_made =
      let fit : rate_fit (per_second R.p) ≡ true = own_fit R F in
      (new.answers ∙ (rw fit refl), new.leaves ∙ (rw fit refl))

  -- demand 2 at the exports
  pub exports_run : (es : List Export) → Each Given (map call_of es) → (ys : List Coded) (after : Memory) → Chain begun es ys after
      → (ys ≡ coded_all es (answers (rules R) start (map call_of es))) × Represents R (record_in after) (run (rules R) start (map call_of es))
  exports_run es g ys after chain =
      let k = chain_run chain in
      let q = memory_run R F es g in
      let same = is_made.1 in (
        k.0 ∙ ap (λ (s : Memory). answers memory s es) same ∙ q.0,
        subst (λ (s : Memory). Represents R (record_in s) (run (rules R) start (map call_of es)))
            (sym (k.1 ∙ ap (λ (s : Memory). run memory s es) same)) q.1,
      )

-- ---- at each of the two rates
module _ (m : Memory) (code : ℕ) (begun : Memory) (es : List Export) (g : Each Given (map call_of es)) (ys : List Coded) (after : Memory)
    (chain : Chain begun es ys after) where
  pub exports_run_48 : M17ReceiverNewSays m 48000 code begun
      → (ys ≡ coded_all es (answers (rules at48) start (map call_of es)))
      × Represents at48 (record_in after) (run (rules at48) start (map call_of es))
  exports_run_48 new = exports_run at48 facts48 m code begun new es g ys after chain

  pub exports_run_24 : M17ReceiverNewSays m 24000 code begun
      → (ys ≡ coded_all es (answers (rules at24) start (map call_of es)))
      × Represents at24 (record_in after) (run (rules at24) start (map call_of es))
  exports_run_24 new = exports_run at24 facts24 m code begun new es g ys after chain
