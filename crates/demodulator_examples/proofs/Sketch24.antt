-- 37 samples at 24 kHz at whose 36th a kind matches for the first time, given with a table of their filtered values, and then zeros: what is heard
-- of them, and the frame that falls due. Assumes nothing.
use Rattle.std.specs.Prelude.{Option, None}
use mathlib.Core.Path.{◌≡◌, sym, subst, ◌∙◌}
use mathlib.Core.Bool.{Bool, false}
use mathlib.Core.List.{List, [], ◌∷◌, ◌++◌, append_assoc}
use Prim.Native.Nat.{ℕ, ◌+◌, ◌^◌, ◌≤◌}
use native.Mathlib.Omega.{arith}
use lib.Dec.{lit≤}
use lib.IntN.{ℤ}
use lib.ListN.{length, length-append}
use lib.Ieee.{Float}
use Rattle.numbers.specs.Firsts.{firsts}
use Rattle.machine.specs.Runs.{Each}
use Rattle.shaping.specs.Taps.{even_taps}
use Rattle.shaping.specs.Rate.{at24}
use Rattle.shaping.proofs.RateFacts.{facts24}
use Rattle.protocol.specs.declared.Kind.{Kind}
use Rattle.protocol.specs.declared.SyncBurst.TheVariants.{Frame}
use Rattle.decode.specs.Correlator.{correlation}
use Rattle.search.specs.TakenBurst.{TakenBurst, held_as, shown_of}
use Rattle.search.specs.Search.{same_kind}
use Rattle.demodulator_run.specs.Filter.{filtered}
use Rattle.demodulator_run.specs.Rules.{Single}
use Rattle.demodulator_run.specs.Marks.{FellDue, log_all}
use Rattle.demodulator_run.specs.Demands.{Ear, ear_of, at, In, taken_at_lem}
use Rattle.demodulator_run.specs.Stretch.{Sixteen}
use Rattle.demodulator_run.specs.Run.{Callable}
use Rattle.demodulator_run.proofs.Pass.{controlled, pass_by}
use Rattle.demodulator_run.proofs.Sixteen.{sixteen_append}
use Rattle.demodulator_examples.proofs.Fed.{fed, fed_sampled}
use Rattle.demodulator_examples.proofs.Steps.{Hits, none, waiting}
use Rattle.demodulator_examples.proofs.Table.{pause, pause_length, sixteen_test, sixteen_pause, listed, hits_listed, at_listed, silent_listed}
use Rattle.demodulator_examples.proofs.Fits.{Fits}
use Rattle.demodulator_examples.proofs.Burst.{falls_due_in}

pub record Sketch24 : Type 0 where
  pub front : List ℤ
  pub x : ℤ
  pub y : ℤ
  pub table : List Float
  pub kind : Kind
  pub hit : Kind → Bool
  pub tabled : firsts (filtered even_taps 5 (front ++ (x ∷ y ∷ []))) 38 ≡ table
  pub facts : Fits 5 35 front x y table kind hit

module _ (S : Sketch24) where
  abbrev burst : List ℤ
  burst = S.front ++ (S.x ∷ S.y ∷ [])

  -- with 950 zeros, and the calls that feed them
  abbrev samples : List ℤ
  samples = S.front ++ (S.x ∷ S.y ∷ pause 950)

  abbrev pub calls24 : List Single
  calls24 = fed samples

  abbrev pub ear24 : Ear
  ear24 = ear_of even_taps 5 samples

  part : samples ≡ burst ++ pause 950
  part = sym (append_assoc S.front (S.x ∷ S.y ∷ []) (pause 950))

  sixteen : Sixteen samples
  sixteen = subst Sixteen (sym part) (sixteen_append burst (pause 950) (sixteen_test burst S.facts.small) (sixteen_pause 950))

  pub sampled24 : Each Callable calls24
  sampled24 = fed_sampled samples sixteen

  few : length samples ≤ 2 ^ 63
  few = let a = length-append S.front (S.x ∷ S.y ∷ pause 950) in let b = S.facts.long in let c = pause_length 950 in omega arith

  long : length burst ≡ 37
  long = length-append S.front (S.x ∷ S.y ∷ []) ∙ (let a = S.facts.long in omega arith)

  -- ---- what is heard
  hits : (k : ℕ) → k ≤ 37 → (hit : Kind → Bool) → Hits (listed 5 S.table k) hit → Hits (ear24 k) hit
  hits = hits_listed at24 facts24 samples burst (pause 950) part 37 long S.table S.tabled

  none_before : (n : ℕ) → n ≤ 35 → Hits (ear24 n) none
  none_before = silent_listed at24 facts24 samples burst (pause 950) part 37 long S.table S.tabled 35 (lit≤ tt) S.facts.quiet

  pub correlates24 : (k : ℕ) → k ≤ 37 → (j : Kind) → at ear24 j k ≡ correlation (Frame j) (listed 5 S.table k)
  correlates24 = at_listed at24 facts24 samples burst (pause 950) part 37 long S.table S.tabled

  -- ---- the due frame
  module _ (now : TakenBurst) (age : ℕ) (mark : Bool) (left : ℕ) (some : 1 ≤ left) (short : left ≤ 950)
      (leaves : (t : Option ℕ) → (u : Option ℕ) × ((pass_by 5 S.hit (λ i. at ear24 i 37) (controlled (held_as (taken_at_lem ear24 S.kind 36)) None t false 37)).control ≡ controlled (held_as now) (waiting age mark left) u false 37)) where
    pub due24 : In (FellDue (37 + left) (shown_of now age mark)) (log_all even_taps 5 calls24)
    due24 =
        falls_due_in at24 facts24 35 S.front S.x S.y 950 S.facts.long sixteen few none_before S.kind (hits 36 (lit≤ tt) (same_kind S.kind) S.facts.first) S.hit
        (hits 37 (lit≤ tt) S.hit S.facts.second) now age mark left some short leaves
