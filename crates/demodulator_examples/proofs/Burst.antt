-- A burst that ends at sample n + 1, for the first: the candidate is taken there, fails at the next, and its frame falls due. Over every such list of samples, at a rate. Assumes nothing.
use Rattle.std.specs.Prelude.{Option, None}
use mathlib.Core.Path.{◌≡◌, refl, sym, ap, ◌∙◌}
use mathlib.Core.Bool.{Bool, false}
use mathlib.Core.List.{List, [], ◌∷◌, ◌++◌, append_assoc}
use Prim.Native.Nat.{ℕ, suc, ◌+◌, ◌-◌, ◌^◌, ◌≤◌, ◌<◌}
use native.Mathlib.Omega.{arith}
use lib.IntN.{ℤ, pos}
use lib.ListN.{length, length-append}
use Rattle.machine.specs.Runs.{run}
use Rattle.machine.proofs.Parts.{run_joined}
use Rattle.shaping.specs.Rate.{Rate}
use Rattle.shaping.proofs.RateFacts.{Facts}
use Rattle.protocol.specs.declared.Kind.{Kind}
use Rattle.search.specs.declared.Candidate.{Candidate}
use Rattle.search.specs.declared.Control.{Control}
use Rattle.search.specs.TakenBurst.{TakenBurst, held_as, shown_of}
use Rattle.search.specs.Search.{same_kind}
use Rattle.search.specs.Turn.{owing}
use Rattle.demodulator_run.specs.Rules.{History, start, history_all, single_rules}
use Rattle.demodulator_run.specs.Marks.{FellDue, log_all}
use Rattle.demodulator_run.specs.Demands.{Ear, ear_of, at, In, taken_at_lem}
use Rattle.demodulator_run.specs.Exact.{last_sample}
use Rattle.demodulator_run.specs.Stretch.{Sixteen}
use Rattle.demodulator_run.proofs.Pass.{controlled, pass_by}
use Rattle.demodulator_run.proofs.Worked.{room}
use Rattle.demodulator_examples.proofs.Fed.{fed, fed_append, next}
use Rattle.demodulator_examples.proofs.Steps.{standing, waiting, Hits, none, next_search, wait_run}
use Rattle.demodulator_examples.proofs.Table.{pause, pause_split, pause_suc, pause_length}
use Rattle.demodulator_examples.proofs.Take.{one_more, marked_after, after_take}

-- ---- n samples, two more, and what comes then
module _ (R : Rate) (F : Facts R) (n : ℕ) (front : List ℤ) (x y : ℤ) (more : List ℤ) (long : length front ≡ n) (small : Sixteen (front ++ (x ∷ y ∷ more))) (few : length (front ++ (x ∷ y ∷ more)) ≤ 2 ^ 63) where
  abbrev pub all : List ℤ
  all = front ++ (x ∷ y ∷ more)

  abbrev pub ear : Ear
  ear = ear_of R.taps R.p (front ++ (x ∷ y ∷ more))

  abbrev pub up_to_first : List ℤ
  up_to_first = front ++ (x ∷ [])

  abbrev pub up_to_second : List ℤ
  up_to_second = up_to_first ++ (y ∷ [])

  pub part_first : all ≡ up_to_first ++ (y ∷ more)
  part_first = sym (append_assoc front (x ∷ []) (y ∷ more))

  pub part_second : all ≡ up_to_second ++ more
  part_second = part_first ∙ sym (append_assoc up_to_first (y ∷ []) more)

  pub length_first : length up_to_first ≡ n + 1
  length_first = length-append front (x ∷ []) ∙ omega arith

  counts : n + 1 < 2 ^ 63
  counts = let e = length-append front (x ∷ y ∷ more) in omega arith

  -- nothing matches before, and there one kind does
  module _ (silent : (m : ℕ) → m ≤ n → Hits (ear m) none) (k : Kind) (first : Hits (ear (n + 1)) (same_kind k)) where
    pub after_first : (t : Option ℕ) × (history_all R.taps R.p (fed up_to_first) ≡ standing up_to_first (held_as (taken_at_lem ear k (n + 1))) None t (n + 1))
    after_first = after_take R F n front x (y ∷ more) long small few silent k first

    -- at the next sample it fails: what the pass leaves then
    module _ (hit : Kind → Bool) (second : Hits (ear (n + 1 + 1)) hit) (held : Candidate) (age : ℕ) (mark : Bool) (left : ℕ)
        (leaves : (t : Option ℕ) → (u : Option ℕ) × ((pass_by R.p hit (λ j. at ear j (n + 1 + 1)) (controlled (held_as (taken_at_lem ear k (n + 1))) None t false (n + 1 + 1))).control ≡ controlled held (waiting age mark left) u false (n + 1 + 1))) where
      pub after_second : (t : Option ℕ) × (history_all R.taps R.p (fed up_to_second) ≡ standing up_to_second held (waiting age mark left) t (n + 1 + 1))
      after_second =
          let (t, e) = after_first in
          let (u, f) = next_search R all up_to_first y more (n + 1) length_first part_first counts (held_as (taken_at_lem ear k (n + 1))) t hit second in
          let (w, g) = leaves u in
          (w, one_more R F up_to_first y ∙ ap (λ (h : History). next R h y) e ∙ f ∙ ap (λ (c : Control). record { samples = up_to_second; control = owing false c }) g)

      -- the frame falls due once `left` more samples are fed
      module _ (zs : List ℤ) (z : ℤ) (rest : List ℤ) (goes : more ≡ zs ++ (z ∷ rest)) (enough : length zs + 1 ≡ left) where
        inside : n + 1 + 1 + left ≤ 2 ^ 63
        inside = omega (arith, length-append front (x ∷ y ∷ more), ap length goes, length-append zs (z ∷ rest))

        pub before_due : (t : Option ℕ) × (history_all R.taps R.p (fed (up_to_second ++ zs)) ≡ standing (up_to_second ++ zs) held (last_sample age mark) t (n + 1 + left))
        before_due =
            let (t, e) = after_second in
            let (u, f) = wait_run R age mark zs up_to_second held t (n + 1 + 1) left (omega (arith, inside)) (omega arith) in
            let last : left - length zs ≡ 1 = omega arith in
            let count : n + 1 + 1 + length zs ≡ n + 1 + left = omega arith in (
              u,
              ap (run (single_rules R.taps R.p) start) (fed_append up_to_second zs) ∙ run_joined (single_rules R.taps R.p) (fed up_to_second) (fed zs) start ∙ ap (λ (h : History). run (single_rules R.taps R.p) h (fed zs)) e ∙ f
                  ∙ ap (λ (m : ℕ). standing (up_to_second ++ zs) held (waiting age mark m) u (n + 1 + 1 + length zs)) last
                  ∙ ap (standing (up_to_second ++ zs) held (last_sample age mark) u) count,
            )

        pub falls_due : (now : TakenBurst) → held ≡ held_as now → In (FellDue (n + 1 + 1 + left) (shown_of now age mark)) (log_all R.taps R.p (fed all))
        falls_due now is =
            let (t, e) = before_due in
            let part : all ≡ (up_to_second ++ zs) ++ (z ∷ rest) = part_second ∙ ap (λ (l : List ℤ). up_to_second ++ l) goes ∙ sym (append_assoc up_to_second zs (z ∷ rest)) in
            let count : n + 1 + 1 + left ≡ (n + 1 + left) + 1 = omega arith in
            marked_after R F all small few (FellDue (n + 1 + 1 + left) (shown_of now age mark)) (up_to_second ++ zs) z rest part (standing (up_to_second ++ zs) held (last_sample age mark) t (n + 1 + left)) e refl (omega (arith, inside))
            (z, room, refl, count, refl, (now, is, refl))

-- ---- n samples, two more, and zeros
module _ (R : Rate) (F : Facts R) (n : ℕ) (front : List ℤ) (x y : ℤ) (zeros : ℕ) (long : length front ≡ n)
    (small : Sixteen (front ++ (x ∷ y ∷ pause zeros))) (few : length (front ++ (x ∷ y ∷ pause zeros)) ≤ 2 ^ 63) where
  abbrev heard : Ear
  heard = ear_of R.taps R.p (front ++ (x ∷ y ∷ pause zeros))

  module _ (silent : (m : ℕ) → m ≤ n → Hits (heard m) none) (k : Kind) (first : Hits (heard (n + 1)) (same_kind k)) (hit : Kind → Bool) (second : Hits (heard (n + 1 + 1)) hit)
      (now : TakenBurst) (age : ℕ) (mark : Bool) (left : ℕ) (some : 1 ≤ left) (short : left ≤ zeros)
      (leaves : (t : Option ℕ) → (u : Option ℕ) × ((pass_by R.p hit (λ j. at heard j (n + 1 + 1)) (controlled (held_as (taken_at_lem heard k (n + 1))) None t false (n + 1 + 1))).control ≡ controlled (held_as now) (waiting age mark left) u false (n + 1 + 1))) where
    pub falls_due_in : In (FellDue (n + 1 + 1 + left) (shown_of now age mark)) (log_all R.taps R.p (fed (front ++ (x ∷ y ∷ pause zeros))))
    falls_due_in =
        let goes : pause zeros ≡ pause (left - 1) ++ (pos 0 ∷ pause (zeros - left)) =
        ap pause {x = zeros} {y = (left - 1) + suc (zeros - left)} (omega arith) ∙ pause_split (left - 1) (suc (zeros - left)) ∙ ap (λ (l : List ℤ). pause (left - 1) ++ l) (pause_suc (zeros - left)) in
        let enough : length (pause (left - 1)) + 1 ≡ left = let e = pause_length (left - 1) in omega arith in
        falls_due R F n front x y (pause zeros) long small few silent k first hit second (held_as now) age mark left leaves (pause (left - 1)) (pos 0) (pause (zeros - left)) goes enough now refl
