-- What the rules make of a fed sample: where no kind matches nothing is held, one that matches is taken, a wait runs down. Assumes nothing.
use Rattle.std.specs.Prelude.{Option, Some, None}
use Rattle.search.specs.declared.Waiting.{Waiting}
use mathlib.Core.Path.{◌≡◌, refl, sym, ap, ◌∙◌, fun_ext}
use mathlib.Core.Bool.{Bool, false}
use mathlib.Core.List.{List, [], ◌∷◌, ◌++◌, append-nil, append_assoc}
use Prim.Native.Nat.{ℕ, ◌+◌, ◌-◌, ◌^◌, ◌≤◌, ◌<◌}
use native.Mathlib.Omega.{arith}
use lib.Dec.{ltb, lt→ltb}
use lib.IntN.{ℤ}
use lib.ListN.{length, length-append}
use lib.Ieee.{Float}
use lib.Ieee.Bits.{is_true}
use Rattle.machine.specs.Runs.{run}
use Rattle.shaping.specs.Rate.{Rate}
use Rattle.protocol.specs.declared.Kind.{Kind}
use Rattle.protocol.specs.declared.SyncBurst.TheVariants.{Frame}
use Rattle.decode.specs.Correlator.{correlation, matches}
use Rattle.search.specs.declared.Candidate.{Candidate}
use Rattle.search.specs.declared.Candidate.TheVariants.{Nothing}
use Rattle.search.specs.declared.Control.{Control}
use Rattle.search.specs.TakenBurst.{TakenBurst, held_as}
use Rattle.search.specs.Search.{with_timer, same_kind, searched}
use Rattle.search.specs.Turn.{counted, cleared, owing, due_turn, waited_turn, sampled}
use Rattle.demodulator_run.specs.Rules.{History, single_rules}
use Rattle.demodulator_run.specs.Demands.{ear_of, taken_at_lem}
use Rattle.demodulator_run.specs.Exact.{last_sample}
use Rattle.demodulator_run.proofs.CallKeeps.{ear_now}
use Rattle.demodulator_run.proofs.Pass.{Step, controlled, pass_by, search_pass, pass_quiet, pass_first}
use Rattle.demodulator_examples.proofs.Fed.{fed, next, next_is, eight_at}

-- n samples have come, and no reply is owed
abbrev pub standing : List ℤ → Candidate → Option Waiting → Option ℕ → ℕ → History
standing xs held wait t n = record { samples = xs; control = controlled held wait t false n }

abbrev pub waiting : ℕ → Bool → ℕ → Option Waiting
waiting age mark left = Some (record { left = left; age = age; replaced = mark })

-- the kinds that match are those of the test
abbrev pub Hits : (ℕ → Float) → (Kind → Bool) → Type 0
Hits v hit = (k : Kind) → matches (Frame k) v ≡ hit k

abbrev pub none : Kind → Bool
none k = false

module _ (R : Rate) where
  -- ---- one sample
  searched_as : (v : ℕ → Float) (c : Control) (hit : Kind → Bool) → Hits v hit → (t : Option ℕ) × (searched R.p v c ≡ (pass_by R.p hit (λ k. correlation (Frame k) v) (with_timer t c)).control)
  searched_as v c hit e =
      let (t, f) = search_pass R.p v c in
      (t, ap (λ (s : Step). s.control) f ∙ ap (λ (g : Kind → Bool). (pass_by R.p g (λ k. correlation (Frame k) v) (with_timer t c)).control) (fun_ext e))

  -- what is heard at the newest of some samples, in a run that goes on
  newest : (all xs more : List ℤ) (n : ℕ) → length xs ≡ n → all ≡ xs ++ more → ear_of R.taps R.p all n ≡ eight_at R xs
  newest all xs more n l e = ap (λ (zs : List ℤ). ear_of R.taps R.p zs n) e ∙ ap (ear_of R.taps R.p (xs ++ more)) (sym l) ∙ ear_now R.taps R.p xs more

  module _ (all : List ℤ) (xs : List ℤ) (x : ℤ) (more : List ℤ) (n : ℕ) (long : length xs ≡ n) (part : all ≡ xs ++ (x ∷ more)) (few : n < 2 ^ 63) where
    one_more : length (xs ++ (x ∷ [])) ≡ n + 1
    one_more = length-append xs (x ∷ []) ∙ omega arith

    pub hears : ear_of R.taps R.p all (n + 1) ≡ eight_at R (xs ++ (x ∷ []))
    hears = newest all (xs ++ (x ∷ [])) more (n + 1) one_more (part ∙ sym (append_assoc xs (x ∷ []) more))

    -- the search runs
    pub next_search : (held : Candidate) (t : Option ℕ) (hit : Kind → Bool) → Hits (ear_of R.taps R.p all (n + 1)) hit
        → (u : Option ℕ) × (next R (standing xs held None t n) x ≡ record {
          samples = xs ++ (x ∷ []);
          control = owing false (pass_by R.p hit (λ k. correlation (Frame k) (ear_of R.taps R.p all (n + 1))) (controlled held None u false (n + 1))).control;
        })
    unfolding sampled waited_turn
    next_search held t hit h =
        let (u, e) = searched_as (ear_of R.taps R.p all (n + 1)) (counted (controlled held None t false n)) hit h in (
          u,
          next_is R (standing xs held None t n) x refl few
              ∙ ap (λ (w : ℕ → Float). record { samples = xs ++ (x ∷ []); control = owing false (searched R.p w (counted (controlled held None t false n))) }) (sym hears)
              ∙ ap (λ (c : Control). record { samples = xs ++ (x ∷ []); control = owing false c }) e,
        )

    pub next_quiet : (t : Option ℕ) → Hits (ear_of R.taps R.p all (n + 1)) none → (u : Option ℕ) × (next R (standing xs Nothing None t n) x ≡ standing (xs ++ (x ∷ [])) Nothing None u (n + 1))
    next_quiet t h =
        let (u, e) = next_search Nothing t none h in (
          u,
          e ∙ ap (λ (s : Step). record { samples = xs ++ (x ∷ []); control = owing false s.control })
              (pass_quiet R.p (λ k. correlation (Frame k) (ear_of R.taps R.p all (n + 1))) u false (n + 1)),
        )

    pub next_first : (t : Option ℕ) (j : Kind) → Hits (ear_of R.taps R.p all (n + 1)) (same_kind j)
        → (u : Option ℕ) × (next R (standing xs Nothing None t n) x ≡ standing (xs ++ (x ∷ [])) (held_as (taken_at_lem (ear_of R.taps R.p all) j (n + 1))) None u (n + 1))
    next_first t j h =
        let (u, e) = next_search Nothing t (same_kind j) h in (
          u,
          e ∙ ap (λ (s : Step). record { samples = xs ++ (x ∷ []); control = owing false s.control })
              (pass_first R.p (λ k. correlation (Frame k) (ear_of R.taps R.p all (n + 1))) u false (n + 1) j),
        )

  -- ---- a wait
  module _ (age : ℕ) (mark : Bool) (xs : List ℤ) (x : ℤ) (n : ℕ) (few : n < 2 ^ 63) where
    next_waits : (held : Candidate) (t : Option ℕ) (left : ℕ) → 1 < left
        → next R (standing xs held (waiting age mark left) t n) x ≡ standing (xs ++ (x ∷ [])) held (waiting age mark (left - 1)) (cleared (n + 1) t) (n + 1)
    unfolding sampled waited_turn
    next_waits held t left l = rw (is_true (ltb 1 left) (lt→ltb 1 left l)) at (next_is R (standing xs held (waiting age mark left) t n) x refl few)

    -- a frame is due, is offered, and is accepted
    pub next_due : (held : TakenBurst) (t : Option ℕ)
        → next R (standing xs (held_as held) (last_sample age mark) t n) x ≡ standing (xs ++ (x ∷ [])) Nothing None (cleared (n + 1) t) (n + 1)
    unfolding sampled waited_turn due_turn
    next_due held t = next_is R (standing xs (held_as held) (last_sample age mark) t n) x refl few

  -- ---- many
  pub quiet_run : (all zs xs more : List ℤ) (t : Option ℕ) (n : ℕ) → length xs ≡ n → all ≡ xs ++ (zs ++ more) → n + length zs ≤ 2 ^ 63
      → ((m : ℕ) → n < m → m ≤ n + length zs → Hits (ear_of R.taps R.p all m) none)
      → (u : Option ℕ) × (run (single_rules R.taps R.p) (standing xs Nothing None t n) (fed zs) ≡ standing (xs ++ zs) Nothing None u (n + length zs))
  unfolding run fed
  quiet_run all [] xs more t n l p f s =
      let count : n ≡ n + 0 = omega arith in
      (t, ap (λ (ys : List ℤ). standing ys Nothing None t n) (sym (append-nil xs)) ∙ ap (standing (xs ++ []) Nothing None t) count)
  quiet_run all (x ∷ zs) xs more t n l p f s =
      let (u, e) = next_quiet all xs x (zs ++ more) n l p (omega arith) t (s (n + 1) (omega arith) (omega arith)) in
      let (w, g) = quiet_run all zs (xs ++ (x ∷ [])) more u (n + 1) (length-append xs (x ∷ []) ∙ omega arith) (p ∙ sym (append_assoc xs (x ∷ []) (zs ++ more))) (omega arith) (λ m a b. s m (omega arith) (omega arith)) in
      let count : (n + 1) + length zs ≡ n + length (x ∷ zs) = omega arith in (
        w,
        ap (λ (h : History). run (single_rules R.taps R.p) h (fed zs)) e ∙ g
            ∙ ap (λ (ys : List ℤ). standing ys Nothing None w ((n + 1) + length zs)) (append_assoc xs (x ∷ []) zs)
            ∙ ap (standing (xs ++ (x ∷ zs)) Nothing None w) count,
      )

  pub wait_run : (age : ℕ) (mark : Bool) (zs xs : List ℤ) (held : Candidate) (t : Option ℕ) (n left : ℕ) → n + length zs ≤ 2 ^ 63 → length zs < left
      → (u : Option ℕ) × (run (single_rules R.taps R.p) (standing xs held (waiting age mark left) t n) (fed zs) ≡ standing (xs ++ zs) held (waiting age mark (left - length zs)) u (n + length zs))
  unfolding run fed
  wait_run age mark [] xs held t n left f l =
      let count : n ≡ n + 0 = omega arith in
      let rest : left ≡ left - 0 = omega arith in (
        t,
        ap (λ (ys : List ℤ). standing ys held (waiting age mark left) t n) (sym (append-nil xs)) ∙ ap (λ (m : ℕ). standing (xs ++ []) held (waiting age mark m) t n) rest
            ∙ ap (standing (xs ++ []) held (waiting age mark (left - 0)) t) count,
      )
  wait_run age mark (x ∷ zs) xs held t n left f l =
      let e = next_waits age mark xs x n (omega arith) held t left (omega arith) in
      let (w, g) = wait_run age mark zs (xs ++ (x ∷ [])) held (cleared (n + 1) t) (n + 1) (left - 1) (omega arith) (omega arith) in
      let count : (n + 1) + length zs ≡ n + length (x ∷ zs) = omega arith in
      let rest : (left - 1) - length zs ≡ left - length (x ∷ zs) = omega arith in (
        w,
        ap (λ (h : History). run (single_rules R.taps R.p) h (fed zs)) e ∙ g
            ∙ ap (λ (ys : List ℤ). standing ys held (waiting age mark ((left - 1) - length zs)) w ((n + 1) + length zs)) (append_assoc xs (x ∷ []) zs)
            ∙ ap (λ (m : ℕ). standing (xs ++ (x ∷ zs)) held (waiting age mark m) w ((n + 1) + length zs)) rest
            ∙ ap (standing (xs ++ (x ∷ zs)) held (waiting age mark (left - length (x ∷ zs))) w) count,
      )
