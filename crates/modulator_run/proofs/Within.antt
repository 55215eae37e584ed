-- `within`: every sample of every stream of symbols lies within the limit, and so does every sample that a run makes or hands out. Assumes nothing.
use mathlib.Core.Path.{◌≡◌, refl, sym, ap, subst, ◌∙◌}
use mathlib.Core.Logic.{inl, inr}
use mathlib.Core.Bool.{Bool, true, false, ◌&&◌}
use mathlib.Core.List.Memᴰ
use mathlib.Core.List.{List, [], ◌∷◌, ◌++◌, Memᴰ}
use Prim.Native.Nat.{ℕ, ◌+◌, ◌-◌, ◌≤◌, ◌<◌}
use native.Mathlib.Omega.{arith}
use borrow.Author.Tests.{ltb-true, ltb-false}
use lib.Dec.{T, eqb, ltb, lit≤}
use lib.IntN.{ℤ, pos, nat_abs}
use lib.ListN.{length, get_or, drop, replicate, length-append, length-replicate, get_or-replicate, get_or-append}
use lib.Seq.{get_or-append-add}
use lib.Ieee.{Float, nan, binary32, of_bits, le}
use lib.Ieee.Fits.{and_i, and_l, and_r}
use Rattle.numbers.specs.Firsts.{firsts}
use Rattle.numbers.specs.Within.{Within}
use Rattle.numbers.proofs.Bounds.{within→tests}
use Rattle.numbers.proofs.Firsts.{length_firsts, firsts_at}
use Rattle.machine.specs.Runs.{run, answers, Each}
use Rattle.shaping.specs.Rate.{Rate}
use Rattle.shaping.specs.Phase.{sample_limit}
use Rattle.shaping.proofs.RateFacts.{Facts}
use Rattle.given_symbols.specs.Offender.{symbol_fit, all_fit, headed}
use Rattle.modulator.specs.Paper.{wrote}
use Rattle.modulator.specs.Frame.{Symbols, preamble, given, ending}
use Rattle.modulator.specs.Control.{zeros_read, samples_read, handed_out}
use Rattle.modulator.specs.Record.{stored_sample}
use Rattle.modulator_laws.proofs.Sizes.{Small, preamble_small, ending_small, given_small}
use Rattle.modulator_run.specs.Stream.{sent_at}
use Rattle.modulator_run.specs.Rules.{Call, Sent, Said, After, start, framed, frame_sample, drained, called, rules, sent_all, said_all}
use Rattle.modulator_run.specs.Run.{record_after, answers_to, Given}
use Rattle.modulator_run.specs.Kinds.{replaces}
use Rattle.modulator_run.specs.Loudness.{SymbolsFit, Quiet}
use Rattle.modulator_run.specs.Pieces.{counted}
use Rattle.modulator_run.proofs.EachCall.{each_call}
use Rattle.modulator_run.proofs.Phases.{stream_within}
use Rattle.modulator_run.proofs.SenderRun.{sender_run}

-- ---- a stream
pub within : (R : Rate) → Facts R → (symbols : List Float) → SymbolsFit symbols → (t : ℕ) → Quiet (sent_at R symbols t)
within R F = stream_within R sample_limit (let u = F.some in omega arith) F.finite F.number F.phases (lit≤ tt)

-- ---- the symbols of every frame that is taken
small_fits : (x : Float) → Within x 1 → T (symbol_fit x)
unfolding symbol_fit of_bits
small_fits x w =
    let low = of_bits binary32 0xbf80_0000 in
    let high = of_bits binary32 0x3f80_0000 in
    let both = within→tests low x high 1 (refl, refl) (refl, refl) w in
    and_i (le low x) (le x high) both.0 both.1

-- a place of the first list, or of the second
split_at : {A : Type 0} (P : A → Type 0) (xs ys : List A) (d : A) (i : ℕ) → (i < length xs → P (get_or xs i d)) → (length xs ≤ i → P (get_or ys (i - length xs) d)) → P (get_or (xs ++ ys) i d)
split_at P xs ys d i f g = by_test (ltb i (length xs)) refl
  where
    by_test : (t : Bool) → ltb i (length xs) ≡ t → P (get_or (xs ++ ys) i d)
    by_test true e = let l = ltb-true i (length xs) e in rw (get_or-append xs ys d i l) (f l)
    by_test false e =
        let l = ltb-false i (length xs) e in
        let along : i ≡ length xs + (i - length xs) = omega arith in
        let there : get_or (xs ++ ys) i d ≡ get_or ys (i - length xs) d = ap (λ (n : ℕ). get_or (xs ++ ys) n d) along ∙ get_or-append-add xs ys (i - length xs) d in
        rw there (g l)

more_fit : (xs : List Float) (frame : Symbols) → SymbolsFit xs → Small frame → SymbolsFit (xs ++ firsts frame.symbol frame.count)
more_fit xs frame fit small i l =
    split_at (λ (x : Float). T (symbol_fit x)) xs (firsts frame.symbol frame.count) nan i (fit i) λ far.
    let here : i - length xs < frame.count = omega (arith, length-append xs (firsts frame.symbol frame.count), length_firsts frame.symbol frame.count) in
    rw (firsts_at frame.symbol frame.count (i - length xs) nan here) (small_fits (frame.symbol (i - length xs)) (small (i - length xs) here))

module _ (R : Rate) where
  abbrev FitAfter : After → Type 0
  FitAfter a = SymbolsFit a.sent.symbols

  fit_called : (s : Sent) → SymbolsFit s.symbols → (c : Call) → FitAfter (called R s c)
  unfolding framed drained replaces
  fit_called s fit =
      each_call R s (λ (_ : Call). FitAfter) (record {
        refused = λ _ _ _. fit;
        no_frame = λ _. fit;
        delayed = λ traffic _ _. more_fit s.symbols (preamble traffic) fit (preamble_small traffic);
        symbols_given = λ traffic symbols e. more_fit s.symbols (given symbols) fit (given_small symbols (and_l (all_fit symbols) (headed traffic symbols) (and_r (eqb (length symbols) 192) (all_fit symbols && headed traffic symbols) (subst T (sym e) tt))));
        last_frame = λ _. more_fit s.symbols ending fit ending_small;
        reads = λ _. fit;
        stored = λ _ _ _ _. fit;
        told = λ _ _. fit;
        unread = λ _ _. fit;
        idles = λ _ _ _. fit;
        wishes = λ _ _ _. fit;
        rests = λ _ _ _. fit;
      })

  fit_from : (cs : List Call) (s : Sent) → SymbolsFit s.symbols → SymbolsFit (run (rules R) s cs).symbols
  unfolding run
  fit_from [] s fit = fit
  fit_from (c ∷ cs) s fit = fit_from cs (called R s c).sent (fit_called s fit c)

  pub symbols_fit : (cs : List Call) → SymbolsFit (sent_all R cs).symbols
  symbols_fit cs = fit_from cs start (λ i l. let never : ⊥ = omega arith in absurd never)

-- ---- what the reads hand out
module _ (R : Rate) (limit : ℕ) (bound : (symbols : List Float) → SymbolsFit symbols → (t : ℕ) → nat_abs (sent_at R symbols t) ≤ limit) where
  abbrev QuietSaid : Said → Type 0
  QuietSaid a = (i : ℕ) → i < counted a.answer → nat_abs (get_or a.room i (pos 0)) ≤ limit

  quiet_read : (s : Sent) → SymbolsFit s.symbols → (room : List ℤ) → QuietSaid (drained R room s).said
  unfolding drained handed_out counted
  quiet_read s fit room i l =
      let zeros : ℕ = zeros_read s.progress (length room) in
      let samples : ℕ = samples_read s.progress (length room) in
      let made : ℕ → ℤ = λ j. frame_sample R s (s.progress.next_read + j) in
      let small : ℤ → Type 0 = λ x. nat_abs x ≤ limit in
      let front : length (replicate zeros (pos 0) ++ firsts made samples) ≡ zeros + samples =
      length-append (replicate zeros (pos 0)) (firsts made samples) ∙ ap (λ (n : ℕ). n + length (firsts made samples)) (length-replicate zeros (pos 0)) ∙ ap (λ (n : ℕ). zeros + n) (length_firsts made samples)
      in
      split_at small (replicate zeros (pos 0) ++ firsts made samples) (drop (zeros + samples) room) (pos 0) i
      (λ _. split_at small (replicate zeros (pos 0)) (firsts made samples) (pos 0) i
      (λ k. rw (get_or-replicate zeros i (pos 0) (pos 0) (rw length-replicate at k)) (omega arith))
      (λ k. rw (firsts_at made samples (i - length (replicate zeros (pos 0))) (pos 0) (omega (arith, length-replicate zeros (pos 0)))) (bound s.symbols fit _)))
      (λ k. let never : ⊥ = omega (arith, front) in absurd never)

  quiet_called : (s : Sent) → SymbolsFit s.symbols → (c : Call) → QuietSaid (called R s c).said
  unfolding counted
  quiet_called s fit =
      each_call R s (λ (_ : Call) (a : After). QuietSaid a.said) (record {
        refused = λ _ _ _ i l. let never : ⊥ = omega arith in absurd never;
        no_frame = λ _ i l. let never : ⊥ = omega arith in absurd never;
        delayed = λ _ _ _ i l. let never : ⊥ = omega arith in absurd never;
        symbols_given = λ _ _ _ i l. let never : ⊥ = omega arith in absurd never;
        last_frame = λ _ i l. let never : ⊥ = omega arith in absurd never;
        reads = quiet_read s fit;
        stored = λ _ _ _ _ i l. let never : ⊥ = omega arith in absurd never;
        told = λ _ _ i l. let never : ⊥ = omega arith in absurd never;
        unread = λ _ _ i l. let never : ⊥ = omega arith in absurd never;
        idles = λ _ _ _ i l. let never : ⊥ = omega arith in absurd never;
        wishes = λ _ _ _ i l. let never : ⊥ = omega arith in absurd never;
        rests = λ _ _ _ i l. let never : ⊥ = omega arith in absurd never;
      })

  quiet_from : (cs : List Call) (s : Sent) → SymbolsFit s.symbols → (a : Said) → Memᴰ a (answers (rules R) s cs) → QuietSaid a
  unfolding answers
  quiet_from [] s fit a i = absurd (Memᴰ.not-nil i)
  quiet_from (c ∷ cs) s fit a i = elim (Memᴰ.cases_cons i) [
    | inl e ↦ subst QuietSaid (sym e) (quiet_called s fit c)
    | inr j ↦ quiet_from cs (called R s c).sent (fit_called R s fit c) a j
  ]

  -- at every rate that keeps the limit
  pub rules_within : (cs : List Call) (a : Said) → Memᴰ a (said_all R cs) → (n : ℕ) → a.answer ≡ wrote n → (i : ℕ) → i < n → nat_abs (get_or a.room i (pos 0)) ≤ limit
  unfolding counted
  rules_within cs a i n e j l = quiet_from cs start (λ k h. let never : ⊥ = omega arith in absurd never) a i j (rw e l)

-- ---- over every run of the record
module _ (R : Rate) (F : Facts R) where
  -- every sample that a read hands out
  pub within_read : (cs : List Call) → Each Given cs → (a : Said) → Memᴰ a (answers_to R cs) → (n : ℕ) → a.answer ≡ wrote n → (i : ℕ) → i < n → Quiet (get_or a.room i (pos 0))
  within_read cs g a i n e j l = rules_within R sample_limit (within R F) cs a (rw (sender_run R F cs g).1 at i) n e j l

  -- every sample of every frame that is made, read or replaced
  pub within_made : (cs : List Call) → Each Given cs → (i : ℕ) → i < (record_after R cs).progress.next_len → Quiet (stored_sample (record_after R cs) i)
  within_made cs g i l =
      let r = (sender_run R F cs g).0.remembers in
      rw (r.store i l) (within R F (sent_all R cs).symbols (symbols_fit R cs) _)
