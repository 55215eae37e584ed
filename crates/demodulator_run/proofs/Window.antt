-- A due frame's window: it is what the caller is given, and its symbols lie where the burst began. Assumes nothing.
use Rattle.std.specs.Prelude.{Option, None}
use Rattle.search.specs.declared.Waiting.{Waiting}
use mathlib.Core.Path.{◌≡◌, refl, sym, ap, ◌∙◌, subst}
use mathlib.Core.Logic.{◌⊎◌, inl, inr}
use mathlib.Core.Bool.{Bool, true, false}
use mathlib.Core.List.{List, [], ◌∷◌, ◌++◌}
use Prim.Native.Nat.{ℕ, ◌+◌, ◌-◌, ◌*◌, ◌^◌, ◌≤◌}
use native.Mathlib.Nat.{mul-add}
use native.Mathlib.Omega.{arith}
use lib.Dec.{eqb, ltb}
use lib.IntN.{ℤ}
use lib.ListN.{length, length-append}
use lib.Ieee.{Float}
use Rattle.numbers.specs.Firsts.{written}
use Rattle.machine.specs.Runs.{run}
use Rattle.protocol.specs.declared.Kind.{Kind}
use Rattle.decode.specs.Correlator.{symbol_of}
use Rattle.search.specs.declared.Candidate.{Candidate}
use Rattle.search.specs.declared.Candidate.TheVariants.{Nothing}
use Rattle.search.specs.declared.Shown.{Shown}
use Rattle.search.specs.TakenBurst.{TakenBurst, held_as, shown_of}
use Rattle.search.specs.Turn.{Outcome, offer, cleared, due_turn, waited_turn, sampled}
use Rattle.demodulator.specs.Spans.{eight, symbol_at}
use Rattle.demodulator.specs.Calls.{frame, offer_of}
use Rattle.demodulator_run.specs.Filter.{filtered, ago}
use Rattle.demodulator_run.specs.Rules.{Single, sample, History, After, start, settled, admitted, given, single, history_all, single_rules}
use Rattle.demodulator_run.specs.Marks.{is_refusal, log_all, FellDue}
use Rattle.demodulator_run.specs.Demands.{SymbolSize, Ear, ear_of, Alone, NotAgain, In, Corner, DueBy, LiesAt}
use Rattle.demodulator_run.specs.Exact.{last_sample, MarkedAt, OfferedAt}
use Rattle.demodulator_run.proofs.Pass.{controlled}
use Rattle.demodulator_run.proofs.Run.{On, on_split, on_start}
use Rattle.demodulator_run.proofs.LogExact.{not_refused, log_exact}

-- ---- where the symbols lie
module _ (table : List Float) (ear : Ear) (p b : ℕ) (k : Kind) (s d : ℕ) (x : Shown) (D : DueBy ear p b k s d x) (xs : List ℤ) (n : length xs ≡ d) where
  place : (i : ℕ) → i ≤ 191 → p * (191 - i) + p * i ≡ 191 * p
  place i l = sym (mul-add p (191 - i) i) ∙ ap (λ (m : ℕ). p * m) {x = (191 - i) + i} {y = 191} (omega arith) ∙ omega arith

  lies : (i m : ℕ) → length xs - p * (191 - i) ≡ m → LiesAt table p xs x i m
  lies i m e = ap (λ (j : ℕ). symbol_of x.gain x.shift (filtered table p xs j)) e

  pub symbol_place : (i : ℕ) → i ≤ 191 → (Corner ear b k s × LiesAt table p xs x i ((b + p * i) - (7 * p + 1))) ⊎ ((Corner ear b k s → ⊥) × LiesAt table p xs x i ((b + p * i) - 7 * p))
  symbol_place i l =
      let e = place i l in
      elim D.sample [
        | inl c ↦ inl (c.0, let f = c.1 in lies i ((b + p * i) - (7 * p + 1)) (omega arith))
        | inr c ↦ inr (c.0, let f = c.1 in lies i ((b + p * i) - 7 * p) (omega arith))
      ]

  -- "so symbol 0 lies at b-70, where the burst began"
  pub symbol_zero : (Corner ear b k s × LiesAt table p xs x 0 (b - (7 * p + 1))) ⊎ ((Corner ear b k s → ⊥) × LiesAt table p xs x 0 (b - 7 * p))
  symbol_zero = elim D.sample [
    | inl c ↦ inl (c.0, let f = c.1 in lies 0 (b - (7 * p + 1)) (omega arith))
    | inr c ↦ inr (c.0, let f = c.1 in lies 0 (b - 7 * p) (omega arith))
  ]

-- ---- the window is given to the caller
module _ (p : ℕ) (v : ℕ → Float) (held : TakenBurst) (age : ℕ) (mark : Bool) (t : Option ℕ) (o : Bool) (n : ℕ) where
  now_due : sampled p v (controlled (held_as held) (last_sample age mark) t o n) ≡ offer (shown_of held age mark) (controlled Nothing None (cleared (n + 1) t) true (n + 1))
  unfolding sampled waited_turn due_turn
  now_due = refl

  outcome : (candidate : Candidate) (wait : Option Waiting) → candidate ≡ held_as held → wait ≡ last_sample age mark
      → sampled p v (controlled candidate wait t o n) ≡ offer (shown_of held age mark) (controlled Nothing None (cleared (n + 1) t) true (n + 1))
  outcome candidate wait e f =
      subst (λ (h : Candidate). sampled p v (controlled h wait t o n) ≡ offer (shown_of held age mark) (controlled Nothing None (cleared (n + 1) t) true (n + 1))) (sym e)
      (subst (λ (w : Option Waiting). sampled p v (controlled (held_as held) w t o n) ≡ offer (shown_of held age mark) (controlled Nothing None (cleared (n + 1) t) true (n + 1))) (sym f) now_due)

module _ (table : List Float) (p : ℕ) (h : History) (value : ℤ) (room : List Float) (held : TakenBurst) (age : ℕ) (mark : Bool) where
  abbrev Gives : After → Type 0
  Gives a = a.said ≡ record {
    answer = frame (offer_of (shown_of held age mark) (h.control.sample + 1));
    room = written (symbol_at p (shown_of held age mark) (ago table p (h.samples ++ (value ∷ [])))) 192 room;
  }

  given_window : h.control.candidate ≡ held_as held → h.control.wait ≡ last_sample age mark → is_refusal (given table p h value room).said.answer ≡ false
      → Gives (given table p h value room)
  unfolding given settled
  given_window e f =
      not_refused table p h Gives h.control.owed 2 room _ λ a.
      not_refused table p h Gives (ltb (length room) 192) 4 room _ λ b.
      not_refused table p h Gives (eqb h.control.sample (2 ^ 63)) 5 room (admitted table p h value room) λ c g.
      subst (λ (r : Outcome). Gives (settled table p (h.samples ++ (value ∷ [])) room r))
      (sym (outcome p (eight p (ago table p (h.samples ++ (value ∷ [])))) held age mark h.control.dcd h.control.owed h.control.sample
      h.control.candidate h.control.wait e f)) refl

  called_window : h.control.candidate ≡ held_as held → h.control.wait ≡ last_sample age mark
      → is_refusal (single table p h (sample value room)).said.answer ≡ false → Gives (single table p h (sample value room))
  unfolding single
  called_window = given_window

module _ (table : List Float) (p : ℕ) (big : SymbolSize p) (cs : List Single) (alone : Alone (ear_of table p (history_all table p cs).samples)) (again : NotAgain (ear_of table p (history_all table p cs).samples) p) where
  pub due_offered : (d : ℕ) (x : Shown) → In (FellDue d x) (log_all table p cs) → OfferedAt table p d x cs
  due_offered d x i = go ((log_exact table p big cs alone again (FellDue d x)).0 i)
    where
      go : MarkedAt table p (ear_of table p (history_all table p cs).samples) (FellDue d x) start cs → OfferedAt table p d x cs
      go M =
          let h : History = run (single_rules table p) start M.before in
          let value : ℤ = M.rules.0 in
          let room : List Float = M.rules.1 in
          let call : M.call ≡ sample value room = M.rules.2 in
          let split : cs ≡ M.before ++ (sample value room ∷ M.after) = M.split ∙ ap (λ (c : Single). M.before ++ (c ∷ M.after)) call in
          let (m, O) = on_split table p (ear_of table p (history_all table p cs).samples) big alone again start M.before (sample value room) M.after []
          (subst (λ (l : List Single). On table p (ear_of table p (history_all table p cs).samples) start l []) split (on_start table p cs)) in
          let number : d ≡ h.control.sample + 1 = M.rules.3 in
          let held : TakenBurst = M.rules.5.0 in
          let same : shown_of M.rules.5.0 x.age x.replaced ≡ x = M.rules.5.2 in
          let passes : is_refusal (single table p h (sample value room)).said.answer ≡ false = subst (λ (c : Single). is_refusal (single table p h c).said.answer ≡ false) call M.admitted in
          record {
            before = M.before;
            value = value;
            room = room;
            after = M.after;
            split = split;
            number = let c = O.counted in omega (arith, length-append h.samples (value ∷ []));
            said = subst (λ (n : ℕ). (single table p h (sample value room)).said ≡ record { answer = frame (offer_of x n); room = written (symbol_at p x (ago table p (h.samples ++ (value ∷ [])))) 192 room }) (sym number)
                (subst (λ (y : Shown). (single table p h (sample value room)).said ≡ record { answer = frame (offer_of y (h.control.sample + 1)); room = written (symbol_at p y (ago table p (h.samples ++ (value ∷ [])))) 192 room }) same
                (called_window table p h value room held x.age x.replaced M.rules.5.1 M.rules.4 passes));
          }
