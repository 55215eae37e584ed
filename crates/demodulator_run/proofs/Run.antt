-- Every list of calls keeps the invariant. Assumes nothing.
use mathlib.Core.Path.{◌≡◌, refl, sym, ap, ◌∙◌, subst}
use mathlib.Core.Logic.{inl, inr}
use mathlib.Core.List.Memᴰ
use mathlib.Core.List.{List, [], ◌∷◌, ◌++◌, append-nil, append_assoc}
use Prim.Native.Nat.{ℕ}
use lib.ListN.{length}
use lib.Ieee.{Float}
use Rattle.machine.specs.Runs.{run}
use Rattle.demodulator.specs.Spans.{eight}
use Rattle.demodulator_run.specs.Filter.{ago}
use Rattle.demodulator_run.specs.Rules.{Single, History, start, single, history_all, single_rules}
use Rattle.demodulator_run.specs.Marks.{Mark, called_marks, log_from, log_all}
use Rattle.demodulator_run.specs.Demands.{SymbolSize, Ear, ear_of, Alone, NotAgain}
use Rattle.demodulator_run.proofs.Phase.{Idle, Kept}
use Rattle.demodulator_run.proofs.CallKeeps.{ear_now, Counted, heard_extends, called_kept}

module _ (table : List Float) (p : ℕ) (ear : Ear) where
  -- the calls so far have left the log l, and the ear agrees with all that will be heard
  pub record On (h : History) (cs : List Single) (l : List Mark) : Type 0 where
    pub kept : Kept ear p l h.control
    pub counted : Counted table p h
    pub hears : ear ≡ ear_of table p (run (single_rules table p) h cs).samples

  -- what is heard at the next call
  pub heard_now : (h : History) (c : Single) (cs : List Single) → ear ≡ ear_of table p (run (single_rules table p) h (c ∷ cs)).samples
      → ear (length (single table p h c).history.samples) ≡ eight p (ago table p (single table p h c).history.samples)
  unfolding run
  heard_now h c cs e =
      let next : History = (single table p h c).history in
      let (m, f) = heard_extends table p next cs in
      ap (λ (w : Ear). w (length next.samples)) (e ∙ ap (ear_of table p) f) ∙ ear_now table p next.samples m

  module _ (big : SymbolSize p) (alone : Alone ear) (again : NotAgain ear p) where
    pub on_next : (h : History) (c : Single) (cs : List Single) (l : List Mark) → On h (c ∷ cs) l → On (single table p h c).history cs (l ++ called_marks table p h c)
    on_next h c cs l O =
        let K = called_kept table p ear big alone again l h O.kept O.counted c (heard_now h c cs O.hears) in
        record { kept = K.0; counted = K.1; hears = unfold run in O.hears }

    pub on_all : (h : History) (cs : List Single) (l : List Mark) → On h cs l → On (run (single_rules table p) h cs) [] (l ++ log_from table p h cs)
    unfolding run log_from
    on_all h [] l O = subst (On h []) (sym (append-nil l)) O
    on_all h (c ∷ cs) l O =
        subst (On (run (single_rules table p) (single table p h c).history cs) []) (append_assoc l (called_marks table p h c) (log_from table p (single table p h c).history cs))
        (on_all (single table p h c).history cs (l ++ called_marks table p h c) (on_next h c cs l O))

    -- before any one of the calls
    pub on_split : (h : History) (before : List Single) (call : Single) (after : List Single) (l : List Mark) → On h (before ++ (call ∷ after)) l → (m : List Mark) × On (run (single_rules table p) h before) (call ∷ after) m
    unfolding run
    on_split h [] call after l O = (l, O)
    on_split h (c ∷ before) call after l O = on_split (single table p h c).history before call after (l ++ called_marks table p h c) (on_next h c (before ++ (call ∷ after)) l O)

nothing_yet : (ear : Ear) (p : ℕ) → Idle ear p [] 0
nothing_yet ear p = record {
  past = λ y i. absurd (Memᴰ.not-nil i);
  genuine = λ b k t. elim t [ inl i ↦ absurd (Memᴰ.not-nil i) | inr i ↦ absurd (Memᴰ.not-nil i.1) ];
  spaced = λ d e i j o. absurd (Memᴰ.not-nil i.1);
  told = λ d x i. absurd (Memᴰ.not-nil i);
  firsts = λ m i. absurd (Memᴰ.not-nil i.1);
  fates = λ b k t. elim t [ inl i ↦ absurd (Memᴰ.not-nil i) | inr i ↦ absurd (Memᴰ.not-nil i.1) ];
}

module _ (table : List Float) (p : ℕ) (cs : List Single) where
  pub on_start : On table p (ear_of table p (history_all table p cs).samples) start cs []
  on_start = record { kept = nothing_yet (ear_of table p (history_all table p cs).samples) p; counted = refl; hears = refl }

  module _ (big : SymbolSize p) (alone : Alone (ear_of table p (history_all table p cs).samples)) (again : NotAgain (ear_of table p (history_all table p cs).samples) p) where
    on_end : On table p (ear_of table p (history_all table p cs).samples) (history_all table p cs) [] (log_all table p cs)
    on_end = on_all table p (ear_of table p (history_all table p cs).samples) big alone again start cs [] on_start

    pub kept_all : Kept (ear_of table p (history_all table p cs).samples) p (log_all table p cs) (history_all table p cs).control
    kept_all = on_end.kept

    -- the count is the number of samples
    pub counted_all : (history_all table p cs).control.sample ≡ length (history_all table p cs).samples
    counted_all = on_end.counted
