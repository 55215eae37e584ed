-- From a fresh start no call is refused as unfit, nor for its rate: the rules know no refusal 1 or 15. Assumes nothing.
use mathlib.Core.Path.{◌≡◌, sym, subst}
use mathlib.Core.Logic.{inl, inr}
use mathlib.Core.Bool.{Bool, false, not, ◌||◌}
use mathlib.Core.List.Memᴰ
use mathlib.Core.List.{List, [], ◌∷◌, Memᴰ}
use lib.Dec.{T, eqb}
use Rattle.machine.specs.Runs.{answers, Each}
use Rattle.shaping.specs.Rate.{Rate}
use Rattle.shaping.proofs.RateFacts.{Facts}
use Rattle.protocol.specs.Refusals.{PaperRefusal, bare, placed, at_line}
use Rattle.modulator.specs.Paper.{Paper, refusal, done, wrote, transmit_end, read_output, idle, get_frame, nothing}
use Rattle.modulator_run.specs.Rules.{Call, Sent, Said, After, start, drained, called, rules}
use Rattle.modulator_run.specs.Run.{answers_to, Given}
use Rattle.modulator_run.proofs.EachCall.{Refusing, miscounted, outside, unheaded, large, below, each_call}
use Rattle.modulator_run.proofs.SenderRun.{sender_run}

-- 1: "record unfit"; 15: "any rate but the two"
abbrev unfit : Paper → Bool
unfit (refusal (bare number)) = eqb number 1 || eqb number 15
unfit (refusal (placed number place)) = false
unfit (refusal (at_line number line)) = false
unfit done = false
unfit (wrote n) = false
unfit (transmit_end n) = false
unfit read_output = false
unfit (idle state) = false
unfit get_frame = false
unfit nothing = false

other_number : (c : Call) (number : PaperRefusal) → Refusing c number → T (not (unfit (refusal number)))
other_number c number (miscounted e) = tt
other_number c number (outside e) = tt
other_number c number (unheaded e) = tt
other_number c number (large e) = tt
other_number c number (below e) = tt

module _ (R : Rate) where
  fine_called : (s : Sent) (c : Call) → T (not (unfit (called R s c).said.answer))
  unfolding drained
  fine_called s =
      each_call R s (λ (_ : Call) (a : After). T (not (unfit a.said.answer))) (record {
        refused = other_number;
        no_frame = λ _. tt;
        delayed = λ _ _ _. tt;
        symbols_given = λ _ _ _. tt;
        last_frame = λ _. tt;
        reads = λ _. tt;
        stored = λ _ _ _ _. tt;
        told = λ _ _. tt;
        unread = λ _ _. tt;
        idles = λ _ _ _. tt;
        wishes = λ _ _ _. tt;
        rests = λ _ _ _. tt;
      })

  fine_all : (cs : List Call) (s : Sent) (a : Said) → Memᴰ a (answers (rules R) s cs) → T (not (unfit a.answer))
  unfolding answers
  fine_all [] s a i = absurd (Memᴰ.not-nil i)
  fine_all (c ∷ cs) s a i = elim (Memᴰ.cases_cons i) [
    | inl e ↦ subst (λ (b : Said). T (not (unfit b.answer))) (sym e) (fine_called s c)
    | inr j ↦ fine_all cs (called R s c).sent a j
  ]

  pub rules_never_unfit : (cs : List Call) (s : Sent) (a : Said) → Memᴰ a (answers (rules R) s cs) → (a.answer ≡ refusal (bare 1) → ⊥) × (a.answer ≡ refusal (bare 15) → ⊥)
  rules_never_unfit cs s a i =
      let fine = fine_all cs s a i in
      (λ e. subst (λ (b : Paper). T (not (unfit b))) e fine, λ e. subst (λ (b : Paper). T (not (unfit b))) e fine)

pub never_unfit : (R : Rate) → Facts R → (cs : List Call) → Each Given cs → (a : Said) → Memᴰ a (answers_to R cs) → (a.answer ≡ refusal (bare 1) → ⊥) × (a.answer ≡ refusal (bare 15) → ⊥)
never_unfit R F cs g a i = rules_never_unfit R cs start a (rw (sender_run R F cs g).1 at i)
