-- An end is owed exactly where an end of transmission was provided and no update was taken since, however many ends came before. Assumes nothing.
use mathlib.Core.Path.{◌≡◌, refl}
use mathlib.Core.Logic.{◌↔◌}
use mathlib.Core.Bool.{Bool, true, false}
use mathlib.Core.List.{List}
use Rattle.machine.specs.Runs.{run}
use Rattle.shaping.specs.Rate.{Rate}
use Rattle.protocol.specs.Refusals.{PaperRefusal}
use Rattle.modulator_run.specs.Rules.{Call, Sent, After, start, framed, drained, called, rules, sent_all}
use Rattle.modulator_run.specs.Kinds.{stores, ends}
use Rattle.modulator_run.specs.Reports.{Owed}
use Rattle.modulator_run.proofs.EachCall.{Refusing, miscounted, outside, unheaded, large, below, each_call}
use Rattle.modulator_run.proofs.Lasting.{lasted, lasting_exactly}

abbrev pub owed : Sent → Bool
owed s = s.pending.calculate_tx_end

refused_owed : (c : Call) (number : PaperRefusal) (o : Bool) → Refusing c number → o ≡ lasted ends stores c o
unfolding ends stores
refused_owed c number o (miscounted e) = refl
refused_owed c number o (outside e) = refl
refused_owed c number o (unheaded e) = refl
refused_owed c number o (large e) = rw e
refused_owed c number o (below e) = rw e

module _ (R : Rate) where
  pub owed_next : (s : Sent) (c : Call) → owed (called R s c).sent ≡ lasted ends stores c (owed s)
  unfolding ends stores framed drained
  owed_next s =
      each_call R s (λ (c : Call) (a : After). owed a.sent ≡ lasted ends stores c (owed s)) (record {
        refused = λ c number e. refused_owed c number (owed s) e;
        no_frame = λ _. refl;
        delayed = λ _ _ _. refl;
        symbols_given = λ _ _ _. refl;
        last_frame = λ _. refl;
        reads = λ _. refl;
        stored = λ _ _ _ e. rw e;
        told = λ _ _. refl;
        unread = λ _ _. refl;
        idles = λ _ _ _. refl;
        wishes = λ _ _ _. refl;
        rests = λ _ _ _. refl;
      })

  -- from where no end is owed
  pub owed_from : (s : Sent) → owed s ≡ false → (cs : List Call) → (owed (run (rules R) s cs) ≡ true) ↔ Owed cs
  owed_from = lasting_exactly R ends stores owed owed_next

  pub owed_exactly : (cs : List Call) → (owed (sent_all R cs) ≡ true) ↔ Owed cs
  owed_exactly = owed_from start refl
