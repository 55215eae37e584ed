-- A wish for a frame is there exactly where an update that was not refused had room for 2,000 samples, and no none came since. Assumes nothing.
use mathlib.Core.Path.{◌≡◌, refl, sym, ap, ◌∙◌}
use mathlib.Core.Logic.{◌↔◌}
use mathlib.Core.Bool.{Bool, true, false, cond, ◌||◌}
use mathlib.Core.List.{List}
use Prim.Native.Nat.{◌-◌}
use lib.Dec.{leb}
use Rattle.machine.specs.Runs.{Each}
use Rattle.shaping.specs.Rate.{Rate, wish_room_lem}
use Rattle.shaping.proofs.RateFacts.{Facts}
use Rattle.protocol.specs.Refusals.{PaperRefusal}
use Rattle.modulator.specs.declared.Pending.{Pending}
use Rattle.modulator_run.specs.Rules.{Call, Sent, After, start, framed, drained, called, sent_all}
use Rattle.modulator_run.specs.Run.{record_after, Given}
use Rattle.modulator_run.specs.Kinds.{raises, drops}
use Rattle.modulator_run.specs.Wish.{Wished}
use Rattle.modulator_run.proofs.EachCall.{Refusing, miscounted, outside, unheaded, large, below, each_call}
use Rattle.modulator_run.proofs.SenderRun.{sender_run}
use Rattle.modulator_run.proofs.Lasting.{lasted, lasting_exactly}

abbrev pub wish : Sent → Bool
wish s = s.pending.try_get_frame

raised_or_kept : (a w : Bool) → a || w ≡ cond a true w
raised_or_kept true w = refl
raised_or_kept false w = refl

module _ (R : Rate) where
  refused_wish : (c : Call) (number : PaperRefusal) (w : Bool) → Refusing c number → w ≡ lasted (raises R.p) drops c w
  unfolding raises drops
  refused_wish c number w (miscounted e) = refl
  refused_wish c number w (outside e) = refl
  refused_wish c number w (unheaded e) = refl
  refused_wish c number w (large e) = rw e
  refused_wish c number w (below e) = rw e

  wish_next : (s : Sent) (c : Call) → wish (called R s c).sent ≡ lasted (raises R.p) drops c (wish s)
  unfolding raises drops framed drained
  wish_next s =
      each_call R s (λ (c : Call) (a : After). wish a.sent ≡ lasted (raises R.p) drops c (wish s)) (record {
        refused = λ c number e. refused_wish c number (wish s) e;
        no_frame = λ _. refl;
        delayed = λ _ _ _. refl;
        symbols_given = λ _ _ _. refl;
        last_frame = λ _. refl;
        reads = λ _. refl;
        stored = λ fill capacity _ e. rw e (raised_or_kept (leb (wish_room_lem R.p) (capacity - fill)) (wish s));
        told = λ _ _. refl;
        unread = λ _ _. refl;
        idles = λ _ _ _. refl;
        wishes = λ _ _ _. refl;
        rests = λ _ _ _. refl;
      })

  pub wish_exactly : (cs : List Call) → (wish (sent_all R cs) ≡ true) ↔ Wished R.p cs
  wish_exactly = lasting_exactly R (raises R.p) drops wish wish_next start refl

-- ---- the record, from a fresh start
pub wish_by_record : (R : Rate) → Facts R → (cs : List Call) → Each Given cs → ((record_after R cs).pending.try_get_frame ≡ true) ↔ Wished R.p cs
wish_by_record R F cs g =
    let same = ap (λ (s : Pending). s.try_get_frame) (sender_run R F cs g).0.pending in
    let wished = wish_exactly R cs in
    (λ e. wished.0 (sym same ∙ e), λ w. same ∙ wished.1 w)
