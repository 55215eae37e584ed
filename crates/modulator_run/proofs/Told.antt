-- An action request is answered with a transmit end exactly where an update found an end owed, no later update did, and no
-- action was asked for since; the number is what that update found. Assumes nothing.
use Rattle.std.specs.Prelude.{Option, Some, None}
use mathlib.Core.Path.{◌≡◌, refl, sym, ap, subst, ◌∙◌}
use mathlib.Core.Logic.{◌↔◌}
use mathlib.Core.Bool.{Bool, true, false, cond}
use mathlib.Core.List.{List, [], ◌∷◌, ◌++◌}
use Prim.Native.Nat.{ℕ}
use native.Mathlib.Omega.{arith}
use lib.Dec.{T}
use lib.Ieee.Bits.{is_true}
use Rattle.machine.specs.Runs.{run}
use Rattle.machine.proofs.Parts.{run_joined, run_last}
use Rattle.shaping.specs.Rate.{Rate}
use Rattle.protocol.specs.Refusals.{PaperRefusal}
use Rattle.modulator.specs.declared.SampleCount.{SampleCount}
use Rattle.modulator.specs.declared.Progress.{Progress}
use Rattle.modulator.specs.Paper.{transmit_end}
use Rattle.modulator.specs.Control.{unread, end_after_lem}
use Rattle.modulator.specs.Outcome.{Outcome, action_by}
use Rattle.modulator_laws.proofs.EachCase.{each_action}
use Rattle.modulator_run.specs.Rules.{Call, provide, read, update, ask, Sent, After, start, control_in, framed, settled, drained, called, rules, sent_all}
use Rattle.modulator_run.specs.Kinds.{stores, asks, ends, none}
use Rattle.modulator_run.specs.Padding.{PaddingLeft}
use Rattle.modulator_run.specs.Unread.{UnreadLeft}
use Rattle.modulator_run.specs.Reports.{Owed, Reporting, ReportedEnd, Untold}
use Rattle.modulator_run.proofs.EachCall.{Refusing, miscounted, outside, unheaded, large, below, each_call}
use Rattle.modulator_run.proofs.LastCall.{by_last, none_fewer}
use Rattle.modulator_run.proofs.ReportParts.{reporting_more, untold_more, reporting_here, reporting_none}
use Rattle.modulator_run.proofs.Lasting.{lasted}
use Rattle.modulator_run.proofs.Owed.{owed, owed_next, owed_from, owed_exactly}
use Rattle.modulator_run.proofs.Padding.{padding_exactly}
use Rattle.modulator_run.proofs.Unread.{unread_exactly}

abbrev report : Sent → Option SampleCount
report s = s.pending.report_tx_end

-- ---- one call
report_next : Call → Bool → Progress → Option SampleCount → Option SampleCount
report_next (provide frame symbols) o t r = r
report_next (read room) o t r = r
report_next (update fill capacity latency) o t r = cond (stores (update fill capacity latency)) (cond o (Some (record { 0 = end_after_lem fill latency t })) r) r
report_next ask o t r = None

refused_report : (c : Call) (number : PaperRefusal) (o : Bool) (t : Progress) (r : Option SampleCount) → Refusing c number → r ≡ report_next c o t r
unfolding report_next
refused_report c number o t r (miscounted e) = refl
refused_report c number o t r (outside e) = refl
refused_report c number o t r (unheaded e) = refl
refused_report c number o t r (large e) = rw e
refused_report c number o t r (below e) = rw e

module _ (R : Rate) where
  report_next_lem : (s : Sent) (c : Call) → report (called R s c).sent ≡ report_next c (owed s) s.progress (report s)
  unfolding report_next framed drained
  report_next_lem s =
      each_call R s (λ (c : Call) (a : After). report a.sent ≡ report_next c (owed s) s.progress (report s)) (record {
        refused = λ c number e. refused_report c number (owed s) s.progress (report s) e;
        no_frame = λ _. refl;
        delayed = λ _ _ _. refl;
        symbols_given = λ _ _ _. refl;
        last_frame = λ _. refl;
        reads = λ _. refl;
        stored = λ _ _ _ e. rw e;
        told = λ _ _. refl;
        unread = λ r _. r;
        idles = λ r _ _. r;
        wishes = λ r _ _. r;
        rests = λ r _ _. r;
      })

  -- the answer tells what is reported
  told_forth : (s : Sent) (n : ℕ) → (called R s ask).said.answer ≡ transmit_end n → report s ≡ Some (record { 0 = n })
  unfolding called settled
  told_forth s n =
      each_action (control_in s) (λ (o : Outcome). (settled R s o).said.answer ≡ transmit_end n → report s ≡ Some (record { 0 = n })) (record {
        told_end = λ end r e. let same : end.0 ≡ n = cc in r ∙ ap (λ (k : ℕ). Some (record { 0 = k })) same;
        unread = λ _ _ e. cc;
        idles = λ _ _ _ e. cc;
        wishes = λ _ _ _ e. cc;
        rests = λ _ _ _ e. cc;
      })

  told_back : (s : Sent) (n : ℕ) → report s ≡ Some (record { 0 = n }) → (called R s ask).said.answer ≡ transmit_end n
  unfolding called settled action_by
  told_back s n e = rw e

-- ---- all calls
kept_report : (c : Call) (o : Bool) (t : Progress) (r : Option SampleCount) → asks c ≡ false → (T (stores c) → o ≡ false) → report_next c o t r ≡ r
unfolding report_next asks
kept_report (provide frame symbols) o t r a h = refl
kept_report (read room) o t r a h = refl
kept_report (update fill capacity latency) o t r a h = by_test (stores (update fill capacity latency)) refl
  where
    by_test : (b : Bool) → stores (update fill capacity latency) ≡ b → cond b (cond o (Some (record { 0 = end_after_lem fill latency t })) r) r ≡ r
    by_test true e = rw (h (subst T (sym e) tt))
    by_test false e = refl
kept_report ask o t r a h = absurd (subst T a tt)

same_number : (m n : ℕ) → ◌≡◌ {A = Option SampleCount} (Some (record { 0 = m })) (Some (record { 0 = n })) → m ≡ n
same_number m n e = let same : ◌≡◌ {A = SampleCount} (record { 0 = m }) (record { 0 = n }) = cc in ap (λ (k : SampleCount). k.0) same

never_owed : (b : Bool) → (b ≡ true → ⊥) → b ≡ false
never_owed true h = absurd (h refl)
never_owed false h = refl

pub record Left (p : ℕ) (cs : List Call) (t : Progress) : Type 0 where
  pub padded : PaddingLeft p cs t.tx_delay_padding.0
  pub unheard : UnreadLeft p cs (unread t)

-- what is owed, left and untold after the calls, by the calls
module _ (p : ℕ) (cs : List Call) (o : Bool) (t : Progress) (r : Option SampleCount) (w : (o ≡ true) ↔ Owed cs) (l : Left p cs t)
    (h : (n : ℕ) → r ≡ Some (record { 0 = n }) → Untold p cs n) (n : ℕ)
  where
    more_untold : (c : Call) → report_next c o t r ≡ Some (record { 0 = n }) → Untold p (cs ++ c ∷ []) n
    unfolding report_next asks stores
    more_untold (provide frame symbols) e = untold_more p cs (provide frame symbols) n refl (λ s _. absurd s) (h n e)
    more_untold (read room) e = untold_more p cs (read room) n refl (λ s _. absurd s) (h n e)
    more_untold (update fill capacity latency) e = by_test (stores (update fill capacity latency)) refl o refl e
      where
        by_test : (b : Bool) → stores (update fill capacity latency) ≡ b → (q : Bool) → o ≡ q → cond b (cond q (Some (record { 0 = end_after_lem fill latency t })) r) r ≡ Some (record { 0 = n })
            → Untold p (cs ++ update fill capacity latency ∷ []) n
        by_test true s true q e = record {
          report = record { before = cs; fill = fill; capacity = capacity; latency = latency; since = []; parts = refl; taken = subst T (sym s) tt; owed = w.0 q };
          number = record { padding = t.tx_delay_padding.0; unread = unread t; padding_left = l.padded; unread_left = l.unheard; samples = same_number _ _ (sym e) };
          unasked = unfold none in tt;
          newest = reporting_none;
        }
        by_test true s false q e = untold_more p cs (update fill capacity latency) n refl (λ _ owing. subst T (sym (w.1 owing) ∙ q) tt) (h n e)
        by_test false s q _ e = untold_more p cs (update fill capacity latency) n refl (λ taken _. subst T s taken) (h n e)
    more_untold ask e = let z : ◌≡◌ {A = ℕ} 0 1 = cc in let never : ⊥ = omega arith in absurd never

module _ (fill capacity latency : ℕ) where
  made_by : (n : ℕ) (o : Bool) (t : Progress) (r : Option SampleCount) → T (stores (update fill capacity latency)) → o ≡ true → n ≡ end_after_lem fill latency t
      → report_next (update fill capacity latency) o t r ≡ Some (record { 0 = n })
  unfolding report_next
  made_by n o t r s e same = rw (is_true (stores (update fill capacity latency)) s, e, same)

  freed_by : (o : Bool) → T (stores (update fill capacity latency)) → lasted ends stores (update fill capacity latency) o ≡ false
  unfolding ends
  freed_by o t = rw (is_true (stores (update fill capacity latency)) t)

module _ (R : Rate) where
  -- a report stays until it is told or replaced
  still_reported : (s : Sent) (r : Option SampleCount) → owed s ≡ false → report s ≡ r → (cs : List Call) → T (none asks cs) → (Reporting cs → ⊥) → report (run (rules R) s cs) ≡ r
  still_reported s r free e =
      by_last (λ (cs : List Call). T (none asks cs) → (Reporting cs → ⊥) → report (run (rules R) s cs) ≡ r)
      (λ _ _. unfold run in e)
      (λ cs c before t newest.
      let fewer = none_fewer asks cs c t in
      let there : Sent = run (rules R) s cs in
      let none-owed : T (stores c) → owed there ≡ false = λ taken. never_owed (owed there) λ o. newest (reporting_here cs c taken ((owed_from R s free cs).0 o)) in
      ap report (run_last (rules R) cs c s)
      ∙ report_next_lem R there c
      ∙ ap (report_next c (owed there) there.progress) (before fewer.0 (λ old. newest (reporting_more cs c old)))
      ∙ kept_report c (owed there) there.progress r fewer.1 none-owed)

  -- what is left, by the rules and by the calls
  pub left_there : (cs : List Call) → Left R.p cs (sent_all R cs).progress
  left_there cs = record { padded = (padding_exactly R cs _).0 refl; unheard = (unread_exactly R cs _).0 refl }

  number_there : (cs : List Call) (fill latency n : ℕ) → ReportedEnd R.p cs fill latency n → n ≡ end_after_lem fill latency (sent_all R cs).progress
  number_there cs fill latency n e = rw ((padding_exactly R cs e.padding).1 e.padding_left, (unread_exactly R cs e.unread).1 e.unread_left) e.samples

  reported_after : (cs : List Call) (n : ℕ) → Untold R.p cs n → report (sent_all R cs) ≡ Some (record { 0 = n })
  unfolding run
  reported_after cs n u =
      let r = u.report in
      let c : Call = update r.fill r.capacity r.latency in
      let there : Sent = sent_all R r.before in
      let number = number_there r.before r.fill r.latency n u.number in
      let made : report (called R there c).sent ≡ Some (record { 0 = n }) =
      report_next_lem R there c ∙ made_by r.fill r.capacity r.latency n (owed there) there.progress (report there) r.taken ((owed_exactly R r.before).1 r.owed) number
      in
      let free : owed (called R there c).sent ≡ false = owed_next R there c ∙ freed_by r.fill r.capacity r.latency (owed there) r.taken in
      ap (λ (ds : List Call). report (sent_all R ds)) r.parts
      ∙ ap report (run_joined (rules R) r.before (c ∷ r.since) start)
      ∙ still_reported (called R there c).sent (Some (record { 0 = n })) free made r.since u.unasked u.newest

  none_yet : (n : ℕ) → report (sent_all R []) ≡ Some (record { 0 = n }) → Untold R.p [] n
  unfolding run
  none_yet n e = let z : ◌≡◌ {A = ℕ} 0 1 = cc in let never : ⊥ = omega arith in absurd never

  untold_by : (cs : List Call) (n : ℕ) → report (sent_all R cs) ≡ Some (record { 0 = n }) → Untold R.p cs n
  untold_by =
      by_last (λ (cs : List Call). (n : ℕ) → report (sent_all R cs) ≡ Some (record { 0 = n }) → Untold R.p cs n)
      none_yet
      (λ cs c before n e.
      more_untold R.p cs (owed (sent_all R cs)) (sent_all R cs).progress (report (sent_all R cs)) (owed_exactly R cs) (left_there cs) before n c (sym (report_next_lem R (sent_all R cs) c) ∙ ap report (sym (run_last (rules R) cs c start)) ∙ e))

  pub told_exactly : (cs : List Call) (n : ℕ) → ((called R (sent_all R cs) ask).said.answer ≡ transmit_end n) ↔ Untold R.p cs n
  told_exactly cs n =
      (λ e. untold_by cs n (told_forth R (sent_all R cs) n e), λ u. told_back R (sent_all R cs) n (reported_after cs n u))
