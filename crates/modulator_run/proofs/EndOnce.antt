-- "transmit end (once)", over lists of calls: the next action request tells it, and no later one does until another update finds an end owed. Assumes nothing.
use mathlib.Core.Path.{◌≡◌, refl, sym, ap, subst, ◌∙◌}
use mathlib.Core.Logic.{◌↔◌}
use mathlib.Core.Bool.{true, false, not}
use mathlib.Core.List.{List, [], ◌∷◌, ◌++◌}
use Prim.Native.Nat.{ℕ}
use lib.Dec.{T}
use lib.Ieee.Fits.{and_r}
use Rattle.machine.specs.Runs.{Each}
use Rattle.shaping.specs.Rate.{Rate}
use Rattle.shaping.proofs.RateFacts.{Facts}
use Rattle.modulator.specs.Paper.{transmit_end}
use Rattle.modulator.specs.Control.{end_after_lem}
use Rattle.modulator_run.specs.Rules.{Call, update, ask, Said, called, sent_all}
use Rattle.modulator_run.specs.Run.{left, record_after, Given}
use Rattle.modulator_run.specs.Kinds.{stores, asks, none}
use Rattle.modulator_run.specs.Reports.{Owed, Reporting, ReportedEnd, Untold, NewReport}
use Rattle.modulator_run.proofs.SenderRun.{next_call}
use Rattle.modulator_run.proofs.Told.{left_there, told_exactly}

-- ---- the update comes after the last action request
no_ask_in : (ys : List Call) (zs : List Call) → T (none asks (ys ++ ask ∷ zs)) → ⊥
unfolding none asks
no_ask_in [] zs t = t
no_ask_in (y ∷ ys) zs t = no_ask_in ys zs (and_r (not (asks y)) (none asks (ys ++ ask ∷ zs)) t)

record Behind (cs ds before : List Call) (c : Call) (since : List Call) : Type 0 where
  between : List Call
  first : before ≡ cs ++ ask ∷ between
  second : ds ≡ between ++ c ∷ since

-- of two ways to part a list, at a request and at another call with no request after it
behind : (cs ds before : List Call) (c : Call) (since : List Call) → asks c ≡ false → T (none asks since) → cs ++ ask ∷ ds ≡ before ++ c ∷ since → Behind cs ds before c since
unfolding asks
behind [] ds [] c since q t e = let same : ask ≡ c = cc in let z : true ≡ false = ap asks same ∙ q in absurd (never z)
  where
    never : true ≡ false → ⊥
    never z = subst T z tt
behind [] ds (b ∷ before) c since q t e = let head : ask ≡ b = cc in let tail : ds ≡ before ++ c ∷ since = cc in record { between = before; first = rw head; second = tail }
behind (b ∷ cs) ds [] c since q t e = let tail : cs ++ ask ∷ ds ≡ since = cc in absurd (no_ask_in cs ds (rw tail t))
behind (a ∷ cs) ds (b ∷ before) c since q t e =
    let head : a ≡ b = cc in
    let tail : cs ++ ask ∷ ds ≡ before ++ c ∷ since = cc in
    longer (behind cs ds before c since q t tail) head
  where
    longer : Behind cs ds before c since → a ≡ b → Behind (a ∷ cs) ds (b ∷ before) c since
    longer r same = record { between = r.between; first = ap (λ (l : List Call). b ∷ l) r.first ∙ ap (λ (d : Call). d ∷ (cs ++ ask ∷ r.between)) (sym same); second = r.second }

module _ (R : Rate) where
  abbrev answer : List Call → Said
  answer cs = (called R (sent_all R cs) ask).said

  -- An update that finds an end owed, by one end or by several, makes one report, in place of an untold one: the next request is answered with it.
  pub told_next : (before : List Call) → Owed before → (fill capacity latency : ℕ) → T (stores (update fill capacity latency)) → (since : List Call) → T (none asks since) → (Reporting since → ⊥)
      → (n : ℕ) → ReportedEnd R.p before fill latency n → (answer (before ++ update fill capacity latency ∷ since)).answer ≡ transmit_end n
  told_next before o fill capacity latency t since quiet newest n number =
      (told_exactly R (before ++ update fill capacity latency ∷ since) n).1 (record {
        report = record { before = before; fill = fill; capacity = capacity; latency = latency; since = since; parts = refl; taken = t; owed = o };
        number = number;
        unasked = quiet;
        newest = newest;
      })

  -- the number told, by what the update found left
  pub told_number : (cs : List Call) (n : ℕ) → (answer cs).answer ≡ transmit_end n
      → (r : Reporting cs) → T (none asks r.since) → (Reporting r.since → ⊥)
      → n ≡ end_after_lem r.fill r.latency (sent_all R r.before).progress
  told_number cs n e r quiet newest =
      let l = left_there R r.before in
      let told = (told_exactly R cs _).1 (record {
        report = r;
        number = record { padding = _; unread = _; padding_left = l.padded; unread_left = l.unheard; samples = refl };
        unasked = quiet;
        newest = newest;
      }) in
      cc

  pub one_report : (cs : List Call) (m n : ℕ) → Untold R.p cs m → Untold R.p cs n → m ≡ n
  one_report cs m n a b =
      let x = (told_exactly R cs m).1 a in
      let y = (told_exactly R cs n).1 b in
      cc

  -- No later request is, until another update finds an end owed.
  pub told_once : (cs ds : List Call) (n : ℕ) → (answer (cs ++ ask ∷ ds)).answer ≡ transmit_end n → NewReport R.p cs ds n
  unfolding asks
  told_once cs ds n e =
      let u = (told_exactly R (cs ++ ask ∷ ds) n).0 e in
      let r = u.report in
      let b = behind cs ds r.before (update r.fill r.capacity r.latency) r.since refl u.unasked r.parts in
      record {
        between = b.between;
        fill = r.fill;
        capacity = r.capacity;
        latency = r.latency;
        since = r.since;
        parts = b.second;
        taken = r.taken;
        owed = rw b.first at r.owed;
        number = subst (λ (l : List Call). ReportedEnd R.p l r.fill r.latency n) b.first u.number;
      }

-- ---- the record, from a fresh start
pub told_by_record : (R : Rate) → Facts R → (cs : List Call) → Each Given cs → (n : ℕ) → ((left (record_after R cs) ask).answer ≡ transmit_end n) ↔ Untold R.p cs n
told_by_record R F cs g n =
    let same = ap (λ (a : Said). a.answer) (next_call R F cs g ask) in
    let told = told_exactly R cs n in
    (λ e. told.0 (sym same ∙ e), λ u. same ∙ told.1 u)
