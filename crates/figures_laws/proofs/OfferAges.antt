-- Each offer's age is within 1 to p: those of listening are those of single calls. Assumes nothing.
use mathlib.Core.Path.{◌≡◌, refl, sym, ap, subst, ◌∙◌}
use mathlib.Core.Bool.{not}
use mathlib.Core.List.{List, [], ◌∷◌, ◌++◌, map, flat_map, map-append, Memᴰ}
use lib.IntN.{ℤ}
use lib.Ieee.{Float}
use mir.Syntax.{w16}
use mir.Val.{SFits}
use Rattle.machine.specs.Runs.{run, answers, Each}
use Rattle.machine.proofs.Parts.{each_joined}
use Rattle.shaping.specs.Rate.{Rate, samples_in_lem}
use Rattle.shaping.proofs.RateFacts.{Facts}
use Rattle.search.specs.declared.Reply.{Reply}
use Rattle.search.proofs.AgeInPass.{by_test}
use Rattle.demodulator.specs.declared.SoftDemodulator.{SoftDemodulator}
use Rattle.demodulator.specs.declared.Offer.{Offer}
use Rattle.demodulator.specs.Fit.{fit_for_reply_lem}
use Rattle.demodulator.specs.Calls.{Paper, refusal, nothing, frame, done, carrier, Left, answered}
use Rattle.demodulator.specs.Singles.{Single, sample, reply, left, left_at, blank}
use Rattle.demodulator_run.specs.Rules.{start}
use Rattle.demodulator_run.specs.Run.{fresh_at, Callable}
use Rattle.demodulator_run.specs.Calls.{one, receiver, record_next, told_by, Given}
use Rattle.demodulator_run.specs.CallerSees.{offer_in, offers_in}
use Rattle.demodulator_run.proofs.OfferReports.{offer_age_sharp}
use Rattle.listening.specs.Listener.{Rule, Listed, listed_of, listed_in, reply_to, calls_at, offers, calls, own_record}
use Rattle.listening.specs.Rules.{rules_at}
use Rattle.listening.proofs.Listener.{calls_offers}
use Rattle.listening.proofs.Agreement.{same_offers}
use Rattle.figures_laws.specs.Month.{AgeWithin, Aged}

-- ---- the offers of listening are those of single calls
abbrev due : Listed → Offer
due o = o.due

module _ (rule : Rule) where
  offer_one : (a : Paper) (room : List Float) → offer_in a ≡ map due (listed_of rule a room)
  unfolding offer_in listed_of
  offer_one (frame o) room = refl
  offer_one (refusal why) room = refl
  offer_one nothing room = refl
  offer_one done room = refl
  offer_one (carrier there) room = refl

  told_ones : (ss : List Single) (m : SoftDemodulator)
      → offers_in (answers receiver m (map one ss)) ≡ map due (flat_map (listed_in rule) (answers own_record m ss))
  unfolding answers offers_in record_next told_by flat_map
  told_ones [] m = refl
  told_ones (c ∷ ss) m =
      let l : Left = left m c in
      ap (λ (os : List Offer). os ++ offers_in (answers receiver l.demodulator (map one ss))) (offer_one l.answer l.room)
      ∙ ap (λ (os : List Offer). map due (listed_of rule l.answer l.room) ++ os) (told_ones ss l.demodulator)
      ∙ sym (map-append due (listed_of rule l.answer l.room) (flat_map (listed_in rule) (answers own_record l.demodulator ss)))

  no_offer : (m : SoftDemodulator) (r : Reply) → listed_in rule (own_record.says m (reply r)) ≡ []
  unfolding left_at answered listed_of
  no_offer m r =
      by_test (λ (l : Left). listed_of rule l.answer l.room ≡ []) (not (fit_for_reply_lem (samples_in_lem m.rate) m)) _ _ (λ _. refl)
      (λ _. by_test (λ (l : Left). listed_of rule l.answer l.room ≡ []) (not m.control.owed) _ _ (λ _. refl) (λ _. refl))

  replies_callable : (os : List Listed) → Each Callable (map reply_to os)
  unfolding Each Callable
  replies_callable [] = tt
  replies_callable (o ∷ os) = (tt, replies_callable os)

  calls_callable : (xs : List ℤ) → Each (SFits w16) xs → (m : SoftDemodulator) → Each Callable (calls own_record rule m xs)
  unfolding Each calls Callable
  calls_callable [] g m = tt
  calls_callable (x ∷ xs) g m =
      each_joined Callable (calls_at own_record rule m x) (calls own_record rule (run own_record m (calls_at own_record rule m x)) xs) (g.0, replies_callable (listed_in rule (own_record.says m (sample x blank)))) (calls_callable xs g.1 _)

each_ones : (ss : List Single) → Each Callable ss → Each Given (map one ss)
unfolding Each Given
each_ones [] e = tt
each_ones (c ∷ ss) e = (e.0, each_ones ss e.1)

each_member : {A : Type 0} (P : A → Type 0) (list : List A) → ((o : A) → Memᴰ o list → P o) → Each P list
unfolding Each
each_member P [] f = tt
each_member P (o ∷ list) f = (f o (Memᴰ.head refl), each_member P list (λ p m. f p (Memᴰ.tail m)))

each_back : (P : Offer → Type 0) (list : List Listed) → Each P (map due list) → Each (λ (o : Listed). P o.due) list
unfolding Each
each_back P [] e = tt
each_back P (o ∷ list) e = (e.0, each_back P list e.1)

-- ---- an offer's age: ten at most at 48 kHz and five at 24: the largest age that a candidate can have, one more, is no offer's
pub offers_aged : (R : Rate) → Facts R → (rule : Rule) (xs : List ℤ) → Each (SFits w16) xs
    → Each (Aged R.p) (offers (rules_at R) rule start xs)
offers_aged R F rule xs g =
    let ss : List Single = calls own_record rule (fresh_at R) xs in
    let given : Each Given (map one ss) = each_ones ss (calls_callable rule xs g (fresh_at R)) in
    let all : Each (AgeWithin R.p) (offers_in (answers receiver (fresh_at R) (map one ss))) =
    each_member (AgeWithin R.p) (offers_in (answers receiver (fresh_at R) (map one ss))) (λ o m. let A = offer_age_sharp R F (map one ss) given o m in record { least = A.least; most = A.most }) in
    let same : offers_in (answers receiver (fresh_at R) (map one ss)) ≡ map due (offers (rules_at R) rule start xs) =
    told_ones rule ss (fresh_at R) ∙ ap (map due) (calls_offers own_record rule (no_offer rule) xs (fresh_at R) ∙ same_offers R F rule xs g) in
    each_back (AgeWithin R.p) (offers (rules_at R) rule start xs) (subst (Each (AgeWithin R.p)) same all)
