-- One recording that is not refused: what it was, and what it leaves; a fit report stays fit. Assumes nothing.
use mathlib.Core.Path.{◌≡◌, refl, sym, ap, ◌∙◌}
use mathlib.Core.Bool.{Bool, true, false, not, ◌||◌, true≢false}
use Prim.Native.Nat.{ℕ, ◌^◌, ◌≤◌, ◌<◌}
use borrow.Author.Tests.{ltb-false, le-ltb, not-false}
use lib.Dec.{ltb}
use lib.ListN.{length}
use Rattle.numbers.proofs.Firsts.{firsts_at}
use Rattle.shaping.specs.Rate.{rate_fit}
use Rattle.protocol.specs.Refusals.{PaperRefusal}
use Rattle.search.proofs.AgeInPass.{by_test}
use Rattle.figures.specs.declared.Figures.{Figures}
use Rattle.figures.specs.declared.Report.{Report}
use Rattle.figures.specs.Totals.{total_at, gains_fit, totals_fit, figures_fit, report_fit_lem, summed_at, summed, would_pass, plus, both, reports_pass}
use Rattle.figures.specs.Answers.{Paper, refusal, done, Left, joined, added}
use Rattle.figures.proofs.TotalLaws.{sum_below, fits_all, passes_none}
use Rattle.figures.proofs.OfferGains.{gains_plus, left_fit, right_fit}
use Rattle.figures.proofs.AddLaws.{both_are, report_fit_law}
use Rattle.figures_laws.specs.Month.{Given, Fair, report_in_lem, Recording, added_by}

-- ---- one recording that is not refused
is_done : Paper → Bool
is_done (refusal why) = false
is_done done = true

pub not_done : (why : PaperRefusal) → refusal why ≡ done → ⊥
unfolding is_done
not_done why e = true≢false (sym (ap is_done e))

pub either_not : (a b : Bool) → a || b ≡ false → (a ≡ false) × (b ≡ false)
either_not true b e = absurd (true≢false e)
either_not false b e = (refl, e)

pub both_not : (a b : Bool) → a ≡ false → b ≡ false → a || b ≡ false
both_not a b p q = rw (p, q)

pub record GoesIn (r : Report) (x : Recording) (l : Left) : Type 0 where
  pub fair : Fair x
  pub whole : report_fit_lem r ≡ true
  pub room : reports_pass r (report_in_lem x) ≡ false
  pub leaves : l.report ≡ both r (report_in_lem x)

abbrev InIfDone : Report → Recording → Left → Type 0
InIfDone r x l = l.answer ≡ done → GoesIn r x l

pub done_facts : (r : Report) (x : Recording) → (added_by r x).answer ≡ done → GoesIn r x (added_by r x)
unfolding added joined
done_facts r x =
    by_test (InIfDone r x) (not (rate_fit x.rate)) _ _ (λ _ e. absurd (not_done _ e))
    (λ f. by_test (InIfDone r x) (not (report_fit_lem r)) _ _ (λ _ e. absurd (not_done _ e))
    (λ w. by_test (InIfDone r x) (ltb (2 ^ 63) (length x.samples)) _ _ (λ _ e. absurd (not_done _ e))
    (λ l. by_test (InIfDone r x) (reports_pass r (report_in_lem x)) _ _ (λ _ e. absurd (not_done _ e))
    (λ q e. record { fair = record { known = not-false _ f; few = ltb-false (2 ^ 63) (length x.samples) l }; whole = not-false _ w; room = q; leaves = refl }))))

pub goes_in : (r : Report) (x : Recording) → Fair x → report_fit_lem r ≡ true → reports_pass r (report_in_lem x) ≡ false → added_by r x ≡ record { answer = done; report = both r (report_in_lem x) }
unfolding added joined
goes_in r x f w q = rw (f.known, w, le-ltb (2 ^ 63) (length x.samples) f.few, q)

-- ---- totals of a sum
pub total_plus : (a b : Figures) (i : ℕ) → i < 24 → total_at (plus a b).totals i ≡ summed_at a.totals b.totals i
unfolding plus summed
total_plus a b i l = firsts_at (summed_at a.totals b.totals) 24 i 0 l

plus_fit : (a b : Figures) → figures_fit a ≡ true → figures_fit b ≡ true → ((i : ℕ) → i < 24 → total_at (plus a b).totals i ≤ 2 ^ 63)
    → figures_fit (plus a b) ≡ true
plus_fit a b p q small =
    both_are (totals_fit (plus a b).totals) (gains_fit (plus a b).smallest (plus a b).largest) (fits_all (plus a b).totals small) gains
  where
    gains : gains_fit (plus a b).smallest (plus a b).largest ≡ true
    gains =
        unfold plus in gains_plus a.smallest a.largest b.smallest b.largest (right_fit (totals_fit a.totals) (gains_fit a.smallest a.largest) p) (right_fit (totals_fit b.totals) (gains_fit b.smallest b.largest) q)

pub first_fit : (r : Report) → report_fit_lem r ≡ true → figures_fit r.at_48 ≡ true
unfolding report_fit_lem
first_fit r e = left_fit (figures_fit r.at_48) (figures_fit r.at_24) e

pub second_fit : (r : Report) → report_fit_lem r ≡ true → figures_fit r.at_24 ≡ true
unfolding report_fit_lem
second_fit r e = right_fit (figures_fit r.at_48) (figures_fit r.at_24) e

pub first_of : (a b : Report) → (both a b).at_48 ≡ plus a.at_48 b.at_48
unfolding both
first_of a b = refl

pub second_of : (a b : Report) → (both a b).at_24 ≡ plus a.at_24 b.at_24
unfolding both
second_of a b = refl

pub both_48 : (a b : Report) (i : ℕ) → i < 24 → total_at (both a b).at_48.totals i ≡ summed_at a.at_48.totals b.at_48.totals i
both_48 a b i l = ap (λ (f : Figures). total_at f.totals i) (first_of a b) ∙ total_plus a.at_48 b.at_48 i l

pub both_24 : (a b : Report) (i : ℕ) → i < 24 → total_at (both a b).at_24.totals i ≡ summed_at a.at_24.totals b.at_24.totals i
both_24 a b i l = ap (λ (f : Figures). total_at f.totals i) (second_of a b) ∙ total_plus a.at_24 b.at_24 i l

-- no total of either rate passes
pub none_pass : (a b : Report) → ((i : ℕ) → i < 24 → summed_at a.at_48.totals b.at_48.totals i ≤ 2 ^ 63)
    → ((i : ℕ) → i < 24 → summed_at a.at_24.totals b.at_24.totals i ≤ 2 ^ 63) → reports_pass a b ≡ false
none_pass a b p q =
    both_not (would_pass a.at_48.totals b.at_48.totals) (would_pass a.at_24.totals b.at_24.totals)
    (passes_none a.at_48.totals b.at_48.totals p) (passes_none a.at_24.totals b.at_24.totals q)

-- two fit reports whose sum does not pass make a fit one
pub joined_fit : (a b : Report) → report_fit_lem a ≡ true → report_fit_lem b ≡ true → reports_pass a b ≡ false → report_fit_lem (both a b) ≡ true
unfolding report_fit_lem both
joined_fit a b p q room =
    let e = either_not (would_pass a.at_48.totals b.at_48.totals) (would_pass a.at_24.totals b.at_24.totals) room in
    both_are (figures_fit (plus a.at_48 b.at_48)) (figures_fit (plus a.at_24 b.at_24))
    (plus_fit a.at_48 b.at_48 (first_fit a p) (first_fit b q) (λ i l. rw (total_plus a.at_48 b.at_48 i l) (sum_below a.at_48.totals b.at_48.totals e.0 i l)))
    (plus_fit a.at_24 b.at_24 (second_fit a p) (second_fit b q) (λ i l. rw (total_plus a.at_24 b.at_24 i l) (sum_below a.at_24.totals b.at_24.totals e.1 i l)))

-- a report that `add` leaves is fit
pub added_fit : (r : Report) (x : Recording) → Given x → (added_by r x).answer ≡ done → report_fit_lem (added_by r x).report ≡ true
added_fit r x g e =
    let D = done_facts r x e in
    ap report_fit_lem D.leaves ∙ joined_fit r (report_in_lem x) D.whole (report_fit_law x.rate D.fair.known x.samples g D.fair.few) D.room
