-- Two reports merged, in either order: the same answer, and where it is done the same report. Assumes nothing.
use mathlib.Core.Path.{◌≡◌, refl, sym, ap, ◌∙◌}
use mathlib.Core.Bool.{Bool, true, false, not, cond, ◌&&◌}
use native.Mathlib.Omega.{arith}
use borrow.Author.Tests.{not-false}
use Rattle.search.proofs.AgeInPass.{by_test}
use Rattle.figures.specs.declared.Report.{Report}
use Rattle.figures.specs.Totals.{report_fit_lem, would_pass, both, reports_pass}
use Rattle.figures.specs.Answers.{done, Left, refused, joined, merged}
use Rattle.figures.proofs.TotalLaws.{sum_below}
use Rattle.figures.proofs.OfferGains.{left_fit, right_fit}
use Rattle.figures_laws.specs.Typed.{TypedReport}
use Rattle.figures_laws.proofs.ReportSums.{both_swap, typed_good}
use Rattle.figures_laws.proofs.OneAdded.{not_done, either_not, none_pass}

-- ---- a merge that is not refused
pub record Merges (a b : Report) (l : Left) : Type 0 where
  pub first : report_fit_lem a ≡ true
  pub second : report_fit_lem b ≡ true
  pub room : reports_pass a b ≡ false
  pub leaves : l.report ≡ both a b

abbrev MergesIfDone : Report → Report → Left → Type 0
MergesIfDone a b l = l.answer ≡ done → Merges a b l

pub merge_facts : (a b : Report) → (merged a b).answer ≡ done → Merges a b (merged a b)
unfolding merged joined
merge_facts a b =
    by_test (MergesIfDone a b) (not (report_fit_lem a && report_fit_lem b)) _ _ (λ _ e. absurd (not_done _ e))
    (λ f. by_test (MergesIfDone a b) (reports_pass a b) _ _ (λ _ e. absurd (not_done _ e))
    (λ q e. record { first = left_fit (report_fit_lem a) (report_fit_lem b) (not-false _ f); second = right_fit (report_fit_lem a) (report_fit_lem b) (not-false _ f); room = q; leaves = refl }))

pub merges : (a b : Report) → report_fit_lem a ≡ true → report_fit_lem b ≡ true → reports_pass a b ≡ false → merged a b ≡ record { answer = done; report = both a b }
unfolding merged joined
merges a b p q room = rw (p, q, room)

-- ---- in either order: the same answer, and where it is done the same report
pub passes_swap : (a b : Report) → reports_pass a b ≡ false → reports_pass b a ≡ false
passes_swap a b e =
    let n = either_not (would_pass a.at_48.totals b.at_48.totals) (would_pass a.at_24.totals b.at_24.totals) e in
    none_pass b a
    (λ i l. omega (arith, sum_below a.at_48.totals b.at_48.totals n.0 i l))
    (λ i l. omega (arith, sum_below a.at_24.totals b.at_24.totals n.1 i l))

same_test : (s t : Bool) → (s ≡ false → t ≡ false) → (t ≡ false → s ≡ false) → s ≡ t
same_test true true p q = refl
same_test true false p q = q refl
same_test false t p q = sym (p refl)

and_swap : (s t : Bool) → s && t ≡ t && s
and_swap true true = refl
and_swap true false = refl
and_swap false true = refl
and_swap false false = refl

answer_by : (s t : Bool) (a b : Report) (m n : Report) → (cond s (refused 1 a) (cond t (refused 16 a) (record { answer = done; report = m }))).answer ≡ (cond s (refused 1 b) (cond t (refused 16 b) (record { answer = done; report = n }))).answer
answer_by true t a b m n = refl
answer_by false true a b m n = refl
answer_by false false a b m n = refl

-- whether two are refused, and with what, does not depend on their order
pub merge_answers_swap : (a b : Report) → (merged a b).answer ≡ (merged b a).answer
unfolding merged joined
merge_answers_swap a b =
    answer_by (not (report_fit_lem a && report_fit_lem b)) (reports_pass a b) a b (both a b) (both b a)
    ∙ ap (λ (s : Bool). (cond (not s) (refused 1 b) (cond (reports_pass a b) (refused 16 b) (record { answer = done; report = both b a }))).answer) (and_swap (report_fit_lem a) (report_fit_lem b))
    ∙ ap (λ (t : Bool). (cond (not (report_fit_lem b && report_fit_lem a)) (refused 1 b) (cond t (refused 16 b) (record { answer = done; report = both b a }))).answer) (same_test (reports_pass a b) (reports_pass b a) (passes_swap a b) (passes_swap b a))

pub merge_swap : (a b : Report) → TypedReport a → TypedReport b → (merged a b).answer ≡ done → merged a b ≡ merged b a
merge_swap a b s t e =
    let M = merge_facts a b e in
    merges a b M.first M.second M.room
    ∙ ap (λ (r : Report). record { answer = done; report = r }) (both_swap a b (typed_good a s M.first) (typed_good b t M.second))
    ∙ sym (merges b a M.second M.first (passes_swap a b M.room))
