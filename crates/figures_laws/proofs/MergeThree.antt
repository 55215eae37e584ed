-- Three reports merged: where one grouping is done, so is the other, and both leave the same, gains too. Assumes nothing.
use mathlib.Core.Path.{◌≡◌, sym, ap, ◌∙◌}
use mathlib.Core.Bool.{true, false}
use Prim.Native.Nat.{ℕ, ◌+◌, ◌^◌, ◌≤◌, ◌<◌}
use native.Mathlib.Omega.{arith}
use Rattle.figures.specs.declared.Report.{Report}
use Rattle.figures.specs.Totals.{total_at, report_fit_lem, would_pass, both, reports_pass}
use Rattle.figures.specs.Answers.{done, Left, merged}
use Rattle.figures.proofs.TotalLaws.{sum_below}
use Rattle.figures_laws.specs.Typed.{TypedReport, AllMerged}
use Rattle.figures_laws.proofs.ReportSums.{both_three, typed_good}
use Rattle.figures_laws.proofs.OneAdded.{either_not, joined_fit, both_48, both_24, none_pass}
use Rattle.figures_laws.proofs.MergeLaws.{merge_facts, merges}

-- ---- three, in either grouping: where the one is done, so is the other, and both leave the same
record SumsFit (a b c : Report) : Type 0 where
  three_48 : (i : ℕ) → i < 24 → total_at a.at_48.totals i + total_at b.at_48.totals i + total_at c.at_48.totals i ≤ 2 ^ 63
  three_24 : (i : ℕ) → i < 24 → total_at a.at_24.totals i + total_at b.at_24.totals i + total_at c.at_24.totals i ≤ 2 ^ 63

sums_left : (a b c : Report) → reports_pass (both a b) c ≡ false → SumsFit a b c
sums_left a b c e =
    let n = either_not (would_pass (both a b).at_48.totals c.at_48.totals) (would_pass (both a b).at_24.totals c.at_24.totals) e in
    record {
      three_48 = λ i l. omega (arith, both_48 a b i l, sum_below (both a b).at_48.totals c.at_48.totals n.0 i l);
      three_24 = λ i l. omega (arith, both_24 a b i l, sum_below (both a b).at_24.totals c.at_24.totals n.1 i l);
    }

sums_right : (a b c : Report) → reports_pass a (both b c) ≡ false → SumsFit a b c
sums_right a b c e =
    let n = either_not (would_pass a.at_48.totals (both b c).at_48.totals) (would_pass a.at_24.totals (both b c).at_24.totals) e in
    record {
      three_48 = λ i l. omega (arith, both_48 b c i l, sum_below a.at_48.totals (both b c).at_48.totals n.0 i l);
      three_24 = λ i l. omega (arith, both_24 b c i l, sum_below a.at_24.totals (both b c).at_24.totals n.1 i l);
    }

module _ (a b c : Report) (S : SumsFit a b c) where
  room_first : reports_pass a b ≡ false
  room_first =
      none_pass a b
      (λ i l. omega (arith, S.three_48 i l))
      (λ i l. omega (arith, S.three_24 i l))

  room_last : reports_pass b c ≡ false
  room_last =
      none_pass b c
      (λ i l. omega (arith, S.three_48 i l))
      (λ i l. omega (arith, S.three_24 i l))

  room_left : reports_pass (both a b) c ≡ false
  room_left =
      none_pass (both a b) c
      (λ i l. omega (arith, both_48 a b i l, S.three_48 i l))
      (λ i l. omega (arith, both_24 a b i l, S.three_24 i l))

  room_right : reports_pass a (both b c) ≡ false
  room_right =
      none_pass a (both b c)
      (λ i l. omega (arith, both_48 b c i l, S.three_48 i l))
      (λ i l. omega (arith, both_24 b c i l, S.three_24 i l))

module _ (a b c : Report) (s : TypedReport a) (t : TypedReport b) (u : TypedReport c) where
  all_merged : report_fit_lem a ≡ true → report_fit_lem b ≡ true → report_fit_lem c ≡ true → SumsFit a b c → AllMerged a b c (both (both a b) c)
  all_merged p q r S =
      let one = merges a b p q (room_first a b c S) in
      let two = merges b c q r (room_last a b c S) in
      let fit-ab = joined_fit a b p q (room_first a b c S) in
      let fit-bc = joined_fit b c q r (room_last a b c S) in
      let three : both a (both b c) ≡ both (both a b) c = sym (both_three a b (typed_good a s p) (typed_good b t q) c (typed_good c u r)) in
      record {
        left_first = ap (λ (l : Left). l.answer) one;
        left_then = ap (λ (l : Left). merged l.report c) one ∙ merges (both a b) c fit-ab r (room_left a b c S);
        right_first = ap (λ (l : Left). l.answer) two;
        right_then = ap (λ (l : Left). merged a l.report) two ∙ merges a (both b c) p fit-bc (room_right a b c S) ∙ ap (λ (w : Report). record { answer = done; report = w }) three;
      }

  pub merge_three : (merged a b).answer ≡ done → (merged (merged a b).report c).answer ≡ done → AllMerged a b c (both (both a b) c)
  merge_three e f =
      let M = merge_facts a b e in
      let N = merge_facts (both a b) c (ap (λ (w : Report). (merged w c).answer) (sym M.leaves) ∙ f) in
      all_merged M.first M.second N.second (sums_left a b c N.room)

  pub merge_three_back : (merged b c).answer ≡ done → (merged a (merged b c).report).answer ≡ done → AllMerged a b c (both (both a b) c)
  merge_three_back e f =
      let M = merge_facts b c e in
      let N = merge_facts a (both b c) (ap (λ (w : Report). (merged a w).answer) (sym M.leaves) ∙ f) in
      all_merged N.first M.first M.second (sums_right a b c N.room)
