-- A report laid out in memory is answered as the report itself, and the memory after it is the report's after it. Assumes nothing.
use mathlib.Core.Path.{◌≡◌, refl, sym, ap, ◌∙◌}
use mathlib.Core.Bool.{Bool, true, false, not, cond, ◌&&◌}
use mathlib.Core.List.{List}
use Prim.Native.Nat.{ℕ, ◌^◌}
use lib.Dec.{ltb}
use lib.IntN.{ℤ}
use lib.ListN.{length}
use Rattle.numbers.proofs.Firsts.{length_firsts}
use Rattle.shaping.specs.Rate.{rate_fit}
use Rattle.figures.specs.declared.Report.{Report}
use Rattle.figures.specs.Totals.{report_fit_lem, summed_at, summed, plus, both, reports_pass}
use Rattle.figures.specs.Answers.{done, Left, refused, joined, report_of, added, merged}
use Rattle.library_report.specs.Layout.{FullTotals, is_report_lem}
use Rattle.library_report.specs.Memory.{Coded, coded_as, laid_out, report_at, settled_code, settled, memory_added, memory_merged}
use Rattle.library_report.proofs.Back.{report_back, put_report}

-- ---- the answer and the report after it, laid out
abbrev pub laid_answer : Left → Coded
laid_answer l = coded_as (settled_code l.answer) (laid_out l.report)

-- a refused call leaves the report
record LeftAlone (r : Report) (l : Left) : Type 0 where
  same : settled l (laid_out r) ≡ laid_answer l

or_refused : (b : Bool) (number : ℕ) (r : Report) (l : Left) → LeftAlone r l → LeftAlone r (cond b (refused number r) l)
or_refused true number r l p = record { same = refl }
or_refused false number r l p = p

leaves_joined : (r more : Report) → LeftAlone r (joined r more)
unfolding joined
leaves_joined r more = or_refused (reports_pass r more) 16 r (record { answer = done; report = both r more }) (record { same = refl })

leaves_added : (r : Report) (rate : ℕ) (xs : List ℤ) → LeftAlone r (added r rate xs)
unfolding added
leaves_added r rate xs =
    or_refused (not (rate_fit rate)) 15 r _ (or_refused (not (report_fit_lem r)) 1 r _ (or_refused (ltb (2 ^ 63) (length xs)) 5 r _ (leaves_joined r (report_of rate xs))))

leaves_merged : (r other : Report) → LeftAlone r (merged r other)
unfolding merged
leaves_merged r other = or_refused (not (report_fit_lem r && report_fit_lem other)) 1 r _ (leaves_joined r other)

-- ---- adding a recording
no_rate : (r : Report) (rate : ℕ) (xs : List ℤ) → rate_fit rate ≡ false → added r rate xs ≡ refused 15 r
unfolding added
no_rate r rate xs e = rw e refl

add_by : (r : Report) (rate : ℕ) (xs : List ℤ) (b : Bool) → rate_fit rate ≡ b
    → cond (not b) (coded_as 115 (laid_out r)) (settled (added r rate xs) (laid_out r)) ≡ laid_answer (added r rate xs)
add_by r rate xs true e = (leaves_added r rate xs).same
add_by r rate xs false e = sym (ap laid_answer (no_rate r rate xs e))

pub add_laid : (r : Report) → FullTotals r → (rate : ℕ) (xs : List ℤ) → memory_added (laid_out r) rate xs ≡ laid_answer (added r rate xs)
unfolding memory_added
add_laid r t rate xs =
    let m = laid_out r in
    ap (λ (b : Bool). cond (not (rate_fit rate)) (coded_as 115 m) (cond (not b) (coded_as 101 m) (settled (added (report_at m) rate xs) m))) (put_report r)
    ∙ ap (λ (x : Report). cond (not (rate_fit rate)) (coded_as 115 m) (settled (added x rate xs) m)) (report_back r t)
    ∙ add_by r rate xs (rate_fit rate) refl

-- ---- and merging
pub merge_laid : (r other : Report) → FullTotals r → FullTotals other → memory_merged (laid_out r) (laid_out other) ≡ laid_answer (merged r other)
unfolding memory_merged
merge_laid r other t u =
    let m = laid_out r in
    let o = laid_out other in
    ap (λ (b : Bool). cond (not (b && is_report_lem o.numbers)) (coded_as 101 m) (settled (merged (report_at m) (report_at o)) m)) (put_report r)
    ∙ ap (λ (b : Bool). cond (not b) (coded_as 101 m) (settled (merged (report_at m) (report_at o)) m)) (put_report other)
    ∙ ap (λ (x : Report). settled (merged x (report_at o)) m) (report_back r t)
    ∙ ap (λ (x : Report). settled (merged r x) m) (report_back other u)
    ∙ (leaves_merged r other).same

-- ---- what is left has all its totals again, so that calls can follow each other
both_full : (a b : Report) → FullTotals (both a b)
unfolding both plus summed
both_full a b = record {
  first = length_firsts (summed_at a.at_48.totals b.at_48.totals) 24;
  second = length_firsts (summed_at a.at_24.totals b.at_24.totals) 24;
}

pub record LeftFull (l : Left) : Type 0 where
  pub full : FullTotals l.report

or_full : (b : Bool) (number : ℕ) (r : Report) (l : Left) → FullTotals r → LeftFull l → LeftFull (cond b (refused number r) l)
or_full true number r l t p = record { full = t }
or_full false number r l t p = p

joined_full : (r more : Report) → FullTotals r → LeftFull (joined r more)
unfolding joined
joined_full r more t = or_full (reports_pass r more) 16 r (record { answer = done; report = both r more }) t (record { full = both_full r more })

pub added_full : (r : Report) → FullTotals r → (rate : ℕ) (xs : List ℤ) → LeftFull (added r rate xs)
unfolding added
added_full r t rate xs =
    or_full (not (rate_fit rate)) 15 r _ t (or_full (not (report_fit_lem r)) 1 r _ t (or_full (ltb (2 ^ 63) (length xs)) 5 r _ t (joined_full r (report_of rate xs) t)))

pub merged_full : (r other : Report) → FullTotals r → LeftFull (merged r other)
unfolding merged
merged_full r other t = or_full (not (report_fit_lem r && report_fit_lem other)) 1 r _ t (joined_full r other t)
