-- A whole case for each answer: no text after three zeros, and document 01's whole case after 480. Assumes nothing.
use mathlib.Core.Path.{◌≡◌, refl, sym, ap, subst, ◌∙◌}
use mathlib.Core.List.{List, [], ◌∷◌, ◌++◌, flatten}
use Prim.Native.Nat.{ℕ, ◌+◌}
use native.Mathlib.Omega.{arith}
use lib.Dec.{T, lit<, lit≤}
use lib.IntN.{ℤ, pos}
use lib.ListN.{length, get_or, take, drop, replicate, length-append, take-append-drop}
use lib.Seq.{drop-cons}
use Rattle.numbers.specs.Below.{all_below}
use Rattle.protocol.specs.Refusals.{bare, at_line}
use Rattle.house.specs.Digits.{capitals, place_in, value_of}
use Rattle.house.specs.Line.{line_feed, good_line}
use Rattle.sending.specs.Text.{lines_of, AllGood, none, in_line, first_bad_lem, bad_line_lem, samples_sent}
use Rattle.sending.proofs.Lines.{number_good}
use Rattle.sending.proofs.SendRun.{send_run}
use Rattle.sending.proofs.Instances.{no_text_samples, whole_case, whole_case_good, whole_case_lines, whole_case_fits}
use Rattle.supplier.specs.Check.{refused, yes, differs, short, long, ours, same_sample, checked}
use Rattle.supplier.specs.Meanings.{FirstOther, Fine}
use Rattle.supplier.proofs.SameSample.{same_eq}
use Rattle.supplier.proofs.CheckExactly.{check_exactly, yes_where, eight_exactly, line_exactly}
use Rattle.supplier.proofs.SendAccepted.{sent_sixteen, send_accepted}

zero_not_five : pos 0 ≡ pos 5 → ⊥
unfolding same_sample
zero_not_five e = subst T (sym (same_eq (pos 0) (pos 5) e)) tt

-- ---- no lines, after three zeros
no_lines_fine : Fine 3 []
unfolding lines_of first_bad_lem
no_lines_fine = (lit≤ tt, refl)

no_lines_yes : checked 3 [] (ours 3 []) ≡ yes
no_lines_yes = yes_where 3 [] (ours 3 []) no_lines_fine refl

-- a 5 for the last of the three
no_lines_differ : checked 3 [] (pos 0 ∷ pos 0 ∷ pos 5 ∷ []) ≡ differs 3
unfolding ours
no_lines_differ = (check_exactly 3 [] (pos 0 ∷ pos 0 ∷ pos 5 ∷ []) (differs 3)).1 (no_lines_fine, other)
  where
    other : FirstOther 1 (ours 3 []) (pos 0 ∷ pos 0 ∷ pos 5 ∷ []) 3
    other = record {
      before = pos 0 ∷ pos 0 ∷ [];
      own = pos 0;
      other = pos 5;
      own_later = samples_sent [];
      other_later = [];
      ours = refl;
      theirs = refl;
      differs = zero_not_five;
      number = refl;
    }

no_lines_long : checked 3 [] (ours 3 [] ++ (pos 0 ∷ [])) ≡ long
no_lines_long = (check_exactly 3 [] (ours 3 [] ++ (pos 0 ∷ [])) long).1 (no_lines_fine, record { next = pos 0; later = []; parts = refl })

no_lines_number : length (ours 3 []) ≡ 4643
unfolding ours
no_lines_number = length-append (replicate 3 (pos 0)) (samples_sent []) ∙ ap (λ (n : ℕ). 3 + n) no_text_samples

-- the last of the 4,643 is missing
no_lines_short : checked 3 [] (take 4642 (ours 3 [])) ≡ short
no_lines_short =
    (check_exactly 3 [] (take 4642 (ours 3 [])) short).1
    (no_lines_fine, record { next = get_or (ours 3 []) 4642 (pos 0); later = drop 4643 (ours 3 []); parts = parts })
  where
    parts : ours 3 [] ≡ take 4642 (ours 3 []) ++ (get_or (ours 3 []) 4642 (pos 0) ∷ drop 4643 (ours 3 []))
    parts =
        sym (take-append-drop 4642 (ours 3 []))
        ∙ ap (λ (l : List ℤ). take 4642 (ours 3 []) ++ l) (drop-cons (ours 3 []) 4642 (pos 0) (omega (arith, no_lines_number)))

no_samples_short : checked 3 [] [] ≡ short
unfolding ours
no_samples_short = (check_exactly 3 [] [] short).1 (no_lines_fine, record { next = pos 0; later = pos 0 ∷ pos 0 ∷ samples_sent []; parts = refl })

-- ---- the refusals
feed_bad : bad_line_lem (line_feed ∷ []) ≡ in_line 1
unfolding lines_of first_bad_lem good_line all_below value_of place_in capitals
feed_bad = refl

padding_8 : checked 122401 [] [] ≡ refused (bare 8)
padding_8 = (eight_exactly 122401 [] []).1 (lit< tt)

feed_17 : checked 122400 (line_feed ∷ []) [] ≡ refused (at_line 17 1)
feed_17 = (line_exactly 122400 (line_feed ∷ []) [] 1).1 (lit≤ tt, feed_bad)

-- both apply
smallest_8 : checked 122401 (line_feed ∷ []) [] ≡ refused (bare 8)
smallest_8 = (eight_exactly 122401 (line_feed ∷ []) []).1 (lit< tt)

-- ---- "Whole case: the input is one line, 55F7 and 92 digits 0", as `send` writes it of one read, after 480 zeros
whole_case_fine : bad_line_lem (flatten (whole_case ∷ [])) ≡ none
unfolding AllGood first_bad_lem
whole_case_fine = ap (first_bad_lem 1) whole_case_lines ∙ number_good 1 whole_case [] whole_case_good.0

whole_case_accepted : checked 480 (flatten (whole_case ∷ [])) (replicate 480 (pos 0) ++ samples_sent (flatten (whole_case ∷ []))) ≡ yes
whole_case_accepted =
    send_accepted 480 (lit≤ tt) (whole_case ∷ []) whole_case_fits whole_case_fine (samples_sent (flatten (whole_case ∷ [])))
    (sent_sixteen (flatten (whole_case ∷ [])))
    (sym (send_run (whole_case ∷ []) whole_case_fits).written)
