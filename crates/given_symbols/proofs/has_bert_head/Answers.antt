-- `has_bert_head` meets its contract: the first eight symbols are the burst's signs. Assumes nothing.
use mathlib.Core.Path.{◌≡◌, refl, sym, ap, ◌∙◌}
use mathlib.Core.Bool.{Bool}
use mathlib.Core.List.{List}
use Prim.Native.Nat.{ℕ, zero, suc, ◌≤◌}
use native.Mathlib.Numerals.{add-one}
use native.Mathlib.Omega.{arith}
use borrow.Author.Rules.{rules}
use borrow.Author.Tests.{tests}
use mir.Syntax.{w8}
use mir.Val.{to_z, of_z}
use lib.IntN.{ℤ, pos}
use lib.ListN.{length, get_or, take}
use lib.Seq.{take_all}
use lib.Ieee.{Float, nan, binary32, of_int, eq}
use Rattle.std.specs.List.{list_all, zip}
use Rattle.std.proofs.lemmas.Iterator.{YieldsList-from_slice, YieldsList-from_zip}
use Rattle.std.proofs.lemmas.Iterator.Search.{all_from_yields_List}
use Rattle.std.proofs.lemmas.List.Folds.{list_all_more}
use Rattle.std.proofs.lemmas.Slice.Zip.{length-zip, get_or-zip}
use Rattle.numbers.specs.Below.{all_below}
use Rattle.protocol.specs.declared.Kind.TheVariants.{Bert as BertKind}
use Rattle.protocol.specs.declared.SyncBurst.TheVariants.{Frame}
use Rattle.protocol.specs.Bursts.{signs_of}
use Rattle.given_symbols.specs.Offender.{bert_headed}
use Rattle.given_symbols.proofs.has_bert_head.Goals as goal

-- a symbol beside its sign
abbrev same : Float × ℤ → Bool
same p = eq p.0 (of_int binary32 (to_z w8 (of_z w8 p.1)))

signs : List ℤ
signs = signs_of (Frame BertKind)

eight : length signs ≡ 8
unfolding signs signs_of
eight = refl

module _ (symbols : List Float) (many : 8 ≤ length symbols) where
  pairs : List (Float × ℤ)
  pairs = zip symbols signs

  first_pairs : (n : ℕ) → n ≤ 8 → list_all same (take n pairs) ≡ all_below n (λ (i : ℕ). same (get_or symbols i nan, get_or signs i (pos 0)))
  unfolding pairs all_below
  first_pairs zero h = refl
  first_pairs (suc n) h =
      let long = length-zip symbols signs in
      let e = eight in
      let more = rw add-one at (list_all_more same (zip symbols signs) n (nan, pos 0) (omega arith)) in
      more ∙ rw (first_pairs n (omega arith), get_or-zip symbols signs n (nan, pos 0) (omega arith) (omega arith))

  all_pairs : list_all same pairs ≡ bert_headed symbols
  unfolding pairs signs all_below signs_of bert_headed
  all_pairs = ap (list_all same) (sym (take_all 8 (zip symbols signs) (omega (arith, length-zip symbols signs, eight)))) ∙ first_pairs 8 (omega arith)

pub returns : goal.returns
unfolding signs pairs
returns c =
    let symbols = c.args.symbols.now in
    let road = YieldsList-from_zip (YieldsList-from_slice symbols cc) (YieldsList-from_slice signs cc) in
    all_from_yields_List same c.all.new.self _ _ c.all.ensures.ran road (λ x b q k. search (rules, tests)) ∙ all_pairs symbols (omega arith)
