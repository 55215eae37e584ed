-- One of a desk's receivers in memory: it is taken out of the desk, so that it can be lent, and another is put back in its place. Assumes `Logic`.
use mathlib.Core.Path.{◌≡◌, refl, sym, ◌∙◌}
use Prim.Native.Nat.{ℕ, ◌+◌, ◌*◌, ◌<◌}
use mathlib.Core.List.{List, [], ◌∷◌}
use native.Mathlib.Omega.{arith}
use lib.ListN.{length, set, length-set}
use seplogic.Ra.Ura.{Ura}
use base.Fraction.{full_share}
use base.Logic.{ent, sep, guard}
use types.Logic.{Logic, sem}
use types.Kit.{Item, ‵, ◌⊛◌, mean, ◌$◌, ◌∵◌, !, qed, move, use1, use2, split, join, fsplit, fjoin, feq_l, feq_i, rewrite, check, frame, done}
use types.Share.{parts, arr_parts}
use denote.RattleType.{RattleType}
use denote.Memory.{part_at, mem, shares}
use denote.Array.{Array}
use denote.ArrayMemory.{Array-apart, Array-whole}
use denote.Index.{place, place_is, others, takes, puts}
use denote.Struct.Loose.{loosens}
use denote.Struct.At.{FieldAt}
use borrow.Struct.Lend.{kept_record_as, record_apart_as, record_fill_as}
use Rattle.demodulator.specs.declared.SoftDemodulator.{SoftDemodulator}
use Rattle.demodulator.specs.contracts.SoftDemodulator as T
use Rattle.desk.specs.declared.Desk.{Desk}
use Rattle.desk.specs.Desk.{blank, receiver_at, with_receiver}
use Rattle.desk.specs.contracts.Desk as D
use Rattle.desk.proofs.Desk.TheLaws as D'

abbrev R : RattleType
R = T.the_row

abbrev Receivers : RattleType
Receivers = Array R 8

-- the field lies in memory as the array of the records does
pub same : (xs : List SoftDemodulator) (b o : ℕ) → part_at Receivers full_share xs b o ≡ part_at (FieldAt (D.the_type).parts 1).row full_share ((FieldAt (D.the_type).parts 1).into xs) b o
same xs b o = refl

module _ {M : Type 1} {𝓤 : Ura M} (𝓛 : Logic 𝓤) (d : Desk) (i b o : ℕ) where
  abbrev Around : Item 𝓤
  Around = kept_record_as D.the_type (loosens (D.the_type).parts D'.the_laws) 1 8 Receivers (λ xs. xs) (λ xs. xs) same (λ xs b o. sym (same xs b o)) (D.struct).as_values (D.struct).Ghost (D.struct).make (λ v. tt) (λ x. refl) (λ v g. refl) M 𝓤 𝓛 d b o

  -- what is kept of the desk while seat i's receiver is out
  abbrev pub Kept : Item 𝓤
  Kept = Around ⊛ ‵ (others (shares R) full_share d.receivers i b (o + 8))

  -- where it lies
  abbrev pub there : ℕ
  there = i * 8088 + (o + 8)

  at_place : place (mem R).size (o + 8) i ≡ there
  at_place = place_is 8088 (o + 8) i

  pub out : i < 8 → ent 𝓤 (sem 𝓛 (part_at D.the_row full_share d b o)) (guard 𝓤 (length d.receivers ≡ 8) (sep 𝓤 (sem 𝓛 (part_at R full_share (receiver_at d i) b there)) (mean 𝓛 Kept)))
  out below =
      qed 𝓛 (‵ (part_at D.the_row full_share d b o) ∷ []) ∵
      use1 𝓛 (‵ (part_at Receivers full_share d.receivers b (o + 8)) ⊛ Around) (record_apart_as D.the_type (loosens (D.the_type).parts D'.the_laws) 1 8 Receivers (λ xs. xs) (λ xs. xs) same (λ xs b o. sym (same xs b o)) (D.struct).as_values (D.struct).Ghost (D.struct).make (λ v. tt) (λ x. refl) (λ v g. refl) 𝓛 refl refl d b o) $ split ! $
      use1 𝓛 (‵ ((arr_parts (shares R) 8).part full_share d.receivers b (o + 8))) (Array-apart 𝓛 R full_share tt 8 d.receivers b (o + 8)) $ fsplit ! $ feq_l ! (λ l.
      use1 𝓛 (‵ (part_at R full_share (receiver_at d i) b (place (mem R).size (o + 8) i)) ⊛ ‵ (others (shares R) full_share d.receivers i b (o + 8))) (takes (shares R) full_share 𝓛 d.receivers i blank b (o + 8) (omega (arith, l, below))) $ split ! $
      rewrite ! 0 (λ (z : ℕ). ‵ (part_at R full_share (receiver_at d i) b z)) at_place refl $
      check ! l $ frame ! $ move ! (1 ∷ 0 ∷ []) $ join ! $ done !)

  pub back : i < 8 → length d.receivers ≡ 8 → (m : SoftDemodulator) → ent 𝓤 (sep 𝓤 (sem 𝓛 (part_at R full_share m b there)) (mean 𝓛 Kept)) (sem 𝓛 (part_at D.the_row full_share (with_receiver i m d) b o))
  back below l m =
      qed 𝓛 (‵ (part_at R full_share m b there) ∷ Kept ∷ []) ∵ rewrite ! 0 (λ (z : ℕ). ‵ (part_at R full_share m b z)) (sym at_place) refl $
      move ! (1 ∷ []) $ split ! $ move ! (2 ∷ 1 ∷ []) $
      use2 𝓛 (‵ (parts (mem R) (shares R) full_share (set d.receivers i m) b (o + 8))) (puts (shares R) full_share 𝓛 d.receivers i m b (o + 8) (omega (arith, l, below))) $
      feq_i ! ℕ (length (set d.receivers i m)) 8 (length-set d.receivers i m ∙ l) $ fjoin ! $
      use1 𝓛 (‵ (part_at Receivers full_share (set d.receivers i m) b (o + 8))) (Array-whole 𝓛 R full_share 8 (set d.receivers i m) b (o + 8)) $
      use2 𝓛 (‵ (part_at D.the_row full_share (with_receiver i m d) b o)) (record_fill_as D.the_type (loosens (D.the_type).parts D'.the_laws) 1 8 Receivers (λ xs. xs) (λ xs. xs) same (λ xs b o. sym (same xs b o)) (D.struct).as_values (D.struct).Ghost (D.struct).make (λ v. tt) (λ x. refl) (λ v g. refl) refl M 𝓤 𝓛 d (set d.receivers i m) b o) $ done !
