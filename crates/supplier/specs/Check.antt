-- Document 02 m): the samples of a box that "claims to send what we send". Assumes nothing.
use Rattle.std.specs.Prelude.{◌≡◌, Bool, false, cond, List, [], ◌∷◌, ◌++◌, ℕ, suc, ltb, eqb, ℤ, pos, negsuc, replicate, Result, Ok, Err}
use Rattle.protocol.specs.declared.Refusal.{Refusal}
use Rattle.protocol.specs.Refusals.{PaperRefusal, bare, at_line, on_paper}
use Rattle.sending.specs.Text.{Bad, none, in_line, bad_line_lem, samples_sent}
use Rattle.supplier.specs.declared.Checked.{Checked}
use Rattle.supplier.specs.declared.Checked.TheVariants.{Yes, Differs, Short, Long}

pub data Verdict : Type 0 where
  refused : PaperRefusal → Verdict
  yes : Verdict
  differs : ℕ → Verdict
  short : Verdict
  long : Verdict

abbrev pub checked_paper : Checked → Verdict
checked_paper Yes = yes
checked_paper (Differs sample) = differs sample
checked_paper Short = short
checked_paper Long = long

-- with a refusal in its place
abbrev pub answer_paper : Result Checked Refusal → Verdict
answer_paper (Err why) = refused (on_paper why)
answer_paper (Ok checked) = checked_paper checked

-- ---- "the sender's own from a fresh start: zero padding of a stated count, preamble, frames, end"
-- after the padding: what `send` writes of the text
unfoldable pub ours : ℕ → List ℕ → List ℤ
ours padding text = replicate padding (pos 0) ++ samples_sent text

-- ---- "Otherwise it tells the first sample that differs or, where all present agree, that the stretch is short or long."
unfoldable pub same_sample : ℤ → ℤ → Bool
same_sample (pos a) (pos b) = eqb a b
same_sample (pos a) (negsuc b) = false
same_sample (negsuc a) (pos b) = false
same_sample (negsuc a) (negsuc b) = eqb a b

-- a stretch beside ours; the first sample has the number n
unfoldable pub beside : ℕ → List ℤ → List ℤ → Verdict
beside n [] [] = yes
beside n [] (x ∷ samples) = long
beside n (y ∷ ys) [] = short
beside n (y ∷ ys) (x ∷ samples) = cond (same_sample y x) (beside (suc n) ys samples) (differs n)

-- ---- "Refusals: 8, a padding count above 122,400; 17, a bad frame line, with its number, before any sample is looked at."
unfoldable pub unless_bad : Bad → Verdict → Verdict
unless_bad none v = v
unless_bad (in_line number) v = refused (at_line 17 number)

unfoldable pub checked : ℕ → List ℕ → List ℤ → Verdict
checked padding text samples = cond (ltb 122400 padding) (refused (bare 8)) (unless_bad (bad_line_lem text) (beside 1 (ours padding text) samples))

-- ---- what the function promises
abbrev pub CheckSays : ℕ → List ℕ → List ℤ → Result Checked Refusal → Type 0
CheckSays padding text samples r = answer_paper r ≡ checked padding text samples
