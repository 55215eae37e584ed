-- A turn: what its record is told; and of a fit one the end of the input, a bad line, or what the bytes make of the line at hand. Assumes nothing.
use mathlib.Core.Path.{◌≡◌, refl, sym, ap, ◌∙◌}
use mathlib.Core.Bool.{Bool, true, false, cond}
use mathlib.Core.List.{List, [], ◌∷◌}
use Prim.Native.Nat.{ℕ, ◌<◌, min}
use native.Mathlib.Nat.{not-suc-le-zero}
use native.Mathlib.Omega.{arith}
use lib.ListN.{length, take}
use lib.Ieee.{Float}
use Rattle.shaping.specs.Rate.{rate_of}
use Rattle.protocol.specs.Refusals.{PaperRefusal, bare}
use Rattle.modulator.specs.declared.SoftModulator.{SoftModulator}
use Rattle.modulator.specs.declared.ModulatorFrame.TheVariants.{Nothing as NoFrame}
use Rattle.modulator.specs.Paper.{Paper, refusal, done}
use Rattle.modulator.specs.Fit.{unfit_number}
use Rattle.modulator.specs.Calls.{provided}
use Rattle.modulator.proofs.FrameCases.{frame_unfit, frame_none}
use Rattle.sending.specs.declared.Sending.{Sending}
use Rattle.sending.specs.declared.AfterPart.{AfterPart}
use Rattle.sending.specs.Calls.{Left, part_of, quiet, lacking, added, held, judged, closed, or_closed, moved, with_taken, is_fit, record_told, turned, Says, TurnSays}
use Rattle.sending.proofs.Parts.{added_number}

pub closed_last : (s : Sending) → (closed s).last ≡ true
unfolding closed part_of
closed_last s = refl

-- ---- of a fit record
module _ (s : Sending) (bytes : List ℕ) (some : 0 < length bytes) where
  pub moved_some : moved s bytes ≡ or_closed (judged (held s bytes))
  unfolding moved
  moved_some = by_bytes bytes some
    where
      by_bytes : (bytes : List ℕ) → 0 < length bytes → moved s bytes ≡ or_closed (judged (held s bytes))
      by_bytes [] some = absurd (not-suc-le-zero some)
      by_bytes (b ∷ bytes) some = refl

  module _ (l : Left) (e : judged (held s bytes) ≡ l) where
    moved_on : l.bad ≡ false → moved s bytes ≡ l
    moved_on fine = rw (moved_some, e, fine)

    moved_bad : l.bad ≡ true → moved s bytes ≡ closed l.sending
    moved_bad bad = rw (moved_some, e, bad)

-- ---- by the record
module _ (s : Sending) (bytes : List ℕ) where
  pub turned_fit : is_fit s.modulator ≡ true → turned s bytes ≡ with_taken (length (added s bytes)) (moved s bytes)
  unfolding turned
  turned_fit fit = rw fit

  pub turned_unfit : is_fit s.modulator ≡ false → turned s bytes ≡ quiet (refusal (bare (unfit_number s.modulator))) s false
  unfolding turned
  turned_unfit unfit = rw unfit

-- a fit record's turn, by what it makes of the line at hand
module _ (s : Sending) (bytes : List ℕ) (fit : is_fit s.modulator ≡ true) (some : 0 < length bytes) (l : Left) (e : judged (held s bytes) ≡ l) where
  pub turned_on : l.bad ≡ false → turned s bytes ≡ with_taken (length (added s bytes)) l
  turned_on fine = turned_fit s bytes fit ∙ ap (with_taken (length (added s bytes))) (moved_on s bytes some l e fine)

  pub turned_bad : l.bad ≡ true → turned s bytes ≡ with_taken (length (added s bytes)) (closed l.sending)
  turned_bad bad = turned_fit s bytes fit ∙ ap (with_taken (length (added s bytes))) (moved_bad s bytes some l e bad)

pub turned_end : (s : Sending) → is_fit s.modulator ≡ true → turned s [] ≡ with_taken (length (added s [])) (closed s)
unfolding moved
turned_end s fit = turned_fit s [] fit

-- ---- what a record is told
module _ (m : SoftModulator) where
  pub told_fit : record_told m ≡ done → is_fit m ≡ true
  told_fit e = by_test (is_fit m) e
    where
      by_test : (fit : Bool) → cond fit done (refusal (bare (unfit_number m))) ≡ done → fit ≡ true
      by_test true e = refl
      by_test false e = cc

  pub told_unfit : (number : PaperRefusal) → record_told m ≡ refusal number → is_fit m ≡ false
  told_unfit number e = by_test (is_fit m) e
    where
      by_test : (fit : Bool) → cond fit done (refusal (bare (unfit_number m))) ≡ refusal number → fit ≡ false
      by_test true e = cc
      by_test false e = refl

  -- by a frame that is none
  pub told_none : (symbols : List Float) → (provided (rate_of m.rate) m NoFrame symbols).answer ≡ record_told m
  told_none symbols = by_test (is_fit m) refl
    where
      by_test : (fit : Bool) → is_fit m ≡ fit → (provided (rate_of m.rate) m NoFrame symbols).answer ≡ record_told m
      by_test true e = rw (frame_none (rate_of m.rate) m NoFrame symbols e refl, e)
      by_test false e = rw (frame_unfit (rate_of m.rate) m NoFrame symbols e, e)

-- ---- as the code has it
module _ (s : Sending) (bytes : List ℕ) (r : AfterPart) where
  pub move_none : length bytes ≡ 0 → Says (closed s) r → Says (moved s bytes) r
  unfolding moved
  move_none none said = rw (by_bytes bytes none) said
    where
      by_bytes : (bytes : List ℕ) → length bytes ≡ 0 → moved s bytes ≡ closed s
      by_bytes [] none = refl
      by_bytes (b ∷ bytes) none = absurd (omega arith)

  module _ (some : 0 < length bytes) (p : AfterPart) (took : Says (judged (held s bytes)) p) where
    pub move_bad : p.bad ≡ true → Says (closed p.sending) r → Says (moved s bytes) r
    move_bad bad said = rw (moved_bad s bytes some (judged (held s bytes)) refl (sym took.tells ∙ bad), ← took.leaves) said

    pub move_on_lem : p.bad ≡ false → Says (moved s bytes) p
    move_on_lem fine = rw (moved_on s bytes some (judged (held s bytes)) refl (sym took.tells ∙ fine)) took

module _ (s : Sending) (bytes : List ℕ) (n : ℕ) where
  -- a fit record, with k of the bytes taken
  pub turn_done : length bytes ≡ 97 → is_fit s.modulator ≡ true → (p : AfterPart) → Says (moved s (take n bytes)) p → (k : ℕ) → k ≡ min n (lacking s)
      → TurnSays s bytes n (record { answer = p.answer; sending = p.sending; bytes = p.bytes; length = p.length; taken = k; bad = p.bad; last = p.last })
  turn_done places fit p moves k count =
      rw (turned_fit s (take n bytes) fit)
      (record {
        answers = moves.answers;
        leaves = moves.leaves;
        writes = moves.writes;
        counts = moves.counts;
        takes = count ∙ sym (added_number s bytes n places);
        tells = moves.tells;
        ends = moves.ends;
      })

  pub turn_refused : is_fit s.modulator ≡ false → (told : Paper) → told ≡ record_told s.modulator → (r : AfterPart) → Says (quiet told s false) r → TurnSays s bytes n r
  turn_refused unfit told same r said = rw (turned_unfit s (take n bytes) unfit) (rw (same, unfit) at said)
