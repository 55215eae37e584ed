-- The rules after silence, single call by single call: every answer is that of the rules from a fresh start, at a later sample. Assumes nothing.
use Rattle.std.specs.Prelude.{Option, Some, None}
use mathlib.Core.Path.{◌≡◌, refl, ap, ◌∙◌}
use mathlib.Core.Bool.{Bool, not}
use mathlib.Core.List.{List, [], ◌∷◌, ◌++◌, append_assoc}
use Prim.Native.Nat.{ℕ, ◌+◌, ◌*◌, ◌^◌, ◌≤◌, ◌<◌}
use native.Mathlib.Omega.{arith}
use borrow.Author.Tests.{ne_eqb}
use lib.Dec.{ltb}
use lib.IntN.{ℤ}
use lib.ListN.{length}
use lib.Ieee.{Float}
use Rattle.numbers.specs.Firsts.{written}
use Rattle.shaping.specs.Rate.{tap_count}
use Rattle.shaping.specs.Reach.{Finite}
use Rattle.search.specs.declared.Control.{Control}
use Rattle.search.specs.declared.Reply.{Reply}
use Rattle.search.specs.Turn.{Outcome, quiet, offer, sampled, replied}
use Rattle.demodulator.specs.Spans.{eight}
use Rattle.demodulator.specs.Calls.{frame, done, carrier, offer_of, timer_held}
use Rattle.demodulator_run.specs.Filter.{ago}
use Rattle.demodulator_run.specs.Rules.{Single, sample, reply, query, History, settled, admitted, given, answered, single}
use Rattle.demodulator_run.proofs.SameWindow.{eight_same, window_same}
use Rattle.silence.specs.Later.{later_paper, later_timer, later_control, later_history, later_after}
use Rattle.silence.proofs.ZeroF.{ZeroFrom}
use Rattle.silence.proofs.LaterControl.{later_shown, later_outcome, sampled_later, replied_later, pick}
use Rattle.silence.proofs.LaterF.{ago_later}

module _ (table : List Float) (p : ℕ) (some : 0 < p) (few : p ≤ 10) (size : length table ≤ tap_count p) (fine : Finite table)
    (pre : List ℤ) (since : ℕ) (long : since + 200 * p ≤ length pre) (z : ZeroFrom since (length pre) pre) where
  -- ---- a sample
  settled_later : (ys : List ℤ) (room : List Float) (o : Outcome) → settled table p (pre ++ ys) room (later_outcome (length pre) o) ≡ later_after pre (settled table p ys room o)
  unfolding settled later_paper
  settled_later ys room (quiet c) = refl
  settled_later ys room (offer shown c) =
      ap (λ (f : ℕ → Float). record {
        said = record { answer = frame (offer_of (later_shown (length pre) shown) (c.sample + length pre)); room = written f 192 room };
        history = record { samples = pre ++ ys; control = later_control (length pre) c };
      }) (window_same p some (ago table p (pre ++ ys)) (ago table p ys) (ago_later table p size fine pre since long z ys) shown)

  heard_later : (ys : List ℤ) → eight p (ago table p (pre ++ ys)) ≡ eight p (ago table p ys)
  heard_later ys = eight_same p some (ago table p (pre ++ ys)) (ago table p ys) (ago_later table p size fine pre since long z ys)

  admitted_later : (k : History) (x : ℤ) (room : List Float) → k.control.sample + length pre < 2 ^ 63
      → admitted table p (later_history pre k) x room ≡ later_after pre (admitted table p k x room)
  admitted_later k x room below =
      let ys : List ℤ = k.samples ++ (x ∷ []) in
      ap (λ (l : List ℤ). settled table p l room (sampled p (eight p (ago table p l)) (later_control (length pre) k.control))) (append_assoc pre k.samples (x ∷ []))
      ∙ ap (λ (v : ℕ → Float). settled table p (pre ++ ys) room (sampled p v (later_control (length pre) k.control))) (heard_later ys)
      ∙ ap (settled table p (pre ++ ys) room) (sampled_later (length pre) p (eight p (ago table p ys)) k.control (omega arith))
      ∙ settled_later ys room (sampled p (eight p (ago table p ys)) k.control)

  pub given_later : (k : History) (x : ℤ) (room : List Float) → k.control.sample + length pre < 2 ^ 63
      → given table p (later_history pre k) x room ≡ later_after pre (given table p k x room)
  unfolding given later_paper
  given_later k x room below =
      rw (ne_eqb (k.control.sample + length pre) (2 ^ 63) (λ e. omega arith), ne_eqb k.control.sample (2 ^ 63) (λ e. omega arith))
      (pick (later_after pre) k.control.owed refl (pick (later_after pre) (ltb (length room) 192) refl (admitted_later k x room below)))

  -- ---- a reply and a query
  pub answered_later : (k : History) (r : Reply) → k.control.sample + length pre ≤ 2 ^ 63 → answered table p (later_history pre k) r ≡ later_after pre (answered table p k r)
  unfolding answered later_paper
  answered_later k r below =
      pick (later_after pre) (not k.control.owed) refl
      (ap (λ (v : ℕ → Float). record {
        said = record { answer = done; room = [] };
        history = record { samples = pre ++ k.samples; control = replied p v r (later_control (length pre) k.control) };
      }) (heard_later k.samples)
      ∙ ap (λ (c : Control). record { said = record { answer = done; room = [] }; history = record { samples = pre ++ k.samples; control = c } })
      (replied_later (length pre) p (eight p (ago table p k.samples)) r k.control (omega arith)))

  held_later : (t : Option ℕ) → timer_held (later_timer (length pre) t) ≡ timer_held t
  unfolding later_timer
  held_later None = refl
  held_later (Some end) = refl

  pub single_later : (k : History) (c : Single) → k.control.sample + length pre < 2 ^ 63 → single table p (later_history pre k) c ≡ later_after pre (single table p k c)
  unfolding single later_paper
  single_later k (sample x room) below = given_later k x room below
  single_later k (reply r) below = answered_later k r (omega arith)
  single_later k query below = ap (λ (b : Bool). record { said = record { answer = carrier b; room = [] }; history = later_history pre k }) (held_later k.control.dcd)
