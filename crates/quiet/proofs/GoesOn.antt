-- What a control that goes on is known to be, and that it goes on while samples are counted. Assumes nothing.
use Rattle.std.specs.Prelude.{Option, Some, None}
use mathlib.Core.Path.{◌≡◌, refl, ap}
use mathlib.Core.Bool.{Bool, true, false, not, ◌&&◌}
use Prim.Native.Nat.{ℕ, ◌^◌, ◌≤◌, ◌<◌}
use native.Mathlib.Omega.{arith}
use borrow.Author.Tests.{lt-ltb, ltb-true}
use lib.Dec.{T, ltb, le→leb, ltb→lt}
use lib.Ieee.Bits.{is_true, is_false}
use lib.Ieee.Fits.{and_l, and_r}
use Rattle.numbers.proofs.Tests.{holds}
use Rattle.search.specs.declared.Control.{Control}
use Rattle.search.specs.Search.{with_timer}
use Rattle.search.specs.Turn.{cleared, counted_to}
use Rattle.search.specs.Fit.{timer_fit_lem, control_fit_lem}
use Rattle.search.proofs.AgeInPass.{by_test}
use Rattle.search.proofs.HeldOrNot.{held_or_not}
use Rattle.search.proofs.Clauses.{clauses, joined}
use Rattle.search.proofs.TurnFits.{cleared_fit, taken_later}
use Rattle.quiet.specs.Walk.{is_due_lem, goes_on_lem}

-- ---- clause by clause
pub record Goes (p : ℕ) (c : Control) : Type 0 where
  pub fit : T (control_fit_lem p c)
  pub no_reply : c.owed ≡ false
  pub count : c.sample < 2 ^ 63
  pub far : is_due_lem c.wait ≡ false

pub goes : (p : ℕ) (c : Control) → goes_on_lem p c ≡ true → Goes p c
unfolding goes_on_lem
goes p c e =
    let fit : Bool = control_fit_lem p c in
    let reply : Bool = not c.owed in
    let count : Bool = ltb c.sample (2 ^ 63) in
    let due : Bool = not (is_due_lem c.wait) in
    let three = and_l (fit && reply && count) due (holds e) in
    let two = and_l (fit && reply) count three in
    record {
      fit = and_l fit reply two;
      no_reply = is_false c.owed (and_r fit reply two);
      count = ltb→lt c.sample (2 ^ 63) (and_r (fit && reply) count three);
      far = is_false (is_due_lem c.wait) (and_r (fit && reply && count) due (holds e));
    }

pub goes_back : (p : ℕ) (c : Control) → Goes p c → goes_on_lem p c ≡ true
unfolding goes_on_lem
goes_back p c g = rw (is_true (control_fit_lem p c) g.fit, g.no_reply, lt-ltb c.sample (2 ^ 63) g.count, g.far)

-- ---- the timer
-- cleared at one sample and again at a later one, it is what the later one alone makes of it
pub cleared_once : (a b : ℕ) (t : Option ℕ) → a ≤ b → cleared b (cleared a t) ≡ cleared b t
unfolding cleared
cleared_once a b None h = refl
cleared_once a b (Some end) h =
    by_test (λ (t : Option ℕ). cleared b t ≡ cleared b (Some end)) (ltb end a) None (Some end) (λ e. past (ltb-true end a e)) (λ e. refl)
  where
    past : end < a → cleared b None ≡ cleared b (Some end)
    past l = unfold cleared in rw (lt-ltb end b (omega arith))

-- ---- counted
pub counted_once : (a b : ℕ) (c : Control) → a ≤ b → counted_to b (counted_to a c) ≡ counted_to b c
counted_once a b c h = ap (λ (t : Option ℕ). with_timer t (counted_to b c)) (cleared_once a b c.dcd h)

-- at any later number and with any timer that is fit
pub goes_timed : (p n : ℕ) (t : Option ℕ) (c : Control) → Goes p c → c.sample ≤ n → n < 2 ^ 63 → T (timer_fit_lem p t) → Goes p (with_timer t (counted_to n c))
goes_timed p n t c g later l h =
    let s = clauses p c g.fit in
    record {
      fit =
          joined p (with_timer t (counted_to n c))
          (record {
            count = le→leb n (2 ^ 63) (omega arith);
            timer = h;
            candidate = s.candidate;
            wait = s.wait;
            reply = s.reply;
            taken = taken_later c.sample n later (held_or_not c.candidate) s.taken;
            kept = s.kept;
          });
      no_reply = g.no_reply;
      count = l;
      far = g.far;
    }

pub goes_counted : (p n : ℕ) (c : Control) → Goes p c → c.sample ≤ n → n < 2 ^ 63 → Goes p (counted_to n c)
goes_counted p n c g later l = goes_timed p n (cleared n c.dcd) c g later l (cleared_fit p n c.dcd (clauses p c g.fit).timer)

pub timer_fit_law : (p : ℕ) (c : Control) → Goes p c → T (timer_fit_lem p c.dcd)
timer_fit_law p c g = (clauses p c g.fit).timer
