-- `list_offers` meets its contract. Assumes nothing.
use mathlib.Core.Path.{◌≡◌}
use mathlib.Core.Logic.{⊎_elim}
use mathlib.Core.Bool.{true}
use Prim.Native.Nat.{ℕ}
use native.Mathlib.Omega.{arith}
use Rattle.shaping.specs.Rate.{rate_fit, samples_in_lem}
use Rattle.shaping.proofs.RateFacts.{two_rates, per_symbol_some, per_symbol_none}
use Rattle.plain.proofs.ListingCases.{no_rate, too_long, at_48_lem, at_24_lem}
use Rattle.plain.proofs.list_offers.Goals as goal

five_lem : (rate p : ℕ) → rate_fit rate ≡ true → p ≡ samples_in_lem rate → (rate ≡ 48000 → ⊥) → p ≡ 5
five_lem rate p fit e other = ⊎_elim (λ (a : rate ≡ 48000). absurd (other a)) (λ (b : rate ≡ 24000). omega (arith, e, b)) (two_rates rate fit)

pub returns-in_default : goal.returns-in_default
returns-in_default c =
    let a = c.args in
    no_rate a.rate a.recording.now a.replies.now a.numbers.now a.symbols.now (per_symbol_none a.rate c.of.result c.of.ensures c.in_default.is)

pub returns-then-recording-gt-LONGEST : goal.returns-then-recording-gt-LONGEST
returns-then-recording-gt-LONGEST c =
    let a = c.args in
    let given = per_symbol_some a.rate c.in-Some.p c.of.result c.of.ensures c.in-Some.is in
    too_long a.rate a.recording.now a.replies.now a.numbers.now a.symbols.now given.0 c.if-recording-gt-LONGEST.true

pub returns-then-rate-eq48000 : goal.returns-then-rate-eq48000
returns-then-rate-eq48000 c =
    let a = c.args in
    let given = per_symbol_some a.rate c.in-Some.p c.of.result c.of.ensures c.in-Some.is in
    let ten : c.in-Some.p ≡ 10 = omega (arith, given.1, c.if-rate-eq48000.true) in
    at_48_lem a.rate a.recording.now a.replies.now a.numbers.now a.symbols.now given.0 c.if-recording-gt-LONGEST.false c.all_sixteen.ensures
    _ _ _ _ c.if-rate-eq48000.true c.rrc_48k-table.ensures (rw ten at c.list_at.ensures)

pub returns-else-rate-eq48000 : goal.returns-else-rate-eq48000
returns-else-rate-eq48000 c =
    let a = c.args in
    let given = per_symbol_some a.rate c.in-Some.p c.of.result c.of.ensures c.in-Some.is in
    let five : c.in-Some.p ≡ 5 = five_lem a.rate c.in-Some.p given.0 given.1 c.if-rate-eq48000.false in
    at_24_lem a.rate a.recording.now a.replies.now a.numbers.now a.symbols.now given.0 c.if-recording-gt-LONGEST.false c.all_sixteen.ensures
    _ _ _ _ c.if-rate-eq48000.false c.rrc_24k-table.ensures (rw five at c.list_at-else-rate-eq48000.ensures)
