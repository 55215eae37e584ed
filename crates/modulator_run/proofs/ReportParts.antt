-- Reports in a list of calls: what one more call makes of them. Assumes nothing.
use mathlib.Core.Path.{◌≡◌, refl, sym, ap, subst, ◌∙◌}
use mathlib.Core.Logic.{◌⊎◌, inl, inr}
use mathlib.Core.Bool.{false}
use mathlib.Core.List.{List, [], ◌∷◌, ◌++◌, append_assoc}
use Prim.Native.Nat.{ℕ}
use lib.Dec.{T}
use Rattle.modulator_run.specs.Rules.{Call, provide, read, update, ask}
use Rattle.modulator_run.specs.Kinds.{stores, asks}
use Rattle.modulator_run.specs.Reports.{Owed, Reporting, Untold}
use Rattle.modulator_run.proofs.LastCall.{none_more, no_parts, last_parts}

owed_behind : (xs ys : List Call) → Owed ys → Owed (xs ++ ys)
owed_behind xs ys o = record {
  before = xs ++ o.before;
  call = o.call;
  since = o.since;
  parts = ap (λ (ds : List Call). xs ++ ds) o.parts ∙ sym (append_assoc xs o.before _);
  started = o.started;
  unstopped = o.unstopped;
}

pub reporting_more : (cs : List Call) (c : Call) → Reporting cs → Reporting (cs ++ c ∷ [])
reporting_more cs c r = record {
  before = r.before;
  fill = r.fill;
  capacity = r.capacity;
  latency = r.latency;
  since = r.since ++ c ∷ [];
  parts = ap (λ (ds : List Call). ds ++ c ∷ []) r.parts ∙ append_assoc r.before (update r.fill r.capacity r.latency ∷ r.since) (c ∷ []);
  taken = r.taken;
  owed = r.owed;
}

-- the last call finds an end owed, or one before it does
reporting_last : (cs : List Call) (c : Call) → Reporting (cs ++ c ∷ []) → (T (stores c) × Owed cs) ⊎ Reporting cs
reporting_last cs c r = elim (last_parts cs c r.before (update r.fill r.capacity r.latency) r.since r.parts) [
  | inl (same, last) ↦ inl (subst (λ (d : Call). T (stores d)) (sym last) r.taken, subst Owed (sym same) r.owed)
  | inr (ws, parts) ↦ inr (record { before = r.before; fill = r.fill; capacity = r.capacity; latency = r.latency; since = ws; parts = parts; taken = r.taken; owed = r.owed })
]

pub untold_more : (p : ℕ) (cs : List Call) (c : Call) (n : ℕ) → asks c ≡ false → (T (stores c) → Owed cs → ⊥) → Untold p cs n → Untold p (cs ++ c ∷ []) n
unfolding reporting_more
untold_more p cs c n quiet none-owed u =
    let r = u.report in
    let front : List Call = r.before ++ update r.fill r.capacity r.latency ∷ [] in
    let all : cs ≡ front ++ r.since = r.parts ∙ sym (append_assoc r.before (update r.fill r.capacity r.latency ∷ []) r.since) in
    record {
      report = reporting_more cs c r;
      number = u.number;
      unasked = none_more asks r.since c u.unasked quiet;
      newest = λ newer. elim (reporting_last r.since c newer) [
        | inl (taken, owing) ↦ none-owed taken (subst Owed (sym all) (owed_behind front r.since owing))
        | inr before ↦ u.newest before
      ];
    }

-- ---- the update itself
pub reporting_here : (cs : List Call) (c : Call) → T (stores c) → Owed cs → Reporting (cs ++ c ∷ [])
unfolding stores
reporting_here cs (provide frame symbols) t o = absurd t
reporting_here cs (read room) t o = absurd t
reporting_here cs (update fill capacity latency) t o =
    record { before = cs; fill = fill; capacity = capacity; latency = latency; since = []; parts = refl; taken = t; owed = o }
reporting_here cs ask t o = absurd t

pub reporting_none : Reporting [] → ⊥
reporting_none r = no_parts r.before _ r.since r.parts
