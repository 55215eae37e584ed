-- Document 02 h): "Prove that silence clears the slate." Of the rules, and of the record by the contracts' own definitions. Assumes nothing.
use Rattle.std.specs.Prelude.{None}
use mathlib.Core.Path.{◌≡◌, sym, ap, ◌∙◌, subst}
use mathlib.Core.Bool.{false}
use mathlib.Core.List.{List, ◌++◌, map, append-nil}
use Prim.Native.Nat.{ℕ, ◌+◌, ◌^◌, ◌<◌}
use native.Mathlib.Omega.{arith}
use lib.ListN.{length}
use Rattle.machine.specs.Runs.{run, answers, Each}
use Rattle.machine.proofs.Parts.{run_joined, each_front, each_back}
use Rattle.shaping.specs.Rate.{Rate}
use Rattle.shaping.proofs.RateFacts.{Facts}
use Rattle.search.specs.declared.Candidate.TheVariants.{Nothing}
use Rattle.search.specs.declared.Control.{Control}
use Rattle.demodulator_run.specs.Rules.{History, start}
use Rattle.demodulator_run.specs.Run.{fresh_at}
use Rattle.demodulator_run.specs.Calls.{Call, rules, receiver, Given}
use Rattle.demodulator_run.proofs.Pass.{controlled}
use Rattle.demodulator_run.proofs.Sixteen.{taps_size}
use Rattle.demodulator_run.proofs.ReceiverRun.{receiver_run, goes_on}
use Rattle.silence.specs.Later.{later_told, later_candidate, later_timer, later_control, later_history}
use Rattle.silence.specs.Silence.{pause, least_pause, counted, counted_by_rules, Pause}
use Rattle.silence.proofs.SilentRun.{Cleared}
use Rattle.silence.proofs.PauseClears.{pause_clears, least_pause_clears}
use Rattle.silence.proofs.LaterCalls.{calls_later}

module _ (R : Rate) (F : Facts R) where
  -- ---- a history that is cleared goes on as a fresh start, so many samples later
  module _ (h : History) (C : Cleared R.p h) where
    pub later_start : h ≡ later_history h.samples start
    unfolding later_candidate later_timer
    later_start =
        let n : h.control.sample ≡ 0 + length h.samples = omega (arith, C.count) in
        let e : h.control ≡ later_control (length h.samples) start.control = C.control ∙ ap (controlled Nothing None None false) n in
        λ i. record { samples = sym (append-nil h.samples) i; control = e i }

    pub cleared_answers : (ds : List Call) → (run (rules R) h ds).control.sample < 2 ^ 63
        → answers (rules R) h ds ≡ map (later_told h.control.sample) (answers (rules R) start ds)
    cleared_answers ds below =
        let some = F.some in
        ap (λ (k : History). answers (rules R) k ds) later_start
        ∙ calls_later R.taps R.p (omega arith) F.few (taps_size R F) F.finite h.samples C.since C.long C.zeros ds start
        (subst (λ (k : History). (run (rules R) k ds).control.sample < 2 ^ 63) later_start below)
        ∙ ap (λ (k : ℕ). map (later_told k) (answers (rules R) start ds)) (sym C.count)

  -- ---- the rules
  pub silence_clears_rules : (cs zs ds : List Call) → Pause (pause R.p) (counted_by_rules R) cs zs → counted_by_rules R ((cs ++ zs) ++ ds) < 2 ^ 63
      → answers (rules R) (run (rules R) start (cs ++ zs)) ds ≡ map (later_told (counted_by_rules R (cs ++ zs))) (answers (rules R) start ds)
  silence_clears_rules cs zs ds P below =
      cleared_answers _ (pause_clears R F cs zs P) ds (subst (λ (k : History). k.control.sample < 2 ^ 63) (run_joined (rules R) (cs ++ zs) ds start) below)

  -- ---- the record
  pub counts : (cs : List Call) → Each Given cs → counted R cs ≡ counted_by_rules R cs
  counts cs g = ap (λ (c : Control). c.sample) (receiver_run R F cs g).0.control

  module _ (n : ℕ) (cs zs ds : List Call) (g : Each Given ((cs ++ zs) ++ ds)) where
    both : Each Given (cs ++ zs)
    both = each_front Given (cs ++ zs) ds g

    first : Each Given cs
    first = each_front Given cs zs both

    by_rules : Pause n (counted R) cs zs → Pause n (counted_by_rules R) cs zs
    by_rules P = let long = P.long in record { silent = P.silent; long = omega (arith, counts cs first, counts (cs ++ zs) both) }

    cleared_record : Cleared R.p (run (rules R) start (cs ++ zs)) → counted R ((cs ++ zs) ++ ds) < 2 ^ 63
        → answers receiver (run receiver (fresh_at R) (cs ++ zs)) ds ≡ map (later_told (counted R (cs ++ zs))) (answers receiver (fresh_at R) ds)
    cleared_record C below =
        let last : Each Given ds = each_back Given (cs ++ zs) ds g in
        let h : History = run (rules R) start (cs ++ zs) in
        let end : (run (rules R) h ds).control.sample < 2 ^ 63 =
        subst (λ (k : History). k.control.sample < 2 ^ 63) (run_joined (rules R) (cs ++ zs) ds start) (omega (arith, counts ((cs ++ zs) ++ ds) g)) in
        goes_on R F (cs ++ zs) ds both last
        ∙ cleared_answers h C ds end
        ∙ ap (λ (k : ℕ). map (later_told k) (answers (rules R) start ds)) (sym (counts (cs ++ zs) both))
        ∙ ap (map (later_told (counted R (cs ++ zs)))) (sym (receiver_run R F ds last).1)

  -- "take any receiver reached from a fresh start .., feed it 4,000 zero samples .. From then on, for equal further samples and replies, its offers, refusals and
  -- carrier answers are those of a fresh receiver, sample numbers apart, which differ by a constant. The premise is that neither reaches the count's end."
  -- The constant is the count until then. A reply may be owed when the pause begins, and calls may be refused, in the pause too.
  pub silence_clears : (cs zs ds : List Call) → Each Given ((cs ++ zs) ++ ds) → Pause (pause R.p) (counted R) cs zs → counted R ((cs ++ zs) ++ ds) < 2 ^ 63
      → answers receiver (run receiver (fresh_at R) (cs ++ zs)) ds ≡ map (later_told (counted R (cs ++ zs))) (answers receiver (fresh_at R) ds)
  silence_clears cs zs ds g P = cleared_record (pause R.p) cs zs ds g (pause_clears R F cs zs (by_rules (pause R.p) cs zs ds g P))

  -- the fewest zeros that do
  pub silence_clears_sharp : (cs zs ds : List Call) → Each Given ((cs ++ zs) ++ ds) → Pause (least_pause R.p) (counted R) cs zs → counted R ((cs ++ zs) ++ ds) < 2 ^ 63
      → answers receiver (run receiver (fresh_at R) (cs ++ zs)) ds ≡ map (later_told (counted R (cs ++ zs))) (answers receiver (fresh_at R) ds)
  silence_clears_sharp cs zs ds g P =
      cleared_record (least_pause R.p) cs zs ds g
      (least_pause_clears R F cs zs (first (least_pause R.p) cs zs ds g) (by_rules (least_pause R.p) cs zs ds g P))
