-- The offers of a receiver after a pause are those of a fresh one, at later samples. Assumes nothing.
use mathlib.Core.Path.{◌≡◌, refl, sym, ap, ◌∙◌}
use mathlib.Core.List.{List, [], ◌∷◌, ◌++◌, map, map-append, flat_map}
use Prim.Native.Nat.{ℕ, ◌+◌, ◌*◌, ◌^◌, ◌≤◌, ◌<◌}
use native.Mathlib.Omega.{arith}
use lib.IntN.{ℤ}
use lib.ListN.{length}
use lib.Ieee.{Float}
use Rattle.machine.specs.Runs.{run, answers}
use Rattle.shaping.specs.Rate.{Rate}
use Rattle.shaping.proofs.RateFacts.{Facts}
use Rattle.search.specs.declared.Reply.{Reply}
use Rattle.demodulator.specs.Spans.{eight}
use Rattle.demodulator.specs.Calls.{Paper, refusal, nothing, frame, done, carrier}
use Rattle.demodulator.specs.Singles.{sample, reply, blank}
use Rattle.demodulator_run.specs.Filter.{ago}
use Rattle.demodulator_run.specs.Rules.{History, After, single}
use Rattle.demodulator_run.proofs.Count.{sampled_count, replied_count}
use Rattle.demodulator_run.proofs.Sixteen.{taps_size}
use Rattle.silence.specs.Later.{later_paper, later_history, later_after}
use Rattle.silence.proofs.ZeroF.{ZeroFrom}
use Rattle.silence.proofs.CallsKeep.{given_keeps, answered_keeps}
use Rattle.silence.proofs.LaterSingle.{given_later, answered_later}
use Rattle.listening.specs.Listener.{Rule, Listed, listed_of, listed_in, reply_to, calls_at, offers}
use Rattle.listening.specs.Rules.{rules_at}
use Rattle.listening.proofs.OwedReply.{Between}
use Rattle.replay.specs.FullRun.{later_listed}
use Rattle.replay.proofs.EachOffer.{next_between}

-- ---- an answer's offer, and the replies that it leads to
module _ (rule : Rule) (d : ℕ) (room : List Float) where
  listed_later : (a : Paper) → listed_of rule (later_paper d a) room ≡ map (later_listed d) (listed_of rule a room)
  unfolding listed_of later_paper
  listed_later (frame o) = refl
  listed_later (refusal why) = refl
  listed_later nothing = refl
  listed_later done = refl
  listed_later (carrier there) = refl

  replies_same : (a : Paper) → map reply_to (listed_of rule (later_paper d a) room) ≡ map reply_to (listed_of rule a room)
  unfolding listed_of later_paper
  replies_same (frame o) = refl
  replies_same (refusal why) = refl
  replies_same nothing = refl
  replies_same done = refl
  replies_same (carrier there) = refl

module _ (R : Rate) (F : Facts R) (rule : Rule)
    (pre : List ℤ) (since : ℕ) (long : since + 200 * R.p ≤ length pre) (z : ZeroFrom since (length pre) pre) where
  some : 0 < R.p
  some = let u = F.some in omega arith

  reply_count : (k : History) (r : Reply) → (single R.taps R.p k (reply r)).history.control.sample ≡ k.control.sample
  reply_count k r =
      answered_keeps R.taps R.p (λ h. h.control.sample ≡ k.control.sample) k refl r
      (λ o. replied_count R.p (eight R.p (ago R.taps R.p k.samples)) r k.control)

  replies_later : (os : List Listed) (k : History) → k.control.sample + length pre ≤ 2 ^ 63
      → run (rules_at R) (later_history pre k) (map reply_to os) ≡ later_history pre (run (rules_at R) k (map reply_to os))
  unfolding run
  replies_later [] k l = refl
  replies_later (o ∷ os) k l =
      let next : History = (single R.taps R.p k (reply o.reply)).history in
      let e : (single R.taps R.p (later_history pre k) (reply o.reply)).history ≡ later_history pre next =
      unfold single in ap (λ (a : After). a.history) (answered_later R.taps R.p some F.few (taps_size R F) F.finite pre since long z k o.reply l) in
      ap (λ (h : History). run (rules_at R) h (map reply_to os)) e ∙ replies_later os next (let n = reply_count k o.reply in omega arith)

  says_later : (k : History) (x : ℤ) → k.control.sample + length pre < 2 ^ 63
      → single R.taps R.p (later_history pre k) (sample x blank) ≡ later_after pre (single R.taps R.p k (sample x blank))
  unfolding single
  says_later k x l = given_later R.taps R.p some F.few (taps_size R F) F.finite pre since long z k x blank l

  module _ (k : History) (x : ℤ) (l : k.control.sample + length pre < 2 ^ 63) where
    abbrev asked : After
    asked = single R.taps R.p k (sample x blank)

    after_count : asked.history.control.sample + length pre ≤ 2 ^ 63
    after_count =
        given_keeps R.taps R.p (λ h. h.control.sample + length pre ≤ 2 ^ 63) k (omega arith) x blank
        (λ a b. let e = sampled_count R.p (eight R.p (ago R.taps R.p (k.samples ++ (x ∷ [])))) k.control in omega arith)

    step_later : run (rules_at R) (later_history pre k) (calls_at (rules_at R) rule (later_history pre k) x)
        ≡ later_history pre (run (rules_at R) k (calls_at (rules_at R) rule k x))
    unfolding run
    step_later =
        ap (λ (a : After). run (rules_at R) a.history (map reply_to (listed_in rule a.said))) (says_later k x l)
        ∙ ap (run (rules_at R) (later_history pre asked.history)) (replies_same rule (length pre) asked.said.room asked.said.answer)
        ∙ replies_later (listed_in rule asked.said) asked.history after_count

    here_later : listed_in rule ((rules_at R).says (later_history pre k) (sample x blank)) ≡ map (later_listed (length pre)) (listed_in rule asked.said)
    here_later =
        ap (λ (a : After). listed_in rule a.said) (says_later k x l)
        ∙ listed_later rule (length pre) asked.said.room asked.said.answer

  -- up to and with count 2^63, since a recording may be so long
  pub offers_later : (zs : List ℤ) (k : History) (n : ℕ) → Between k n → n + length pre + length zs ≤ 2 ^ 63
      → offers (rules_at R) rule (later_history pre k) zs ≡ map (later_listed (length pre)) (offers (rules_at R) rule k zs)
  unfolding answers flat_map
  offers_later [] k n b l = refl
  offers_later (x ∷ zs) k n b l =
      let c = b.count in
      let below : k.control.sample + length pre < 2 ^ 63 = omega arith in
      let next : History = run (rules_at R) k (calls_at (rules_at R) rule k x) in
      ap (λ (h : History). listed_in rule ((rules_at R).says (later_history pre k) (sample x blank)) ++ offers (rules_at R) rule h zs) (step_later k x below)
      ∙ ap (λ (os : List Listed). os ++ offers (rules_at R) rule (later_history pre next) zs) (here_later k x below)
      ∙ ap (λ (os : List Listed). map (later_listed (length pre)) (listed_in rule (asked k x below).said) ++ os)
      (offers_later zs next (n + 1) (next_between R rule k x n b (omega arith)) (omega arith))
      ∙ sym (map-append (later_listed (length pre)) (listed_in rule (asked k x below).said) (offers (rules_at R) rule next zs))
