-- `searched` meets its contract: one hearing, one spread and six comparisons serve the whole search. Assumes nothing.
use mathlib.Core.Path.{◌≡◌, sym, ◌∙◌}
use mathlib.Core.Bool.{false, not, ◌||◌}
use Prim.Native.Nat.{ℕ}
use lib.Ieee.{Float, lt}
use lib.Ieee.Bits.{is_true, is_false}
use Rattle.numbers.proofs.Tests.{holds}
use Rattle.protocol.specs.declared.Kind.TheVariants.{Lsf, Bert, Stream, Packet}
use Rattle.protocol.specs.declared.SyncBurst.TheVariants.{Frame, Preamble, EndOfTransmission}
use Rattle.decode.specs.Correlator.{least_gain, correlation}
use Rattle.decode.specs.Parts.{values_of}
use Rattle.search.specs.Search.{passed, searched}
use Rattle.search.specs.Fit.{held}
use Rattle.search.proofs.Fitness.{both}
use Rattle.search.proofs.Compared.{match_own, Sensed, compared_own}
use Rattle.search.proofs.Silent.{silent_search, faint, unmatched}
use Rattle.search.proofs.bursts.searched.Goals as goal
use Rattle.search.proofs.bursts.searched.Goals.{After-spread_of-spread, After-is_held-free, After-compare-packet}

sensed : (c : After-spread_of-spread) → Sensed c.args.values c.unsign_zeros-unsigned.result c.spread_of-spread.result
sensed c = record { values = c.unsign_zeros-unsigned.ensures; spread = c.spread_of-spread.ensures }

free : (c : After-is_held-free) → c.is_held-free.result ≡ false → held c.args.control.candidate ≡ false
free c e = sym c.is_held-free.ensures ∙ e

-- each comparison is the burst's own
record Own (c : After-compare-packet) (v : ℕ → Float) : Type 0 where
  preamble : c.compare-preamble.result ≡ correlation Preamble v
  end : c.compare-end.result ≡ correlation EndOfTransmission v
  lsf : c.compare-lsf.result ≡ correlation (Frame Lsf) v
  bert : c.compare-bert.result ≡ correlation (Frame Bert) v
  stream : c.compare-stream.result ≡ correlation (Frame Stream) v
  packet : c.compare-packet.result ≡ correlation (Frame Packet) v

own : (c : After-compare-packet) → Own c (values_of c.args.values)
own c =
    let once = sensed c.before.before.before.before.before.before.before.before.before in
    record {
      preamble = compared_own once Preamble _ c.compare-preamble.ensures;
      end = compared_own once EndOfTransmission _ c.compare-end.ensures;
      lsf = compared_own once (Frame Lsf) _ c.compare-lsf.ensures;
      bert = compared_own once (Frame Bert) _ c.compare-bert.ensures;
      stream = compared_own once (Frame Stream) _ c.compare-stream.ensures;
      packet = compared_own once (Frame Packet) _ c.compare-packet.ensures;
    }

pub returns-then-free-spread : goal.returns-then-free-spread
returns-then-free-spread c =
    let tests = both (not c.is_held-free.result) (lt c.spread_of-spread.result.gain least_gain) (holds c.if-free-spread.true) in
    sym (silent_search _ _ _ (faint (sensed c.before.before.before) (is_true _ tests.1)) (free c.before.before (is_false _ tests.0)))

pub returns-then-free-matched : goal.returns-then-free-matched
returns-then-free-matched c =
    let a = c.args in
    let v = values_of a.values in
    let matched = c.is_match.result || c.is_match-2.result || c.is_match-3.result || c.is_match-4.result || c.is_match-5.result || c.is_match-6.result in
    let tests = both (not c.is_held-free.result) (not matched) (holds c.if-free-matched.true) in
    sym
    (silent_search _ v a.control
    (unmatched v _ _ _ _ _ _
    (c.is_match.ensures ∙ sym (match_own Preamble v _ (own c.before.before.before.before.before.before.before).preamble))
    (c.is_match-2.ensures ∙ sym (match_own EndOfTransmission v _ (own c.before.before.before.before.before.before.before).end))
    (c.is_match-3.ensures ∙ sym (match_own (Frame Lsf) v _ (own c.before.before.before.before.before.before.before).lsf))
    (c.is_match-4.ensures ∙ sym (match_own (Frame Bert) v _ (own c.before.before.before.before.before.before.before).bert))
    (c.is_match-5.ensures ∙ sym (match_own (Frame Stream) v _ (own c.before.before.before.before.before.before.before).stream))
    (c.is_match-6.ensures ∙ sym (match_own (Frame Packet) v _ (own c.before.before.before.before.before.before.before).packet))
    (is_false matched tests.1))
    (free c.before.before.before.before.before.before.before.before.before.before.before.before.before.before.before (is_false _ tests.0)))

pub returns : goal.returns
unfolding searched passed
returns c =
    let v = values_of c.args.values in
    let o = own c.before.before.before.before.before.before.before.before.before.before.before.before.before in
    c.try_kind.ensures v o.packet
    ∙ rw (c.try_kind-after_stream.ensures v o.stream, c.try_kind-after_bert.ensures v o.bert, c.try_kind-after_lsf.ensures v o.lsf, c.set_timer-after_end.ensures EndOfTransmission v o.end, c.set_timer-after_preamble.ensures Preamble v o.preamble)
