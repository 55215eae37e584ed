-- Document 01, 'Sums worked by hand', as document 02 d amends them: "Those marked P are proved of the definitions, gathered under a single statement". The definitions are those that contracts and run theorems cite:
-- F and the sender's samples of the rules over whole runs, the correlator's answer, the slicer and the padding. Assumes nothing.
use mathlib.Core.Path.{◌≡◌}
use mathlib.Core.Bool.{true, false}
use mathlib.Core.List.{[], ◌∷◌}
use Prim.Native.Nat.{ℕ, ◌+◌}
use lib.IntN.{pos, negsuc}
use lib.ListN.{get_or, replicate}
use lib.Ieee.{Float, binary32, of_bits, of_int}
use Rattle.numbers.specs.Sum.{nought}
use Rattle.numbers.specs.Firsts.{firsts}
use Rattle.shaping.specs.Taps.{taps}
use Rattle.shaping.specs.Rate.{at48}
use Rattle.decode.specs.Slicer.{outer, outer_below, sliced}
use Rattle.decode.proofs.Worked as Decode
use Rattle.decode.proofs.Worked.{answer, found}
use Rattle.demodulator_run.specs.Filter.{filtered}
use Rattle.demodulator_run.proofs.Worked as Receiver
use Rattle.given_symbols.specs.declared.Traffic.TheVariants.{Ordinary}
use Rattle.modulator.specs.Frame.{preamble, padding_of}
use Rattle.modulator_run.specs.Stream.{sent_at}
use Rattle.modulator_run.proofs.Worked as Sender

-- a whole number as f32
abbrev whole : ℕ → Float
whole n = of_int binary32 (pos n)

-- `answer k j` and `found k j` are the correlator's answer to the LSF signs times k plus j, and whether it is a match
pub record Examples : Type 0 where
  -- sample 1, then 40 zeros: F(41) = tap 40, 0.35943073
  pub p1 : (filtered taps 10 (pos 1 ∷ replicate 40 (pos 0)) 41 ≡ get_or taps 40 nought) × (filtered taps 10 (pos 1 ∷ replicate 40 (pos 0)) 41 ≡ of_bits binary32 0x3eb8_074e)
  -- first five preamble samples: -113, -103, -68, -12, 54
  pub p2 : firsts (λ (i : ℕ). sent_at at48 (firsts (preamble Ordinary).symbol 192) (i + 1)) 5 ≡ negsuc 112 ∷ negsuc 102 ∷ negsuc 67 ∷ negsuc 11 ∷ pos 54 ∷ []
  -- LSF signs times 32: match, diff 0, gain 32, shift 0
  pub p3 : (found (whole 32) (whole 0) ≡ true) × (answer (whole 32) (whole 0) ≡ record { diff = whole 0; gain = whole 32; shift = whole 0 })
  -- times 16: match; times 15.5: none
  pub p4 : found (whole 16) (whole 0) ≡ true
  pub p5 : found (of_bits binary32 0x4178_0000) (whole 0) ≡ false
  -- times 20 plus 5: match, gain 20, shift 5, diff 0; so plus 6 and plus 7 (document 02 d)
  pub p6 : (found (whole 20) (whole 5) ≡ true) × (answer (whole 20) (whole 5) ≡ record { diff = whole 0; gain = whole 20; shift = whole 5 })
  pub p7 : (found (whole 20) (whole 6) ≡ true) × (answer (whole 20) (whole 6) ≡ record { diff = whole 0; gain = whole 20; shift = whole 6 })
  pub p8 : (found (whole 20) (whole 7) ≡ true) × (answer (whole 20) (whole 7) ≡ record { diff = whole 0; gain = whole 20; shift = whole 7 })
  -- slicer: 0.0 gives 10; 0.667 gives 00; -0.667 gives 11
  pub p9 : sliced (whole 0) ≡ 1 ∷ 0 ∷ []
  pub p10 : sliced outer ≡ 0 ∷ 0 ∷ []
  pub p11 : sliced outer_below ≡ 1 ∷ 1 ∷ []
  -- latency 500, TxDelay 1: padding 0; latency 400: 80
  pub p12 : (padding_of 10 1 500 ≡ 0) × (padding_of 10 1 400 ≡ 80)

pub examples : Examples
examples = record {
  p1 = (Receiver.p1_tap, Receiver.p1);
  p2 = Sender.p2;
  p3 = Decode.p3;
  p4 = Decode.p4;
  p5 = Decode.p5;
  p6 = Decode.p6;
  p7 = Decode.p7;
  p8 = Decode.p8;
  p9 = Decode.p9;
  p10 = Decode.p10;
  p11 = Decode.p11;
  p12 = (Sender.p12_500, Sender.p12_400);
}
