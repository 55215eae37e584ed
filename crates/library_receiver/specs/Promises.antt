-- What each export promises, of any memory: what the machine says, and what it leaves. Assumes nothing.
use Rattle.std.specs.Prelude.{◌≡◌, cond, List, ℕ, ℤ, Float}
use Rattle.shaping.specs.Rate.{rate_fit}
use Rattle.demodulator.specs.Record.{fresh}
use Rattle.library_receiver.specs.Memory.{Memory, memory_at, laid_out, Lent, none_lent, Export, feeds, replies, asks, Coded, coded_as, memory_says, memory_next}

pub record Says (m : Memory) (e : Export) (a : Coded) (after : Memory) : Type 0 where
  pub answers : a ≡ memory_says m e
  pub leaves : after ≡ memory_next m e

abbrev pub M17ReceiverFeedSays : Memory → List ℤ → Lent → ℕ → Memory → Lent → Type 0
M17ReceiverFeedSays m xs lent code after lent' = Says m (feeds xs lent) (coded_as code lent') after

abbrev pub M17ReceiverReplySays : Memory → ℕ → ℕ → Memory → Type 0
M17ReceiverReplySays m accepted code after = Says m (replies accepted) (coded_as code none_lent) after

-- the ring is not asked for: whatever it holds
abbrev pub M17ReceiverCarrierSays : List ℤ → List ℕ → List Float → ℕ → Type 0
M17ReceiverCarrierSays window numbers levels code =
    (ring : List Float) → let m = memory_at window ring numbers levels in Says m asks (coded_as code none_lent) m

-- 115 "any rate but the two": the memory as it was; else the fresh record, laid out
pub record M17ReceiverNewSays (m : Memory) (rate code : ℕ) (after : Memory) : Type 0 where
  pub answers : code ≡ cond (rate_fit rate) 0 115
  pub leaves : after ≡ cond (rate_fit rate) (laid_out (fresh rate)) m
