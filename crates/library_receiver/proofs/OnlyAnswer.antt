-- Each export's promise fixes its code and what every lent place then holds. Assumes nothing.
use mathlib.Core.Path.{◌≡◌, ap}
use mathlib.Core.List.{List, []}
use Prim.Native.Nat.{ℕ}
use lib.IntN.{ℤ}
use lib.Ieee.{Float}
use Rattle.numbers.proofs.Answer.{same_answer}
use Rattle.library_receiver.specs.Memory.{Memory, Lent, Export, Coded}
use Rattle.library_receiver.specs.Promises.{Says, M17ReceiverNewSays, M17ReceiverFeedSays, M17ReceiverReplySays, M17ReceiverCarrierSays}

pub says_only_answer : (m : Memory) (e : Export) (a b : Coded) (after other : Memory) → Says m e a after → Says m e b other
    → (a ≡ b) × (after ≡ other)
says_only_answer m e a b after other p q = (same_answer p.answers q.answers, same_answer p.leaves q.leaves)

pub m17_receiver_new_only_answer : (m : Memory) (rate r s : ℕ) (after other : Memory)
    → M17ReceiverNewSays m rate r after → M17ReceiverNewSays m rate s other → (r ≡ s) × (after ≡ other)
m17_receiver_new_only_answer m rate r s after other p q = (same_answer p.answers q.answers, same_answer p.leaves q.leaves)

pub m17_receiver_feed_only_answer : (m : Memory) (xs : List ℤ) (lent : Lent) (r s : ℕ) (after other : Memory) (lent' lent'' : Lent)
    → M17ReceiverFeedSays m xs lent r after lent' → M17ReceiverFeedSays m xs lent s other lent''
    → (r ≡ s) × (after ≡ other) × (lent' ≡ lent'')
m17_receiver_feed_only_answer m xs lent r s after other lent' lent'' p q =
    let k = says_only_answer m _ _ _ after other p q in
    (ap (λ (a : Coded). a.code) k.0, k.1, ap (λ (a : Coded). a.lent) k.0)

pub m17_receiver_reply_only_answer : (m : Memory) (accepted r s : ℕ) (after other : Memory)
    → M17ReceiverReplySays m accepted r after → M17ReceiverReplySays m accepted s other → (r ≡ s) × (after ≡ other)
m17_receiver_reply_only_answer m accepted r s after other p q =
    let k = says_only_answer m _ _ _ after other p q in
    (ap (λ (a : Coded). a.code) k.0, k.1)

pub m17_receiver_carrier_only_answer : (w : List ℤ) (n : List ℕ) (l : List Float) (r s : ℕ)
    → M17ReceiverCarrierSays w n l r → M17ReceiverCarrierSays w n l s → r ≡ s
m17_receiver_carrier_only_answer w n l r s p q = ap (λ (a : Coded). a.code) (says_only_answer _ _ _ _ _ _ (p []) (q [])).0
