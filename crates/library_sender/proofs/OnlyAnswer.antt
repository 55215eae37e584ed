-- Each export has one answer, and leaves one memory, whatever the memory before. Assumes nothing.
use mathlib.Core.Path.{◌≡◌, sym, ap, ◌∙◌}
use mathlib.Core.List.{List}
use Prim.Native.Nat.{ℕ}
use lib.IntN.{ℤ}
use lib.Ieee.{Float}
use Rattle.numbers.proofs.Answer.{same_answer}
use Rattle.modulator.specs.Calls.{made}
use Rattle.library_sender.specs.Memory.{Memory, laid_out, Export, Coded, unless_refused}
use Rattle.library_sender.specs.Exports.{Says, M17SenderNewSays, M17SenderPreambleSays, M17SenderSymbolsSays, M17SenderEndSays, M17SenderNoFrameSays, M17SenderReadSays, M17SenderUpdateSays, M17SenderRunSays}

-- the same code, and the same memory
abbrev Same : ℕ → ℕ → Memory → Memory → Type 0
Same r s after other = (r ≡ s) × (after ≡ other)

module _ {m after other : Memory} where
  pub says_once : {e : Export} {a b : Coded} → Says m e a after → Says m e b other → (a ≡ b) × (after ≡ other)
  says_once p q = (same_answer p.answers q.answers, same_answer p.leaves q.leaves)

  code_once : {e : Export} {a b : Coded} → Says m e a after → Says m e b other → Same a.code b.code after other
  code_once p q = let k = says_once p q in (ap (λ (x : Coded). x.code) k.0, k.1)

  pub m17_sender_new_only_answer : (rate r s : ℕ) → M17SenderNewSays m rate r after → M17SenderNewSays m rate s other → Same r s after other
  m17_sender_new_only_answer rate r s p q =
      let code = same_answer p.answers q.answers in
      (code, p.leaves ∙ ap (λ (x : ℕ). unless_refused x m (laid_out (made rate).modulator)) code ∙ sym q.leaves)

  pub m17_sender_preamble_only_answer : (bert steps r s : ℕ) → M17SenderPreambleSays m bert steps r after → M17SenderPreambleSays m bert steps s other → Same r s after other
  m17_sender_preamble_only_answer bert steps r s = code_once

  pub m17_sender_symbols_only_answer : (bert : ℕ) (symbols : List Float) (r s : ℕ) → M17SenderSymbolsSays m bert symbols r after → M17SenderSymbolsSays m bert symbols s other → Same r s after other
  m17_sender_symbols_only_answer bert symbols r s = code_once

  pub m17_sender_end_only_answer : (r s : ℕ) → M17SenderEndSays m r after → M17SenderEndSays m s other → Same r s after other
  m17_sender_end_only_answer r s = code_once

  pub m17_sender_no_frame_only_answer : (r s : ℕ) → M17SenderNoFrameSays m r after → M17SenderNoFrameSays m s other → Same r s after other
  m17_sender_no_frame_only_answer r s = code_once

  pub m17_sender_update_only_answer : (fill capacity latency r s : ℕ) → M17SenderUpdateSays m fill capacity latency r after → M17SenderUpdateSays m fill capacity latency s other → Same r s after other
  m17_sender_update_only_answer fill capacity latency r s = code_once

  -- the room and the told number too
  pub m17_sender_read_only_answer : (out : List ℤ) (told r s : ℕ) (filled others : List ℤ) (count number : ℕ)
      → M17SenderReadSays m out told r after filled count → M17SenderReadSays m out told s other others number
      → Same r s after other × (filled ≡ others) × (count ≡ number)
  m17_sender_read_only_answer out told r s filled others count number p q =
      let k = says_once p q in
      (code_once p q, ap (λ (x : Coded). x.room) k.0, ap (λ (x : Coded). x.told) k.0)

  pub m17_sender_run_only_answer : (told r s count number : ℕ) → M17SenderRunSays m told r after count → M17SenderRunSays m told s other number → Same r s after other × (count ≡ number)
  m17_sender_run_only_answer told r s count number p q = (code_once p q, ap (λ (x : Coded). x.told) (says_once p q).0)
