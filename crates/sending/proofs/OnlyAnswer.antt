-- Each promise of this crate leaves one answer. Assumes nothing.
use Rattle.std.specs.Prelude.{Result}
use Rattle.protocol.specs.declared.Refusal.{Refusal}
use mathlib.Core.Path.{◌≡◌}
use mathlib.Core.Bool.{Bool}
use mathlib.Core.List.{List}
use Prim.Native.Nat.{ℕ}
use Rattle.numbers.proofs.Answer.{same_answer}
use Rattle.modulator_laws.proofs.Papers.{done_once}
use Rattle.house.specs.declared.Text.{Text}
use Rattle.sending.specs.declared.Sending.{Sending}
use Rattle.sending.specs.declared.AfterPart.{AfterPart}
use Rattle.sending.specs.Calls.{Left, Says, OpenSays, LacksSays, TurnSays, IsAdmittedSays, LastWordsSays}

-- what is made of seven parts is one where these are
made : {a b : Result Unit Refusal} {s t : Sending} {k l : List ℕ} {m n i j : ℕ} {p q u v : Bool} → a ≡ b → s ≡ t → k ≡ l → m ≡ n → i ≡ j → p ≡ q → u ≡ v
    → ◌≡◌ {A = AfterPart} (record { answer = a; sending = s; bytes = k; length = m; taken = i; bad = p; last = u }) (record { answer = b; sending = t; bytes = l; length = n; taken = j; bad = q; last = v })
made d e f g h k l = cc

said_once : (d : Left) (r s : AfterPart) → Says d r → Says d s → r ≡ s
said_once d r s p q =
    made
    (done_once r.answer s.answer (same_answer p.answers q.answers))
    (same_answer p.leaves q.leaves)
    (same_answer p.writes q.writes)
    (same_answer p.counts q.counts)
    (same_answer p.takes q.takes)
    (same_answer p.tells q.tells)
    (same_answer p.ends q.ends)

pub open_only_answer : (r s : AfterPart) → OpenSays r → OpenSays s → r ≡ s
open_only_answer r s = said_once _ r s

pub lacks_only_answer : (s : Sending) (m n : ℕ) → LacksSays s m → LacksSays s n → m ≡ n
lacks_only_answer s m n = same_answer

pub turn_only_answer : (s : Sending) (bytes : List ℕ) (n : ℕ) (a b : AfterPart) → TurnSays s bytes n a → TurnSays s bytes n b → a ≡ b
turn_only_answer s bytes n a b = said_once _ a b

pub is_admitted_only_answer : (part : AfterPart) (p q : Bool) → IsAdmittedSays part p → IsAdmittedSays part q → p ≡ q
is_admitted_only_answer part p q = same_answer

pub last_words_only_answer : (part : AfterPart) (read written : Bool) (a b : Text) → LastWordsSays part read written a → LastWordsSays part read written b → a ≡ b
last_words_only_answer part read written a b = same_answer
