-- Reads of any sizes, with any room for each, make what one list of the bytes that they consumed makes, from any record.
-- The other bytes are the rest of the input. Assumes nothing.
use Rattle.std.specs.Prelude.{Option}
use mathlib.Core.Path.{◌≡◌, sym, ap, ◌∙◌}
use mathlib.Core.Bool.{cond}
use mathlib.Core.List.{List, [], ◌∷◌, ◌++◌, append_assoc, append-nil, flat_map}
use Prim.Native.Nat.{ℕ, ◌*◌, ◌≤◌}
use native.Mathlib.Omega.{arith}
use lib.Dec.{ltb}
use lib.ListN.{length, take, length-take, take-append-drop}
use lib.Seq.{take-take}
use Rattle.machine.specs.Runs.{run, answers}
use Rattle.machine.proofs.Parts.{run_joined}
use Rattle.demodulator.specs.declared.SoftDemodulator.{SoftDemodulator}
use Rattle.listening.specs.Listener.{listener, own_record}
use Rattle.listening.specs.Verdict.{verdict}
use Rattle.receiving.specs.declared.Receiving.{Receiving}
use Rattle.receiving.specs.Pairs.{samples_of, odd_of, waiting}
use Rattle.receiving.specs.Text.{lines_of, text_from}
use Rattle.receiving.specs.Hear.{most_samples, looked, samples_in_lem, empty_told}
use Rattle.receiving.specs.Caller.{Read, Caller, input, given, intake_at, after, caller_after, text_of, consumed_by}
use Rattle.receiving.proofs.BytePairs.{samples_joined, odd_joined, no_samples, odd_alone}
use Rattle.receiving.proofs.Lines.{text_joined}
use Rattle.receiving.proofs.ConsumedBytes.{consumed_most, consumed_text, consumed_state, consumed_odd}

-- ---- a cut of the bytes after those that wait
module _ (odd : Option ℕ) (front back : List ℕ) where
  abbrev odd_then : Option ℕ
  odd_then = odd_of (waiting odd ++ front)

  pub samples_cut : samples_in_lem odd (front ++ back) ≡ samples_in_lem odd front ++ samples_in_lem odd_then back
  samples_cut = ap samples_of (sym (append_assoc (waiting odd) front back)) ∙ samples_joined (waiting odd ++ front) back

  pub odd_cut : odd_of (waiting odd ++ (front ++ back)) ≡ odd_of (waiting odd_then ++ back)
  odd_cut = ap odd_of (sym (append_assoc (waiting odd) front back)) ∙ odd_joined (waiting odd ++ front) back

-- ---- one call
pub looked_front : (bytes : List ℕ) (places t : ℕ) → t ≤ length (looked bytes places) → take t (looked bytes places) ≡ take t bytes
looked_front bytes places t l = take-take t (cond (ltb places 97) 0 (2 * most_samples)) bytes (omega (arith, length-take (cond (ltb places 97) 0 (2 * most_samples)) bytes))

-- what a record and a waiting byte come to with some bytes
abbrev pub made_of : Receiving → List ℕ → Receiving
made_of r bytes = record { demodulator = run (listener own_record verdict) r.demodulator (samples_in_lem r.odd bytes); odd = odd_of (waiting r.odd ++ bytes) }

abbrev pub text_by : Receiving → List ℕ → List ℕ
text_by r bytes = text_from own_record r.demodulator (samples_in_lem r.odd bytes)

module _ (c : Caller) (r : Read) where
  abbrev m : SoftDemodulator
  m = c.receiving.demodulator

  abbrev seen : List ℕ
  seen = looked (given c r) r.places

  abbrev front : List ℕ
  front = take (intake_at c r).consumed (given c r)

  same_front : take (intake_at c r).consumed seen ≡ front
  same_front = looked_front (given c r) r.places (intake_at c r).consumed (consumed_most own_record empty_told m c.receiving.odd seen r.places)

  pub call_text : (intake_at c r).text ≡ text_by c.receiving front
  call_text = consumed_text own_record empty_told m c.receiving.odd seen r.places ∙ ap (text_by c.receiving) same_front

  pub call_leaves : (after c r).receiving ≡ made_of c.receiving front
  call_leaves = λ i. record {
    demodulator = (consumed_state own_record empty_told m c.receiving.odd seen r.places ∙ ap (λ (l : List ℕ). run (listener own_record verdict) m (samples_in_lem c.receiving.odd l)) same_front) i;
    odd = (consumed_odd own_record empty_told m c.receiving.odd seen r.places ∙ ap (λ (l : List ℕ). odd_of (waiting c.receiving.odd ++ l)) same_front) i;
  }

-- ---- the two halves of what bytes come to
module _ (r : Receiving) (front back : List ℕ) where
  pub text_cut : text_by r (front ++ back) ≡ text_by r front ++ text_by (made_of r front) back
  text_cut = ap (text_from own_record r.demodulator) (samples_cut r.odd front back) ∙ text_joined own_record r.demodulator (samples_in_lem r.odd front) (samples_in_lem (odd_then r.odd front back) back)

  pub made_cut : made_of r (front ++ back) ≡ made_of (made_of r front) back
  made_cut = λ i. record {
    demodulator = (ap (run (listener own_record verdict) r.demodulator) (samples_cut r.odd front back) ∙ run_joined (listener own_record verdict) (samples_in_lem r.odd front) (samples_in_lem (odd_then r.odd front back) back) r.demodulator) i;
    odd = odd_cut r.odd front back i;
  }

-- ---- all reads
pub record Made (c : Caller) (reads : List Read) : Type 0 where
  pub cut : consumed_by c reads ++ (caller_after c reads).unused ≡ c.unused ++ input reads
  pub text : text_of c reads ≡ text_by c.receiving (consumed_by c reads)
  pub leaves : (caller_after c reads).receiving ≡ made_of c.receiving (consumed_by c reads)

pub any_reads : (reads : List Read) (c : Caller) → Made c reads
unfolding run answers lines_of flat_map
any_reads [] c =
    let none = no_samples c.receiving.odd in
    record {
      cut = sym (append-nil c.unused);
      text = sym (ap (text_from own_record c.receiving.demodulator) none);
      leaves = sym (λ i. record { demodulator = ap (run (listener own_record verdict) c.receiving.demodulator) none i; odd = odd_alone c.receiving.odd i });
    }
any_reads (r ∷ reads) c =
    let there : Caller = after c r in
    let rest = any_reads reads there in
    let first : List ℕ = front c r in
    let later : List ℕ = consumed_by there reads in
    record {
      cut =
          append_assoc first later (caller_after there reads).unused
          ∙ ap (λ (l : List ℕ). first ++ l) rest.cut
          ∙ sym (append_assoc first there.unused (input reads))
          ∙ ap (λ (l : List ℕ). l ++ input reads) (take-append-drop (intake_at c r).consumed (given c r))
          ∙ append_assoc c.unused r.bytes (input reads);
      text =
          (λ i. call_text c r i ++ rest.text i)
          ∙ ap (λ (q : Receiving). text_by c.receiving first ++ text_by q later) (call_leaves c r)
          ∙ sym (text_cut c.receiving first later);
      leaves = rest.leaves ∙ ap (λ (q : Receiving). made_of q later) (call_leaves c r) ∙ sym (made_cut c.receiving first later);
    }
