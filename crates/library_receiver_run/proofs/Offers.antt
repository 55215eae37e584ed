-- The offers that codes, told numbers and gains say are the offers among the record's answers: so demand 3, and what document 02 j) asks,
-- is of what a caller in C reads. Assumes nothing.
use mathlib.Core.Path.{◌≡◌, refl, sym, ap, subst, ◌∙◌}
use mathlib.Core.Logic.{◌↔◌}
use mathlib.Core.Bool.{Bool, true, false}
use mathlib.Core.List.{List, [], ◌∷◌, ◌++◌, map, Memᴰ}
use Prim.Native.Nat.{ℕ}
use native.Mathlib.Omega.{arith}
use borrow.Author.Tests.{le-leb, lt-leb}
use lib.Dec.{eqb}
use lib.IntN.{ℤ}
use lib.Ieee.{Float}
use Rattle.machine.specs.Runs.{answers, Each}
use Rattle.shaping.specs.Rate.{Rate, at48, at24, per_second}
use Rattle.shaping.proofs.RateFacts.{Facts, facts48, facts24, own_fit}
use Rattle.protocol.specs.declared.Kind.{Kind}
use Rattle.protocol.specs.declared.Kind.TheVariants.{Lsf, Bert, Stream, Packet}
use Rattle.demodulator.specs.declared.SoftDemodulator.{SoftDemodulator}
use Rattle.demodulator.specs.declared.Offer.{Offer}
use Rattle.demodulator.specs.Calls.{Paper, refusal, nothing, frame, done, carrier}
use Rattle.demodulator_run.specs.Run.{fresh_at}
use Rattle.demodulator_run.specs.Calls.{Told, receiver, singles_from, Given}
use Rattle.demodulator_run.specs.CallerSees.{DueSeen, offer_in, offers_in}
use Rattle.demodulator_run.specs.OfferReports.{OfferPlace}
use Rattle.demodulator_run.proofs.AtEachRate.{demand_three_48, demand_three_24, offer_place_48, offer_place_24}
use Rattle.library_codes.specs.Codes.{refusal_code, flag_number}
use Rattle.library_layout.specs.Layout.{kind_at}
use Rattle.library_receiver.specs.Memory.{Memory, laid_out, Lent, Export, feeds, replies, asks, called, Coded}
use Rattle.library_receiver.specs.Promises.{M17ReceiverNewSays}
use Rattle.library_receiver_run.specs.Runs.{memory, call_of, coded_told, coded_all, Chain, offer_read, offers_read}
use Rattle.library_receiver_run.proofs.Answers.{called_told, Fits, answer_fits}
use Rattle.library_receiver_run.proofs.MemoryRun.{Is, memory_answers, fresh_is}
use Rattle.library_receiver_run.proofs.ExportsRun.{chain_run, is_made}

-- ---- an offer from its code, its numbers and its gain
flag_read : (b : Bool) → eqb (flag_number b) 1 ≡ b
flag_read true = refl
flag_read false = refl

offer_told : (xs : List ℤ) (lent : Lent) (k : Kind) (sample since age : ℕ) (mark : Bool) (gain : Float) (n : ℕ) (after : List Float)
    → let o : Offer = record { kind = k; sample = sample; taken_at = since; age = age; replaced = mark; gain = gain } in
    offer_read (feeds xs lent) (coded_told (feeds xs lent) (record { answer = frame o; fed = n; room = after })) ≡ o ∷ []
unfolding offer_read kind_at
offer_told xs lent Lsf sample since age mark gain n after = rw (flag_read mark)
offer_told xs lent Bert sample since age mark gain n after = rw (flag_read mark)
offer_told xs lent Stream sample since age mark gain n after = rw (flag_read mark)
offer_told xs lent Packet sample since age mark gain n after = rw (flag_read mark)

answer_read : (e : Export) (a : Paper) (n : ℕ) (after : List Float) → Fits e a
    → offer_read e (coded_told e (record { answer = a; fed = n; room = after })) ≡ offer_in a
unfolding offer_read offer_in
answer_read (feeds xs lent) (refusal why) n after fits =
    rw (le-leb 1 (refusal_code why) (omega arith), lt-leb (refusal_code why) 4 (omega arith))
answer_read (feeds xs lent) nothing n after fits = refl
answer_read (feeds xs lent) (frame o) n after fits =
    offer_told xs lent o.kind o.sample o.taken_at o.age o.replaced o.gain n after
answer_read (feeds xs lent) done n after fits = absurd fits
answer_read (feeds xs lent) (carrier there) n after fits = absurd fits
answer_read (replies accepted) (refusal why) n after fits = refl
answer_read (replies accepted) nothing n after fits = refl
answer_read (replies accepted) (frame o) n after fits = absurd fits
answer_read (replies accepted) done n after fits = refl
answer_read (replies accepted) (carrier there) n after fits = refl
answer_read asks (refusal why) n after fits = refl
answer_read asks nothing n after fits = refl
answer_read asks (frame o) n after fits = absurd fits
answer_read asks done n after fits = refl
answer_read asks (carrier there) n after fits = refl

call_read : (d : SoftDemodulator) (e : Export)
    → offer_read e (coded_told e (receiver.says d (call_of e))) ≡ offer_in (receiver.says d (call_of e)).answer
call_read d e =
    let s = called d e in
    subst (λ (t : Told). offer_read e (coded_told e t) ≡ offer_in t.answer) (called_told d e)
    (answer_read e s.answer s.fed s.room (answer_fits d e))

-- ---- over any list of calls
offers_coded : (es : List Export) (d : SoftDemodulator)
    → offers_read es (coded_all es (answers receiver d (map call_of es))) ≡ offers_in (answers receiver d (map call_of es))
unfolding answers coded_all offers_read offers_in
offers_coded [] d = refl
offers_coded (e ∷ es) d = let here = call_read d e in let later = offers_coded es (receiver.next d (call_of e)) in λ i. here i ++ later i

pub memory_offers : (m : Memory) (d : SoftDemodulator) → Is m d → (es : List Export)
    → offers_read es (answers memory m es) ≡ offers_in (answers receiver d (map call_of es))
memory_offers m d s es = ap (offers_read es) (memory_answers m d s es) ∙ offers_coded es d

-- ---- from a fresh receiver
module _ (R : Rate) (F : Facts R) (m : Memory) (code : ℕ) (begun : Memory)
    (new : M17ReceiverNewSays m (per_second R.p) code begun) where
  pub exports_offers : (es : List Export) (ys : List Coded) (after : Memory) → Chain begun es ys after
      → offers_read es ys ≡ offers_in (answers receiver (fresh_at R) (map call_of es))
  exports_offers es ys after chain =
      let same = (is_made R F m code begun new).1 in
      ap (offers_read es) ((chain_run chain).0 ∙ ap (λ (s : Memory). answers memory s es) same)
      ∙ memory_offers (laid_out (fresh_at R)) (fresh_at R) (fresh_is (per_second R.p) (own_fit R F)) es

-- ---- at each of the two rates: an offer that is read is a frame that is due, and each such frame is read; its place follows by the rule
module _ (m : Memory) (code : ℕ) (begun : Memory) (es : List Export) (g : Each Given (map call_of es)) (ys : List Coded) (after : Memory)
    (chain : Chain begun es ys after) where
  pub exports_due_48 : M17ReceiverNewSays m 48000 code begun
      → (o : Offer) → Memᴰ o (offers_read es ys) ↔ DueSeen at48 (singles_from (fresh_at at48) (map call_of es)) o
  exports_due_48 new o =
      subst (λ (l : List Offer). Memᴰ o l ↔ DueSeen at48 (singles_from (fresh_at at48) (map call_of es)) o)
      (sym (exports_offers at48 facts48 m code begun new es ys after chain)) ((demand_three_48 (map call_of es) g).offers o)

  pub exports_due_24 : M17ReceiverNewSays m 24000 code begun
      → (o : Offer) → Memᴰ o (offers_read es ys) ↔ DueSeen at24 (singles_from (fresh_at at24) (map call_of es)) o
  exports_due_24 new o =
      subst (λ (l : List Offer). Memᴰ o l ↔ DueSeen at24 (singles_from (fresh_at at24) (map call_of es)) o)
      (sym (exports_offers at24 facts24 m code begun new es ys after chain)) ((demand_three_24 (map call_of es) g).offers o)

  pub exports_place_48 : M17ReceiverNewSays m 48000 code begun
      → (o : Offer) → Memᴰ o (offers_read es ys) → OfferPlace at48 (singles_from (fresh_at at48) (map call_of es)) o 1840 1839
  exports_place_48 new o among =
      offer_place_48 (map call_of es) g o (subst (Memᴰ o) (exports_offers at48 facts48 m code begun new es ys after chain) among)

  pub exports_place_24 : M17ReceiverNewSays m 24000 code begun
      → (o : Offer) → Memᴰ o (offers_read es ys) → OfferPlace at24 (singles_from (fresh_at at24) (map call_of es)) o 920 919
  exports_place_24 new o among =
      offer_place_24 (map call_of es) g o (subst (Memᴰ o) (exports_offers at24 facts24 m code begun new es ys after chain) among)
