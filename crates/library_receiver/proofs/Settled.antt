-- What an export is shown to promise, from what the call on the record promises. Assumes nothing.
use Rattle.std.specs.Prelude.{Bool, Option, Some, None, Result, Ok, Err}
use Rattle.demodulator.specs.declared.Offer.{Offer}
use Rattle.protocol.specs.declared.Refusal.{Refusal}
use mathlib.Core.Path.{◌≡◌, refl, sym, ap, ◌∙◌}
use mathlib.Core.Bool.{true, false, not}
use mathlib.Core.List.{List, []}
use Prim.Native.Nat.{ℕ, ◌≤◌, ◌<◌}
use native.Mathlib.Omega.{arith}
use borrow.Author.Tests.{eq-eqb, ne_eqb}
use lib.Dec.{eqb}
use lib.IntN.{ℤ}
use lib.Ieee.{Float}
use Rattle.shaping.specs.Rate.{Rate, rate_of, samples_in_lem}
use Rattle.search.proofs.AgeInPass.{by_test}
use Rattle.demodulator.specs.declared.SoftDemodulator.{SoftDemodulator}
use Rattle.demodulator.specs.declared.lent.FedLent.{FedLent}
use Rattle.demodulator.specs.declared.lent.RepliedLent.{RepliedLent}
use Rattle.demodulator.specs.Record.{assembled}
use Rattle.demodulator.specs.Fit.{fit_for_reply_lem}
use Rattle.demodulator.specs.Calls.{Paper, refusal, Left, heard_paper, done_paper, carrier_paper, answered}
use Rattle.demodulator.specs.Feed.{Stretch, sample_said, sample_next, sample_room, empty_said, fed_into}
use Rattle.demodulator.specs.Singles.{left_at}
use Rattle.demodulator.specs.Lent.{FeedLentSays, ReplyLentSays, CarrierLentSays}
use Rattle.demodulator_laws.proofs.RefusedFeed.{refused_feed}
use Rattle.library_layout.specs.Layout.{record_code_lem}
use Rattle.library_layout.specs.Promises.{WriteControlSays}
use Rattle.library_layout.proofs.RecordCode.{code_tells, code_none}
use Rattle.library_receiver.specs.Memory.{Memory, memory_at, record_in, laid_out, Lent, lent_as, none_lent, Export, feeds, replies, asks, lent_with, reply_of, called, paper_code, told_after, gain_after, lent_after, laid_after, coded_as, memory_says, memory_next}
use Rattle.library_receiver.specs.Promises.{Says}
use Rattle.library_receiver.proofs.RefusalCodes.{paper_refused}

-- ---- what is laid out, by the answer
heard_laid : (a : Result (Option Offer) Refusal) → paper_code (heard_paper a) < 100 → (m : Memory) (d : SoftDemodulator) → laid_out d ≡ laid_after (heard_paper a) m d
heard_laid (Err why) l m d = absurd (omega arith)
heard_laid (Ok None) l m d = refl
heard_laid (Ok (Some o)) l m d = refl

replied_laid : (a : Result Unit Refusal) → paper_code (done_paper a) < 100 → (m : Memory) (d : SoftDemodulator) → laid_out d ≡ laid_after (done_paper a) m d
replied_laid (Err why) l m d = absurd (omega arith)
replied_laid (Ok _) l m d = refl

carrier_kept : (a : Result Bool Refusal) (m : Memory) (d : SoftDemodulator) → m ≡ laid_after (carrier_paper a) m d
carrier_kept (Err why) m d = refl
carrier_kept (Ok there) m d = refl

-- a reply and a query tell nothing
abbrev Mute : Paper → Type 0
Mute a = none_lent ≡ lent_as [] (told_after a 0 []) (gain_after a [])

replied_mute : (a : Result Unit Refusal) → Mute (done_paper a)
replied_mute (Err why) = refl
replied_mute (Ok _) = refl

carrier_mute : (a : Result Bool Refusal) → Mute (carrier_paper a)
carrier_mute (Err why) = refl
carrier_mute (Ok there) = refl

-- ---- any call
module _ (m : Memory) where
  abbrev d : SoftDemodulator
  d = record_in m

  -- numbers that are no receiver's
  pub turned_away : (e : Export) (code : ℕ) → code ≡ record_code_lem m.numbers → 100 ≤ code → Says m e (coded_as code (lent_with e)) m
  unfolding memory_says memory_next
  turned_away e code is big =
      let large : 100 ≤ record_code_lem m.numbers = rw is at big in
      let none : eqb (record_code_lem m.numbers) 0 ≡ false = ne_eqb (record_code_lem m.numbers) 0 (λ z. omega arith) in
      record { answers = rw none (ap (λ (k : ℕ). coded_as k (lent_with e)) is); leaves = rw none refl }

  module _ (unfit : ℕ) (is : unfit ≡ record_code_lem m.numbers) (few : unfit < 100) where
    ours : eqb (record_code_lem m.numbers) 0 ≡ true
    ours =
        let small : record_code_lem m.numbers < 100 = rw is at few in
        let k = code_tells m.numbers small in
        eq-eqb (record_code_lem m.numbers) 0 (code_none m.numbers k.0 k.1)

    settled : (e : Export) (code : ℕ) → code ≡ paper_code (called d e).answer → (lent : Lent) → lent ≡ lent_after (called d e) (lent_with e)
        → (after : Memory) → after ≡ laid_after (called d e).answer m (called d e).state → Says m e (coded_as code lent) after
    unfolding memory_says memory_next
    settled e code number lent writes after leaves =
        record { answers = rw ours (λ i. coded_as (number i) (writes i)); leaves = rw ours leaves }

    -- ---- a stretch
    module _ (xs : List ℤ) (lent : Lent) (r : FedLent) (w' : List ℤ) (f' room' : List Float)
        (says : FeedLentSays d.rate m.window m.ring d.filter_cursor d.rx_cursor d.control xs lent.room r w' f' room')
        (code : ℕ) (coded : code ≡ paper_code (heard_paper r.answer)) where
      abbrev R : Rate
      R = rate_of d.rate

      abbrev t : Stretch SoftDemodulator
      t = fed_into R d xs lent.room

      abbrev left_record : SoftDemodulator
      left_record = assembled d.rate w' r.filter_cursor f' r.rx_cursor r.control

      pub fed_refused : 100 ≤ code
          → Says m (feeds xs lent) (coded_as code (lent_as room' lent.told lent.gain)) (memory_at w' f' m.numbers m.levels)
      unfolding called
      fed_refused big =
          let (number, e) = paper_refused (heard_paper r.answer) (rw coded at big) in
          let refused : refusal number ≡ t.answer = sym e ∙ says.answers in
          let unmoved =
          refused_feed SoftDemodulator (sample_said R) (sample_next R) (sample_room R) (empty_said R.p) d xs lent.room number (sym refused) in
          let kept : left_record ≡ d = says.leaves ∙ ap (λ (s : Stretch SoftDemodulator). s.state) unmoved in
          let told : lent.told ≡ told_after t.answer t.fed lent.told = ap (λ (a : Paper). told_after a t.fed lent.told) refused in
          let gain : lent.gain ≡ gain_after t.answer lent.gain = ap (λ (a : Paper). gain_after a lent.gain) refused in
          let same : memory_at w' f' m.numbers m.levels ≡ m =
          λ i. memory_at (kept i).filter_win (kept i).rx_win m.numbers m.levels in
          settled (feeds xs lent) code (coded ∙ ap paper_code says.answers) _ (λ i. lent_as (says.writes i) (told i) (gain i)) _
          (same ∙ ap (λ (a : Paper). laid_after a m t.state) refused)

      pub fed_moved : code < 100 → (n' : List ℕ) (l' : List Float)
          → WriteControlSays d.rate r.filter_cursor r.rx_cursor r.control n' l'
          → (told' : List ℕ) → told' ≡ told_after (heard_paper r.answer) r.fed lent.told
          → (gain' : List Float) → gain' ≡ gain_after (heard_paper r.answer) lent.gain
          → Says m (feeds xs lent) (coded_as code (lent_as room' told' gain')) (memory_at w' f' n' l')
      unfolding called
      fed_moved less n' l' written told' tells gain' levels =
          let told : told' ≡ told_after t.answer t.fed lent.told =
          tells ∙ (λ i. told_after (says.answers i) (says.counts i) lent.told) in
          let gain : gain' ≡ gain_after t.answer lent.gain = levels ∙ ap (λ (a : Paper). gain_after a lent.gain) says.answers in
          let laid : memory_at w' f' n' l' ≡ laid_out left_record = λ i. memory_at w' f' (written.numbers i) (written.levels i) in
          let moved = heard_laid r.answer (rw coded at less) m t.state ∙ ap (λ (a : Paper). laid_after a m t.state) says.answers in
          settled (feeds xs lent) code (coded ∙ ap paper_code says.answers) _ (λ i. lent_as (says.writes i) (told i) (gain i)) _
          (laid ∙ ap laid_out says.leaves ∙ moved)

    -- ---- a reply
    module _ (accepted : ℕ) (r : RepliedLent)
        (says : ReplyLentSays d.rate m.window m.ring d.filter_cursor d.rx_cursor d.control (reply_of accepted) r)
        (code : ℕ) (coded : code ≡ paper_code (done_paper r.answer)) where
      abbrev u : Left
      u = answered (samples_in_lem d.rate) d (reply_of accepted) []

      no_room : [] ≡ u.room
      unfolding answered
      no_room =
          by_test (λ (x : Left). [] ≡ x.room) (not (fit_for_reply_lem (samples_in_lem d.rate) d)) _ _ (λ e. refl)
          (λ e. by_test (λ (x : Left). [] ≡ x.room) (not d.control.owed) _ _ (λ e. refl) (λ e. refl))

      replied : (after : Memory) → after ≡ laid_after (done_paper r.answer) m u.demodulator
          → Says m (replies accepted) (coded_as code none_lent) after
      unfolding called left_at
      replied after leaves =
          let mute : none_lent ≡ lent_as u.room (told_after u.answer 0 []) (gain_after u.answer []) =
          replied_mute r.answer ∙ (λ i. lent_as (no_room i) (told_after (says.answers i) 0 []) (gain_after (says.answers i) [])) in
          settled (replies accepted) code (coded ∙ ap paper_code says.answers) _ mute after
          (leaves ∙ ap (λ (a : Paper). laid_after a m u.demodulator) says.answers)

      pub reply_refused : 100 ≤ code → Says m (replies accepted) (coded_as code none_lent) m
      reply_refused big =
          let (number, e) = paper_refused (done_paper r.answer) (rw coded at big) in
          replied m (sym (ap (λ (a : Paper). laid_after a m u.demodulator) e))

      pub reply_moved : code < 100 → (n' : List ℕ) (l' : List Float)
          → WriteControlSays d.rate d.filter_cursor d.rx_cursor r.control n' l'
          → Says m (replies accepted) (coded_as code none_lent) (memory_at m.window m.ring n' l')
      reply_moved less n' l' written =
          let after = assembled d.rate m.window d.filter_cursor m.ring d.rx_cursor r.control in
          let laid : memory_at m.window m.ring n' l' ≡ laid_out after =
          λ i. memory_at m.window m.ring (written.numbers i) (written.levels i) in
          replied _ (laid ∙ ap laid_out says.leaves ∙ replied_laid r.answer (rw coded at less) m u.demodulator)

    -- ---- the carrier query
    pub asked : (answer : Result Bool Refusal) → CarrierLentSays d.rate m.window d.filter_cursor d.rx_cursor d.control answer
        → (code : ℕ) → code ≡ paper_code (carrier_paper answer) → Says m asks (coded_as code none_lent) m
    unfolding called left_at
    asked answer says code coded =
        let said = says m.ring in
        let mute = carrier_mute answer ∙ (λ i. lent_as [] (told_after (said i) 0 []) (gain_after (said i) [])) in
        settled asks code (coded ∙ ap paper_code said) _ mute m (carrier_kept answer m d ∙ ap (λ (a : Paper). laid_after a m d) said)
