-- All samples, stretch by stretch: what is written so far is at the front of the room, and the other samples go on from there.
-- Assumes nothing.
use Rattle.std.specs.Prelude.{Option, Result, Ok}
use Rattle.protocol.specs.declared.Refusal.{Refusal}
use mathlib.Core.Path.{◌≡◌, refl, sym, ap, ◌∙◌}
use mathlib.Core.Logic.{inl, inr}
use mathlib.Core.Bool.{true, false, cond, false≢true}
use mathlib.Core.List.{List, [], ◌++◌, append_assoc, append-nil}
use Prim.Native.Nat.{ℕ, ◌+◌, ◌-◌, ◌*◌, ◌≤◌, ◌<◌}
use native.Mathlib.Omega.{arith}
use native.Mathlib.Nat.{eq-or-lt_of_le}
use borrow.Author.Tests.{ne_eqb}
use lib.Dec.{eqb}
use lib.IntN.{ℤ}
use lib.ListN.{length, take, drop, length-append, length-drop, take-append-drop, drop_of_length-le}
use lib.Seq.{take_at, drop_at, drop-drop, length-take-le}
use Rattle.machine.specs.Runs.{answers}
use Rattle.shaping.specs.Rate.{rate_of}
use Rattle.demodulator.specs.declared.Offer.{Offer}
use Rattle.demodulator.specs.declared.SoftDemodulator.{SoftDemodulator}
use Rattle.demodulator.specs.Calls.{Paper, refusal, nothing, frame, done, carrier, heard_paper}
use Rattle.demodulator.specs.Feed.{fed_into, Stretch as FedStretch}
use Rattle.demodulator.specs.Singles.{blank}
use Rattle.demodulator.proofs.FeedSteps.{fed_some}
use Rattle.listening.specs.Listener.{own_record}
use Rattle.listening.specs.Listen.{is_offer, left_by_stretch}
use Rattle.receiving.specs.declared.windows.Heard.{Heard}
use Rattle.receiving.specs.Text.{go_in, Batch, refusal_in}
use Rattle.receiving.specs.Hear.{receipt_paper}
use Rattle.receiving.specs.Parts.{refused_after, in_front, line_of_stretch, HearsStretch, record_told, record_batch, HearsAll}
use Rattle.receiving.proofs.Lines.{line_short, tail_back}
use Rattle.receiving.proofs.FedCount.{cramped_in, none, ahead, ahead_ahead, batch_none}
use Rattle.receiving.proofs.FedStretch.{Goes, stretch_goes, rest_of, either_way}

offer_no_refusal : (a : Paper) → is_offer a ≡ true → refusal_in a ≡ nothing
unfolding is_offer
offer_no_refusal (frame o) e = refl
offer_no_refusal (refusal number) e = absurd (false≢true e)
offer_no_refusal nothing e = refl
offer_no_refusal done e = refl
offer_no_refusal (carrier there) e = refl

empty_batch : (m : SoftDemodulator) (places : ℕ) → record_batch m [] places ≡ none m
unfolding answers go_in
empty_batch m places = batch_none own_record m [] places refl

-- ---- how far the work has come
pub record SoFar (xs : List ℤ) (lines₀ lines : List ℕ) (fed written : ℕ) : Type 0 where
  pub at_most : fed ≤ length xs
  pub same_room : length lines ≡ length lines₀
  pub fits : written ≤ length lines
  pub few : written ≤ 97 * fed
  pub rest : drop written lines ≡ drop written lines₀

-- and what comes of all samples: what is written, and what is still to come of the others; a refusal as long as none went in
pub record ToCome (m₀ : SoftDemodulator) (xs : List ℤ) (places : ℕ) (front : List ℕ) (m : SoftDemodulator) (fed written : ℕ) : Type 0 where
  pub batch : record_batch m₀ xs places ≡ ahead fed front (record_batch m (drop fed xs) (places - written))
  pub told : record_told m₀ xs ≡ cond (eqb fed 0) (record_told m (drop fed xs)) nothing

pub starts : (xs : List ℤ) (lines₀ : List ℕ) → SoFar xs lines₀ lines₀ 0 0
starts xs lines₀ = record { at_most = omega arith; same_room = refl; fits = omega arith; few = omega arith; rest = refl }

module _ (m₀ : SoftDemodulator) (xs : List ℤ) (lines₀ : List ℕ) where
  pub all_to_come : ToCome m₀ xs (length lines₀) (take 0 lines₀) m₀ 0 0
  all_to_come =
      let whole : length lines₀ - 0 ≡ length lines₀ = omega arith in
      let none_yet : (n : ℕ) → 0 + n ≡ n = λ n. omega arith in
      record { batch = rw (whole, none_yet); told = refl }

  -- where no more samples go in
  ends : (answer : Result Unit Refusal) (lines : List ℕ) (m : SoftDemodulator) (fed written : ℕ) → SoFar xs lines₀ lines fed written → record_batch m₀ xs (length lines₀) ≡ ahead fed (take written lines) (none m) → receipt_paper answer ≡ record_told m₀ xs
      → HearsAll m₀ xs lines₀ (record { answer = answer; fed = fed; written = written; demodulator = m }) lines
  ends answer lines m fed written s all tells =
      let front : List ℕ = take written lines in
      let long : length front ≡ written = length-take-le written lines s.fits in
      let fed_all_lem : fed ≡ fed + 0 = omega arith in
      record {
        answers = tells;
        feeds = rw all fed_all_lem;
        counts = rw (all, append-nil front) (sym long);
        leaves = rw all refl;
        writes = rw (all, append-nil front, long) (sym (take-append-drop written lines) ∙ ap (λ (l : List ℕ). front ++ l) s.rest);
      }

  module _ (lines : List ℕ) (m : SoftDemodulator) (fed written : ℕ) (s : SoFar xs lines₀ lines fed written) (t : ToCome m₀ xs (length lines₀) (take written lines) m fed written) where
    abbrev ys : List ℤ
    ys = drop fed xs

    abbrev left : ℕ
    left = length lines₀ - written

    -- the samples are all in, or there is no room for a line
    pub hears_out : 1 ≤ fed → (fed < length xs → left < 97) → HearsAll m₀ xs lines₀ (record { answer = Ok tt; fed = fed; written = written; demodulator = m }) lines
    hears_out some out =
        let no_more : record_batch m ys left ≡ none m =
        elim (eq-or-lt_of_le s.at_most) [
          | inl all ↦
              let out_of : length xs ≤ fed = omega arith in
              ap (λ (l : List ℤ). record_batch m l left) (drop_of_length-le xs out_of) ∙ empty_batch m left
          | inr more ↦ batch_none own_record m ys left (cramped_in _ left (out more))
        ] in
        let quiet : record_told m₀ xs ≡ nothing = t.told ∙ rw (ne_eqb fed 0 (λ z. omega arith)) in
        ends (Ok tt) lines m fed written s (t.batch ∙ ap (ahead fed (take written lines)) no_more) (sym quiet)

    module _ (more : fed < length xs) (enough : 97 ≤ left) where
      abbrev f : FedStretch SoftDemodulator
      f = fed_into (rate_of m.rate) m ys blank

      some : 1 ≤ length ys
      some = simp length-drop (omega arith)

      g : Goes 0 m ys left f
      g = rw (fed_some (rate_of m.rate) m ys blank some) (stretch_goes 0 m ys left enough)

      abbrev line : List ℕ
      line = line_of_stretch f

      -- the room with the stretch's line after what is written
      abbrev longer : List ℕ
      longer = take written lines ++ in_front line (drop written lines)

      line_fits : written + length line ≤ length lines
      line_fits = omega (arith, line_short f.answer f.room, s.same_room, s.fits)

      both_long : length (take written lines ++ line) ≡ written + length line
      both_long = length-append (take written lines) line ∙ ap (λ (k : ℕ). k + length line) (length-take-le written lines s.fits)

      split : longer ≡ (take written lines ++ line) ++ drop (length line) (drop written lines)
      split = sym (append_assoc (take written lines) line (drop (length line) (drop written lines)))

      goes_further : SoFar xs lines₀ longer (fed + f.fed) (written + length line)
      goes_further =
          let past : List ℕ = drop (length line) (drop written lines) in
          let same : length longer ≡ length lines = ap length split ∙ length-append (take written lines ++ line) past ∙ simp length-drop (omega (arith, both_long, line_fits)) in
          record {
            at_most = omega (arith, g.most, length-drop fed xs, s.at_most);
            same_room = same ∙ s.same_room;
            fits = omega (arith, same, line_fits);
            few = omega (arith, g.line_most, s.few);
            rest =
                ap (drop (written + length line)) split
                ∙ drop_at (take written lines ++ line) past (written + length line) both_long
                ∙ ap (drop (length line)) s.rest
                ∙ drop-drop (length line) written lines₀;
          }

      batch_further : record_batch m₀ xs (length lines₀) ≡ ahead (fed + f.fed) (take (written + length line) longer) (rest_of f (drop (fed + f.fed) xs) left)
      batch_further =
          let none-off : f.fed - 0 ≡ f.fed = omega arith in
          let later : Batch SoftDemodulator = rest_of f (drop f.fed ys) left in
          let front : take written lines ++ line ≡ take (written + length line) longer = sym (ap (take (written + length line)) split ∙ take_at (take written lines ++ line) _ (written + length line) both_long) in
          t.batch
          ∙ ap (ahead fed (take written lines)) (rw none-off at g.batch)
          ∙ ahead_ahead fed f.fed (take written lines) line later
          ∙ (λ i. ahead (fed + f.fed) (front i) (rest_of f (drop-drop f.fed fed xs i) left))

      told_here : record_told m₀ xs ≡ refused_after fed f.answer
      told_here = t.told ∙ ap (λ (p : Paper). cond (eqb fed 0) p nothing) (g.told (omega (arith, some)))

      -- ---- the code's stretch
      module _ (r : Heard (Result (Option Offer) Refusal)) (after : List ℕ) (says : HearsStretch m ys (drop written lines) r after) where
        -- the room, once its tail is back
        abbrev back : List ℕ
        back = take written lines ++ (after ++ drop (length lines - written) (drop written lines))

        as_left : (P : List ℕ → SoftDemodulator → ℕ → ℕ → Type 0) → P longer (left_by_stretch f) (fed + f.fed) (written + length line) → P back r.demodulator (fed + r.fed) (written + r.written)
        as_left P p = rw (tail_back lines written after, says.writes, says.leaves, says.feeds, says.counts) p

        pub further : SoFar xs lines₀ back (fed + r.fed) (written + r.written)
        further = as_left (λ (l : List ℕ) (n : SoftDemodulator) (a : ℕ) (w : ℕ). SoFar xs lines₀ l a w) goes_further

        module _ (offered : is_offer (heard_paper r.answer) ≡ true) where
          is_offer_lem : is_offer f.answer ≡ true
          is_offer_lem = ap is_offer (sym says.answers) ∙ offered

          pub fed_some_more : 1 ≤ r.fed
          fed_some_more = rw says.feeds (g.moves is_offer_lem)

          pub more_to_come : ToCome m₀ xs (length lines₀) (take (written + r.written) back) r.demodulator (fed + r.fed) (written + r.written)
          more_to_come =
              let less : left - length line ≡ length lines₀ - (written + length line) = omega arith in
              let quiet : refused_after fed f.answer ≡ nothing = ap (λ (p : Paper). cond (eqb fed 0) p nothing) (offer_no_refusal f.answer is_offer_lem) ∙ either_way (eqb fed 0) in
              as_left (λ (l : List ℕ) (n : SoftDemodulator) (a : ℕ) (w : ℕ). ToCome m₀ xs (length lines₀) (take w l) n a w)
              (record {
                batch = batch_further ∙ ap (ahead (fed + f.fed) (take (written + length line) longer)) (rw (is_offer_lem, less));
                told = told_here ∙ quiet ∙ sym (rw (ne_eqb (fed + f.fed) 0 (λ z. omega (arith, g.moves is_offer_lem))));
              })

        pub hears_to_here : (answer : Result Unit Refusal) → is_offer (heard_paper r.answer) ≡ false → receipt_paper answer ≡ refused_after fed (heard_paper r.answer)
            → HearsAll m₀ xs lines₀ (record { answer = answer; fed = fed + r.fed; written = written + r.written; demodulator = r.demodulator }) back
        hears_to_here answer offered tells =
            let no_offer : is_offer f.answer ≡ false = ap is_offer (sym says.answers) ∙ offered in
            as_left (λ (l : List ℕ) (n : SoftDemodulator) (a : ℕ) (w : ℕ). HearsAll m₀ xs lines₀ (record { answer = answer; fed = a; written = w; demodulator = n }) l)
            (ends answer longer (left_by_stretch f) (fed + f.fed) (written + length line) goes_further (batch_further ∙ ap (ahead (fed + f.fed) (take (written + length line) longer)) (rw no_offer)) (tells ∙ ap (refused_after fed) says.answers ∙ sym told_here))
