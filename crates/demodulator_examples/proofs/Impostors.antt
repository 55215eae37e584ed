-- Document 01's four impostors, and for each the answers to a list of samples that it contradicts. Assumes nothing.
use mathlib.Core.Path.{◌≡◌, refl, sym, ap, ◌∙◌, subst}
use mathlib.Core.Bool.{true, false, true≢false}
use mathlib.Core.List.{List, [], ◌∷◌, ◌++◌}
use Prim.Native.Nat.{ℕ, ◌-◌, ◌*◌, ◌^◌, ◌≤◌}
use native.Mathlib.Omega.{arith}
use lib.Dec.{eqb, ltb, lit≤, lit<}
use lib.IntN.{ℤ}
use lib.ListN.{length, get_or, take, drop, get_or-append}
use lib.Seq.{take_at}
use lib.Ieee.{Float, binary32, of_bits, of_int, add, sub, mul, div, neg, lt, eq}
use Rattle.numbers.specs.Sum.{nought, sum_to}
use Rattle.numbers.specs.Firsts.{firsts}
use Rattle.numbers.specs.Choice.{larger, smaller, size_of}
use Rattle.numbers.specs.Below.{any_below}
use Rattle.numbers.proofs.Firsts.{length_firsts, firsts_at}
use Rattle.machine.specs.Runs.{run, Each}
use Rattle.machine.proofs.Parts.{each_front, run_joined}
use Rattle.shaping.specs.Rate.{at48}
use Rattle.shaping.proofs.RateFacts.{facts48}
use Rattle.shaping.specs.Taps.{taps}
use Rattle.protocol.specs.Bursts.{signs_of}
use Rattle.protocol.specs.declared.Kind.TheVariants.{Stream}
use Rattle.protocol.specs.declared.SyncBurst.TheVariants.{Frame}
use Rattle.decode.specs.declared.Correlation.{Correlation}
use Rattle.decode.specs.Correlator.{zero_unsigned, highest, lowest, gain_of, shift_of, symbol_of, distance_of, summed, diff_of, correlation}
use Rattle.search.specs.declared.Shown.{Shown}
use Rattle.search.specs.Turn.{sampled}
use Rattle.demodulator.specs.Spans.{eight, symbol_at}
use Rattle.demodulator.specs.Calls.{frame, offer_of}
use Rattle.demodulator_run.specs.Filter.{filtered, ago}
use Rattle.demodulator_run.specs.Rules.{Single, sample, History, Said, After, start, admitted, given, single, single_rules, history_all}
use Rattle.demodulator_run.specs.Marks.{is_refusal}
use Rattle.demodulator_run.specs.Run.{left, record_after, Callable}
use Rattle.demodulator_run.specs.Demands.{at, shown_at, ear_of}
use Rattle.demodulator_run.specs.Exact.{OfferedAt}
use Rattle.demodulator_run.proofs.Demand.{fed_all}
use Rattle.demodulator_run.proofs.CallKeeps.{settled_samples, heard_extends}
use Rattle.demodulator_run.proofs.LogExact.{not_refused}
use Rattle.demodulator_run.proofs.EarLaws.{filtered_taken}
use Rattle.demodulator_run.proofs.Sixteen.{taps_size}
use Rattle.demodulator_run.proofs.SinglesRun.{next_single}
use Rattle.demodulator_run.proofs.DemandEachRate.{due_offered_48}
use Rattle.demodulator_examples.proofs.Fed.{fed}
use Rattle.demodulator_examples.proofs.Table.{listed}
use Rattle.demodulator_examples.proofs.Sketch.{Sketch, samples, calls, shaped, hears, correlates, heard_samples, fed_number, sampled as small}
use Rattle.demodulator_examples.proofs.OneBurst.{one_burst, table as oneTable}
use Rattle.demodulator_examples.proofs.EarlierLarger.{earlier_larger, table as cornerTable}
use Rattle.demodulator_examples.proofs.DueFrames.{one_burst_due, corner_due}
use Rattle.demodulator_examples.proofs.SecondFrame.{both, first_frame, second_frame}

-- ---- 1: it refuses all. Of the list's samples all are heard.
pub not_refusing : fed_all taps 10 (calls one_burst) ≡ 1972
not_refusing = fed_number one_burst

-- ---- 2: it finds nothing. The list's sample 1,911 is answered with a frame, by the rules and by the record.
pub finds : OfferedAt taps 10 1911 (shown_at (shaped one_burst) Stream 71 1 false) (calls one_burst)
finds = due_offered_48 (calls one_burst) (small one_burst) 1911 (shown_at (shaped one_burst) Stream 71 1 false) one_burst_due

pub finds_another : OfferedAt taps 10 1910 (shown_at (shaped earlier_larger) Stream 71 2 false) (calls earlier_larger)
finds_another = due_offered_48 (calls earlier_larger) (small earlier_larger) 1910 (shown_at (shaped earlier_larger) Stream 71 2 false) corner_due

-- ---- 3: it always offers one window. The two offers' windows differ in their first symbol.
module _ {cs : List Single} {d : ℕ} {w : Shown} (O : OfferedAt taps 10 d w cs) where
  abbrev pub answer : Said
  answer = (single taps 10 (history_all taps 10 O.before) (sample O.value O.room)).said

  accepted_samples : (h : History) (x : ℤ) (room : List Float) → is_refusal (single taps 10 h (sample x room)).said.answer ≡ false
      → (single taps 10 h (sample x room)).history.samples ≡ h.samples ++ (x ∷ [])
  unfolding single given
  accepted_samples h x room =
      let P : After → Type 0 = λ a. a.history.samples ≡ h.samples ++ (x ∷ []) in
      not_refused taps 10 h P h.control.owed 2 room _ λ o.
      not_refused taps 10 h P (ltb (length room) 192) 4 room _ λ b.
      not_refused taps 10 h P (eqb h.control.sample (2 ^ 63)) 5 room (admitted taps 10 h x room) λ m e.
      settled_samples taps 10 (h.samples ++ (x ∷ [])) room (sampled 10 (eight 10 (ago taps 10 (h.samples ++ (x ∷ [])))) h.control)

  -- and so does the record
  pub record_answers : Each Callable cs → (left (record_after at48 O.before) (sample O.value O.room)).answer ≡ frame (offer_of w d)
  record_answers s =
      ap (λ (a : Said). a.answer) (next_single at48 facts48 O.before (each_front Callable O.before (sample O.value O.room ∷ O.after) (subst (Each Callable) O.split s)) (sample O.value O.room) ∙ O.said)

  -- the samples up to the offer are the first of all
  prefix : (more : List ℤ) × ((history_all taps 10 cs).samples ≡ ((history_all taps 10 O.before).samples ++ (O.value ∷ [])) ++ more)
  unfolding run
  prefix =
      let h : History = history_all taps 10 O.before in
      let e = accepted_samples h O.value O.room (ap (λ (a : Said). is_refusal a.answer) O.said) in
      let (m, f) = heard_extends taps 10 (single taps 10 h (sample O.value O.room)).history O.after in (
        m,
        ap (λ (l : List Single). (history_all taps 10 l).samples) O.split
            ∙ ap (λ (g : History). g.samples) (run_joined (single_rules taps 10) O.before (sample O.value O.room ∷ O.after) start)
            ∙ f ∙ ap (λ (l : List ℤ). l ++ m) e,
      )

  -- symbol 0 is made of F(d - 1910)
  pub first_symbol : 1910 ≤ d → get_or answer.room 0 nought ≡ symbol_of w.gain w.shift (filtered taps 10 (history_all taps 10 cs).samples (d - 1910))
  first_symbol l =
      let zs : List ℤ = (history_all taps 10 O.before).samples ++ (O.value ∷ []) in
      let f : ℕ → Float = symbol_at 10 w (ago taps 10 ((history_all taps 10 O.before).samples ++ (O.value ∷ []))) in
      let (m, e) = prefix in
      let n = O.number in
      ap (λ (a : Said). get_or a.room 0 nought) O.said
      ∙ get_or-append (firsts f 192) (drop 192 O.room) nought 0 (let s = length_firsts f 192 in omega arith)
      ∙ firsts_at f 192 0 nought (lit< tt)
      ∙ ap (λ (k : ℕ). symbol_of w.gain w.shift (filtered taps 10 zs k)) {x = length zs - 10 * (191 - 0)} {y = d - 1910} (omega arith)
      ∙ ap (λ (v : Float). symbol_of w.gain w.shift v)
      (ap (λ (l : List ℤ). filtered taps 10 l (d - 1910)) (sym (take_at zs m (length zs) refl))
      ∙ filtered_taken taps 10 (taps_size at48 facts48) (length zs) (zs ++ m) (d - 1910) (omega arith)
      ∙ ap (λ (l : List ℤ). filtered taps 10 l (d - 1910)) (sym e))

pub record_finds : (left (record_after at48 finds.before) (sample finds.value finds.room)).answer ≡ frame (record { kind = Stream; sample = 1911; taken_at = 71; age = 1; replaced = false; gain = (shown_at (shaped one_burst) Stream 71 1 false).gain })
record_finds = record_answers finds (small one_burst)

-- the first symbol of each, by its table
at_table : (S : Sketch) (k : ℕ) → k ≤ 73 → filtered taps 10 (history_all taps 10 (calls S)).samples k ≡ listed 10 S.table k 7
at_table S k l =
    ap (λ (zs : List ℤ). filtered taps 10 zs k) (heard_samples S)
    ∙ sym (filtered_taken taps 10 (taps_size at48 facts48) k (samples S) k (omega arith))
    ∙ ap (filtered taps 10 (take k (samples S))) {x = k} {y = k - 10 * (7 - 7)} (omega arith)
    ∙ hears S k l 7

symbol_by_table : (S : Sketch) (k : ℕ) → k ≤ 73 → symbol_of (at (shaped S) Stream 71).gain (at (shaped S) Stream 71).shift (filtered taps 10 (history_all taps 10 (calls S)).samples k)
    ≡ symbol_of (correlation (Frame Stream) (listed 10 S.table 71)).gain (correlation (Frame Stream) (listed 10 S.table 71)).shift (listed 10 S.table k 7)
symbol_by_table S k l =
    ap (λ (c : Correlation). symbol_of c.gain c.shift (filtered taps 10 (history_all taps 10 (calls S)).samples k)) (correlates S 71 (lit≤ tt) Stream)
    ∙ ap (symbol_of (correlation (Frame Stream) (listed 10 S.table 71)).gain (correlation (Frame Stream) (listed 10 S.table 71)).shift) (at_table S k l)

-- -0.5
abbrev half : Float
half = of_bits binary32 0xbf00_0000

one_below : lt (symbol_of (correlation (Frame Stream) (listed 10 oneTable 71)).gain (correlation (Frame Stream) (listed 10 oneTable 71)).shift (listed 10 oneTable 1 7)) half ≡ true
unfolding oneTable of_bits correlation diff_of summed sum_to distance_of symbol_of shift_of gain_of highest lowest zero_unsigned larger smaller size_of add sub mul div lt eq neg of_int signs_of any_below
one_below = refl

corner_above : lt (symbol_of (correlation (Frame Stream) (listed 10 cornerTable 71)).gain (correlation (Frame Stream) (listed 10 cornerTable 71)).shift (listed 10 cornerTable 0 7)) half ≡ false
unfolding cornerTable of_bits correlation diff_of summed sum_to distance_of symbol_of shift_of gain_of highest lowest zero_unsigned larger smaller size_of add sub mul div lt eq neg of_int signs_of any_below
corner_above = refl

pub windows_differ : (answer finds).room ≡ (answer finds_another).room → ⊥
windows_differ e =
    let low : lt (get_or (answer finds).room 0 nought) half ≡ true = ap (λ (v : Float). lt v half) (first_symbol finds (lit≤ tt) ∙ symbol_by_table one_burst 1 (lit≤ tt)) ∙ one_below in
    let high : lt (get_or (answer finds_another).room 0 nought) half ≡ false = ap (λ (v : Float). lt v half) (first_symbol finds_another (lit≤ tt) ∙ symbol_by_table earlier_larger 0 (lit≤ tt)) ∙ corner_above in
    true≢false (sym low ∙ ap (λ (l : List Float). lt (get_or l 0 nought) half) e ∙ high)

-- ---- 4: it works to its first frame and idles. The same burst given twice is offered twice: at 1,911, and at 3,883.
pub works_on : OfferedAt taps 10 1911 (shown_at (ear_of taps 10 (both one_burst one_burst.facts.second)) Stream 71 1 false) (fed (both one_burst one_burst.facts.second))
    × ((w : Shown) × (w.kind ≡ Stream) × OfferedAt taps 10 3883 w (fed (both one_burst one_burst.facts.second)))
works_on = (first_frame one_burst one_burst.facts.second, second_frame one_burst one_burst.facts.second)
