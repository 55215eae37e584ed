-- Document 02 k): "the taps are the even-numbered ones of the table, 41 in all", "length 2,000". The sender's arrays have 81 and 4,000 places:
-- at 24 kHz those from 41 and from 2,000 on are not used. No test reads them, and no call changes them: of every record, and at every rate. Assumes nothing.
use mathlib.Core.Path.{◌≡◌, refl, ap, ◌∙◌}
use mathlib.Core.Bool.{true, not}
use mathlib.Core.List.{List, [], ◌++◌}
use Prim.Native.Nat.{ℕ, zero, suc, ◌+◌, ◌-◌, ◌*◌, ◌≤◌, ◌<◌}
use native.Mathlib.Nat.{mul-le-mul_left}
use native.Mathlib.Omega.{arith}
use borrow.Author.Tests.{not-false}
use lib.Dec.{lit≤}
use lib.IntN.{ℤ, pos}
use lib.ListN.{length, get_or, set, drop, length-replicate}
use lib.Seq.{get_or-set_same, get_or-set_other, get_or-append-add, get_or-drop}
use lib.Ieee.{Float, nan, of_bits, le}
use Rattle.numbers.specs.Below.{all_below}
use Rattle.numbers.specs.Firsts.{firsts, written}
use Rattle.numbers.proofs.Below.{all_same}
use Rattle.numbers.proofs.Firsts.{length_firsts}
use Rattle.shaping.specs.Rate.{Rate, at24, tap_count, store_places_lem}
use Rattle.pulse.specs.Pulse.{pulses, Line, after, sample_at}
use Rattle.pulse.proofs.Stream.{cursor_stays}
use Rattle.modulator.specs.declared.ModulatorFrame.{ModulatorFrame}
use Rattle.modulator.specs.declared.ModulatorFrame.TheVariants.{EndOfTransmission}
use Rattle.modulator.specs.declared.SoftModulator.{SoftModulator}
use Rattle.modulator.specs.Record.{fresh, line_of, control_of, stored_sample, framed}
use Rattle.modulator.specs.Fit.{pulse_fit, window_fit, record_fit_lem}
use Rattle.modulator.specs.Outcome.{Outcome, only, told, sends, frame_outcome, update_outcome, action_outcome}
use Rattle.modulator.specs.Calls.{Left, unless_unfit, settled, drained, provided, read, updated, ran}
use Rattle.modulator.proofs.Fitness.{record_facts}
use Rattle.modulator_laws.proofs.Picked.{picked}
use Rattle.modulator_laws.proofs.OutcomeLimits.{Few, frame_few, update_few, action_few}

-- ---- no test reads them
-- two records with the same in all places that are used
pub record SameUsed (p : ℕ) (m n : SoftModulator) : Type 0 where
  pub rate : m.rate ≡ n.rate
  pub store : (i : ℕ) → i < store_places_lem p → stored_sample m i ≡ stored_sample n i
  pub window : (i : ℕ) → i < tap_count p → get_or m.filter_win i nan ≡ get_or n.filter_win i nan
  pub cursor : m.filter_cursor ≡ n.filter_cursor
  pub progress : m.progress ≡ n.progress
  pub pending : m.pending ≡ n.pending
  pub buffer : m.buffer ≡ n.buffer

module _ (p : ℕ) (m n : SoftModulator) (u : SameUsed p m n) where
  window_same : window_fit p m ≡ window_fit p n
  unfolding window_fit
  window_same = all_same (tap_count p) _ _ (λ i l. ap pulse_fit (u.window i l))

  pub unused_untested : record_fit_lem p m ≡ record_fit_lem p n
  unfolding record_fit_lem
  unused_untested = rw (window_same, u.rate, u.cursor, u.progress, u.buffer, u.pending)

-- ---- no call changes them
pub record SameUnused (p : ℕ) (after m : SoftModulator) : Type 0 where
  pub store : (i : ℕ) → store_places_lem p ≤ i → stored_sample after i ≡ stored_sample m i
  pub window : (i : ℕ) → tap_count p ≤ i → get_or after.filter_win i nan ≡ get_or m.filter_win i nan

as_it_was : (p : ℕ) (m : SoftModulator) → SameUnused p m m
as_it_was p m = record { store = λ i l. refl; window = λ i l. refl }

-- past the places that are written, a list is as it was
pub written_past : {A : Type 0} (f : ℕ → A) (n : ℕ) (l : List A) (i : ℕ) (d : A) → n ≤ i → get_or (written f n l) i d ≡ get_or l i d
written_past f n l i d h =
    let long = length_firsts f n in
    let at : i ≡ length (firsts f n) + (i - n) = omega arith in
    let back : n + (i - n) ≡ i = omega arith in
    ap (λ (j : ℕ). get_or (firsts f n ++ drop n l) j d) at
    ∙ get_or-append-add (firsts f n) (drop n l) (i - n) d
    ∙ get_or-drop n l (i - n) d
    ∙ ap (λ (j : ℕ). get_or l j d) back

-- nor does a value that enters the window
entered_past : (p : ℕ) (e : ℕ → Float) (n : ℕ) (line : Line) → line.cursor < tap_count p → (i : ℕ) → tap_count p ≤ i → get_or (after p e n line).window i nan ≡ get_or line.window i nan
unfolding after
entered_past p e zero line h i l = refl
entered_past p e (suc n) line h i l =
    get_or-set_other (after p e n line).window (after p e n line).cursor i (e n) nan (λ same. omega (arith, cursor_stays p e n line h)) ∙ entered_past p e n line h i l

module _ (R : Rate) (m : SoftModulator) where
  abbrev Kept : Left → Type 0
  Kept l = SameUnused R.p l.modulator m

  settled_unused : m.filter_cursor < tap_count R.p → (o : Outcome) → Few o → Kept (settled R m o)
  unfolding settled framed Few
  settled_unused c (only answer) few = as_it_was R.p m
  settled_unused c (told answer pending buffer) few = record { store = λ i l. refl; window = λ i l. refl }
  settled_unused c (sends frame padding pending) few =
      let e : ℕ → Float = pulses R.p frame.symbol in
      let n : ℕ = R.p * frame.count in
      let stored : n ≤ R.p * 400 = mul-le-mul_left R.p few in
      record {
        store = λ i l. written_past (sample_at R e (line_of m)) n m.next_transmission i (pos 0) (omega arith);
        window = λ i l. entered_past R.p e n (line_of m) c i l;
      }

  settles : (o : Outcome) → Few o → record_fit_lem R.p m ≡ true → Kept (settled R m o)
  settles o few fit = settled_unused (record_facts R.p m fit).cursor o few

  -- each call, refused or not
  pub record UnusedKept : Type 0 where
    pub frame : (frame : ModulatorFrame) (symbols : List Float) → Kept (provided R m frame symbols)
    pub reading : (room : List ℤ) → Kept (read R m room)
    pub update : (fill capacity latency : ℕ) → Kept (updated R m fill capacity latency)
    pub action : Kept (ran R m)

  taken_or_refused : (room : List ℤ) (l : Left) → (record_fit_lem R.p m ≡ true → Kept l) → Kept (unless_unfit R.p m room l)
  taken_or_refused room l k = picked Kept (not (record_fit_lem R.p m)) _ _ (λ _. as_it_was R.p m) (λ t. k (not-false _ t))

  pub unused_kept : UnusedKept
  unfolding provided read drained updated ran
  unused_kept = record {
    frame = λ frame symbols. taken_or_refused _ _ (settles (frame_outcome R.p frame symbols (control_of m)) (frame_few R.p (control_of m) frame symbols));
    reading = λ room. taken_or_refused room _ (λ _. record { store = λ i l. refl; window = λ i l. refl });
    update = λ fill capacity latency. taken_or_refused _ _ (settles (update_outcome R.p fill capacity latency (control_of m)) (update_few R.p (control_of m) fill capacity latency));
    action = taken_or_refused _ _ (settles (action_outcome (control_of m)) (action_few R.p (control_of m)));
  }

-- ---- it can be met: a fresh record at 24 kHz, and one with a not-a-number in place 41 of the window and a 1 in place 2,000 of the store
abbrev pub card : SoftModulator
card = fresh 24000

abbrev pub strewn : SoftModulator
strewn = record {
  rate = 24000;
  next_transmission = set card.next_transmission 2000 (pos 1);
  filter_win = set card.filter_win 41 nan;
  filter_cursor = 0;
  progress = card.progress;
  pending = card.pending;
  buffer = card.buffer;
}

pub strewn_same : SameUsed 5 strewn card
unfolding fresh
strewn_same = record {
  rate = refl;
  store = λ i l. get_or-set_other card.next_transmission 2000 i (pos 1) (pos 0) (λ e. omega arith);
  window = λ i l. get_or-set_other card.filter_win 41 i nan nan (λ e. omega arith);
  cursor = refl;
  progress = refl;
  pending = refl;
  buffer = refl;
}

card_fit : record_fit_lem 5 card ≡ true
unfolding fresh record_fit_lem window_fit pulse_fit all_below of_bits le
card_fit = refl

strewn_fit : record_fit_lem 5 strewn ≡ true
strewn_fit = unused_untested 5 strewn card strewn_same ∙ card_fit

-- the end of transmission leaves the 1
strewn_one : stored_sample (provided at24 strewn EndOfTransmission []).modulator 2000 ≡ pos 1
unfolding fresh
strewn_one =
    ((unused_kept at24 strewn).frame EndOfTransmission []).store 2000 (lit≤ tt)
    ∙ get_or-set_same card.next_transmission 2000 (pos 1) (pos 0) (omega (arith, length-replicate 4000 (pos 0)))
