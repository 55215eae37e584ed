-- A part from a sender that has sent the symbols `xs` and has no padding due: its frame's symbols are sent after them, and all of its samples are written. Assumes nothing.
use mathlib.Core.Path.{◌≡◌, refl, sym, ap, ◌∙◌}
use mathlib.Core.Bool.{Bool, true}
use mathlib.Core.List.{List, [], ◌∷◌, ◌++◌}
use Prim.Native.Nat.{ℕ, ◌*◌}
use lib.IntN.{ℤ}
use lib.ListN.{length, take, drop}
use lib.Seq.{take_at}
use lib.Ieee.{Float}
use Rattle.numbers.specs.Firsts.{firsts}
use Rattle.numbers.proofs.Firsts.{length_firsts}
use Rattle.machine.specs.Runs.{run, answers, Each}
use Rattle.machine.proofs.Parts.{run_joined, each_joined}
use Rattle.shaping.specs.Rate.{at48, rate_of}
use Rattle.shaping.proofs.RateFacts.{facts48}
use Rattle.modulator.specs.declared.SoftModulator.{SoftModulator}
use Rattle.modulator.specs.declared.ModulatorFrame.{ModulatorFrame}
use Rattle.modulator.specs.declared.Pending.{Pending}
use Rattle.modulator.specs.Paper.{done, wrote}
use Rattle.modulator.specs.Frame.{Symbols}
use Rattle.modulator.specs.Calls.{provided}
use Rattle.modulator.specs.Calls.{Left as SenderLeft}
use Rattle.modulator.specs.Calls.{read as readInto}
use Rattle.modulator_run.specs.Rules.{Call, provide, read, Sent, Said, After, start, after, framed, drained, called, rules, sent_all}
use Rattle.modulator_run.specs.Run.{left_at, said_by, sender, fresh_at, record_after, Given}
use Rattle.modulator_run.specs.Pieces.{counted}
use Rattle.modulator_run.proofs.SenderRun.{sender_run, answers_from, fit_throughout}
use Rattle.sending.specs.declared.Sending.{Sending}
use Rattle.sending.specs.Text.{sample_bytes}
use Rattle.sending.specs.Calls.{Left, empty_room, part_of, is_fit}
use Rattle.sending.specs.Run.{output, part_calls}
use Rattle.sending.proofs.Bytes.{bytes_two, bytes_length}
use Rattle.sending.proofs.Stream.{samples_behind, samples_number}
use Rattle.sending.proofs.Frames.{Gives, all_read, room_read, then_symbols, then_padding}

-- the sender after the calls `cs`, by which the symbols `xs` were sent and no padding is left
pub record Sits (m : SoftModulator) (cs : List Call) (xs : List Float) : Type 0 where
  pub by : m ≡ record_after at48 cs
  pub given : Each Given cs
  pub symbols : (sent_all at48 cs).symbols ≡ xs
  pub padding : (sent_all at48 cs).progress.tx_delay_padding.0 ≡ 0

-- it is fit
pub sits_fit : {m : SoftModulator} {cs : List Call} {xs : List Float} → Sits m cs xs → is_fit m ≡ true
unfolding run
sits_fit {m} {cs} {xs} sits = rw (sits.by, (sender_run at48 facts48 cs sits.given).0.rate) (fit_throughout at48 facts48 cs sits.given)

both : {A : Type 0} {a b c d : A} → ◌≡◌ {A = List A} (a ∷ (b ∷ [])) (c ∷ (d ∷ [])) → (a ≡ c) × (b ≡ d)
both e = (cc, cc)

read_called : (s : Sent) (room : List ℤ) → called at48 s (read room) ≡ drained at48 room s
unfolding called
read_called s room = refl

-- what a part leaves
pub record Done (l : Left) (cs : List Call) (xs : List Float) (new : List Float) (frame : ModulatorFrame) (symbols : List Float) : Type 0 where
  pub answer : l.answer ≡ done
  pub written : output l ≡ sample_bytes (samples_behind xs new)
  pub sits : Sits l.sending.modulator (cs ++ part_calls frame symbols) (xs ++ new)

module _ (m : SoftModulator) (cs : List Call) (xs : List Float) (sits : Sits m cs xs) (frame : ModulatorFrame) (symbols : List Float) (f : Symbols) (gives : Gives frame symbols f) where
  -- the two calls, at the rate that the record says
  abbrev taken : SenderLeft
  taken = provided (rate_of m.rate) m frame symbols

  abbrev out : SenderLeft
  out = readInto (rate_of taken.modulator.rate) taken.modulator empty_room

  abbrev before : Sent
  before = sent_all at48 cs

  abbrev new : List Float
  new = firsts f.symbol f.count

  abbrev pending : Pending
  pending = gives.pending before.pending

  -- the frame is given
  abbrev next : Sent
  next = framed at48 f 0 pending before

  calls_given : Each Given (part_calls frame symbols)
  unfolding Each Given
  calls_given = (gives.given, (tt, tt))

  frame_called : called at48 before (provide frame symbols) ≡ after done [] next
  frame_called = gives.calls before sits.padding

  -- what the two calls say, by the record and by the rules
  said : answers sender m (part_calls frame symbols) ≡ answers (rules at48) before (part_calls frame symbols)
  said = rw sits.by (answers_from at48 facts48 cs (part_calls frame symbols) sits.given calls_given)

  each_said : (said_by taken ≡ (called at48 before (provide frame symbols)).said)
      × (said_by out ≡ (called at48 (called at48 before (provide frame symbols)).sent (read empty_room)).said)
  unfolding answers left_at
  each_said = both said

  pub frame_said : taken.answer ≡ done
  frame_said = ap (λ (x : Said). x.answer) (each_said.0 ∙ ap (λ (a : After). a.said) frame_called)

  read_said : said_by out ≡ (drained at48 empty_room next).said
  read_said =
      each_said.1
      ∙ ap (λ (a : After). (called at48 a.sent (read empty_room)).said) frame_called
      ∙ ap (λ (a : After). a.said) (read_called next empty_room)

  pub count_said : out.answer ≡ wrote (10 * f.count)
  count_said = ap (λ (x : Said). x.answer) read_said ∙ all_read before f gives.few pending

  pub room_said : out.room ≡ samples_behind xs new ++ drop (10 * f.count) empty_room
  room_said =
      ap (λ (x : Said). x.room) read_said
      ∙ room_read before f gives.few pending
      ∙ ap (λ (l : List Float). samples_behind l new ++ drop (10 * f.count) empty_room) sits.symbols

  -- and what they leave
  both_called : sent_all at48 (cs ++ part_calls frame symbols) ≡ (drained at48 empty_room next).sent
  unfolding run
  both_called =
      run_joined (rules at48) cs (part_calls frame symbols) start
      ∙ ap (λ (a : After). (called at48 a.sent (read empty_room)).sent) frame_called
      ∙ ap (λ (a : After). a.sent) (read_called next empty_room)

  pub sits_next : Sits out.modulator (cs ++ part_calls frame symbols) (xs ++ new)
  unfolding run left_at
  sits_next = record {
    by = rw sits.by (sym (run_joined sender cs (part_calls frame symbols) (fresh_at at48)));
    given = each_joined Given cs (part_calls frame symbols) sits.given calls_given;
    symbols =
        ap (λ (x : Sent). x.symbols) both_called ∙ then_symbols before f gives.few pending ∙ ap (λ (l : List Float). l ++ new) sits.symbols;
    padding = ap (λ (x : Sent). x.progress.tx_delay_padding.0) both_called ∙ then_padding before f gives.few pending;
  }

  all_written : take (2 * (10 * f.count)) (sample_bytes (samples_behind xs new ++ drop (10 * f.count) empty_room)) ≡ sample_bytes (samples_behind xs new)
  all_written =
      let size : length (sample_bytes (samples_behind xs new)) ≡ 2 * (10 * f.count) =
      bytes_length (samples_behind xs new) ∙ ap (λ (n : ℕ). 2 * n) (samples_number xs new ∙ ap (λ (n : ℕ). 10 * n) (length_firsts f.symbol f.count)) in
      ap (take (2 * (10 * f.count))) (bytes_two (samples_behind xs new) (drop (10 * f.count) empty_room)) ∙ take_at (sample_bytes (samples_behind xs new)) _ (2 * (10 * f.count)) size

module _ (s : Sending) (cs : List Call) (xs : List Float) (sits : Sits s.modulator cs xs) (frame : ModulatorFrame) (symbols : List Float) (f : Symbols) (gives : Gives frame symbols f) where
  pub part_done : (bad last : Bool) → Done (part_of s frame symbols bad last) cs xs (firsts f.symbol f.count) frame symbols
  unfolding part_of counted
  part_done bad last = record {
    answer = frame_said s.modulator cs xs sits frame symbols f gives;
    written = rw (count_said s.modulator cs xs sits frame symbols f gives, room_said s.modulator cs xs sits frame symbols f gives) (all_written s.modulator cs xs sits frame symbols f gives);
    sits = sits_next s.modulator cs xs sits frame symbols f gives;
  }
