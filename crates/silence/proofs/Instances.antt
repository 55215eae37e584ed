-- `silence_clears` on samples that break off in the middle of a frame, and a pause that is too short for them, at each rate: a Stream burst is found, fewer samples than
-- its frame has follow, whichever they are, and then zeros. Assumes nothing.
use Rattle.std.specs.Prelude.{Option, Some}
use mathlib.Core.Path.{◌≡◌, refl, sym, ap, ◌∙◌, subst}
use mathlib.Core.Bool.{false}
use mathlib.Core.List.{List, [], ◌∷◌, ◌++◌, map, append_assoc}
use Prim.Native.Nat.{ℕ, ◌+◌, ◌-◌, ◌*◌, ◌^◌, ◌≤◌, ◌<◌}
use native.Mathlib.Omega.{arith}
use lib.Dec.{lit≤, lit<}
use lib.IntN.{ℤ, pos}
use lib.ListN.{length, length-append}
use Rattle.machine.specs.Runs.{run, answers, Each}
use Rattle.machine.proofs.Parts.{run_joined, each_joined}
use Rattle.shaping.specs.Taps.{taps, even_taps}
use Rattle.shaping.specs.Rate.{Rate, at48, at24}
use Rattle.shaping.proofs.RateFacts.{Facts, facts48, facts24}
use Rattle.protocol.specs.declared.Kind.TheVariants.{Stream}
use Rattle.search.specs.declared.Control.{Control}
use Rattle.search.specs.TakenBurst.{TakenBurst, held_as}
use Rattle.search.specs.Search.{end_after_lem, same_kind, wait_after}
use Rattle.demodulator.specs.Record.{fresh}
use Rattle.demodulator_run.specs.Rules.{History, start, history_all, single_rules}
use Rattle.demodulator_run.specs.Run.{fresh_at}
use Rattle.demodulator_run.specs.Demands.{ear_of, taken_at_lem}
use Rattle.demodulator_run.specs.Stretch.{Sixteen}
use Rattle.demodulator_run.specs.Calls.{Call, rules, receiver, Given}
use Rattle.demodulator_run.proofs.Sixteen.{sixteen_append, sixteen_front}
use Rattle.demodulator_run.proofs.ReceiverRun.{receiver_run}
use Rattle.demodulator_examples.proofs.Fed.{fed, fed_append}
use Rattle.demodulator_examples.proofs.Steps.{standing, waiting, Hits, none, wait_run}
use Rattle.demodulator_examples.proofs.Table.{pause as zeros}
use Rattle.demodulator_examples.proofs.Sketch.{sixteen, few, none_before, at_71, at_72}
use Rattle.demodulator_examples.proofs.OneBurst.{one_burst}
use Rattle.demodulator_examples.proofs.OneBurst24.{front as front24, sixteen as sixteen24, long as long24, few as few24, none_before as none-before24, at_36, at_37}
use Rattle.silence.specs.Later.{later_told}
use Rattle.silence.specs.Silence.{pause, counted}
use Rattle.silence.proofs.SilenceClears.{silence_clears}
use Rattle.silence.proofs.CutOff.{feeding, feeding_run, feeding_given, both_count, both_given, pauses, waits}
use Rattle.silence.proofs.TooShort.{Suffices, too_short}

-- ---- xs end where a wait was set, and `mid` is shorter than it
module _ (R : Rate) (F : Facts R) (xs : List ℤ) (small : Sixteen xs) (n : ℕ) (long : length xs ≡ n) (low : n ≤ 4000) (burst : TakenBurst) (t : Option ℕ)
    (found : history_all R.taps R.p (fed xs) ≡ standing xs (held_as burst) (wait_after R.p 1) t n)
    (mid : List ℤ) (sixteen-mid : Sixteen mid) (short : length mid < 184 * R.p - 1) where
  abbrev part : List ℤ
  part = xs ++ mid

  sixteen_part : Sixteen part
  sixteen_part = sixteen_append xs mid small sixteen-mid

  part_long : length part ≡ n + length mid
  part_long = length-append xs mid ∙ omega arith

  -- the frame is still waited for
  pub still_waits : (run receiver (fresh_at R) (feeding part)).control.wait ≡ waiting 1 false ((184 * R.p - 1) - length mid)
  still_waits =
      let p-most = F.few in
      let (u, e) = wait_run R 1 false mid xs (held_as burst) t n (184 * R.p - 1) (omega arith) short in
      let h : run (rules R) start (feeding part) ≡ standing part (held_as burst) (waiting 1 false ((184 * R.p - 1) - length mid)) u (n + length mid) =
      feeding_run R (fed part) start ∙ ap (run (single_rules R.taps R.p) start) (fed_append xs mid) ∙ run_joined (single_rules R.taps R.p) (fed xs) (fed mid) start
      ∙ ap (λ (k : History). run (single_rules R.taps R.p) k (fed mid)) found ∙ e in
      ap (λ (c : Control). c.wait) (receiver_run R F (feeding part) (feeding_given R F part sixteen_part)).0.control ∙ ap (λ (k : History). k.control.wait) h

  enough : length part + pause R.p ≤ 2 ^ 63
  enough = let p-most = F.few in let e = part_long in omega arith

  -- and after a pause nothing is left of it, whatever comes then
  pub after_pause : (ds : List Call) → Each Given ds → counted R ((feeding part ++ feeding (zeros (pause R.p))) ++ ds) < 2 ^ 63
      → answers receiver (run receiver (fresh_at R) (feeding part ++ feeding (zeros (pause R.p)))) ds
      ≡ map (later_told (n + length mid + pause R.p)) (answers receiver (fresh_at R) ds)
  after_pause ds g below =
      let both = both_given R F part sixteen_part (pause R.p) enough in
      let count : counted R (feeding part ++ feeding (zeros (pause R.p))) ≡ n + length mid + pause R.p =
      both_count R F part sixteen_part (pause R.p) enough ∙ ap (λ (k : ℕ). k + pause R.p) part_long in
      silence_clears R F (feeding part) (feeding (zeros (pause R.p))) ds (each_joined Given _ ds both g) (pauses R F part sixteen_part (pause R.p) enough) below
      ∙ ap (λ (k : ℕ). map (later_told k) (answers receiver (fresh_at R) ds)) count

-- ---- at 48 kHz: 72 samples, of which the last sets the wait
abbrev pub cut48 : List ℤ
cut48 = (one_burst.front ++ (one_burst.x ∷ [])) ++ (one_burst.y ∷ [])

sixteen48 : Sixteen cut48
sixteen48 =
    sixteen_front cut48 (zeros 1900)
    (subst Sixteen (sym (append_assoc (one_burst.front ++ (one_burst.x ∷ [])) (one_burst.y ∷ []) (zeros 1900) ∙ append_assoc one_burst.front (one_burst.x ∷ []) (one_burst.y ∷ zeros 1900))) (sixteen one_burst))

long48 : length cut48 ≡ 72
long48 = length-append (one_burst.front ++ (one_burst.x ∷ [])) (one_burst.y ∷ []) ∙ (let a = length-append one_burst.front (one_burst.x ∷ []) in let b = one_burst.facts.long in omega arith)

abbrev burst48 : TakenBurst
burst48 = taken_at_lem (ear_of taps 10 (one_burst.front ++ (one_burst.x ∷ one_burst.y ∷ zeros 1900))) Stream 71

found48 : history_all taps 10 (fed cut48) ≡ standing cut48 (held_as burst48) (wait_after 10 1) (Some (end_after_lem 72 3840)) 72
found48 = waits at48 facts48 70 one_burst.front one_burst.x one_burst.y (zeros 1900) one_burst.facts.long (sixteen one_burst) (few one_burst) (none_before one_burst) Stream (at_71 one_burst) (at_72 one_burst)

pub still_waits_48 : (mid : List ℤ) → Sixteen mid → length mid < 1839 → (run receiver (fresh 48000) (feeding (cut48 ++ mid))).control.wait ≡ waiting 1 false (1839 - length mid)
still_waits_48 = still_waits at48 facts48 cut48 sixteen48 72 long48 (lit≤ tt) burst48 (Some (end_after_lem 72 3840)) found48

pub after_pause_48 : (mid : List ℤ) → Sixteen mid → length mid < 1839 → (ds : List Call) → Each Given ds → counted at48 ((feeding (cut48 ++ mid) ++ feeding (zeros 4000)) ++ ds) < 2 ^ 63
    → answers receiver (run receiver (fresh 48000) (feeding (cut48 ++ mid) ++ feeding (zeros 4000))) ds ≡ map (later_told (72 + length mid + 4000)) (answers receiver (fresh 48000) ds)
after_pause_48 = after_pause at48 facts48 cut48 sixteen48 72 long48 (lit≤ tt) burst48 (Some (end_after_lem 72 3840)) found48

pub too_short_48 : Suffices at48 3840 → ⊥
too_short_48 = too_short at48 facts48 cut48 sixteen48 72 long48 (lit< tt) burst48 found48

-- ---- at 24 kHz: 37 samples
abbrev pub cut24 : List ℤ
cut24 = (front24 ++ (pos 0 ∷ [])) ++ (pos 0 ∷ [])

first_zero : zeros 940 ≡ pos 0 ∷ zeros 939
unfolding zeros
first_zero = refl

whole24 : front24 ++ (pos 0 ∷ zeros 940) ≡ front24 ++ (pos 0 ∷ pos 0 ∷ zeros 939)
whole24 = ap (λ (l : List ℤ). front24 ++ (pos 0 ∷ l)) first_zero

sixteen_whole : Sixteen (front24 ++ (pos 0 ∷ pos 0 ∷ zeros 939))
sixteen_whole = subst Sixteen whole24 sixteen24

small24 : Sixteen cut24
small24 =
    sixteen_front cut24 (zeros 939)
    (subst Sixteen (sym (append_assoc (front24 ++ (pos 0 ∷ [])) (pos 0 ∷ []) (zeros 939) ∙ append_assoc front24 (pos 0 ∷ []) (pos 0 ∷ zeros 939))) sixteen_whole)

long37 : length cut24 ≡ 37
long37 = length-append (front24 ++ (pos 0 ∷ [])) (pos 0 ∷ []) ∙ (let a = length-append front24 (pos 0 ∷ []) in let b = long24 in omega arith)

abbrev burst24 : TakenBurst
burst24 = taken_at_lem (ear_of even_taps 5 (front24 ++ (pos 0 ∷ pos 0 ∷ zeros 939))) Stream 36

found24 : history_all even_taps 5 (fed cut24) ≡ standing cut24 (held_as burst24) (wait_after 5 1) (Some (end_after_lem 37 1920)) 37
found24 =
    waits at24 facts24 35 front24 (pos 0) (pos 0) (zeros 939) long24 sixteen_whole (subst (λ (l : List ℤ). length l ≤ 2 ^ 63) whole24 few24)
    (subst (λ (l : List ℤ). (m : ℕ) → m ≤ 35 → Hits (ear_of even_taps 5 l m) none) whole24 none-before24) Stream
    (subst (λ (l : List ℤ). Hits (ear_of even_taps 5 l 36) (same_kind Stream)) whole24 at_36) (subst (λ (l : List ℤ). Hits (ear_of even_taps 5 l 37) none) whole24 at_37)

pub still_waits_24 : (mid : List ℤ) → Sixteen mid → length mid < 919 → (run receiver (fresh 24000) (feeding (cut24 ++ mid))).control.wait ≡ waiting 1 false (919 - length mid)
still_waits_24 = still_waits at24 facts24 cut24 small24 37 long37 (lit≤ tt) burst24 (Some (end_after_lem 37 1920)) found24

pub after_pause_24 : (mid : List ℤ) → Sixteen mid → length mid < 919 → (ds : List Call) → Each Given ds → counted at24 ((feeding (cut24 ++ mid) ++ feeding (zeros 2000)) ++ ds) < 2 ^ 63
    → answers receiver (run receiver (fresh 24000) (feeding (cut24 ++ mid) ++ feeding (zeros 2000))) ds ≡ map (later_told (37 + length mid + 2000)) (answers receiver (fresh 24000) ds)
after_pause_24 = after_pause at24 facts24 cut24 small24 37 long37 (lit≤ tt) burst24 (Some (end_after_lem 37 1920)) found24

pub too_short_24 : Suffices at24 1920 → ⊥
too_short_24 = too_short at24 facts24 cut24 small24 37 long37 (lit< tt) burst24 found24
