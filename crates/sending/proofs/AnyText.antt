-- Every text can be read, a byte at a time for one; and what is written so far is a prefix of what every longer text has written. Assumes nothing.
use mathlib.Core.Path.{◌≡◌, refl, sym, ap, ◌∙◌}
use mathlib.Core.Bool.{Bool, true, false, cond}
use mathlib.Core.List.{List, [], ◌∷◌, ◌++◌, map, map-append, append_assoc, append-nil, flatten}
use Prim.Native.Nat.{ℕ, ◌+◌, ◌<◌, ◌≤◌}
use native.Mathlib.Omega.{arith}
use lib.ListN.{length, take, drop, take-append-drop}
use Rattle.numbers.proofs.Flatten.{flatten_append}
use Rattle.sending.specs.declared.Sending.{Sending}
use Rattle.sending.specs.Text.{bytes_sent}
use Rattle.sending.specs.Calls.{Left, lacking, opened, turned}
use Rattle.sending.specs.Run.{Fitting, calls_from, calls_over, calls_until, output, written_by, last_of, last_until, Begins}
use Rattle.sending.proofs.Lines.{never_both}
use Rattle.sending.proofs.SendRun.{next_stands, Somewhere, opened_stands, send_run}

-- ---- a byte at a time
abbrev single : ℕ → List ℕ
single byte = byte ∷ []

abbrev pub singles : List ℕ → List (List ℕ)
singles text = map single text

pub flatten_singles : (text : List ℕ) → flatten (singles text) ≡ text
unfolding flatten
flatten_singles [] = refl
flatten_singles (b ∷ text) = ap (λ (l : List ℕ). b ∷ l) (flatten_singles text)

fits_singles : (text : List ℕ) (s : Sending) → Somewhere s → Fitting s (singles text)
unfolding Fitting
fits_singles [] s at = tt
fits_singles (b ∷ text) s at =
    let one : 0 < length (single b) = omega arith in (
      one,
      (
        omega (arith, at.stands.short),
        λ on. fits_singles text (turned s (single b)).sending (next_stands (single b) one s at (omega (arith, at.stands.short)) on),
      ),
    )

pub fits_more : (reads : List (List ℕ)) (rest : List ℕ) (s : Sending) → Somewhere s → Fitting s reads → Fitting s (reads ++ singles rest)
unfolding Fitting
fits_more [] rest s at fit = fits_singles rest s at
fits_more (bytes ∷ reads) rest s at fit = (
  fit.0,
  (
    fit.1.0,
    λ on. fits_more reads rest (turned s bytes).sending (next_stands bytes fit.0 s at (omega (arith, at.stands.short, fit.1.0)) on) (fit.1.1 on),
  ),
)

somewhere : Somewhere opened.sending
somewhere = record { cs = _; xs = _; k = 1; stands = opened_stands }

-- so every text has reads
pub every_text : (text : List ℕ) → Fitting opened.sending (singles text) × (flatten (singles text) ≡ text)
every_text text = (fits_singles text opened.sending somewhere, flatten_singles text)

-- ---- what is asked for
abbrev Asks : List (List ℕ) → Left → Type 0
Asks reads l = (last_of l (calls_until l.sending reads)).last ≡ false → 0 < lacking (last_of l (calls_until l.sending reads)).sending

asks_from : (reads : List (List ℕ)) (l : Left) → Somewhere l.sending → Fitting l.sending reads → Asks reads l
unfolding Fitting calls_until last_of
asks_from [] l at fit on = omega (arith, at.stands.short)
asks_from (bytes ∷ reads) l at fit on =
    let few : l.sending.have + length bytes ≤ 97 = omega (arith, at.stands.short, fit.1.0) in
    let next : Left = turned l.sending bytes in
    by_test next next.last refl (λ still. asks_from reads next (next_stands bytes fit.0 l.sending at few still) (fit.1.1 still)) on
  where
    by_test : (next : Left) (t : Bool) → next.last ≡ t → (next.last ≡ false → Asks reads next)
        → (last_of next (cond t [] (calls_until next.sending reads))).last ≡ false → 0 < lacking (last_of next (cond t [] (calls_until next.sending reads))).sending
    by_test next true e more on = absurd (never_both e on)
    by_test next false e more on = more e on

-- Before each read the line lacks a byte at least: a read that gives none is the end of the input.
pub asks_some : (reads : List (List ℕ)) → Fitting opened.sending reads → (last_until reads).last ≡ false → 0 < lacking (last_until reads).sending
asks_some reads fit on = asks_from reads opened somewhere fit on

-- ---- what is written so far
pub record Goes (s : Sending) (reads more : List (List ℕ)) : Type 0 where
  pub later : List Left
  pub parts : calls_from s (reads ++ more) ≡ calls_until s reads ++ later

goes : (reads more : List (List ℕ)) (s : Sending) → Goes s reads more
unfolding calls_from calls_until
goes [] more s = record { later = calls_from s more; parts = refl }
goes (bytes ∷ reads) more s =
    let on = by_test (turned s bytes) (turned s bytes).last (goes reads more (turned s bytes).sending) in
    record { later = on.0; parts = on.1 }
  where
    by_test : (l : Left) (t : Bool) → Goes l.sending reads more
        → (later : List Left) × (l ∷ cond t [] (calls_from l.sending (reads ++ more)) ≡ (l ∷ cond t [] (calls_until l.sending reads)) ++ later)
    by_test l true rest = ([], refl)
    by_test l false rest = (rest.later, ap (λ (calls : List Left). l ∷ calls) rest.parts)

written_two : (a b : List Left) → written_by (a ++ b) ≡ written_by a ++ written_by b
written_two a b = ap flatten (map-append output a b) ∙ flatten_append (map output a) (map output b)

-- Whatever the next read would bring, and if it fails: what was written until then is the beginning of the right output.
pub output_prefix : (reads : List (List ℕ)) → Fitting opened.sending reads → (rest : List ℕ) → Begins (written_by (opened ∷ calls_until opened.sending reads)) (bytes_sent (flatten reads ++ rest))
output_prefix reads fit rest =
    let on = goes reads (singles rest) opened.sending in
    let until : List Left = opened ∷ calls_until opened.sending reads in
    let text : flatten (reads ++ singles rest) ≡ flatten reads ++ rest = flatten_append reads (singles rest) ∙ ap (λ (l : List ℕ). flatten reads ++ l) (flatten_singles rest) in
    record {
      more = written_by on.later;
      parts =
          sym (written_two until on.later)
          ∙ ap (λ (calls : List Left). written_by (opened ∷ calls)) (sym on.parts)
          ∙ (send_run (reads ++ singles rest) (fits_more reads rest opened.sending somewhere fit)).written
          ∙ ap bytes_sent text;
    }

-- a beginning's beginning
begins_front : (front whole : List ℕ) (k : ℕ) → Begins front whole → Begins (take k front) whole
begins_front front whole k b = record {
  more = drop k front ++ b.more;
  parts =
      sym (append_assoc (take k front) (drop k front) b.more)
      ∙ ap (λ (l : List ℕ). l ++ b.more) (take-append-drop k front)
      ∙ b.parts;
}

-- and so it is where a write fails after some of its bytes
pub failed_write : (reads : List (List ℕ)) → Fitting opened.sending reads → (rest : List ℕ) (k : ℕ)
    → Begins (take k (written_by (opened ∷ calls_until opened.sending reads))) (bytes_sent (flatten reads ++ rest))
failed_write reads fit rest k = begins_front _ _ k (output_prefix reads fit rest)

-- the last write too
pub failed_last_write : (reads : List (List ℕ)) → Fitting opened.sending reads → (k : ℕ) → Begins (take k (written_by (calls_over reads))) (bytes_sent (flatten reads))
failed_last_write reads fit k = begins_front _ _ k (record { more = []; parts = append-nil _ ∙ (send_run reads fit).written })
