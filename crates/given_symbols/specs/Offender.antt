-- Which of the symbols given is wrong, and how: document 01's 6, and document 02, requests c and b. Assumes nothing.
use Rattle.protocol.specs.declared.Refusal.{Refusal}
use Rattle.std.specs.Prelude.{◌≡◌, Bool, true, not, cond, ◌&&◌, List, ℕ, zero, suc, eqb, pos, length, get_or, Float, Result, Ok, Err}
use Rattle.std.specs.Float.{nan, inf, fin, binary32}
use Rattle.std.specs.Float.Ieee.{of_bits, of_int, lt, le, eq}
use Rattle.numbers.specs.Below.{all_below}
use Rattle.protocol.specs.declared.Kind.TheVariants.{Bert as BertKind}
use Rattle.protocol.specs.declared.SyncBurst.TheVariants.{Frame}
use Rattle.protocol.specs.Bursts.{signs_of}
use Rattle.protocol.specs.Refusals.{PaperRefusal, bare, placed, on_paper}
use Rattle.given_symbols.specs.declared.Traffic.{Traffic}
use Rattle.given_symbols.specs.declared.Traffic.TheVariants.{Ordinary, Bert}

-- a verdict on paper: a refusal's number, with a place beside it where it has one; or none
pub data PaperVerdict : Type 0 where
  refused : PaperRefusal → PaperVerdict
  fine : PaperVerdict

abbrev pub verdict_paper : Result Unit Refusal → PaperVerdict
verdict_paper (Err why) = refused (on_paper why)
verdict_paper (Ok _) = fine

-- from -1 to 1; document 01's 7 was "a symbol not a number or outside -1 to 1"
unfoldable pub symbol_fit : Float → Bool
symbol_fit symbol = le (of_bits binary32 0xbf80_0000) symbol && le symbol (of_bits binary32 0x3f80_0000)

-- each of the 192 is
abbrev pub all_fit : List Float → Bool
all_fit symbols = all_below 192 (λ (i : ℕ). symbol_fit (get_or symbols i nan))

-- What a symbol at a place makes of the frame: "not a number, infinite, above 1, below -1", "71 to 74 in that order"; "an infinity is always 72".
unfoldable pub judged : ℕ → Float → PaperVerdict
judged place nan = refused (placed 71 place)
judged place (inf negative) = refused (placed 72 place)
judged place (fin negative m e) =
    cond (lt (of_bits binary32 0x3f80_0000) (fin negative m e)) (refused (placed 73 place))
    (cond (lt (fin negative m e) (of_bits binary32 0xbf80_0000)) (refused (placed 74 place))
    fine)

-- "The earliest place decides."
abbrev pub earlier : PaperVerdict → PaperVerdict → PaperVerdict
earlier (refused why) next = refused why
earlier fine next = next

-- what the first n symbols make of it: "each with the place of the first offending symbol"
unfoldable pub judged_below : ℕ → List Float → PaperVerdict
judged_below zero symbols = fine
judged_below (suc n) symbols = earlier (judged_below n symbols) (judged n (get_or symbols n nan))

-- ---- "a test-pattern frame of 192 given symbols headed by DF55"
-- each of the first eight symbols is its sign in the burst, 1.0 or -1.0
unfoldable pub bert_headed : List Float → Bool
bert_headed symbols = all_below 8 (λ (i : ℕ). eq (get_or symbols i nan) (of_int binary32 (get_or (signs_of (Frame BertKind)) i (pos 0))))

-- a frame of ordinary traffic is of any kind
unfoldable pub headed : Traffic → List Float → Bool
headed Ordinary symbols = true
headed Bert symbols = bert_headed symbols

-- 11: "a BERT frame whose first eight symbols are not that burst's signs"
abbrev pub head_judged : Traffic → List Float → PaperVerdict
head_judged traffic symbols = cond (headed traffic symbols) fine (refused (bare 11))

-- 6: "symbols not exactly 192". 71 to 74 "replace 7, at its place in the order"; 11 is "checked after 7".
unfoldable pub judged_as : Traffic → List Float → PaperVerdict
judged_as traffic symbols = cond (not (eqb (length symbols) 192)) (refused (bare 6)) (earlier (judged_below 192 symbols) (head_judged traffic symbols))

-- ---- what the function promises
abbrev pub JudgeFrameSays : Traffic → List Float → Result Unit Refusal → Type 0
JudgeFrameSays traffic symbols r = verdict_paper r ≡ judged_as traffic symbols
