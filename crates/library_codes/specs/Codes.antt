-- The numbers by which the library tells a refusal, a kind and a flag. Assumes nothing.
use Rattle.std.specs.Prelude.{◌≡◌, Bool, true, false, cond, ℕ, ◌+◌, ◌*◌, ltb}
use Rattle.protocol.specs.declared.Kind.{Kind}
use Rattle.protocol.specs.declared.Kind.TheVariants.{Lsf, Bert, Stream, Packet}
use Rattle.protocol.specs.declared.Refusal.{Refusal}
use Rattle.protocol.specs.declared.Place.{Place}
use Rattle.protocol.specs.declared.Place.TheVariants.{Nothing, Symbol, Line}
use Rattle.protocol.specs.Refusals.{PaperRefusal, number_of, place_of, on_paper}

-- "each with the place of the first offending symbol": a place takes 16 bits of the code, so one above 65,535, which no call tells, is told
-- as 65,535. A line's number is not in the code.
abbrev pub place_share : Place → ℕ
place_share Nothing = 0
place_share (Symbol place) = 65536 * cond (ltb 65535 place) 65535 place
place_share (Line line) = 0

-- 100 and the refusal's number, above every answer's code; a wrong symbol's place in the upper half
abbrev pub refusal_code : PaperRefusal → ℕ
refusal_code why = 100 + number_of why + place_share (place_of why)

-- the kinds in the order in which the search tries them, from 1; 0 is left for none
abbrev pub kind_number : Kind → ℕ
kind_number Lsf = 1
kind_number Bert = 2
kind_number Stream = 3
kind_number Packet = 4

abbrev pub flag_number : Bool → ℕ
flag_number false = 0
flag_number true = 1

-- ---- what the functions promise
abbrev pub RefusalCodeSays : Refusal → ℕ → Type 0
RefusalCodeSays why r = r ≡ refusal_code (on_paper why)

abbrev pub KindCodeSays : Kind → ℕ → Type 0
KindCodeSays kind r = r ≡ kind_number kind

abbrev pub FlagOfSays : Bool → ℕ → Type 0
FlagOfSays b r = r ≡ flag_number b
