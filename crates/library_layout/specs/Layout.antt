-- What the 14 numbers and the 3 levels of a receiver mean, and those of a control. Assumes nothing.
use Rattle.search.specs.declared.Waiting.{Waiting}
use Rattle.std.specs.Prelude.{ℕ, ◌%◌, Bool, cond, ◌&&◌, List, [], ◌∷◌, leb, eqb, get_or, Float, Option, Some, None}
use Rattle.std.specs.Float.{nan, binary32}
use Rattle.std.specs.Float.Ieee.{of_bits}
use Rattle.shaping.specs.Rate.{rate_fit}
use Rattle.protocol.specs.declared.Kind.{Kind}
use Rattle.protocol.specs.declared.Kind.TheVariants.{Lsf, Bert, Stream, Packet}
use Rattle.search.specs.declared.Candidate.{Candidate}
use Rattle.search.specs.declared.Candidate.TheVariants.{Nothing, Held}
use Rattle.search.specs.declared.Control.{Control}
use Rattle.library_codes.specs.Codes.{kind_number, flag_number}
use Rattle.library_layout.specs.declared.notation.CandidateNumbers.{CandidateNumbers}
use Rattle.library_layout.specs.declared.notation.WaitNumbers.{WaitNumbers}
use Rattle.library_layout.specs.declared.notation.TimerNumbers.{TimerNumbers}

-- ---- what they mean
-- the kinds' numbers are 1 to 4
unfoldable pub kind_at : ℕ → Kind
kind_at n = cond (eqb n 1) Lsf (cond (eqb n 2) Bert (cond (eqb n 3) Stream Packet))

-- 4 kind, 0 for none; 5 age; 6 the sample at which it was taken; the levels are its diff, gain and shift
unfoldable pub candidate_in : List ℕ → List Float → Candidate
candidate_in n l =
    cond (eqb (get_or n 4 0) 0) Nothing
    (Held (kind_at (get_or n 4 0)) (get_or n 5 0 % 256) (get_or l 0 nan) (get_or l 1 nan) (get_or l 2 nan) (get_or n 6 0))

-- 7 held; 8 how many samples are left; 9 the age at which it was set; 10 the mark
unfoldable pub wait_in : List ℕ → Option Waiting
wait_in n =
    cond (eqb (get_or n 7 0) 0) None (Some (record { left = get_or n 8 0 % 65536; age = get_or n 9 0 % 256; replaced = eqb (get_or n 10 0) 1 }))

-- 11 held; 12 its end
unfoldable pub timer_in : List ℕ → Option ℕ
timer_in n = cond (eqb (get_or n 11 0) 0) None (Some (get_or n 12 0))

-- 3 the count; 13 a reply is owed
abbrev pub control_in : List ℕ → List Float → Control
control_in n l = record { candidate = candidate_in n l; wait = wait_in n; dcd = timer_in n; owed = eqb (get_or n 13 0) 1; sample = get_or n 3 0 }

-- A kind is 0 to 4, an age has 8 bits, what is left of a wait 16, a flag is 0 or 1: other numbers are no receiver's.
abbrev pub is_receiver : List ℕ → Bool
is_receiver n =
    leb (get_or n 4 0) 4
    && leb (get_or n 5 0) 255
    && leb (get_or n 7 0) 1
    && leb (get_or n 8 0) 65535
    && leb (get_or n 9 0) 255
    && leb (get_or n 10 0) 1
    && leb (get_or n 11 0) 1
    && leb (get_or n 13 0) 1

-- 115 "any rate but the two, checked first"; 101 for numbers that are no receiver's; 0 for a receiver's
unfoldable pub record_code_lem : List ℕ → ℕ
record_code_lem n = cond (rate_fit (get_or n 0 0)) (cond (is_receiver n) 0 101) 115

-- ---- the numbers of a control: what is not held is 0
abbrev pub no_level : Float
no_level = of_bits binary32 0

abbrev pub no_levels : List Float
no_levels = no_level ∷ no_level ∷ no_level ∷ []

abbrev pub candidate_numbers : Candidate → CandidateNumbers
candidate_numbers Nothing = record { kind = 0; age = 0; taken_at = 0; levels = no_levels }
candidate_numbers (Held kind age diff gain shift since) =
    record { kind = kind_number kind; age = age; taken_at = since; levels = diff ∷ gain ∷ shift ∷ [] }

abbrev pub wait_numbers : Option Waiting → WaitNumbers
wait_numbers None = record { held = 0; left = 0; age = 0; mark = 0 }
wait_numbers (Some w) = record { held = 1; left = w.left; age = w.age; mark = flag_number w.replaced }

abbrev pub timer_numbers : Option ℕ → TimerNumbers
timer_numbers None = record { held = 0; end = 0 }
timer_numbers (Some end) = record { held = 1; end = end }

-- 0 the rate; 1 the window's cursor; 2 the ring's cursor
abbrev pub numbers_of_lem : ℕ → ℕ → ℕ → Control → List ℕ
numbers_of_lem rate windowCursor ringCursor c =
    let h = candidate_numbers c.candidate in
    let d = wait_numbers c.wait in
    let t = timer_numbers c.dcd in
    rate ∷ windowCursor ∷ ringCursor ∷ c.sample
    ∷ h.kind ∷ h.age ∷ h.taken_at
    ∷ d.held ∷ d.left ∷ d.age ∷ d.mark
    ∷ t.held ∷ t.end
    ∷ flag_number c.owed ∷ []

abbrev pub levels_of : Control → List Float
levels_of c = (candidate_numbers c.candidate).levels
