-- Each call's promise fixes its answer, the desk that it leaves and the room. That there is one on every input is the call's own proof. Assumes nothing.
use Rattle.std.specs.Prelude.{Option, Some, None, Result, Ok, Err}
use mathlib.Core.Path.{◌≡◌, refl, ap}
use mathlib.Core.Bool.{Bool, false}
use mathlib.Core.List.{List, [], ◌∷◌, map}
use Prim.Native.Nat.{ℕ}
use lib.IntN.{ℤ}
use lib.Ieee.{Float}
use Rattle.numbers.proofs.Answer.{same_answer}
use Rattle.protocol.specs.declared.Refusal.{Refusal}
use Rattle.protocol.proofs.Numbers.{numbered, numbered_back}
use Rattle.search.specs.declared.Reply.{Reply}
use Rattle.demodulator.specs.Calls.{Paper, refusal, nothing, frame, done, carrier, heard_paper, done_paper, carrier_paper}
use Rattle.demodulator.proofs.OnlyAnswer.{once, done_as, done_back, heard, heard_back}
use Rattle.desk.specs.declared.Desk.{Desk}
use Rattle.desk.specs.declared.Fed.{Fed}
use Rattle.desk.specs.declared.Line.{Line}
use Rattle.desk.specs.Desk.{DeskNewSays}
use Rattle.desk.specs.Calls.{DeskFeedSays, DeskReplySays, DeskOpenSays, DeskCloseSays, DeskCarrierSays}
use Rattle.desk.specs.Listing.{PaperLine, shut, busy, PaperList, refused_list, lines, line_paper, lines_paper, listed_paper, DeskListSays}

-- ---- the answer of which the paper writes this: a refusal, the carrier, or what else there is
read : {A : Type 0} → (Refusal → A) → (Bool → A) → A → Paper → A
read f g other (refusal n) = f (numbered n)
read f g other nothing = other
read f g other (frame o) = other
read f g other done = other
read f g other (carrier b) = g b

detected : Paper → Result Bool Refusal
detected = read Err Ok (Ok false)

detected_back : (r : Result Bool Refusal) → detected (carrier_paper r) ≡ r
unfolding detected read
detected_back (Err why) = ap Err (numbered_back why)
detected_back (Ok there) = refl

line : PaperLine → Option Line
line shut = None
line (busy count owed) = Some (record { count = count; owed = owed })

line_back : (l : Option Line) → line (line_paper l) ≡ l
unfolding line
line_back None = refl
line_back (Some l) = refl

lines_back : (ls : List (Option Line)) → map line (lines_paper ls) ≡ ls
lines_back [] = refl
lines_back (l ∷ ls) = let first = line_back l in let rest = lines_back ls in λ i. first i ∷ rest i

listing : PaperList → Result (List (Option Line)) Refusal
listing (refused_list n) = Err (numbered n)
listing (lines ls) = Ok (map line ls)

listing_back : (r : Result (List (Option Line)) Refusal) → listing (listed_paper r) ≡ r
unfolding listing
listing_back (Err why) = ap Err (numbered_back why)
listing_back (Ok ls) = ap Ok (lines_back ls)

-- ---- the calls
pub desk_new_only_answer : (r t : Desk) → DeskNewSays r → DeskNewSays t → r ≡ t
desk_new_only_answer r t p q = same_answer p q

pub desk_feed_only_answer : (d : Desk) (s : ℕ) (xs : List ℤ) (room : List Float) (r t : Fed) (next other : Desk) (after later : List Float)
    → DeskFeedSays d s xs room r next after → DeskFeedSays d s xs room t other later → (r ≡ t) × (next ≡ other) × (after ≡ later)
desk_feed_only_answer d s xs room r t next other after later p q =
    let answers = once heard_paper heard heard_back r.answer t.answer (same_answer p.answers q.answers) in
    let counts : r.fed ≡ t.fed = same_answer p.counts q.counts in
    (λ i. record { answer = answers i; fed = counts i }, same_answer p.leaves q.leaves, same_answer p.writes q.writes)

pub desk_reply_only_answer : (d : Desk) (s : ℕ) (reply : Reply) (r t : Result Unit Refusal) (next other : Desk)
    → DeskReplySays d s reply r next → DeskReplySays d s reply t other → (r ≡ t) × (next ≡ other)
desk_reply_only_answer d s reply r t next other p q = (once done_paper done_as done_back r t (same_answer p.answers q.answers), same_answer p.leaves q.leaves)

pub desk_open_only_answer : (d : Desk) (s rate : ℕ) (r t : Result Unit Refusal) (next other : Desk)
    → DeskOpenSays d s rate r next → DeskOpenSays d s rate t other → (r ≡ t) × (next ≡ other)
desk_open_only_answer d s rate r t next other p q = (once done_paper done_as done_back r t (same_answer p.answers q.answers), same_answer p.leaves q.leaves)

pub desk_close_only_answer : (d : Desk) (s : ℕ) (r t : Result Unit Refusal) (next other : Desk) → DeskCloseSays d s r next → DeskCloseSays d s t other → (r ≡ t) × (next ≡ other)
desk_close_only_answer d s r t next other p q = (once done_paper done_as done_back r t (same_answer p.answers q.answers), same_answer p.leaves q.leaves)

pub desk_carrier_only_answer : (d : Desk) (s : ℕ) (r t : Result Bool Refusal) → DeskCarrierSays d s r → DeskCarrierSays d s t → r ≡ t
desk_carrier_only_answer d s r t p q = once carrier_paper detected detected_back r t (same_answer p q)

pub desk_list_only_answer : (d : Desk) (r t : Result (List (Option Line)) Refusal) → DeskListSays d r → DeskListSays d t → r ≡ t
desk_list_only_answer d r t p q = once listed_paper listing listing_back r t (same_answer p q)
