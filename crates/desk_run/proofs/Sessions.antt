-- Whatever the functions do in a session, from whatever desk, is the machine's run: so every theorem over lists of calls is about what the functions do. Assumes nothing.
use mathlib.Core.Path.{◌≡◌, ap, ◌∙◌}
use mathlib.Core.List.{List, [], ◌∷◌}
use Rattle.machine.specs.Runs.{run, answers}
use Rattle.demodulator_run.specs.Rules.{sample, reply, query}
use Rattle.demodulator_run.specs.Calls.{one, stretch}
use Rattle.desk.specs.declared.Desk.{Desk}
use Rattle.desk_run.specs.Seat.{opening, giving, closing}
use Rattle.desk_run.specs.Desk.{DeskCall, at, listing, DeskTold, desk_says, desk_next, desk}
use Rattle.desk_run.specs.Session.{Promised, Session}
use Rattle.desk_run.proofs.Ties.{feed_tied, reply_tied, carrier_tied, open_tied, close_tied, list_tied}

promised_is : (d : Desk) (c : DeskCall) (a : DeskTold) (next : Desk) → Promised d c a next → (a ≡ desk_says d c) × (next ≡ desk_next d c)
unfolding Promised
promised_is d (at s (opening rate)) a next p = let k = open_tied d s rate p.0 next p.1 in (p.2 ∙ k.0, k.1)
promised_is d (at s (giving (stretch xs room))) a next p = let k = feed_tied d s xs room p.0 next p.1 p.2 in (p.3 ∙ k.0, k.1)
promised_is d (at s (giving (one (sample x room)))) a next p = absurd p
promised_is d (at s (giving (one (reply rp)))) a next p = let k = reply_tied d s rp p.0 next p.1 in (p.2 ∙ k.0, k.1)
promised_is d (at s (giving (one query))) a next p = let k = carrier_tied d s p.0 p.1 in (p.3 ∙ k.0, p.2 ∙ k.1)
promised_is d (at s closing) a next p = let k = close_tied d s p.0 next p.1 in (p.2 ∙ k.0, k.1)
promised_is d listing a next p = let k = list_tied d p.0 p.1 in (p.3 ∙ k.0, p.2 ∙ k.1)

pub session_is : (cs : List DeskCall) (d : Desk) (ts : List DeskTold) (end : Desk) → Session d cs ts end → (ts ≡ answers desk d cs) × (end ≡ run desk d cs)
unfolding Session run answers
session_is [] d ts end p = p
session_is (c ∷ cs) d ts end p =
    let one = promised_is d c p.0 p.1 p.3 in
    let rest = session_is cs p.1 p.2 end p.4 in (
      p.5 ∙ ap (λ (a : DeskTold). a ∷ p.2) one.0 ∙ ap (λ (l : List DeskTold). desk_says d c ∷ l) rest.0 ∙ ap (λ (x : Desk). desk_says d c ∷ answers desk x cs) one.1,
      rest.1 ∙ ap (λ (x : Desk). run desk x cs) one.1,
    )
