-- A list of calls is the single calls that it comes to: they leave the same record, and bring the same offers. Assumes nothing.
use mathlib.Core.Path.{◌≡◌, refl, sym, ap, ◌∙◌}
use mathlib.Core.Bool.{Bool, true, false, cond}
use mathlib.Core.List.{List, [], ◌∷◌, ◌++◌, append-nil, append_assoc, map}
use Prim.Native.Nat.{ℕ, zero, suc, ◌+◌, ◌-◌}
use native.Mathlib.Omega.{arith}
use lib.Dec.{eqb}
use lib.IntN.{ℤ}
use lib.ListN.{take}
use lib.Ieee.{Float}
use Rattle.machine.specs.Runs.{run, answers, Each}
use Rattle.machine.proofs.Parts.{run_joined, answers_joined, each_joined}
use Rattle.shaping.specs.Rate.{Rate, rate_of}
use Rattle.protocol.specs.Refusals.{bare}
use Rattle.demodulator.specs.declared.SoftDemodulator.{SoftDemodulator}
use Rattle.demodulator.specs.declared.Offer.{Offer}
use Rattle.demodulator.specs.Fit.{unfit_number, record_fit_lem}
use Rattle.demodulator.specs.Calls.{Paper, refusal, nothing, Left}
use Rattle.demodulator.specs.Feed.{Stretch, fed_from, fed, fed_into}
use Rattle.demodulator.proofs.FeedSteps.{rest_from}
use Rattle.demodulator_laws.proofs.SampleComes.{silent, offering, stuck, comes, fed_silent, fed_offering, fed_stuck}
use Rattle.demodulator_laws.proofs.RefusedFeed.{at_least}
use Rattle.demodulator_run.specs.Rules.{Single, sample, Said}
use Rattle.demodulator_run.specs.Run.{left, left_at, Callable, single_receiver}
use Rattle.demodulator_run.specs.Stretch.{Sixteen}
use Rattle.demodulator_run.specs.Calls.{Call, one, stretch, record_next, told_by, receiver, Given, singles_of, singles_from}
use Rattle.demodulator_run.specs.CallerSees.{offer_in, offers_in}
use Rattle.demodulator_run.proofs.RateKept.{sample_rate}

-- the offers among the single calls' answers
unfoldable pub offers_said : List Said → List Offer
offers_said [] = []
offers_said (s ∷ later) = offer_in s.answer ++ offers_said later

offers_joined : (front back : List Said) → offers_said (front ++ back) ≡ offers_said front ++ offers_said back
unfolding offers_said
offers_joined [] back = refl
offers_joined (s ∷ front) back = rw (offers_joined front back) (sym (append_assoc (offer_in s.answer) (offers_said front) (offers_said back)))

-- ---- a stretch
abbrev samples_in_lem : List Float → List ℤ → List Single
samples_in_lem room xs = map (λ (x : ℤ). sample x room) xs

record Reaches (m : SoftDemodulator) (ss : List Single) (after : SoftDemodulator) (answer : Paper) : Type 0 where
  state : run single_receiver m ss ≡ after
  offers : offers_said (answers single_receiver m ss) ≡ offer_in answer

no_offer : (number : ℕ) (b : Bool) → [] ≡ offer_in (cond b (refusal (bare number)) nothing)
unfolding offer_in
no_offer number true = refl
no_offer number false = refl

reaches_none : (m : SoftDemodulator) (answer : Paper) → [] ≡ offer_in answer → Reaches m [] m answer
unfolding run answers offers_said
reaches_none m answer e = record { state = refl; offers = e }

module _ (m m' : SoftDemodulator) (x : ℤ) (room : List Float) where
  reaches_first : (l : Left) → left m (sample x room) ≡ l → offer_in l.answer ≡ [] → (ss : List Single) (after : SoftDemodulator) (answer : Paper) → Reaches l.demodulator ss after answer
      → Reaches m (sample x room ∷ ss) after answer
  unfolding run answers offers_said
  reaches_first l e none ss after answer r =
      record { state = ap (λ (k : Left). run single_receiver k.demodulator ss) e ∙ r.state; offers = ap (λ (k : Left). offer_in k.answer ++ offers_said (answers single_receiver k.demodulator ss)) e ∙ rw none r.offers }

  reaches_last : (l : Left) → left m (sample x room) ≡ l → Reaches m (sample x room ∷ []) l.demodulator l.answer
  unfolding run answers offers_said
  reaches_last l e =
      record { state = ap (λ (k : Left). k.demodulator) e; offers = ap (λ (k : Left). offer_in k.answer ++ []) e ∙ append-nil (offer_in l.answer) }

abbrev ReachesAs : SoftDemodulator → List Float → List ℤ → ℕ → Stretch SoftDemodulator → Type 0
ReachesAs m room xs n t = Reaches m (samples_in_lem room (take (t.fed - n) xs)) t.state t.answer

-- at the rate that the record says, which no sample changes
reaches : (R : Rate) (xs : List ℤ) (n : ℕ) (m : SoftDemodulator) (room : List Float) → rate_of m.rate ≡ R → ReachesAs m room xs n (rest_from R n m xs room)
unfolding fed_from offer_in left_at
reaches R [] n m room own = let none : n - n ≡ 0 = omega arith in rw none (reaches_none m nothing refl)
reaches R (x ∷ xs) n m room own =
    let at_own : left m (sample x room) ≡ left_at R m (sample x room) = ap (λ (Q : Rate). left_at Q m (sample x room)) own in
    elim (comes R m x room) [
      | silent m' e ↦
          let t = rest_from R (n + 1) m' xs room in
          let most = at_least R xs (n + 1) m' room in
          let more : t.fed - n ≡ suc (t.fed - (n + 1)) = omega arith in
          rw (fed_silent R m x xs room n m' e, more) (reaches_first m m' x room _ (at_own ∙ e) refl _ _ _
          (reaches R xs (n + 1) m' room (ap rate_of (sym (ap (λ (l : Left). l.demodulator.rate) e) ∙ sample_rate R m x room) ∙ own)))
      | offering o m' window e ↦
          let once : n + 1 - n ≡ 1 = omega arith in
          rw (fed_offering R m x xs room n o m' window e, once) (reaches_last m m' x room _ (at_own ∙ e))
      | stuck number e all ↦
          let none : n - n ≡ 0 = omega arith in
          rw (fed_stuck R m x xs room n number e, none) (reaches_none m _ (no_offer number (eqb n 0)))
    ]

-- ---- a call
unfit_offer : (b : Bool) (number : ℕ) → [] ≡ offer_in (cond b nothing (refusal (bare number)))
unfolding offer_in
unfit_offer true number = refl
unfit_offer false number = refl

reaches_call : (m : SoftDemodulator) (c : Call) → Reaches m (singles_of (rate_of m.rate) m c) (record_next (rate_of m.rate) m c) (told_by (rate_of m.rate) m c).answer
unfolding singles_of record_next told_by fed run answers offers_said
reaches_call m (one c) = record { state = refl; offers = append-nil (offer_in (left m c).answer) }
reaches_call m (stretch [] room) = reaches_none m _ (unfit_offer (record_fit_lem (rate_of m.rate).p m) (unfit_number m))
reaches_call m (stretch (x ∷ xs) room) =
    let t = rest_from (rate_of m.rate) 0 m (x ∷ xs) room in
    let all : t.fed ≡ t.fed - 0 = omega arith in
    rw all (reaches (rate_of m.rate) (x ∷ xs) 0 m room refl)

-- ---- all calls
pub singles_record : (cs : List Call) (m : SoftDemodulator) → run single_receiver m (singles_from m cs) ≡ run receiver m cs
unfolding singles_from run
singles_record [] m = refl
singles_record (c ∷ cs) m =
    run_joined single_receiver (singles_of (rate_of m.rate) m c) (singles_from (receiver.next m c) cs) m ∙ ap (λ (k : SoftDemodulator). run single_receiver k (singles_from (receiver.next m c) cs)) (reaches_call m c).state ∙ singles_record cs (receiver.next m c)

pub singles_offers : (cs : List Call) (m : SoftDemodulator) → offers_said (answers single_receiver m (singles_from m cs)) ≡ offers_in (answers receiver m cs)
unfolding singles_from answers offers_said offers_in
singles_offers [] m = refl
singles_offers (c ∷ cs) m =
    let r = reaches_call m c in
    ap offers_said (answers_joined single_receiver (singles_of (rate_of m.rate) m c) (singles_from (receiver.next m c) cs) m)
    ∙ offers_joined (answers single_receiver m (singles_of (rate_of m.rate) m c)) _
    ∙ rw (r.offers, r.state, singles_offers cs (receiver.next m c))

-- single calls are themselves
pub singles_one : (ss : List Single) (m : SoftDemodulator) → singles_from m (map one ss) ≡ ss
unfolding singles_from singles_of
singles_one [] m = refl
singles_one (s ∷ ss) m = ap (λ (l : List Single). s ∷ l) (singles_one ss (receiver.next m (one s)))

pub one_given : (ss : List Single) → Each Callable ss → Each Given (map one ss)
unfolding Each Given
one_given [] s = tt
one_given (c ∷ ss) s = (s.0, one_given ss s.1)

-- ---- what a caller can give
sampled_front : (k : ℕ) (xs : List ℤ) (room : List Float) → Sixteen xs → Each Callable (samples_in_lem room (take k xs))
unfolding Sixteen Each Callable
sampled_front zero xs room f = tt
sampled_front (suc k) [] room f = tt
sampled_front (suc k) (x ∷ xs) room f = (f.0, sampled_front k xs room f.1)

sampled_call : (m : SoftDemodulator) (c : Call) → Given c → Each Callable (singles_of (rate_of m.rate) m c)
unfolding Given singles_of Each
sampled_call m (one c) g = (g, tt)
sampled_call m (stretch xs room) g = sampled_front (fed_into (rate_of m.rate) m xs room).fed xs room g

pub singles_sampled : (cs : List Call) (m : SoftDemodulator) → Each Given cs → Each Callable (singles_from m cs)
unfolding Each singles_from
singles_sampled [] m g = tt
singles_sampled (c ∷ cs) m g = each_joined Callable (singles_of (rate_of m.rate) m c) (singles_from (receiver.next m c) cs) (sampled_call m c g.0) (singles_sampled cs (receiver.next m c) g.1)
