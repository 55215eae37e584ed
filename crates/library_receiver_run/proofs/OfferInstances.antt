-- A burst and a pause, one sample a call, each with a reply: the offer is read, and its place follows by the rule. At both rates.
-- Assumes nothing.
use mathlib.Core.Path.{◌≡◌, refl, sym, ap, subst, ◌∙◌}
use mathlib.Core.List.{List, [], ◌∷◌, ◌++◌, map, Memᴰ}
use lib.IntN.{ℤ}
use Rattle.numbers.specs.Sum.{nought}
use Rattle.machine.specs.Runs.{answers, Each}
use Rattle.shaping.specs.Rate.{at48, at24, rate_of}
use Rattle.shaping.proofs.RateFacts.{facts48, facts24}
use Rattle.protocol.specs.declared.Kind.TheVariants.{Stream}
use Rattle.search.specs.declared.Reply.TheVariants.{Accepted}
use Rattle.demodulator.specs.declared.SoftDemodulator.{SoftDemodulator}
use Rattle.demodulator.specs.declared.Offer.{Offer}
use Rattle.demodulator.specs.Calls.{demodulated}
use Rattle.demodulator.specs.Feed.{fed_into}
use Rattle.demodulator_run.specs.Rules.{reply}
use Rattle.demodulator_run.specs.Run.{left_at, fresh_at, Callable}
use Rattle.demodulator_run.specs.Stretch.{Sixteen}
use Rattle.demodulator_run.specs.Calls.{one, record_next, told_by, receiver, singles_from, Given}
use Rattle.demodulator_run.specs.CallerSees.{offer_in, offers_in}
use Rattle.demodulator_run.specs.OfferReports.{OfferPlace}
use Rattle.demodulator_run.proofs.Worked.{room}
use Rattle.desk_run.proofs.OneSample.{one_sample}
use Rattle.demodulator_examples.proofs.Fed.{fed}
use Rattle.demodulator_examples.proofs.Sketch.{samples, sixteen}
use Rattle.demodulator_examples.proofs.OneBurst.{one_burst}
use Rattle.demodulator_examples.proofs.OneBurst24.{samples as samples24, sixteen as sixteen24}
use Rattle.demodulator_examples.proofs.Seen.{plain_offered}
use Rattle.demodulator_examples.proofs.Seen24.{offer24, offered_24}
use Rattle.library_receiver.specs.Memory.{Memory, laid_out, lent_as, Export, feeds, replies}
use Rattle.library_receiver_run.specs.Runs.{memory, call_of, offers_read}
use Rattle.library_receiver_run.proofs.Offers.{exports_offers, exports_place_48, exports_place_24}
use Rattle.library_receiver_run.proofs.Instances.{chained, strange, made_48, made_24}

unfoldable one_by_one : List ℤ → List Export
one_by_one [] = []
one_by_one (x ∷ xs) = feeds (x ∷ []) (lent_as room (0 ∷ 0 ∷ 0 ∷ 0 ∷ 0 ∷ []) (nought ∷ [])) ∷ replies 1 ∷ one_by_one xs

one_by_one_given : (xs : List ℤ) → Sixteen xs → Each Given (map call_of (one_by_one xs))
unfolding one_by_one Each Given Callable Sixteen
one_by_one_given [] s = tt
one_by_one_given (x ∷ xs) s = ((s.0, tt), (tt, one_by_one_given xs s.1))

-- the offers are those of the samples' own calls
same_offers : (xs : List ℤ) (d : SoftDemodulator)
    → offers_in (answers receiver d (map call_of (one_by_one xs))) ≡ offers_in (answers receiver d (map one (fed xs)))
unfolding one_by_one fed answers offers_in told_by record_next left_at
same_offers [] d = refl
same_offers (x ∷ xs) d =
    let l = demodulated (rate_of d.rate) d x room in
    let t = fed_into (rate_of d.rate) d (x ∷ []) room in
    let k = one_sample (rate_of d.rate) d x room in
    let replied = receiver.says l.demodulator (one (reply Accepted)) in
    let rest : SoftDemodulator → List Offer = λ m. offers_in (answers receiver m (one (reply Accepted) ∷ map call_of (one_by_one xs))) in
    let here : offer_in t.answer ++ rest t.state ≡ offer_in l.answer ++ rest l.demodulator =
    λ i. offer_in (k.0 i) ++ rest (k.1 i) in
    here ∙ ap (λ (o : List Offer). offer_in l.answer ++ (offer_in replied.answer ++ o))
    (same_offers xs (receiver.next l.demodulator (one (reply Accepted))))

-- ---- at 48 kHz: taken at sample 71, offered at 1,911
abbrev burst : List Export
burst = one_by_one (samples one_burst)

abbrev begun : Memory
begun = laid_out (fresh_at at48)

read_48 : (o : Offer) × Memᴰ o (offers_read burst (answers memory begun burst))
    × (o.kind ≡ Stream) × (o.sample ≡ 1911) × (o.taken_at ≡ 71)
read_48 =
    let read = exports_offers at48 facts48 strange 0 begun made_48 burst _ _ (chained begun burst) in
    let same = read ∙ same_offers (samples one_burst) (fresh_at at48) in
    (_, subst (Memᴰ _) (sym same) plain_offered, refl, refl, refl)

place_48 : OfferPlace at48 (singles_from (fresh_at at48) (map call_of burst)) read_48.0 1840 1839
place_48 =
    let given = one_by_one_given (samples one_burst) (sixteen one_burst) in
    exports_place_48 strange 0 begun burst given _ _ (chained begun burst) made_48 read_48.0 read_48.1

-- ---- at 24 kHz: taken at sample 36
abbrev burst24 : List Export
burst24 = one_by_one samples24

abbrev begun24 : Memory
begun24 = laid_out (fresh_at at24)

read_24 : Memᴰ offer24 (offers_read burst24 (answers memory begun24 burst24))
read_24 =
    let read = exports_offers at24 facts24 strange 0 begun24 made_24 burst24 _ _ (chained begun24 burst24) in
    let same = read ∙ same_offers samples24 (fresh_at at24) in
    subst (Memᴰ offer24) (sym same) offered_24

place_24 : OfferPlace at24 (singles_from (fresh_at at24) (map call_of burst24)) offer24 920 919
place_24 =
    let given = one_by_one_given samples24 sixteen24 in
    exports_place_24 strange 0 begun24 burst24 given _ _ (chained begun24 burst24) made_24 offer24 read_24
