-- What a caller sees at each of the two rates, over every list of calls from a fresh record: one statement over the rate, opened twice. Assumes nothing.
use mathlib.Core.Path.{◌≡◌}
use mathlib.Core.List.{List, Memᴰ}
use Rattle.machine.specs.Runs.{run, answers, Each}
use Rattle.shaping.specs.Rate.{Rate, at48, at24}
use Rattle.shaping.proofs.RateFacts.{facts48, facts24}
use Rattle.protocol.specs.Refusals.{bare}
use Rattle.demodulator.specs.declared.Offer.{Offer}
use Rattle.demodulator.specs.Calls.{refusal}
use Rattle.demodulator_run.specs.Rules.{Single, start}
use Rattle.demodulator_run.specs.Run.{fresh_at}
use Rattle.demodulator_run.specs.Calls.{Call, Told, rules, receiver, Given, singles_from}
use Rattle.demodulator_run.specs.Represents.{Represents}
use Rattle.demodulator_run.specs.CallerSees.{offers_in, DemandThree}
use Rattle.demodulator_run.specs.OfferReports.{OfferPlace, OfferAge, OfferTaken}
use Rattle.demodulator_run.proofs.ReceiverRun.{receiver_run}
use Rattle.demodulator_run.proofs.NeverUnfit.{never_unfit}
use Rattle.demodulator_run.proofs.CallerSees.{demand_three, demand_three_sharp}
use Rattle.demodulator_run.proofs.OfferReports.{offer_place, offer_age, offer_age_sharp, offer_taken}

module _ (cs : List Call) (g : Each Given cs) where
  -- ---- demand 2
  pub receiver_run_48 : Represents at48 (run receiver (fresh_at at48) cs) (run (rules at48) start cs) × (answers receiver (fresh_at at48) cs ≡ answers (rules at48) start cs)
  receiver_run_48 = receiver_run at48 facts48 cs g

  pub receiver_run_24 : Represents at24 (run receiver (fresh_at at24) cs) (run (rules at24) start cs) × (answers receiver (fresh_at at24) cs ≡ answers (rules at24) start cs)
  receiver_run_24 = receiver_run at24 facts24 cs g

  -- ---- neither 1 nor 15
  pub never_unfit_48 : (a : Told) → Memᴰ a (answers receiver (fresh_at at48) cs) → (a.answer ≡ refusal (bare 1) → ⊥) × (a.answer ≡ refusal (bare 15) → ⊥)
  never_unfit_48 = never_unfit at48 facts48 cs g

  pub never_unfit_24 : (a : Told) → Memᴰ a (answers receiver (fresh_at at24) cs) → (a.answer ≡ refusal (bare 1) → ⊥) × (a.answer ≡ refusal (bare 15) → ⊥)
  never_unfit_24 = never_unfit at24 facts24 cs g

  -- ---- demand 3: "n+1,839 to n+1,879, and an age never passes 11"; document 02 k): "n+919 to n+939 with age at most 6"
  pub demand_three_48 : DemandThree at48 cs 1839 1879 11
  demand_three_48 = demand_three at48 facts48 cs g

  pub demand_three_24 : DemandThree at24 cs 919 939 6
  demand_three_24 = demand_three at24 facts24 cs g

  -- sharper than asked
  pub demand_three_sharp_48 : DemandThree at48 cs 1839 1849 10
  demand_three_sharp_48 = demand_three_sharp at48 facts48 cs g

  pub demand_three_sharp_24 : DemandThree at24 cs 919 924 5
  demand_three_sharp_24 = demand_three_sharp at24 facts24 cs g

-- ---- what an offer among the answers reports
abbrev Among : Rate → List Call → Offer → Type 0
Among R cs o = Memᴰ o (offers_in (answers receiver (fresh_at R) cs))

abbrev ss : Rate → List Call → List Single
ss R cs = singles_from (fresh_at R) cs

module _ (cs : List Call) (g : Each Given cs) (o : Offer) where
  -- "1,840 later, or 1,839 in the named corner"; document 02 k): "due places 920 and 919"
  pub offer_place_48 : Among at48 cs o → OfferPlace at48 (ss at48 cs) o 1840 1839
  offer_place_48 = offer_place at48 facts48 cs g o

  pub offer_place_24 : Among at24 cs o → OfferPlace at24 (ss at24 cs) o 920 919
  offer_place_24 = offer_place at24 facts24 cs g o

  pub offer_age_48 : Among at48 cs o → OfferAge at48 (ss at48 cs) o 11
  offer_age_48 = offer_age at48 facts48 cs g o

  pub offer_age_24 : Among at24 cs o → OfferAge at24 (ss at24 cs) o 6
  offer_age_24 = offer_age at24 facts24 cs g o

  pub offer_age_sharp_48 : Among at48 cs o → OfferAge at48 (ss at48 cs) o 10
  offer_age_sharp_48 = offer_age_sharp at48 facts48 cs g o

  pub offer_age_sharp_24 : Among at24 cs o → OfferAge at24 (ss at24 cs) o 5
  offer_age_sharp_24 = offer_age_sharp at24 facts24 cs g o

  pub offer_taken_48 : Among at48 cs o → OfferTaken at48 (ss at48 cs) o
  offer_taken_48 = offer_taken at48 facts48 cs g o

  pub offer_taken_24 : Among at24 cs o → OfferTaken at24 (ss at24 cs) o
  offer_taken_24 = offer_taken at24 facts24 cs g o
