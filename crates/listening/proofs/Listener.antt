-- The laws of listening: over two lists of samples, of the calls that it comes to, and of two receivers that simulate each other.
-- Assumes nothing.
use mathlib.Core.Path.{◌≡◌, refl, ap, subst, ◌∙◌}
use mathlib.Core.List.{List, [], ◌∷◌, ◌++◌, append-nil, map, flat_map}
use lib.IntN.{ℤ}
use Rattle.machine.specs.Runs.{Machine, run, answers, Each, Simulates}
use Rattle.machine.proofs.Parts.{run_joined, answers_joined, given_joined}
use Rattle.machine.proofs.Simulation.{runs_related, answers_alike}
use Rattle.search.specs.declared.Reply.{Reply}
use Rattle.demodulator.specs.Singles.{Single, sample, reply, blank, Said}
use Rattle.listening.specs.Listener.{Listed, Rule, listed_in, reply_to, calls_at, listener, offers, calls}

module _ {S : Type 0} (m : Machine S Single Said) (rule : Rule) where
  -- ---- two lists of samples: the second goes on from where the first left the receiver
  pub offers_joined : (s : S) (xs ys : List ℤ) → offers m rule s (xs ++ ys) ≡ offers m rule s xs ++ offers m rule (run (listener m rule) s xs) ys
  offers_joined s xs ys = ap (flat_map (listed_in rule)) (answers_joined (listener m rule) xs ys s) ∙ given_joined (listed_in rule) (answers (listener m rule) s xs) _

  -- ---- the calls leave what listening leaves
  pub calls_run : (xs : List ℤ) (s : S) → run m s (calls m rule s xs) ≡ run (listener m rule) s xs
  unfolding calls run
  calls_run [] s = refl
  calls_run (x ∷ xs) s = let after = run m s (calls_at m rule s x) in run_joined m (calls_at m rule s x) (calls m rule after xs) s ∙ calls_run xs after

  -- and where no reply is answered with an offer, the offers are those of the run over them, in its order
  module _ (none : (s : S) (r : Reply) → listed_in rule (m.says s (reply r)) ≡ []) where
    replies_bring_none : (os : List Listed) (s : S) → flat_map (listed_in rule) (answers m s (map reply_to os)) ≡ []
    unfolding answers flat_map
    replies_bring_none [] s = refl
    replies_bring_none (o ∷ os) s = rw (none s o.reply) (replies_bring_none os (m.next s (reply_to o)))

    pub calls_offers : (xs : List ℤ) (s : S) → flat_map (listed_in rule) (answers m s (calls m rule s xs)) ≡ offers m rule s xs
    unfolding calls answers flat_map
    calls_offers [] s = refl
    calls_offers (x ∷ xs) s =
        let here : List Listed = listed_in rule (m.says s (sample x blank)) in
        let after = run m s (calls_at m rule s x) in
        let first : flat_map (listed_in rule) (answers m s (calls_at m rule s x)) ≡ here = ap (λ (l : List Listed). here ++ l) (replies_bring_none here (m.next s (sample x blank))) ∙ append-nil here in
        ap (flat_map (listed_in rule)) (answers_joined m (calls_at m rule s x) (calls m rule after xs) s)
        ∙ given_joined (listed_in rule) (answers m s (calls_at m rule s x)) (answers m after (calls m rule after xs))
        ∙ (λ i. first i ++ calls_offers xs after i)

-- ---- two receivers, of which one simulates the other: a reply can always be given
module _ {S T : Type 0} {m : Machine S Single Said} {n : Machine T Single Said} {R : S → T → Type 0} {Given : Single → Type 0} (sim : Simulates S T Single Said m n R Given) (free : (r : Reply) → Given (reply r)) (rule : Rule) where
  free_replies : (os : List Listed) → Each Given (map reply_to os)
  unfolding Each
  free_replies [] = tt
  free_replies (o ∷ os) = (free o.reply, free_replies os)

  related_after : (s : S) (t : T) → R s t → (x : ℤ) → Given (sample x blank) → R (run m s (calls_at m rule s x)) (run n t (calls_at n rule t x))
  unfolding Each
  related_after s t r x g =
      let os : Said → List Listed = listed_in rule in
      subst (λ (a : Said). R (run m s (calls_at m rule s x)) (run n t (sample x blank ∷ map reply_to (os a)))) (sim.alike s t r (sample x blank) g)
      (runs_related sim (calls_at m rule s x) (g, free_replies (os (m.says s (sample x blank)))) s t r)

  pub listening_alike : Simulates S T ℤ Said (listener m rule) (listener n rule) R (λ (x : ℤ). Given (sample x blank))
  listening_alike = record { alike = λ s t r x g. sim.alike s t r (sample x blank) g; related = related_after }

  pub offers_alike : (xs : List ℤ) → Each (λ (x : ℤ). Given (sample x blank)) xs → (s : S) (t : T) → R s t → offers m rule s xs ≡ offers n rule t xs
  offers_alike xs g s t r = ap (flat_map (listed_in rule)) (answers_alike listening_alike xs g s t r)
