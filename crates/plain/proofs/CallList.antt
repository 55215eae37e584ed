-- The list as the offers among the answers to calls, and the calls that are made for it: over any receiver. Assumes nothing.
use mathlib.Core.Path.{◌≡◌, refl, sym, ap, ◌∙◌}
use mathlib.Core.List.{List, [], ◌∷◌, ◌++◌, flat_map}
use lib.IntN.{ℤ}
use lib.Ieee.{Float}
use Rattle.machine.specs.Runs.{Machine, answers, Each, Simulates}
use Rattle.search.specs.declared.Reply.{Reply}
use Rattle.demodulator.specs.Calls.{Paper, refusal, nothing, frame, done, carrier}
use Rattle.demodulator.specs.Singles.{Single, sample, reply, Said, blank}
use Rattle.demodulator_run.specs.Run.{Callable}
use Rattle.demodulator_run.specs.Stretch.{Sixteen}
use Rattle.plain.specs.List.{Entry, offer_then, calls_then, list_from, calls_from, entry_of, entries_in}

-- ---- the list is the offers among the answers to the calls, where a reply brings no offer
module _ {S : Type 0} (m : Machine S Single Said) (silent : (s : S) (r : Reply) → entry_of (m.says s (reply r)) ≡ []) where
  by_answer : (a : Paper) (room : List Float) (goes on : List Entry) (cs ds : List Single) (s : S)
      → goes ≡ entries_in (answers m s cs) → on ≡ entries_in (answers m s ds)
      → offer_then a room goes on ≡ offer_then a room [] [] ++ entries_in (answers m s (calls_then a cs ds))
  unfolding offer_then calls_then
  by_answer (frame o) room goes on cs ds s g h = ap (λ (es : List Entry). record { due = o; symbols = room } ∷ es) h
  by_answer (refusal number) room goes on cs ds s g h = g
  by_answer nothing room goes on cs ds s g h = g
  by_answer done room goes on cs ds s g h = g
  by_answer (carrier there) room goes on cs ds s g h = g

  pub list_answers : (xs : List ℤ) (rs : List Reply) (s : S) → list_from m s xs rs ≡ entries_in (answers m s (calls_from m s xs rs))
  unfolding list_from calls_from answers flat_map
  list_answers [] rs s = refl
  list_answers (x ∷ xs) [] s =
      let said = m.says s (sample x blank) in
      by_answer said.answer said.room _ _ _ [] (m.next s (sample x blank)) (list_answers xs [] _) refl
  list_answers (x ∷ xs) (y ∷ rs) s =
      let said = m.says s (sample x blank) in
      let t = m.next s (sample x blank) in
      let u = m.next t (reply y) in
      by_answer said.answer said.room _ _ _ (reply y ∷ calls_from m u xs rs) t (list_answers xs (y ∷ rs) t)
      (list_answers xs rs u ∙ ap (λ (es : List Entry). es ++ entries_in (answers m u (calls_from m u xs rs))) (sym (silent t y)))

-- ---- the calls are such that a caller can make
module _ {S : Type 0} (m : Machine S Single Said) where
  given_by : (a : Paper) (cs ds : List Single) → Each Callable cs → Each Callable ds → Each Callable (calls_then a cs ds)
  unfolding calls_then
  given_by (frame o) cs ds g h = h
  given_by (refusal number) cs ds g h = g
  given_by nothing cs ds g h = g
  given_by done cs ds g h = g
  given_by (carrier there) cs ds g h = g

  pub calls_given : (xs : List ℤ) → Sixteen xs → (rs : List Reply) (s : S) → Each Callable (calls_from m s xs rs)
  unfolding calls_from Sixteen Callable Each
  calls_given [] f rs s = tt
  calls_given (x ∷ xs) f [] s = (f.0, given_by (m.says s (sample x blank)).answer _ [] (calls_given xs f.1 [] _) tt)
  calls_given (x ∷ xs) f (y ∷ rs) s =
      (f.0, given_by (m.says s (sample x blank)).answer _ _ (calls_given xs f.1 (y ∷ rs) _) (tt, calls_given xs f.1 rs _))

-- ---- a receiver that another simulates is given the same calls
module _ {S T : Type 0} {m : Machine S Single Said} {n : Machine T Single Said} {R : S → T → Type 0}
    (sim : Simulates S T Single Said m n R Callable) where
  pub same_calls : (xs : List ℤ) → Sixteen xs → (rs : List Reply) (s : S) (t : T) → R s t → calls_from m s xs rs ≡ calls_from n t xs rs
  unfolding calls_from Sixteen Callable
  same_calls [] f rs s t r = refl
  same_calls (x ∷ xs) f [] s t r =
      let e = sim.alike s t r (sample x blank) f.0 in
      let go = same_calls xs f.1 [] _ _ (sim.related s t r (sample x blank) f.0) in
      λ i. sample x blank ∷ calls_then (e i).answer (go i) []
  same_calls (x ∷ xs) f (y ∷ rs) s t r =
      let e = sim.alike s t r (sample x blank) f.0 in
      let r' = sim.related s t r (sample x blank) f.0 in
      let go = same_calls xs f.1 (y ∷ rs) _ _ r' in
      let on = same_calls xs f.1 rs _ _ (sim.related _ _ r' (reply y) tt) in
      λ i. sample x blank ∷ calls_then (e i).answer (go i) (reply y ∷ on i)
