-- A machine and its runs: each call of a list is given the state that the one before it left. Assumes nothing.
use Rattle.std.specs.Prelude.{◌≡◌, List, [], ◌∷◌}

-- what a call leaves, and what it is answered with
pub record Machine (S C A : Type 0) : Type 0 where
  pub next : S → C → S
  pub says : S → C → A

-- the state after the calls, and the answers to them, in their order
unfoldable pub run : {S C A : Type 0} → Machine S C A → S → List C → S
run m s [] = s
run m s (c ∷ cs) = run m (m.next s c) cs

unfoldable pub answers : {S C A : Type 0} → Machine S C A → S → List C → List A
answers m s [] = []
answers m s (c ∷ cs) = m.says s c ∷ answers m (m.next s c) cs

-- what holds of each call of a list
unfoldable pub Each : {C : Type 0} → (C → Type 0) → List C → Type 0
Each P [] = Unit {0}
Each P (c ∷ cs) = P c × Each P cs

-- where the states are related, a call is answered alike and leaves related states
pub record Simulates (S T C A : Type 0) (m : Machine S C A) (n : Machine T C A) (R : S → T → Type 0) (Given : C → Type 0) : Type 0 where
  pub alike : (s : S) (t : T) → R s t → (c : C) → Given c → m.says s c ≡ n.says t c
  pub related : (s : S) (t : T) → R s t → (c : C) → Given c → R (m.next s c) (n.next t c)
