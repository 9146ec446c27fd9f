-- Walks over a list, as the contracts of loops over a lent slice name them.
--     pass f z xs      a pass that changes no element: f makes a new state of the state and an element. z is the first state, and
--                      the last one is what the pass gives
--     Turn X Z         what a turn gives: 0 where the element is served, else the number of its refusal; the element afterwards;
--                      and the state that is left
--     Ran X Z          what a walk of turns gives: the refusal at which it stopped, or 0; how many elements were served; the list;
--                      and the state that is left
--     serves f xs z    the walk from the state z up to the first refusal. The elements before that are as their turns left them,
--                      that one and the rest are as they were, and the state is that of the last turn that served
--     state_behind f xs z      the state that turns over all of xs lead to, each from the state that the one before left
--     begins f b xs    the walk behind an opening, which gives the number b .0 and the state b .1: no turn is made where the number
--                      isn't 0
-- Laws of these stand in `proofs/Folded.antt`.
-- Assumes nothing.
use Rattle.std.specs.Prelude.{ℕ, zero, suc, List, [], ◌∷◌}

abbrev pub pass : {X Z : Type 0} → (Z → X → Z) → Z → List X → Z
pass f z [] = z
pass f z (x ∷ xs) = pass f (f z x) xs

abbrev pub Turn : (X Z : Type 0) → Type 0
Turn X Z = ℕ × (X × Z)

abbrev pub Ran : (X Z : Type 0) → Type 0
Ran X Z = ℕ × (ℕ × (List X × Z))

-- the first where the number is 0, and the second where it is that of a refusal
abbrev pub unless_refused : {A : Type 0} → ℕ → A → A → A
unless_refused zero a b = a
unless_refused (suc n) a b = b

-- a walk behind an element that was served and is y now; .. behind all of ys
abbrev pub after : {X Z : Type 0} → X → Ran X Z → Ran X Z
after y w = (w.0, (suc w.1.0, (y ∷ w.1.1.0, w.1.1.1)))

abbrev pub along : {X Z : Type 0} → List X → Ran X Z → Ran X Z
along [] w = w
along (y ∷ ys) w = after y (along ys w)

abbrev pub serves : {X Z : Type 0} → (X → Z → Turn X Z) → List X → Z → Ran X Z
serves f [] z = (0, (0, ([], z)))
serves f (x ∷ xs) z = unless_refused (f x z).0 (after (f x z).1.0 (serves f xs (f x z).1.1)) ((f x z).0, (0, (x ∷ xs, z)))

abbrev pub state_behind : {X Z : Type 0} → (X → Z → Turn X Z) → List X → Z → Z
state_behind f [] z = z
state_behind f (x ∷ xs) z = state_behind f xs (f x z).1.1

abbrev pub begins : {X Z : Type 0} → (X → Z → Turn X Z) → ℕ × Z → List X → Ran X Z
begins f b xs = unless_refused b.0 (serves f xs b.1) (b.0, (0, (xs, b.1)))
