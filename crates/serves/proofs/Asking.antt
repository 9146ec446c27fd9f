-- What the pass over the targets asks, and what follows where they are refused.
--     asked_is       the refusal is 10 where an id is too large, else 17 where one falls, else 0
--     nothing-done   where the targets are refused, the answer has that refusal, none is served, and the list is as it was
-- Assumes nothing.
use mathlib.Core.Path.{◌≡◌, refl, ap, sym, ◌∙◌}
use Prim.Native.Nat.{ℕ, zero, suc}
use mathlib.Core.Bool.{Bool, true, false, cond, ◌||◌ as or}
use mathlib.Core.List.{List, [], ◌∷◌}
use lib.Dec.{ltb, eqb, eqb-suc-zero}
use Rattle.thin.specs.Fold.{pass}
use Rattle.thin.proofs.Folded.{unopened}
use Rattle.serves.specs.declared.Target.{Target}
use Rattle.serves.specs.declared.Term.{Term}
use Rattle.serves.specs.declared.Asked.{Asked}
use Rattle.serves.specs.declared.Opened.{Opened}
use Rattle.serves.specs.Serve.{unasked, asks_one, asks_all, any_too_large, falling, none, opens, first, next, seeks, ends, answer}
use Rattle.serves.specs.Serve.{list}

-- one more target in front: large and down are its own two tests, r is the refusal so far, and clear says whether there is none
one :
    (large clear down larges downs : Bool) (r : ℕ) → eqb r 0 ≡ clear →
    cond larges 10
    (cond (eqb (cond large 10 (cond clear (cond down 17 0) r)) 0) (cond downs 17 0)
    (cond large 10 (cond clear (cond down 17 0) r))) ≡
    cond (or large larges) 10 (cond clear (cond (or down downs) 17 0) r)
one true clear down true downs r e = refl
one true clear down false downs r e = refl
one false true true larges downs r e = refl
one false true false larges downs r e = refl
one false false down larges downs r e = ap (λ (t : Bool). cond larges 10 (cond t (cond downs 17 0) r)) e

asked-from :
    (a : Asked) (ts : List Target) →
    (pass (λ a t. asks_one a t) a ts).refusal ≡
    cond (any_too_large ts) 10 (cond (eqb a.refusal 0) (cond (falling a.last ts) 17 0) a.refusal)
unfolding asks_one
asked-from a [] = none_left a.refusal
  where
    none_left : (r : ℕ) → r ≡ cond (eqb r 0) 0 r
    none_left zero = refl
    none_left (suc r) = sym (ap (λ (t : Bool). cond t 0 (suc r)) (eqb-suc-zero r))
asked-from a (t ∷ ts) =
    asked-from (asks_one a t) ts ∙
    one (ltb 2147483647 t.id) (eqb a.refusal 0) (ltb t.id a.last) (any_too_large ts) (falling t.id ts) a.refusal refl

pub asked_is : (ts : List Target) → (asks_all ts).refusal ≡ cond (any_too_large ts) 10 (cond (falling 0 ts) 17 0)
asked_is ts = asked-from unasked ts

pub nothing-done :
    (ts : List Target) (image : List ℕ) (term : Term) (j : ℕ) → (asks_all ts).refusal ≡ suc j →
    (answer (seeks ts image term) ≡ record { refusal = suc j; served = 0; unpacked = 0; entries = 0 }) ×
    (list (seeks ts image term) ≡ ts)
unfolding opens ends
nothing-done ts image term j e =
    let refused : opens (asks_all ts) image ≡ record { refusal = suc j; numbers = none } = simp (e, eqb-suc-zero j) in
    let still = unopened (next term) (first (asks_all ts) image term) ts j (ap (λ (r : Opened). r.refusal) refused) in
    (ap answer still ∙ ap (λ (r : Opened). ends r.refusal 0 r.numbers) refused, ap list still)
