-- What is known of an answer that is no refusal: each question on the way was answered yes, each step before gave a value.
-- Assumes nothing.
use Rattle.std.specs.Prelude.{Ok, Err}
use mathlib.Core.Bool.{Bool, true, false}
use mathlib.Core.Path.{◌≡◌, refl}
use Prim.Native.Nat.{ℕ}
use native.Mathlib.Omega.{arith}
use Rattle.format.specs.declared.refusal.Refusal.{Refusal}
use Rattle.format.specs.Basics.{Outcome, and_then, ask}

pub refused≢ok : {A : Type 0} {r : Refusal} {a : A} → ◌≡◌ {A = Outcome A} (Err r) (Ok a) → ⊥
refused≢ok e = let z : ◌≡◌ {A = ℕ} 0 1 = cc in omega arith

pub ok_same : {A : Type 0} {a b : A} → ◌≡◌ {A = Outcome A} (Ok a) (Ok b) → a ≡ b
ok_same e = cc

pub ask-ok : {A : Type 0} (t : Bool) (r : Refusal) (go : Bool → Outcome A) {a : A} → ask t r go ≡ Ok a
    → (t ≡ true) × (go true ≡ Ok a)
unfolding ask
ask-ok true r go e = (refl, e)
ask-ok false r go e = absurd (refused≢ok e)

pub and_then-ok : {A B : Type 0} (o : Outcome A) (f : A → Outcome B) {b : B} → and_then o f ≡ Ok b
    → (a : A) × (o ≡ Ok a) × (f a ≡ Ok b)
unfolding and_then
and_then-ok (Ok a) f e = (a, refl, e)
and_then-ok (Err r) f e = absurd (refused≢ok e)

-- .. and what goes on from there

pub ask-yes : {A : Type 0} (t : Bool) (r : Refusal) (go : Bool → Outcome A) → t ≡ true → ask t r go ≡ go true
unfolding ask
ask-yes t r go e = rw e

pub and_then-goes : {A B : Type 0} (o : Outcome A) (f : A → Outcome B) {a : A} → o ≡ Ok a → and_then o f ≡ f a
unfolding and_then
and_then-goes o f e = rw e
