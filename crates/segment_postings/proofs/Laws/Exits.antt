-- The exit of a `?`: what is returned is the refusal that the call gave; and what refuses with it. Beside it the call
-- that isn't refused.
-- Assumes nothing.
use Rattle.std.specs.Prelude.{◌≡◌, Ok, Err}
use Rattle.std.specs.Result.{IsErrAnd, IsOk}
use Rattle.std.proofs.lemmas.Result.{err_from_is_err_and}
use mathlib.Core.Path.{refl, sym, ap, ◌∙◌}
use Rattle.format.specs.declared.refusal.Refusal.{Refusal}
use Rattle.format.specs.Basics.{Outcome, and_then}

pub passed_on : {A : Type 0} {r : Outcome A} {why : Refusal} → IsErrAnd r (λ e. e ≡ why) → r ≡ Err why
passed_on {A} {r} h = let p = err_from_is_err_and r h in p.1 ∙ ap (λ (e : Refusal). Err e) p.2

pub refuses_too : {A B : Type 0} {r : Outcome A} (f : A → Outcome B) {o : Outcome B} {why : Refusal} → and_then r f ≡ o → r ≡ Err why → o ≡ Err why
unfolding and_then
refuses_too f e is = sym e ∙ rw is

pub unrefused-ok : {A : Type 0} (r : Outcome A) → ((why : Refusal) → r ≡ Err why → ⊥) → IsOk r
unrefused-ok (Ok a) never = refl
unrefused-ok (Err why) never = absurd (never why refl)
