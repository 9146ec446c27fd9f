-- What holds of both values that a choice may give holds of the choice, one case for each answer of its test; and what a test asks where
-- another is passed.
-- Assumes nothing.
use mathlib.Core.Bool.{Bool, true, false, not, ◌||◌ as or}
use mathlib.Core.Path.{◌≡◌, refl}
use Rattle.format.specs.Basics.{choose}

pub choose_elim : {A : Type 0} (P : A → Type 0) (t : Bool) (a b : Bool → A)
    → (t ≡ true → P (a true)) → (t ≡ false → P (b true)) → P (choose t a b)
unfolding choose
choose_elim P true a b p q = p refl
choose_elim P false a b p q = q refl

pub granted : (a b : Bool) → (a ≡ true → b ≡ true) → or (not a) b ≡ true
granted true b h = h refl
granted false b h = refl
