-- What a call answers whose outcome is a number, as document 01's number and value: 0 and the value, or a refusal's number and 0.
-- Assumes nothing.
use Rattle.std.specs.Prelude.{Ok, Err}
use Rattle.format.specs.declared.refusal.Refusal.{Refusal}
use mathlib.Core.List.{[], ◌∷◌}
use mathlib.Core.Path.{◌≡◌}
use Prim.Native.Nat.{ℕ}
use Rattle.format.specs.Basics.{Outcome}
use Rattle.format.specs.Refusal.{number_of}
use Rattle.segment_postings.specs.Called.{value_numbers}

module _ {r : Outcome ℕ} {o : Outcome ℕ} (answers : r ≡ o) where
  pub told : {n : ℕ} → o ≡ Ok n → value_numbers r ≡ 0 ∷ n ∷ []
  unfolding value_numbers
  told e = rw (answers, e)

  pub told-refused : {why : Refusal} → o ≡ Err why → value_numbers r ≡ number_of why ∷ 0 ∷ []
  unfolding value_numbers
  told-refused e = rw (answers, e)
