-- What the writer's answers tell of their outcomes: yes, or a number of bytes, of a good one, and a refusal's number of that refusal; and
-- what an outcome answers.
-- Assumes nothing.
use Rattle.format.specs.declared.refusal.Refusal.{Refusal}
use Rattle.std.specs.Prelude.{◌≡◌, ℕ, Ok, Err}
use mathlib.Core.Path.{refl}
use native.Mathlib.Omega.{arith}
use Rattle.format.specs.Basics.{Outcome}
use Rattle.serializer.specs.declared.PostingsSerializer.{PostingsSerializer}
use Rattle.serializer.specs.declared.Progress.{Progress}
use Rattle.serializer.specs.Calls.{accepted, answered, progress_of_of, progressed}

-- ---- of a call that gives no bytes

module _ {A : Type 0} where
  pub accepted-yes : (o : Outcome A) {r : Outcome (Unit {0})} → r ≡ accepted o → r ≡ Ok tt → (a : A) × (o ≡ Ok a)
  unfolding accepted
  accepted-yes (Ok a) e told = (a, refl)
  accepted-yes (Err k) e told = absurd (let z : ◌≡◌ {A = ℕ} 0 1 = cc in omega arith)

  pub accepted-refused : (o : Outcome A) {r : Outcome (Unit {0})} {n : Refusal} → r ≡ accepted o → r ≡ Err n → o ≡ Err n
  unfolding accepted
  accepted-refused (Ok a) e told = absurd (let z : ◌≡◌ {A = ℕ} 0 1 = cc in omega arith)
  accepted-refused (Err k) e told = cc

  module _ {o : Outcome A} where
    pub answers-yes : {a : A} → o ≡ Ok a → Ok tt ≡ accepted o
    unfolding accepted
    answers-yes e = rw e

    pub answers-no : {n : Refusal} → o ≡ Err n → Err n ≡ accepted o
    unfolding accepted
    answers-no e = rw e

-- .. and of one that gives something else than the outcome's value
module _ {A B : Type 0} (o : Outcome A) {q : Outcome B} where
  pub asked-yes : {b : B} → accepted q ≡ accepted o → q ≡ Ok b → (a : A) × (o ≡ Ok a)
  unfolding accepted
  asked-yes e told = accepted-yes o e (rw told)

  pub asked-no : {r : Refusal} → accepted q ≡ accepted o → q ≡ Err r → o ≡ Err r
  unfolding accepted
  asked-no e told = accepted-refused o e (rw told)

-- ---- of a call on two lent arrays

module _ {A : Type 0} (state : A → PostingsSerializer) where
  pub progressed-at : (o : Outcome A) {r : Outcome Progress} {p : Progress} → r ≡ progressed state o → r ≡ Ok p → (a : A) × (o ≡ Ok a) × (p ≡ progress_of_of (state a))
  unfolding progressed
  progressed-at (Ok a) e told = (a, refl, cc)
  progressed-at (Err k) e told = absurd (let z : ◌≡◌ {A = ℕ} 0 1 = cc in omega arith)

  pub progressed-refused : (o : Outcome A) {r : Outcome Progress} {n : Refusal} → r ≡ progressed state o → r ≡ Err n → o ≡ Err n
  unfolding progressed
  progressed-refused (Ok a) e told = absurd (let z : ◌≡◌ {A = ℕ} 0 1 = cc in omega arith)
  progressed-refused (Err k) e told = cc

-- ---- of one that writes an image

module _ {A : Type 0} (bytes : A → ℕ) where
  pub answered-bytes : (o : Outcome A) {r : Outcome ℕ} {n : ℕ} → r ≡ answered bytes o → r ≡ Ok n → (a : A) × (o ≡ Ok a) × (n ≡ bytes a)
  unfolding answered
  answered-bytes (Ok a) e told = (a, refl, cc)
  answered-bytes (Err k) e told = absurd (let z : ◌≡◌ {A = ℕ} 0 1 = cc in omega arith)

  pub answered-refused : (o : Outcome A) {r : Outcome ℕ} {n : Refusal} → r ≡ answered bytes o → r ≡ Err n → o ≡ Err n
  unfolding answered
  answered-refused (Ok a) e told = absurd (let z : ◌≡◌ {A = ℕ} 0 1 = cc in omega arith)
  answered-refused (Err k) e told = cc
