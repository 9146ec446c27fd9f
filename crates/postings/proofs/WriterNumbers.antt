-- The writer's answers as document 01's numbers and values: 0 with what was asked for, or a refusal's number. No refusal carries the
-- number 0, so the numbers tell a yes from a no: of a whole list, of beginning and of closing.
-- Assumes nothing.
use Rattle.std.specs.Prelude.{Ok, Err}
use Rattle.format.specs.declared.refusal.Refusal.{Refusal}
use Rattle.format.specs.declared.refusal.Refusal.TheVariants.{UnknownMode, CountTooLarge, SkipLengthBroken, SkipLengthWrong, EntryBroken, DocsNotRising, FreqOutOfRange, NumberBroken, BytesLeft, TargetTooLarge, IdTooLarge, IdNotRising, FreqZero, CountMismatch, NoRoom, StateBroken}
use mathlib.Core.List.{[], ◌∷◌}
use mathlib.Core.Path.{◌≡◌, refl, ap}
use Prim.Native.Nat.{ℕ, ◌<◌}
use native.Mathlib.Omega.{arith}
use lib.ListN.{get_or}
use Rattle.format.specs.Basics.{Outcome}
use Rattle.format.specs.Refusal.{number_of}
use Rattle.serializer.specs.Calls.{accepted_number, written_numbers}

-- ---- no refusal carries the number 0

pub some-number : (r : Refusal) → 0 < number_of r
some-number UnknownMode = omega arith
some-number CountTooLarge = omega arith
some-number SkipLengthBroken = omega arith
some-number SkipLengthWrong = omega arith
some-number EntryBroken = omega arith
some-number DocsNotRising = omega arith
some-number FreqOutOfRange = omega arith
some-number NumberBroken = omega arith
some-number BytesLeft = omega arith
some-number TargetTooLarge = omega arith
some-number IdTooLarge = omega arith
some-number IdNotRising = omega arith
some-number FreqZero = omega arith
some-number CountMismatch = omega arith
some-number NoRoom = omega arith
some-number StateBroken = omega arith

-- ---- what the numbers tell

pub zero-yes : (a : Outcome (Unit {0})) → accepted_number a ≡ 0 → a ≡ Ok tt
unfolding accepted_number
zero-yes (Ok tt) e = refl
zero-yes (Err r) e = absurd (omega (arith, some-number r))

pub zero-bytes : (a : Outcome ℕ) {n : ℕ} → written_numbers a ≡ 0 ∷ n ∷ [] → a ≡ Ok n
unfolding written_numbers
zero-bytes (Ok m) e = ap Ok (ap (λ xs. get_or xs 1 0) e)
zero-bytes (Err r) e = absurd (let z = ap (λ xs. get_or xs 0 0) e in omega (arith, some-number r))

pub bytes-numbers : {a : Outcome ℕ} {n : ℕ} → a ≡ Ok n → written_numbers a ≡ 0 ∷ n ∷ []
unfolding written_numbers
bytes-numbers e = rw e

pub above-no : (a : Outcome (Unit {0})) → 0 < accepted_number a → (r : Refusal) × (number_of r ≡ accepted_number a) × (a ≡ Err r)
unfolding accepted_number
above-no (Ok tt) h = absurd (omega arith)
above-no (Err r) h = (r, refl, refl)

pub above-refused : (a : Outcome ℕ) {k : ℕ} → 0 < k → written_numbers a ≡ k ∷ 0 ∷ [] → (r : Refusal) × (number_of r ≡ k) × (a ≡ Err r)
unfolding written_numbers
above-refused (Ok n) h e = absurd (let z = ap (λ xs. get_or xs 0 0) e in omega arith)
above-refused (Err r) h e = (r, ap (λ xs. get_or xs 0 0) e, refl)
