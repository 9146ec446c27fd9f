-- A reader that fills a slice with a tail's numbers, place after place. What it keeps: the numbers still to come, read from here,
-- give the answer and leave the slice that all of them give and leave. `whole` is all of them, `rest` those still to come.
-- Assumes nothing.
use Rattle.std.specs.Prelude.{None, Some}
use mathlib.Core.Path.{◌≡◌, refl, ◌∙◌}
use mathlib.Core.List.{List}
use Prim.Native.Nat.{ℕ, suc, ◌+◌, ◌-◌, ◌≤◌, ◌<◌}
use native.Mathlib.Nat.{add-zero, zero-add, add_assoc, sub-eq-zero_of_le}
use native.Mathlib.Numerals.{add-one}
use native.Mathlib.Omega.{arith}
use lib.ListN.{length, set, drop, length-set}
use lib.Seq.{sets, sets-eq, drop-drop}
use Rattle.format.specs.Basics.{choose}
use Rattle.format.specs.Vint.{Numbers, in_front, tail_number, tail_numbers}
use Rattle.format.proofs.VintCode.{tail_numbers-suc}
use Rattle.vint.specs.Numbers.{behind, filled}

pub record Filling (whole rest : Numbers) (at next i : ℕ) (slice₀ slice : List ℕ) : Type 0 where
  pub kept : length slice ≡ length slice₀
  pub answer : behind next rest ≡ behind at whole
  pub left : sets slice i rest.values ≡ filled whole slice₀

pub filling_none : (whole : Numbers) (at : ℕ) (slice : List ℕ) → length whole.values ≤ length slice → Filling whole whole at at 0 slice slice
unfolding filled
filling_none whole at slice h = record {
  kept = refl;
  answer = refl;
  left = rw (sets-eq whole.values slice 0 (omega arith), zero-add);
}

-- i of n numbers are read, and the next stands at `next`
module _ (src : List ℕ) (n i next : ℕ) where
  step : i < n → tail_numbers (n - i) (drop next src) ≡ in_front (tail_number (drop next src)) (λ used. tail_numbers (n - (i + 1)) (drop (next + used) src))
  step h =
      let one : n - i ≡ suc (n - (i + 1)) = omega arith in
      rw (one, tail_numbers-suc) (simp drop-drop)

  pub filling_next : {whole : Numbers} {at : ℕ} {slice₀ slice : List ℕ} {value used : ℕ} → i < n → tail_number (drop next src) ≡ Some (value, used)
      → Filling whole (tail_numbers (n - i) (drop next src)) at next i slice₀ slice
      → Filling whole (tail_numbers (n - (i + 1)) (drop (next + used) src)) at (next + used) (i + 1) slice₀ (set slice i value)
  unfolding behind in_front
  filling_next {slice} {value} h e f = record {
    kept = length-set slice i value ∙ f.kept;
    answer = rw add_assoc (rw (step h, e) at f.answer);
    left = rw (add-one i) (rw (step h, e, add-one i) at f.left);
  }

  pub filling_malformed : {whole : Numbers} {at : ℕ} {slice₀ slice : List ℕ} → i < n → tail_number (drop next src) ≡ None
      → Filling whole (tail_numbers (n - i) (drop next src)) at next i slice₀ slice → (None ≡ behind at whole) × (slice ≡ filled whole slice₀)
  unfolding behind choose in_front
  filling_malformed h e f = (rw (step h, e) at f.answer, rw (step h, e) at f.left)

  pub filling_end : {whole : Numbers} {at : ℕ} {slice₀ slice : List ℕ} → n ≤ i → Filling whole (tail_numbers (n - i) (drop next src)) at next i slice₀ slice
      → (Some next ≡ behind at whole) × (slice ≡ filled whole slice₀)
  unfolding behind choose tail_numbers
  filling_end h f =
      let none : n - i ≡ 0 = sub-eq-zero_of_le h in
      (rw (none, add-zero) at f.answer, rw none at f.left)
