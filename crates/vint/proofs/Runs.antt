-- Values that a loop counts or writes as short numbers, one behind the other: what it keeps, whichever list they come from. `whole`
-- is all of them, `rest` those still to come.
-- Assumes nothing.
use Rattle.std.specs.Prelude.{Bool, true, false, Some}
use mathlib.Core.Path.{◌≡◌, sym, ap, ◌∙◌}
use mathlib.Core.List.{List, [], ◌∷◌, ◌++◌}
use Prim.Native.Nat.{ℕ, ◌+◌, ◌*◌, ◌^◌, ◌≤◌, ◌<◌}
use native.Mathlib.Nat.{add-zero}
use native.Mathlib.Omega.{arith}
use lib.ListN.{length, get_or, drop, drop_of_length-le}
use Rattle.format.specs.Basics.{put_at, next_at}
use Rattle.format.specs.Vint.{vint, vints}
use Rattle.vint.specs.Written.{number_written, numbers_written}
use Rattle.format.proofs.Gaps.{drop-next, gaps_from-next, gaps_from-end}
use Rattle.format.proofs.Area.{length-put_at, put_at-nil, put_at-append, next_at-fits, fits-front, fits-back}
use Rattle.format.proofs.VintCode.{length-vint, length-vints, vints-nil, vints-cons}

-- what is written of the value at a place, and of those behind it
pub numbers-next : (sorted : Bool) (previous : ℕ) (vs : List ℕ) (i : ℕ) → i < length vs → numbers_written sorted previous (drop i vs)
    ≡ number_written sorted previous (get_or vs i 0) ∷ numbers_written sorted (get_or vs i 0) (drop (i + 1) vs)
unfolding number_written numbers_written
numbers-next true previous vs i h = gaps_from-next 0 previous vs i (add-zero _) h
numbers-next false previous vs i h = drop-next vs i h

-- .. and nothing at the end
pub numbers-end : (sorted : Bool) (previous : ℕ) (vs : List ℕ) {i : ℕ} → length vs ≤ i → numbers_written sorted previous (drop i vs) ≡ []
unfolding numbers_written
numbers-end true previous vs h = gaps_from-end 0 previous vs h
numbers-end false previous vs h = drop_of_length-le vs h

-- i values below 2 ^ 32 counted, in at most five bytes each
pub record Counted (whole rest : List ℕ) (i size : ℕ) : Type 0 where
  pub total : size + length (vints rest) ≡ length (vints whole)
  pub small : size ≤ 5 * i

pub counted_next : {whole rest rest' : List ℕ} {i size v : ℕ} → rest ≡ v ∷ rest' → v < 2 ^ 32 → Counted whole rest i size
    → Counted whole rest' (i + 1) (size + length (vint v))
counted_next {rest'} {v} e h c = record {
  total = omega (arith, rw (e, length-vints) at c.total);
  small = omega (arith, length-vint 4 v (omega arith));
}

pub counted-end : {whole rest : List ℕ} {i size : ℕ} → rest ≡ [] → Counted whole rest i size → size ≡ length (vints whole)
counted-end e c = omega (arith, rw (e, vints-nil) at c.total)

-- written from `at` to `next`: the rest put there makes of the area what the whole makes of the area as it was
pub record Written (whole rest : List ℕ) (at next : ℕ) (area₀ area : List ℕ) : Type 0 where
  pub room : next + length (vints rest) ≤ length area
  pub place : next + length (vints rest) ≡ at + length (vints whole)
  pub put : put_at next (vints rest) area ≡ put_at at (vints whole) area₀
  pub kept : length area ≡ length area₀

-- .. with one value more
module _ {whole rest rest' : List ℕ} {at next v : ℕ} {area₀ area : List ℕ} (e : rest ≡ v ∷ rest') (w : Written whole rest at next area₀ area) where
  fits : next + length (vint v ++ vints rest') ≤ length area
  fits = rw (e, vints-cons) at w.room

  pub written-room : next + length (vint v) ≤ length area
  written-room = fits-front next (vint v) (vints rest') area fits

  pub written_next : Written whole rest' at (next + length (vint v)) area₀ (put_at next (vint v) area)
  written_next = record {
    room = fits-back next (vint v) (vints rest') area fits;
    place = omega (arith, rw (e, length-vints) at w.place);
    put = put_at-append next (vint v) (vints rest') area fits ∙ (rw (e, vints-cons) at w.put);
    kept = length-put_at next (vint v) area ∙ w.kept;
  }

pub written-end : {whole rest : List ℕ} {at next : ℕ} {area₀ area : List ℕ} → rest ≡ [] → Written whole rest at next area₀ area
    → (Some next ≡ next_at at (vints whole) area₀) × (area ≡ put_at at (vints whole) area₀)
written-end {whole} {at} {next} {area₀} {area} e w =
    let behind : next ≡ at + length (vints whole) = omega (arith, rw (e, vints-nil) at w.place) in (
      ap Some behind ∙ sym (next_at-fits at (vints whole) area₀ (omega (arith, w.room))),
      sym (put_at-nil next area) ∙ (rw (e, vints-nil) at w.put),
    )
