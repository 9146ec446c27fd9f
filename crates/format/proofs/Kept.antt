-- Whether an image keeps frequencies, as a reader comes to know it. Where there is a full block the layout alone says it, so that every block
-- gives the same answer; a tail alone begins where the posting bytes do.
-- Assumes nothing.
use mathlib.Core.Bool.{and-true}
use mathlib.Core.List.{List}
use mathlib.Core.Path.{◌≡◌, refl, sym, ◌∙◌}
use Prim.Native.Nat.{ℕ, ◌<◌}
use native.Mathlib.Omega.{arith}
use borrow.Author.Tests.{ne_eqb}
use lib.ListN.{drop}
use Rattle.format.specs.declared.Layout.{Layout}
use Rattle.format.specs.declared.Term.{Term}
use Rattle.format.specs.Layout.{full_blocks_of, posting_bytes_of}
use Rattle.format.specs.Reading.{keeps_freqs_of, kept_by, kept}
use Rattle.format.specs.SkipEntry.{has_freq_of}

module _ (t : Term) (l : Layout) where
  pub kept_full : (bs : List ℕ) → 0 < full_blocks_of t → kept_by t l bs ≡ has_freq_of l.option
  unfolding kept_by keeps_freqs_of
  kept_full bs some = rw (ne_eqb (full_blocks_of t) 0 (omega arith)) (and-true (has_freq_of l.option))

  -- by the bytes from any block on
  pub kept_anywhere : (bs from : List ℕ) → 0 < full_blocks_of t → kept_by t l from ≡ kept t l bs
  unfolding kept
  kept_anywhere bs from some = kept_full from some ∙ sym (kept_full (posting_bytes_of l bs) some)

  -- by the bytes of the whole, from where the posting bytes begin
  pub kept-alone : (bs : List ℕ) → kept_by t l (drop l.postings bs) ≡ kept t l bs
  unfolding kept posting_bytes_of
  kept-alone bs = refl
