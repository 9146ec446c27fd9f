-- The definitions give what document 01 prints for its table, by computation: `doc freq`, `3 1`, `7 2`, `300 130`. The same columns the other way
-- round print the same, and a row with two spaces is refused.
-- Assumes nothing.
use mathlib.Core.List.{[], ◌∷◌, ◌++◌}
use mathlib.Core.Path.{◌≡◌, refl}
use Rattle.listing.specs.Input.{doc_freq, freq_doc}
use Rattle.listing.specs.Output.{header, refusal, listing_of}

pub docs-first : listing_of (doc_freq ++ (10 ∷ 51 ∷ 32 ∷ 49 ∷ 10 ∷ 55 ∷ 32 ∷ 50 ∷ 10 ∷ 51 ∷ 48 ∷ 48 ∷ 32 ∷ 49 ∷ 51 ∷ 48 ∷ 10 ∷ []))
    ≡ header ++ (51 ∷ 32 ∷ 49 ∷ 32 ∷ 49 ∷ 10 ∷ 55 ∷ 32 ∷ 50 ∷ 32 ∷ 49 ∷ 10 ∷ 51 ∷ 48 ∷ 48 ∷ 32 ∷ 49 ∷ 51 ∷ 48 ∷ 32 ∷ 49 ∷ 10
    ∷ 50 ∷ 49 ∷ 52 ∷ 55 ∷ 52 ∷ 56 ∷ 51 ∷ 54 ∷ 52 ∷ 55 ∷ 32 ∷ 48 ∷ 32 ∷ 49 ∷ 10 ∷ [])
unfolding listing_of
docs-first = refl

pub freqs-first : listing_of (freq_doc ++ (10 ∷ 49 ∷ 32 ∷ 51 ∷ 10 ∷ 50 ∷ 32 ∷ 55 ∷ 10 ∷ 49 ∷ 51 ∷ 48 ∷ 32 ∷ 51 ∷ 48 ∷ 48 ∷ []))
    ≡ header ++ (51 ∷ 32 ∷ 49 ∷ 32 ∷ 49 ∷ 10 ∷ 55 ∷ 32 ∷ 50 ∷ 32 ∷ 49 ∷ 10 ∷ 51 ∷ 48 ∷ 48 ∷ 32 ∷ 49 ∷ 51 ∷ 48 ∷ 32 ∷ 49 ∷ 10
    ∷ 50 ∷ 49 ∷ 52 ∷ 55 ∷ 52 ∷ 56 ∷ 51 ∷ 54 ∷ 52 ∷ 55 ∷ 32 ∷ 48 ∷ 32 ∷ 49 ∷ 10 ∷ [])
unfolding listing_of
freqs-first = refl

pub two_spaces : listing_of (doc_freq ++ (10 ∷ 51 ∷ 32 ∷ 32 ∷ 49 ∷ 10 ∷ [])) ≡ refusal
unfolding listing_of
two_spaces = refl
