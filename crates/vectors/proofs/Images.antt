-- What a call that writes a whole list answers, beside an image: a refusal is no image; else the bytes at the output's front are the
-- list's image, and they are compared.
-- Assumes nothing.
use Rattle.std.specs.Prelude.{Ok, Err}
use Rattle.std.specs.Str.{bytes_eq}
use Rattle.std.proofs.lemmas.Slice.Eq.{bytes_eq-Decides}
use mathlib.Core.Bool.{Bool, true, false, false≢true}
use mathlib.Core.List.{List}
use mathlib.Core.Path.{◌≡◌, refl, sym, ◌∙◌}
use Prim.Native.Nat.{ℕ, ◌≤◌}
use native.Mathlib.Nat.{zero-add}
use native.Mathlib.Omega.{arith}
use borrow.Author.Tests.{le-leb}
use lib.ListN.{length, take}
use lib.Seq.{take_at}
use Rattle.format.specs.declared.refusal.Refusal.{Refusal}
use Rattle.format.specs.Accepted.{written}
use Rattle.format.specs.Basics.{Outcome, choose, fits_at, put_at, or_before}
use Rattle.format.proofs.Area.{length-put_at}
use Rattle.serializer.specs.Calls.{answered, Listed}
use Rattle.serializer.specs.Writer.{listing}
use Rattle.serializer.proofs.Laws.WholeList.{whole-list-writes}
use Rattle.vectors.specs.Replay.{is_image, writes_image}

-- ---- what a call leaves

front : (bs output output' : List ℕ) (n : ℕ) → output' ≡ put_at 0 bs output → length bs ≡ n → length bs ≤ length output
    → take n output' ≡ bs
unfolding put_at choose fits_at
front bs output output' n e long h = rw (e, zero-add, le-leb (length bs) (length output) h) (take_at bs _ n long)

-- an outcome that answers so many bytes
wrote : (n : ℕ) (o : Outcome (List ℕ)) → answered length o ≡ Ok n → (bs : List ℕ) × (o ≡ Ok bs) × (length bs ≡ n)
unfolding answered
wrote n (Ok bs) e = (bs, refl, cc)
wrote n (Err k) e = grind arith

no-image : (why : Refusal) (o : Outcome (List ℕ)) (image : List ℕ) → answered length o ≡ Err why → is_image o image ≡ false
unfolding answered is_image
no-image why (Ok bs) image e = grind arith
no-image why (Err k) image e = refl

module _ (mode : ℕ) (recording : Bool) (ds fs image skips postings output : List ℕ) where
  writes_image-is : writes_image mode recording ds fs image skips postings output ≡ is_image (listing mode recording ds fs skips postings output) image
  unfolding writes_image
  writes_image-is = refl

  module _ (skips' postings' output' : List ℕ) (r : Outcome ℕ)
      (h : Listed mode recording ds fs skips postings output skips' postings' output' r) where
    pub image-refused : (why : Refusal) → r ≡ Err why → writes_image mode recording ds fs image skips postings output ≡ false
    image-refused why e = writes_image-is ∙ no-image why _ image (sym h.answer ∙ e)

    module _ (n : ℕ) (e : r ≡ Ok n) where
      abbrev bytes : List ℕ
      bytes = (wrote n _ (sym h.answer ∙ e)).0

      listed : listing mode recording ds fs skips postings output ≡ Ok bytes
      listed = (wrote n _ (sym h.answer ∙ e)).1

      long : length bytes ≡ n
      long = (wrote n _ (sym h.answer ∙ e)).2

      room : length bytes ≤ length output
      room = ((whole-list-writes mode recording ds fs skips postings output).0 listed).1.output_fit

      after_is : output' ≡ put_at 0 bytes output
      unfolding or_before
      after_is = h.output_after ∙ rw listed

      pub image-within : n ≤ length output'
      image-within = rw (after_is, length-put_at, ← long) room

      image-front : take n output' ≡ bytes
      image-front = front bytes output output' n after_is long room

      pub image_compared : bytes_eq (take n output') image ≡ writes_image mode recording ds fs image skips postings output
      unfolding is_image
      image_compared = rw image-front (sym (writes_image-is ∙ rw listed))

is-image : (o : Outcome (List ℕ)) (image : List ℕ) → is_image o image ≡ true → o ≡ Ok image
unfolding is_image
is-image (Ok bs) image e = rw ((bytes_eq-Decides bs image).0 e)
is-image (Err k) image e = absurd (false≢true e)

-- ---- what a case that agrees says of the Rust's image: it is the one that the definitions write

pub written-image : (mode : ℕ) (recording : Bool) (ds fs image skips postings output : List ℕ)
    → writes_image mode recording ds fs image skips postings output ≡ true → written mode recording ds fs ≡ Ok image
written-image mode recording ds fs image skips postings output e =
    let w = writes_image-is mode recording ds fs image skips postings output in
    ((whole-list-writes mode recording ds fs skips postings output).0 (is-image _ image (sym w ∙ e))).0
