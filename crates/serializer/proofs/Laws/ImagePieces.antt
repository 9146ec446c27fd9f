-- Laws of an image in pieces: an image is its head, its blocks and its tail one behind the other, so where all of it fits each piece
-- does, and the pieces put in turn are the image put at once.
-- Assumes nothing.
use Rattle.format.specs.declared.refusal.Refusal.TheVariants.{NoRoom}
use Rattle.std.specs.Prelude.{◌≡◌, ℕ, zero, suc, ◌+◌, ◌≤◌, Bool, true, false, leb, List, [], ◌++◌, length, Option, Some, Ok, Err}
use mathlib.Core.Path.{refl, sym, ap, ◌∙◌}
use native.Mathlib.Nat.{add-zero, zero-add, lt_of_not-le}
use native.Mathlib.Decide.{dec_le}
use native.Mathlib.Omega.{arith}
use lib.ListN.{length-append}
use borrow.Author.Tests.{le-leb, lt-leb, leb-false}
use Rattle.format.specs.declared.IndexRecordOption.{IndexRecordOption}
use Rattle.format.specs.Basics.{choose, fits_at, put_at, next_at}
use Rattle.format.specs.SkipEntry.{has_freq_of}
use Rattle.format.specs.Values.{gaps_from}
use Rattle.format.specs.Vint.{vint, vints}
use Rattle.format.specs.Written.{only_if, head_of, tail_of_of, image_with}
use Rattle.format.proofs.Area.{put_at-nil, put_at-append, put_at-refused, next_at-fits, length-put_at, fits-front}
use Rattle.std.specs.Option.{IsSome}
use Rattle.std.proofs.lemmas.Option.{same_Some}
use Rattle.serializer.specs.Pieces.{BytesPut, ImagePut}

-- ---- tests

pub leb-same : (a b c d : ℕ) → (a ≤ b → c ≤ d) → (c ≤ d → a ≤ b) → leb a b ≡ leb c d
leb-same a b c d to from =
    elim (dec_le a b) [
      | yes h ↦ le-leb a b h ∙ sym (le-leb c d (to h))
      | no h ↦ lt-leb a b (omega arith) ∙ sym (lt-leb c d (lt_of_not-le λ g. h (from g)))
    ]

-- ---- pieces

pub all-kept : (t : Bool) (bs : List ℕ) → t ≡ true → only_if t bs ≡ bs
unfolding only_if
all-kept t bs e = rw e

pub left_out : (t : Bool) (bs : List ℕ) → t ≡ false → only_if t bs ≡ []
unfolding only_if
left_out t bs e = rw e

pub head_none : (n : ℕ) (skips : List ℕ) → n ≡ 0 → head_of n skips ≡ []
unfolding head_of
head_none n skips e = rw e

pub head_some : (n : ℕ) (skips : List ℕ) → (n ≡ 0 → ⊥) → head_of n skips ≡ vint (length skips) ++ skips
unfolding head_of
head_some zero skips h = absurd (h refl)
head_some (suc n) skips h = refl

pub image-is : (n : ℕ) (skips postings : List ℕ) (option : IndexRecordOption) (offset : ℕ) (ds fs : List ℕ)
    → image_with n skips postings option offset ds fs ≡ head_of n skips ++ (postings ++ tail_of_of option offset ds fs)
unfolding image_with
image-is n skips postings option offset ds fs = refl

-- the size of an image is that of its parts
pub image-length : (n : ℕ) (skips postings : List ℕ) (option : IndexRecordOption) (offset : ℕ) (ds fs : List ℕ)
    → length (image_with n skips postings option offset ds fs)
    ≡ length (head_of n skips) + (length postings + (length (vints (gaps_from 0 offset ds)) + length (only_if (has_freq_of option) (vints fs))))
unfolding tail_of_of
image-length n skips postings option offset ds fs =
    rw (image-is n skips postings option offset ds fs)
    (simp length-append)

-- ---- one piece behind the other

pub put-none : (p : ℕ) (area : List ℕ) → BytesPut p [] area area p
put-none p area = record { behind = sym (add-zero p); area_after = sym (put_at-nil p area) }

-- bytes that fit are put, so that there is a place behind them ..
pub put_there : (p : ℕ) (bs area : List ℕ) {next : Option ℕ} → p + length bs ≤ length area → next ≡ next_at p bs area → IsSome next
put_there p bs area h next = rw (next, next_at-fits p bs area h)

-- .. which is this one
pub put_next : (p : ℕ) (bs area : List ℕ) {area' : List ℕ} {next : Option ℕ} {r : ℕ} → p + length bs ≤ length area → next ≡ Some r
    → next ≡ next_at p bs area → area' ≡ put_at p bs area → BytesPut p bs area area' r
put_next p bs area h place next put =
    record { behind = same_Some _ _ (sym place ∙ (next ∙ next_at-fits p bs area h)); area_after = put }

-- of two pieces that fit together the first is put
pub put_first : {p : ℕ} {a : List ℕ} (b : List ℕ) {area area' : List ℕ} {next : Option ℕ} {r : ℕ} → p + length (a ++ b) ≤ length area
    → next ≡ Some r → next ≡ next_at p a area → area' ≡ put_at p a area → BytesPut p a area area' r
put_first b h = put_next _ _ _ (fits-front _ _ b _ h)

module _ (p : ℕ) (a b area : List ℕ) {middle : List ℕ} {m : ℕ} (h : p + length (a ++ b) ≤ length area) (first : BytesPut p a area middle m) where
  pub room-behind : m + length b ≤ length middle
  room-behind = rw (first.behind, first.area_after, length-put_at) (omega (arith, length-append a b))

  pub put_both : {area' : List ℕ} {r : ℕ} → BytesPut m b middle area' r → BytesPut p (a ++ b) area area' r
  put_both second = record {
    behind = second.behind ∙ rw (first.behind, length-append a b) (omega arith);
    area_after = second.area_after ∙ rw (first.behind, first.area_after) (put_at-append p a b area h);
  }

-- ---- the image at the front of the output

module _ (image output : List ℕ) where
  pub image-refused : leb (length image) (length output) ≡ false → ImagePut image output output (Err NoRoom)
  unfolding choose fits_at
  image-refused short = record { answer = rw (zero-add, short); output_after = sym (put_at-refused 0 image output (omega (arith, leb-false))) }

  pub image-put : {output' : List ℕ} {r : ℕ} → leb (length image) (length output) ≡ true → BytesPut 0 image output output' r
      → ImagePut image output output' (Ok r)
  unfolding choose fits_at
  image-put room put = record { answer = ap Ok (put.behind ∙ zero-add _) ∙ rw (zero-add, room); output_after = put.area_after }
