-- `serializer::image::Image::put` meets its contract: the image is its head, its blocks and its tail, and what fits as a whole fits
-- piece by piece.
-- Assumes nothing.
use Rattle.std.specs.Prelude.{Option, Some}
use Rattle.std.proofs.Common.{◌≡◌, ◌+◌, ◌≤◌, List, ℕ, ◌++◌, length, true, nat_le, sym, ◌∙◌, zero-add}
use borrow.Author.Tests.{leb-true}
use Rattle.format.specs.Basics.{next_at, put_at}
use Rattle.format.specs.Written.{head_of, tail_of_of}
use Rattle.format.proofs.Area.{fits-front}
use Rattle.serializer.specs.declared.image.Image.{Image}
use Rattle.serializer.specs.Pieces.{bytes_of, BytesPut}
use Rattle.serializer.proofs.Laws.ImagePieces.{image-is, image-refused, image-put, put_there, put_next, put_both, room-behind}
use Rattle.serializer.proofs.image.Image.put.Goals as goal

-- the pieces, and the image that they make
module _ (i : Image) (output : List ℕ) where
  abbrev head : List ℕ
  head = head_of i.full i.skips.now

  abbrev tail : List ℕ
  tail = tail_of_of i.option i.offset i.docs.now i.freqs.now

  parts-are : bytes_of i ≡ head ++ (i.postings.now ++ tail)
  parts-are = image-is i.full i.skips.now i.postings.now i.option i.offset i.docs.now i.freqs.now

  -- all of them fit
  module _ (fitting : nat_le (length (bytes_of i)) (length output) ≡ true) where
    room : 0 + length (head ++ (i.postings.now ++ tail)) ≤ length output
    room = rw (zero-add, ← parts-are) (leb-true _ _ fitting)

    head-fits : length head ≤ length output
    head-fits = rw zero-add at (fits-front 0 head (i.postings.now ++ tail) output room)

    -- .. also behind the head, which is put
    module _ {after_head : List ℕ} {postings_at : ℕ} (first : BytesPut 0 head output after_head postings_at) where
      head-room : postings_at + length (i.postings.now ++ tail) ≤ length after_head
      head-room = room-behind 0 head (i.postings.now ++ tail) output room first

      postings-fit : postings_at + length i.postings.now ≤ length after_head
      postings-fit = fits-front postings_at i.postings.now tail after_head head-room

      module _ {after_postings : List ℕ} {next : Option ℕ} {tail_at : ℕ} (place : next ≡ Some tail_at)
          (placed : next ≡ next_at postings_at i.postings.now after_head) (put : after_postings ≡ put_at postings_at i.postings.now after_head) where
        postings-put : BytesPut postings_at i.postings.now after_head after_postings tail_at
        postings-put = put_next postings_at i.postings.now after_head postings-fit place placed put

        tail-fits : tail_at + length tail ≤ length after_postings
        tail-fits = room-behind postings_at i.postings.now tail after_head head-room postings-put

        all-put : {output' : List ℕ} {end : ℕ} → BytesPut tail_at tail after_postings output' end → BytesPut 0 (bytes_of i) output output' end
        all-put last =
            rw parts-are
            (put_both 0 head (i.postings.now ++ tail) output room first (put_both postings_at i.postings.now tail after_head head-room postings-put last))

pub returns-then-not-fits : goal.returns-then-not-fits
returns-then-not-fits c = image-refused _ _ (sym c.fits.ensures ∙ c.if-not-fits.true)

pub put_head-postings_at-requires : goal.put_head-postings_at-requires
put_head-postings_at-requires c = head-fits c.args.self.now c.args.output.now (sym c.fits.ensures ∙ c.if-not-fits.false)

pub unwrap-tail_at-requires : goal.unwrap-tail_at-requires
unwrap-tail_at-requires c =
    let i = c.args.self.now in
    let fit = postings-fit i c.args.output.now (sym c.fits.ensures ∙ c.if-not-fits.false) c.put_head-postings_at.ensures in
    put_there _ i.postings.now _ fit c.put.ensures.next

pub put_tail-requires : goal.put_tail-requires
put_tail-requires c =
    tail-fits c.args.self.now c.args.output.now (sym c.fits.ensures ∙ c.if-not-fits.false)
    c.put_head-postings_at.ensures c.unwrap-tail_at.ensures c.put.ensures.next c.put.ensures.area

pub returns : goal.returns
returns c =
    let fitting = sym c.fits.ensures ∙ c.if-not-fits.false in
    image-put _ c.args.output.now fitting
    (all-put c.args.self.now c.args.output.now fitting
    c.put_head-postings_at.ensures c.unwrap-tail_at.ensures c.put.ensures.next c.put.ensures.area c.put_tail.ensures)
