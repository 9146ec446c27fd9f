-- The two areas while a list's full blocks are written: they hold the entries and the blocks so far at their fronts, and behind them
-- what stood there. Where all blocks fit the next one does, and puts its bytes behind the others.
-- Assumes nothing.
use Rattle.std.specs.Prelude.{◌≡◌, ℕ, ◌+◌, ◌*◌, ◌/◌, ◌<◌, ◌≤◌, true, List, ◌++◌, length, get_or, take, drop, Ok}
use Rattle.std.specs.Result.{IsOk}
use mathlib.Core.Path.{refl, sym}
use native.Mathlib.Nat.{zero-add}
use native.Mathlib.Numerals.{add-one}
use native.Mathlib.Omega.{arith}
use borrow.Author.Tests.{le-leb}
use lib.ListN.{length-append}
use Rattle.format.specs.declared.IndexRecordOption.{IndexRecordOption}
use Rattle.format.specs.Basics.{choose, fits_at, put_at, Outcome}
use Rattle.format.specs.Written.{Parts, entry_of, block_of, blocks_of}
use Rattle.format.proofs.Area.{length-put_at, put_at-nil, put_at-append}
use Rattle.serializer.specs.declared.block.Places.{Places}
use Rattle.serializer.specs.Pieces.{BlockWritten, block_fits}
use Rattle.serializer.specs.Whole.{full_blocks_of, blocks_fit, BlocksPut}
use Rattle.serializer.specs.Writer.{least_after_of}
use Rattle.format.proofs.ImageParts.{blocks_of-zero}
use Rattle.serializer.proofs.list.Blocks.{blocks-next, blocks_fewer}
use Rattle.serializer.proofs.Laws.BlockPlaces.{least-next, blocks-room}

-- bytes go behind those at an area's front
module _ (a b area : List ℕ) (h : length (a ++ b) ≤ length area) where
  behind-fits : fits_at (length a) b (put_at 0 a area) ≡ true
  unfolding fits_at
  behind-fits =
      let room : length a + length b ≤ length area = omega (arith, length-append a b) in
      rw (length-put_at 0 a area, le-leb _ _ room)

  behind-put : put_at (length a) b (put_at 0 a area) ≡ put_at 0 (a ++ b) area
  behind-put = rw zero-add at (put_at-append 0 a b area (omega arith))

module _ (option : IndexRecordOption) (ds fs skips₀ postings₀ : List ℕ) where
  -- n blocks are written, up to these places
  pub record Written (n least : ℕ) (at : Places) (skips postings : List ℕ) : Type 0 where
    pub least_is : least ≡ least_after_of 0 (take (128 * n) ds)
    pub skips_at_is : at.skips ≡ length (blocks_of option n 0 ds fs).skips
    pub postings_at_is : at.postings ≡ length (blocks_of option n 0 ds fs).postings
    pub skips_are : skips ≡ put_at 0 (blocks_of option n 0 ds fs).skips skips₀
    pub postings_are : postings ≡ put_at 0 (blocks_of option n 0 ds fs).postings postings₀

  pub written_none : Written 0 0 (record { skips = 0; postings = 0 }) skips₀ postings₀
  unfolding least_after_of
  written_none = record {
    least_is = refl;
    skips_at_is = rw blocks_of-zero;
    postings_at_is = rw blocks_of-zero;
    skips_are = rw blocks_of-zero (sym (put_at-nil 0 skips₀));
    postings_are = rw blocks_of-zero (sym (put_at-nil 0 postings₀));
  }

  pub written_all : {n least : ℕ} {at : Places} {skips postings : List ℕ} → n ≡ length ds / 128 → Written n least at skips postings
      → BlocksPut option ds fs skips₀ postings₀ skips postings
  unfolding full_blocks_of
  written_all e w = record { skips_after = rw e at w.skips_are; postings_after = rw e at w.postings_are }

  module _ {n least : ℕ} {at : Places} {skips postings : List ℕ} (w : Written n least at skips postings) where
    pub skips-kept : length skips ≡ length skips₀
    skips-kept = rw w.skips_are (length-put_at 0 _ skips₀)

    pub postings-kept : length postings ≡ length postings₀
    postings-kept = rw w.postings_are (length-put_at 0 _ postings₀)

    module _ (more : n < length ds / 128) (fits : blocks_fit option ds fs skips₀ postings₀ ≡ true)
        {skips' postings' : List ℕ} {r : Outcome Places}
        (b : BlockWritten option least (take 128 (drop (128 * n) ds)) (take 128 (drop (128 * n) fs)) at skips postings skips' postings' r) where
      abbrev so_far : Parts
      so_far = blocks_of option n 0 ds fs

      abbrev entry : List ℕ
      entry = entry_of option least (take 128 (drop (128 * n) ds)) (take 128 (drop (128 * n) fs))

      abbrev block : List ℕ
      block = block_of option least (take 128 (drop (128 * n) ds)) (take 128 (drop (128 * n) fs))

      next : blocks_of option (n + 1) 0 ds fs
          ≡ record { skips = so_far.skips ++ entry; postings = so_far.postings ++ block }
      next = rw (w.least_is, add-one) (blocks-next option n 0 ds fs (omega arith))

      room : (length (so_far.skips ++ entry) ≤ length skips₀) × (length (so_far.postings ++ block) ≤ length postings₀)
      unfolding full_blocks_of
      room =
          let all = blocks-room option ds fs skips₀ postings₀ fits in
          let within = rw next at (blocks_fewer option (n + 1) (length ds / 128) 0 ds fs (omega arith) (omega arith)) in
          (omega arith, omega arith)

      fit : block_fits option least (take 128 (drop (128 * n) ds)) (take 128 (drop (128 * n) fs)) at skips postings ≡ true
      unfolding block_fits
      fit = rw (w.skips_at_is, w.postings_at_is, w.skips_are, w.postings_are, behind-fits so_far.skips entry skips₀ room.0, behind-fits so_far.postings block postings₀ room.1)

      placed : r
          ≡ Ok (record { skips = length (blocks_of option (n + 1) 0 ds fs).skips; postings = length (blocks_of option (n + 1) 0 ds fs).postings })
      unfolding choose
      placed = rw (b.placed, fit, next, w.skips_at_is, w.postings_at_is) (simp length-append)

      pub not-refused : IsOk r
      not-refused = rw placed

      pub written_next : {next : Places} → r ≡ Ok next → Written (n + 1) (get_or ds (128 * n + 127) 0 + 1) next skips' postings'
      unfolding choose
      written_next e = record {
        least_is = sym (least-next n ds (omega arith));
        skips_at_is = cc placed;
        postings_at_is = cc placed;
        skips_are = rw (b.skips_after, fit, next, w.skips_at_is, w.skips_are) (behind-put so_far.skips entry skips₀ room.0);
        postings_are = rw (b.postings_after, fit, next, w.postings_at_is, w.postings_are) (behind-put so_far.postings block postings₀ room.1);
      }
