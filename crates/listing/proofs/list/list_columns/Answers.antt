-- `listing::list::list_columns` meets its contract: a list that is written reads back as the columns, and its walk's lines behind the header are the
-- listing; a refused one is refused by the definitions, since there is room for all.
-- Assumes nothing.
use Rattle.std.proofs.Common.{List, ℕ, ◌^◌, sym, get_or, Fits, w32, arith}
use Rattle.std.proofs.Math.Seq.{length-take-le}
use Rattle.format.specs.Basics.{AllBelow}
use Rattle.format.proofs.Lists.{AllBelow-of}
use Rattle.serializer.proofs.Laws.ImagePieces.{put_there}
use Rattle.listing.specs.Output.{header}
use Rattle.listing.proofs.Putting.{puts-length, puts-next}
use Rattle.listing.proofs.Listed.{Wrote, wrote, wrote_none, listed_text}
use Rattle.listing.proofs.list.list_columns.Goals.{In-Ok}
use Rattle.listing.proofs.list.list_columns.Goals as goal

-- every frequency has 32 bits
small : (fs : List ℕ) → ((i : ℕ) → Fits w32 (get_or fs i 0)) → AllBelow (2 ^ 32) fs
small fs fits = AllBelow-of {m = 2 ^ 32} fs (λ i. omega (arith, fits i))

-- what is known once the list is written
reads : (c : In-Ok) → Wrote c.args.ids.now c.args.freqs.now c.write_list.new.output c.in-Ok.size
reads c = wrote _ _ _ _ _ c.requires (small _ c.type_inv.freqs) c.write_list.ensures _ c.in-Ok.is

pub slice_bounds-image-end : goal.slice_bounds-image-end
slice_bounds-image-end c = (reads (goal.at.slice_bounds-image-end c).In-Ok).within

pub slice_bounds-put_steps-end : goal.slice_bounds-put_steps-end
slice_bounds-put_steps-end c = sym (length-take-le _ _ (reads (goal.at.slice_bounds-put_steps-end c).In-Ok).within)

pub unwrap-next-requires : goal.unwrap-next-requires
unwrap-next-requires c = put_there 0 header c.args.output.now (omega arith) c.put.ensures.next

pub put_steps-requires : goal.put_steps-requires
put_steps-requires c =
    let first = puts-next 0 header c.args.output.now (omega arith) c.unwrap-next.ensures c.put.ensures.next c.put.ensures.area in
    ((reads (goal.at.put_steps-requires c).In-Ok).back.sound, omega (arith, first.behind, puts-length first))

pub returns-in-Ok : goal.returns-in-Ok
returns-in-Ok c =
    listed_text (reads (goal.at.returns-in-Ok c).In-Ok)
    (puts-next 0 header c.args.output.now (omega arith) c.unwrap-next.ensures c.put.ensures.next c.put.ensures.area)
    c.put_steps.ensures

pub returns-in-Err : goal.returns-in-Err
returns-in-Err c =
    let skips = c.area-skips.ensures in
    let postings = c.area-postings.ensures in
    let image = c.area-image.ensures in
    rw (wrote_none _ _ _ _ _ c.requires (small _ c.type_inv.freqs) c.write_list.ensures _ skips postings image c.in-Err.is)
    c.put_refusal.ensures
