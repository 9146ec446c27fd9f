-- `serializer::list::WholeList::write` meets its contract: the sizes answer question 15 before a byte is written.
-- Assumes nothing.
use Rattle.std.proofs.Common.{sym, ◌∙◌}
use Rattle.serializer.proofs.list.ListCases.{put_refused, blocks-fit, parts-there, put_all}
use Rattle.serializer.proofs.list.WholeList.write.Goals as goal

pub returns-then-not-fits : goal.returns-then-not-fits
returns-then-not-fits c = put_refused _ _ _ _ _ _ (sym c.fits.ensures ∙ c.if-not-fits.true)

pub write_blocks-requires : goal.write_blocks-requires
write_blocks-requires c = blocks-fit _ _ _ _ _ c.args.output.now (sym c.fits.ensures ∙ c.if-not-fits.false)

pub image-requires : goal.image-requires
image-requires c =
    parts-there _ _ _ _ _ c.args.output.now (sym c.fits.ensures ∙ c.if-not-fits.false)
    c.sizes-sizes.ensures c.write_blocks.ensures

pub returns : goal.returns
returns c =
    put_all _ _ _ _ _ _ (sym c.fits.ensures ∙ c.if-not-fits.false)
    c.sizes-sizes.ensures c.write_blocks.ensures (rw c.image.ensures at c.put.ensures)
