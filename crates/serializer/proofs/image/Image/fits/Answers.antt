-- `serializer::image::Image::fits` meets its contract: the sizes are those of the image's parts.
-- Assumes nothing.
use Rattle.std.proofs.Common.{ℕ, sym, ap, ◌∙◌, nat_le}
use Rattle.serializer.proofs.Laws.ImagePieces.{image-length}
use Rattle.serializer.proofs.image.Image.fits.Goals as goal

pub returns : goal.returns
returns c =
    c.parts_fit.ensures
    ∙ ap (λ (n : ℕ). nat_le n c.args.len)
    (rw (c.head_size.ensures, c.sorted_size.ensures, c.freqs_size.ensures)
    (sym (image-length c.args.self.now.full _ _ c.args.self.now.option c.args.self.now.offset _ _)))
