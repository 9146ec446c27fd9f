-- `serializer::image::Image::freqs_size` meets its contract: where no frequency is kept, there are no bytes.
-- Assumes nothing.
use Rattle.std.proofs.Common.{sym, ap, ◌∙◌, length}
use Rattle.serializer.proofs.Laws.ImagePieces.{all-kept, left_out}
use Rattle.serializer.proofs.image.Image.freqs_size.Goals as goal

pub returns-then-has_freq : goal.returns-then-has_freq
returns-then-has_freq c = c.unsorted_size.ensures ∙ sym (ap length (all-kept _ _ (sym c.has_freq.ensures ∙ c.if-has_freq.true)))

pub returns-else-has_freq : goal.returns-else-has_freq
returns-else-has_freq c = sym (ap length (left_out _ _ (sym c.has_freq.ensures ∙ c.if-has_freq.false)))
