-- `serializer::image::Image::put_freqs` meets its contract: where no frequency is kept, nothing is written.
-- Assumes nothing.
use Rattle.std.proofs.Common.{sym, ◌∙◌}
use Rattle.format.specs.SkipEntry.{has_freq_of}
use Rattle.format.specs.Vint.{vints}
use Rattle.serializer.proofs.Laws.ImagePieces.{all-kept, left_out, put-none, put_there, put_next}
use Rattle.serializer.proofs.image.Image.put_freqs.Goals as goal

pub unwrap-requires : goal.unwrap-requires
unwrap-requires c =
    let a = c.args in
    let all = all-kept (has_freq_of a.self.now.option) (vints a.self.now.freqs.now) (sym c.has_freq.ensures ∙ c.if-has_freq.true) in
    put_there a.at (vints a.self.now.freqs.now) a.output.now (rw all at c.requires) c.compress_unsorted.ensures.value

pub returns-then-has_freq : goal.returns-then-has_freq
returns-then-has_freq c =
    let a = c.args in
    let all = all-kept (has_freq_of a.self.now.option) (vints a.self.now.freqs.now) (sym c.has_freq.ensures ∙ c.if-has_freq.true) in
    rw all (put_next a.at (vints a.self.now.freqs.now) a.output.now (rw all at c.requires) c.unwrap.ensures
    c.compress_unsorted.ensures.value c.compress_unsorted.ensures.dst_after)

pub returns-else-has_freq : goal.returns-else-has_freq
returns-else-has_freq c =
    let a = c.args in
    rw (left_out (has_freq_of a.self.now.option) (vints a.self.now.freqs.now) (sym c.has_freq.ensures ∙ c.if-has_freq.false)) (put-none a.at a.output.now)
