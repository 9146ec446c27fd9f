-- `serializer::image::Image::head_size` meets its contract: where there is a full block, the bytes are the length's and the entries'.
-- Assumes nothing.
use Rattle.std.proofs.Common.{sym, ap, length, arith}
use Rattle.std.proofs.Math.ListN.{length-append}
use Rattle.format.specs.Vint.{vint}
use Rattle.format.proofs.Vints.{vint-length-le}
use Rattle.serializer.proofs.Laws.ImagePieces.{head_none, head_some}
use Rattle.serializer.proofs.image.Image.head_size.Goals as goal

pub returns-then-self-eq0 : goal.returns-then-self-eq0
returns-then-self-eq0 c = sym (ap length (head_none _ _ c.if-self-eq0.true))

pub overflow_add-result : goal.overflow_add-result
overflow_add-result c =
    let n = length c.args.self.now.skips.now in
    omega (arith, c.vint_size.ensures, vint-length-le 10 n (omega arith) (omega arith))

pub returns : goal.returns
returns c =
    let skips = c.args.self.now.skips.now in
    rw (c.vint_size.ensures, head_some _ _ c.if-self-eq0.false) (sym (length-append (vint (length skips)) skips))
