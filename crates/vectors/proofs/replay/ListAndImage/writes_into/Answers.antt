-- `vectors::replay::ListAndImage::writes_into` meets its contract: a refusal is no image, and else the bytes written are compared.
use Rattle.std.proofs.Common.{sym, ◌∙◌}
use Rattle.std.proofs.Math.Seq.{length-take-le}
use Rattle.vectors.proofs.Images.{image-refused, image-within, image_compared}
use Rattle.vectors.proofs.replay.ListAndImage.writes_into.Goals as goal

pub slice_bounds-eq-end : goal.slice_bounds-eq-end
slice_bounds-eq-end c =
    image-within c.args.self.now.mode c.args.self.now.recording _ _ c.args.self.now.image.now _ _ _ _ _ _ _ c.write_list.ensures _ c.in-Ok.is

pub slice_bounds-eq-end-in-Ok : goal.slice_bounds-eq-end-in-Ok
slice_bounds-eq-end-in-Ok c =
    sym (length-take-le _ _
    (image-within c.args.self.now.mode c.args.self.now.recording _ _ c.args.self.now.image.now _ _ _ _ _ _ _ c.write_list.ensures _ c.in-Ok.is))

pub returns-in-Ok : goal.returns-in-Ok
returns-in-Ok c =
    c.eq.ensures ∙ image_compared c.args.self.now.mode c.args.self.now.recording _ _ c.args.self.now.image.now _ _ _ _ _ _ _ c.write_list.ensures _ c.in-Ok.is

pub returns-in-Err : goal.returns-in-Err
returns-in-Err c =
    sym (image-refused c.args.self.now.mode c.args.self.now.recording _ _ c.args.self.now.image.now _ _ _ _ _ _ _ c.write_list.ensures _ c.in-Err.is)
