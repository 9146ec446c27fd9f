-- `serializer::image::Image::put_tail` meets its contract: the frequencies go behind the ids.
-- Assumes nothing.
use Rattle.format.specs.Written.{tail_of_of}
use Rattle.format.proofs.Area.{fits-front}
use Rattle.serializer.proofs.Laws.ImagePieces.{put_there, put_first, put_both, room-behind}
use Rattle.serializer.proofs.image.Image.put_tail.Goals as goal

pub unwrap-freqs_at-requires : goal.unwrap-freqs_at-requires
unfolding tail_of_of
unwrap-freqs_at-requires c = put_there _ _ _ (fits-front _ _ _ _ c.requires) c.compress_sorted.ensures.value

pub put_freqs-requires : goal.put_freqs-requires
unfolding tail_of_of
put_freqs-requires c =
    let put = c.compress_sorted.ensures in
    room-behind _ _ _ _ c.requires (put_first _ c.requires c.unwrap-freqs_at.ensures put.value put.dst_after)

pub returns : goal.returns
unfolding tail_of_of
returns c =
    let put = c.compress_sorted.ensures in
    put_both _ _ _ _ c.requires (put_first _ c.requires c.unwrap-freqs_at.ensures put.value put.dst_after) c.put_freqs.ensures
