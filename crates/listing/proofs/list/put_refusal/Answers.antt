-- `listing::list::put_refusal` meets its contract: there is room for the line.
use Rattle.std.proofs.Common.{arith}
use Rattle.serializer.proofs.Laws.ImagePieces.{put_there}
use Rattle.listing.specs.Output.{refusal}
use Rattle.listing.proofs.Putting.{puts-next}
use Rattle.listing.proofs.list.put_refusal.Goals as goal

pub unwrap-requires : goal.unwrap-requires
unwrap-requires c = put_there 0 refusal c.args.output.now (omega arith) c.put.ensures.next

pub returns : goal.returns
returns c = puts-next 0 refusal c.args.output.now (omega arith) c.unwrap.ensures c.put.ensures.next c.put.ensures.area
