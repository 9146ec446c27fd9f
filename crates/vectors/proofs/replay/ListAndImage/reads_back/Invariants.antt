-- The walk beside the whole list is the walk beside the documents still to come from the present cursor.
use Rattle.std.proofs.Common.{◌≡◌, length}
use Rattle.std.specs.Iterator.Adapters.{zip_first, zip_second}
use Rattle.std.specs.Slice.Iter.{iter_rest}
use Rattle.vectors.specs.Replay.{walks}
use Rattle.vectors.proofs.replay.ListAndImage.reads_back.Given as goal

abbrev pub invariant-loop-id : goal.invariant-loop-id
invariant-loop-id l =
    let ds = iter_rest (zip_first l.id-iterator) in
    let fs = iter_rest (zip_second l.id-iterator) in
    record {
      as_many : length ds ≡ length fs;
      so_far : walks l.kept l.self.image.now l.term l.initial.moved l.self.ids.now l.self.freqs.now ≡ walks l.kept l.self.image.now l.term l.moved ds fs;
    }
