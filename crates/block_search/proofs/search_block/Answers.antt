-- `block_search::search_block` meets its contract: each count equals its definition, and so does the hit. That the definition counts
-- the smaller ids is the law `search_is-count`, that a hit tells whether the target is in the block the law `search_hits`.
use Rattle.std.proofs.Common.{◌≡◌, ◌∙◌, ◌+◌, ◌*◌, arith}
use Rattle.block_search.specs.Search.{search_block_of}
use Rattle.block_search.proofs.Search.{search_is-count}
use Rattle.block_search.proofs.Hits.{search_hits}
use Rattle.block_search.proofs.search_block.Goals as goal

pub returns : goal.returns
unfolding search_block_of
returns c =
    let a = c.args in
    let is : c.pivots_below-base.result * 16 + c.pivots_below.result * 2 + c.pivots_below-2.result ≡ search_block_of a.arr.now a.target = cc in
    record {
      place = is;
      hit = c.stands.ensures;
      counts_smaller = λ never reaches. is ∙ (search_is-count a.arr.now a.target never reaches).0;
      hits_member = λ never reaches. rw (c.stands.ensures, is) (search_hits a.arr.now a.target (omega arith) never reaches);
    }
