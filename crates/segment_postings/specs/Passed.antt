-- What a walk to a target passes in a block.
-- Assumes nothing.
use Rattle.std.specs.Prelude.{◌≡◌, ℕ, ◌*◌, ◌≤◌, List, length, take, ◌==◌, nat_lt}
use Rattle.format.specs.declared.Term.{Term}
use Rattle.format.specs.Basics.{choose}
use Rattle.format.specs.Layout.{full_blocks_of, tail_length}
use Rattle.format.specs.Counts.{count_below, sum}
use Rattle.segment_postings.specs.declared.counts.Front.{Front}

-- how many documents block b holds: a full one 128, the tail what is left
unfoldable pub docs_in_of : Term → ℕ → ℕ
unfolding choose full_blocks_of tail_length
docs_in_of t b = choose (nat_lt b (full_blocks_of t)) (λ _. 128) (λ _. tail_length t)

-- the documents below the target at the front of a block: the sum of their frequencies, 32 bits each, and whether they are all
pub record FrontOf (docs freqs : List ℕ) (target : ℕ) (r : Front) : Type 0 where
  pub freqs_are : r.freqs ≡ sum (take (count_below target docs) freqs)
  pub freqs_most : r.freqs ≤ 128 * 4294967295
  pub whole_is : r.whole ≡ (count_below target docs == length docs)
