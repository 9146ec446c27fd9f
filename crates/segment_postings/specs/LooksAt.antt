-- The bytes that a call which lands on a block looks at: those before the posting bytes, and those of the block that the entries lead to.
-- Assumes nothing.
use Rattle.std.specs.Prelude.{◌≡◌, ℕ, ◌+◌, ◌-◌, List, length, take, drop, nat_lt, Ok}
use Rattle.format.specs.declared.Layout.{Layout}
use Rattle.format.specs.declared.Term.{Term}
use Rattle.format.specs.Basics.{Outcome, choose}
use Rattle.format.specs.SkipEntry.{read_entry, block_size_of}
use Rattle.format.specs.Layout.{full_blocks_of, skip_bytes_of}
use Rattle.segment_postings.specs.declared.find.Found.{Found}
use Rattle.segment_postings.specs.declared.Held.{Held}
use Rattle.segment_postings.specs.Landing.{find_block_of}
use Rattle.segment_postings.specs.Cursor.{start_behind_of}

-- two images of one length that are the same before the posting bytes: skip length and entries
pub record SameFront (l : Layout) (bs bs' : List ℕ) : Type 0 where
  pub long : length bs ≡ length bs'
  pub front : take l.postings bs ≡ take l.postings bs'

-- the bytes of the block found: of a full block those that its entry gives it, of the tail all that are left
abbrev pub bytes_of : Term → Found → List ℕ → List ℕ
bytes_of t f bs = choose (nat_lt f.block (full_blocks_of t)) (λ _. take (block_size_of f.info) (drop f.at bs)) (λ _. drop f.at bs)

-- the block that the entries lead a cursor to that leaves its own
abbrev pub leads_to : Held → List ℕ → Term → Layout → ℕ → Outcome Found
leads_to h bs t l target = find_block_of l.option (skip_bytes_of l bs) bs target (full_blocks_of t - (h.block + 1)) (start_behind_of h)

-- two images that are the same in that block, if the entries lead to one
abbrev pub SameThere : Held → Term → Layout → List ℕ → List ℕ → ℕ → Type 0
SameThere h t l bs bs' target = (f : Found) → leads_to h bs t l target ≡ Ok f → bytes_of t f bs ≡ bytes_of t f bs'

-- where the first full block ends, by entry 0 alone
abbrev pub first_end : Layout → List ℕ → ℕ
first_end l bs = l.postings + block_size_of (read_entry l.option (skip_bytes_of l bs))
