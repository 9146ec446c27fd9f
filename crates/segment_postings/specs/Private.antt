-- What the private functions below the calls want and leave.
-- Assumes nothing.
use Rattle.std.specs.Prelude.{◌≡◌, ℕ, ◌+◌, ◌≤◌, Bool, false, List, length, drop, Ok, Err}
use Rattle.format.specs.declared.Layout.{Layout}
use Rattle.format.specs.declared.Term.{Term}
use Rattle.format.specs.Basics.{Outcome, and_then, TERMINATED}
use Rattle.format.specs.Model.{Call, step, seek}
use Rattle.format.specs.SkipEntry.{block_size_of}
use Rattle.format.specs.Layout.{full_blocks_of}
use Rattle.format.specs.Reading.{Block, kept_by}
use Rattle.segment_postings.specs.declared.Held.{Held}
use Rattle.segment_postings.specs.declared.SegmentPostings.{SegmentPostings}
use Rattle.segment_postings.specs.declared.Sought.{Sought}
use Rattle.segment_postings.specs.declared.find.Found.{Found}
use Rattle.segment_postings.specs.declared.find.Start.{Start}
use Rattle.segment_postings.specs.declared.load.Loaded.{Loaded}
use Rattle.segment_postings.specs.declared.seeks.Call.{Call as Asked}
use Rattle.segment_postings.specs.declared.seeks.Call.TheVariants.{Advance, Seek}
use Rattle.segment_postings.specs.declared.seeks.Went.{Went}
use Rattle.segment_postings.specs.Landing.{load_block_of, padded, holding}
use Rattle.segment_postings.specs.Cursor.{answer_at_of, hit_of}
use Rattle.segment_postings.specs.Calls.{cursor_of, reached}

-- ---- the block that is found

-- what a search starts from: a block, at most the tail; where its bytes begin; and entries read, at most one for each block before it,
-- so that no count wraps
pub record FindsFrom (t : Term) (bs : List ℕ) (s : Start) : Type 0 where
  pub block_most_is : s.block ≤ full_blocks_of t
  pub inside : s.at ≤ length bs
  pub entries_most : s.entries ≤ s.block

-- ---- .. and unpacked

-- a block that was found: its bytes are there
pub record FoundThere (t : Term) (bs : List ℕ) (f : Found) : Type 0 where
  pub inside : f.at ≤ length bs
  pub doc_width : f.info.doc_width ≤ 31
  pub freq_width : f.info.freq_width ≤ 32
  pub bytes : f.at + block_size_of f.info ≤ length bs

unfoldable pub counted : ℕ → Bool → Outcome Block → Outcome Loaded
counted unpacked kept (Ok b) = Ok (record { unpacked = unpacked + 1; kept = kept })
counted unpacked kept (Err n) = Err n

-- a block's documents and frequencies in two lent arrays of 128 places, and whether its image keeps frequencies; of a refusal's arrays
-- nothing is told
pub record BlockLoaded (t : Term) (l : Layout) (bs : List ℕ) (f : Found) (unpacked : ℕ) (docs freqs : List ℕ) (r : Outcome Loaded) : Type 0 where
  pub answer : r ≡ counted unpacked (kept_by t l (drop f.at bs)) (load_block_of t l bs f)
  pub docs_are : (b : Block) → load_block_of t l bs f ≡ Ok b → docs ≡ padded TERMINATED b.docs
  pub freqs_are : (b : Block) → load_block_of t l bs f ≡ Ok b → freqs ≡ padded 1 b.freqs

-- the cursor at the first place of a block that was found
unfoldable pub loaded : Term → Layout → List ℕ → Found → ℕ → Outcome SegmentPostings
unfolding and_then load_block_of holding
loaded t l bs f unpacked = and_then (load_block_of t l bs f) λ block. Ok (holding f unpacked block)

-- a call on two arrays that its caller may lose: where it came to, and what they then hold
pub record Lands (o : Outcome SegmentPostings) (docs freqs : List ℕ) (r : Outcome Held) : Type 0 where
  pub answer : r ≡ reached o
  pub docs_are : (c : SegmentPostings) → o ≡ Ok c → docs ≡ c.docs
  pub freqs_are : (c : SegmentPostings) → o ≡ Ok c → freqs ≡ c.freqs

-- ---- what the calls by value do on their cursor's arrays

-- a cursor's numbers, with whether the target is the document there
unfoldable pub told_of : Term → ℕ → SegmentPostings → Sought
unfolding hit_of
told_of t target c = record { held = c.held; hit = hit_of t target c }

-- where a call without a target came to: no hit
unfoldable pub untargeted_of : Outcome Held → Outcome Sought
untargeted_of (Ok held) = Ok (record { held = held; hit = false })
untargeted_of (Err n) = Err n

-- where a call on two arrays came to, with its answer; a refusal leaves the numbers as they were
unfoldable pub with_answer_of : Term → (was : Held) → (docs freqs : List ℕ) → Outcome Sought → Went
unfolding answer_at_of
with_answer_of t was docs freqs (Ok s) = record { answer = Ok (answer_at_of t s.hit (cursor_of s.held docs freqs)); held = s.held }
with_answer_of t was docs freqs (Err n) = record { answer = Err n; held = was }

-- the call that `go` makes: a step, or a seek to the target
unfoldable pub call_by : Asked → Call
call_by Advance = step
call_by (Seek target) = seek target
