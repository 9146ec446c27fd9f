-- A walk by steps over a whole image: what its calls answer, and the first refusal that it meets.
-- Assumes nothing.
use Rattle.std.specs.Prelude.{◌≡◌, ℕ, zero, suc, ◌+◌, ◌/◌, ◌<◌, min, false, List, ◌≢◌, slice_index, slice_index_or, Ok, Err}
use Rattle.format.specs.declared.Term.{Term}
use Rattle.format.specs.Basics.{TERMINATED}
use Rattle.format.specs.Layout.{full_blocks_of}
use Rattle.format.specs.Reading.{reading, docs_of, freqs_of}
use Rattle.format.specs.declared.refusal.Refusal.{Refusal}
use Rattle.segment_postings.specs.declared.Moved.{Moved}
use Rattle.segment_postings.specs.Cursor.{opened, advanced}

-- opening and then k steps: what the last of these calls answers, and the cursor that it leaves
unfoldable pub walk_at : List ℕ → Term → ℕ → Moved
walk_at bs t zero = opened bs t
walk_at bs t (suc k) = advanced (walk_at bs t k).cursor bs t

-- call k shows document k and its frequency, with the blocks unpacked and the entries read by then
abbrev pub Shows : List ℕ → Term → ℕ → Type 0
Shows bs t k =
    let docs : List ℕ = docs_of (reading t bs).blocks in
    let freqs : List ℕ = freqs_of (reading t bs).blocks in
    (walk_at bs t k).answer ≡ Ok (record {
      doc = slice_index_or docs k TERMINATED;
      freq = slice_index freqs k;
      unpacked = k / 128 + 1;
      entries = min (full_blocks_of t) (k / 128 + 1);
      hit = false;
    })

-- the first refusal of the walk is r
pub record Meets (bs : List ℕ) (t : Term) (r : Refusal) : Type 0 where
  pub call : ℕ
  pub refuses : (walk_at bs t call).answer ≡ Err r
  pub first : (k : ℕ) (other : Refusal) → k < call → (walk_at bs t k).answer ≢ Err other

-- .. or there is none
abbrev pub MeetsNone : List ℕ → Term → Type 0
MeetsNone bs t = (k : ℕ) (r : Refusal) → (walk_at bs t k).answer ≢ Err r
