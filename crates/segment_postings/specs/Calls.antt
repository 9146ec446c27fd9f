-- How the contracts of the public calls say an outcome: the parts of an image, a cursor in parts, what is lent.
-- Assumes nothing.
use Rattle.std.specs.Prelude.{◌≡◌, ℕ, ◌+◌, ◌-◌, ◌/◌, List, [], length, take, drop, ◌==◌, nat_le, Ok, Err, Option, None, Some}
use Rattle.format.specs.Basics.{Outcome, ask, choose, or_before}
use Rattle.format.specs.declared.refusal.Refusal.TheVariants.{SkipLengthBroken}
use Rattle.format.specs.declared.Term.{Term}
use Rattle.format.specs.Vint.{skip_length}
use Rattle.segment_postings.specs.declared.Answer.{Answer}
use Rattle.segment_postings.specs.declared.Moved.{Moved}
use Rattle.segment_postings.specs.declared.SegmentPostings.{SegmentPostings}
use Rattle.segment_postings.specs.declared.Held.{Held}
use Rattle.segment_postings.specs.declared.Sought.{Sought}
use Rattle.segment_postings.specs.declared.layout.Split.{Split}
use Rattle.segment_postings.specs.Cursor.{hit_of}

-- ---- the split: the skip bytes and the posting bytes as parts of the image; question 3 alone is asked

-- where the skip bytes and the posting bytes begin, both at 0 where there is no full block; or that the answer is no
unfoldable pub split_behind : List ℕ → Option (ℕ × ℕ) → Outcome Split
unfolding ask
split_behind bs None = Err SkipLengthBroken
split_behind bs (Some (size, used)) =
    ask (nat_le size (length bs - used)) SkipLengthBroken λ _. Ok (record { skips = used; postings = used + size })

unfoldable pub split_of : ℕ → List ℕ → Outcome Split
unfolding choose split_behind skip_length
split_of count bs =
    choose (count / 128 == 0) (λ _. Ok (record { skips = 0; postings = 0 })) (λ _. split_behind bs (skip_length bs))

-- a part by those places; where the answer is no both are empty
unfoldable pub part_of : (ℕ → ℕ → List ℕ) → Outcome Split → List ℕ
part_of part (Ok s) = part s.skips s.postings
part_of part (Err r) = []

abbrev pub skips_at : List ℕ → ℕ → ℕ → List ℕ
skips_at bs skips postings = take (postings - skips) (drop skips bs)

abbrev pub postings_at : List ℕ → ℕ → ℕ → List ℕ
postings_at bs skips postings = drop postings bs

unfoldable pub skip_part : ℕ → List ℕ → List ℕ
unfolding part_of split_of
skip_part count bs = part_of (skips_at bs) (split_of count bs)

unfoldable pub posting_part : ℕ → List ℕ → List ℕ
unfolding part_of split_of
posting_part count bs = part_of (postings_at bs) (split_of count bs)

-- ---- outcomes

-- a call on a lent cursor answers as m does, and leaves its cursor
abbrev pub Leaves : Moved → Outcome Answer → SegmentPostings → Type 0
Leaves m answer after = (answer ≡ m.answer) × (after ≡ m.cursor)

-- ---- the cursor in parts

abbrev pub cursor_of : Held → List ℕ → List ℕ → SegmentPostings
cursor_of held docs freqs = record { docs = docs; held = held; freqs = freqs }

unfoldable pub reached : Outcome SegmentPostings → Outcome Held
reached (Ok c) = Ok c.held
reached (Err n) = Err n

-- a call on two lent arrays and the numbers: where it came to, and what the arrays hold; a refusal leaves them as they were
pub record Reaches (o : Outcome SegmentPostings) (docs freqs docs' freqs' : List ℕ) (r : Outcome Held) : Type 0 where
  pub answer : r ≡ reached o
  pub docs_after : docs' ≡ or_before (λ c. c.docs) o docs
  pub freqs_after : freqs' ≡ or_before (λ c. c.freqs) o freqs

-- a seek's answer without its hit
unfoldable pub without_hit : Outcome Sought → Outcome Held
without_hit (Ok s) = Ok s.held
without_hit (Err n) = Err n

-- a seek on two lent arrays: where it came to, as `Reaches` says it, and whether its target is the document there
pub record Finds (t : Term) (target : ℕ) (o : Outcome SegmentPostings) (docs freqs docs' freqs' : List ℕ) (r : Outcome Sought) : Type 0 where
  pub reaches : Reaches o docs freqs docs' freqs' (without_hit r)
  pub hit_there : {s : Sought} → r ≡ Ok s → s.hit ≡ hit_of t target (cursor_of s.held docs' freqs')
