-- The calls on a cursor: what each answers and leaves, on every input.
-- Assumes nothing.
use Rattle.format.specs.declared.refusal.Refusal.TheVariants.{EntryBroken, TargetTooLarge, StateBroken}
use Rattle.std.specs.Prelude.{ℕ, ◌+◌, ◌*◌, min, Bool, false, ◌&&◌ as and, ◌||◌ as or, List, length, replicate, ◌==◌, nat_le, nat_lt, slice_index, Ok, Err}
use Rattle.format.specs.declared.Layout.{Layout}
use Rattle.format.specs.declared.Term.{Term}
use Rattle.format.specs.Basics.{Outcome, and_then, ask, choose, TERMINATED}
use Rattle.format.specs.Layout.{layout, full_blocks_of}
use Rattle.block_search.specs.Search.{search_block_of, stands_at}
use Rattle.segment_postings.specs.declared.SegmentPostings.{SegmentPostings}
use Rattle.segment_postings.specs.declared.Answer.{Answer}
use Rattle.segment_postings.specs.declared.Held.{Held}
use Rattle.segment_postings.specs.declared.Moved.{Moved}
use Rattle.segment_postings.specs.declared.find.Start.{Start}
use Rattle.segment_postings.specs.Landing.{first_start_of, landing}

unfoldable pub position : Held → ℕ
position h = 128 * h.block + h.place

-- question 16, of an image of `size` bytes: block at most F, place below 128, position at most count, bytes inside the image, unpacked
-- at most block + 1, entries at most the smaller of block + 1 and F
unfoldable pub in_bounds_of : Term → (size : ℕ) → Held → Bool
unfolding full_blocks_of position
in_bounds_of t size h =
    and (nat_le h.block (full_blocks_of t))
    (and (nat_lt h.place 128)
    (and (nat_le (position h) t.count)
    (and (nat_le h.next size)
    (and (nat_le h.unpacked (h.block + 1))
    (nat_le h.entries (min (h.block + 1) (full_blocks_of t)))))))

-- the document and the frequency at the position, at the end TERMINATED and 0, with the hit that a call tells
unfoldable pub answer_at_of : Term → (hit : Bool) → SegmentPostings → Answer
unfolding choose position
answer_at_of t hit c =
    let h : Held = c.held in
    choose (position h == t.count)
    (λ _. record { doc = TERMINATED; freq = 0; unpacked = h.unpacked; entries = h.entries; hit = hit })
    (λ _. record {
      doc = slice_index c.docs h.place;
      freq = slice_index c.freqs h.place;
      unpacked = h.unpacked;
      entries = h.entries;
      hit = hit;
    })

-- .. as a call of its own answers it, of any numbers: 16 for a place that no block has. It has no target, so no hit
unfoldable pub answering : Term → SegmentPostings → Outcome Answer
unfolding ask answer_at_of
answering t c = ask (nat_lt c.held.place 128) StateBroken λ _. Ok (answer_at_of t false c)

-- the hit of a call without a target
abbrev pub no_hit : SegmentPostings → Bool
no_hit c = false

-- an outcome with its answer, and the hit there; a refused call leaves the cursor as it was
unfoldable pub moved : Term → SegmentPostings → (hit : SegmentPostings → Bool) → Outcome SegmentPostings → Moved
unfolding answer_at_of
moved t before hit (Ok c) = record { answer = Ok (answer_at_of t (hit c) c); cursor = c }
moved t before hit (Err n) = record { answer = Err n; cursor = before }

-- an opened block starts as 128 places holding TERMINATED, with frequency 1; a refused opening leaves it so, at none of the places: every
-- call on it is refused (16)
unfoldable pub blank : SegmentPostings
blank = record {
  docs = replicate 128 TERMINATED;
  held = record { place = 128; block = 0; next = 0; last_doc = 0; unpacked = 0; entries = 0 };
  freqs = replicate 128 1;
}

-- opening reads entry 0, if any, and unpacks block 0
unfoldable pub opening : List ℕ → Term → Outcome SegmentPostings
unfolding and_then layout landing
opening bs t = and_then (layout t bs) λ l. landing t bs l 0 (first_start_of l)

unfoldable pub opened : List ℕ → Term → Moved
unfolding moved blank opening
opened bs t = moved t blank no_hit (opening bs t)

-- the place p of the held block: the numbers there, and the cursor
abbrev pub held_at : Held → ℕ → Held
held_at h p = record {
  place = p;
  block = h.block;
  next = h.next;
  last_doc = h.last_doc;
  unpacked = h.unpacked;
  entries = h.entries;
}

unfoldable pub at_place : SegmentPostings → ℕ → SegmentPostings
at_place c p = record { docs = c.docs; held = held_at c.held p; freqs = c.freqs }

-- the least id that may follow a last id; none may follow TERMINATED
unfoldable pub least_after_of : ℕ → ℕ
least_after_of last = min (last + 1) TERMINATED

-- whether block b, which begins at place `at` of the image, begins inside the posting bytes. It is a part of question 5, which is asked
-- of entries: the tail has none
unfoldable pub starts_inside_of : Term → Layout → ℕ → ℕ → Bool
unfolding full_blocks_of
starts_inside_of t l b at = or (nat_le (full_blocks_of t) b) (nat_le l.postings at)

-- the block behind the held one
abbrev pub start_behind_of : Held → Start
start_behind_of h = record {
  block = h.block + 1;
  at = h.next;
  least = least_after_of h.last_doc;
  entries = h.entries;
  unpacked = h.unpacked;
}

-- another block: questions 1 to 4 are asked again of the image that is passed, then 5 to 9. A lent cursor that didn't come
-- from this image may place its next block before the posting bytes; blocks found behind that one begin behind it
unfoldable pub leaving : Held → List ℕ → Term → ℕ → Outcome SegmentPostings
unfolding and_then ask layout starts_inside_of landing least_after_of
leaving h bs t target =
    and_then (layout t bs) λ l.
    ask (starts_inside_of t l (h.block + 1) h.next) EntryBroken λ _.
    landing t bs l target (start_behind_of h)

-- a step: 16; at the end nothing; else one place on, in the held block or the next
unfoldable pub stepping : SegmentPostings → List ℕ → Term → Outcome SegmentPostings
unfolding ask choose in_bounds_of position at_place leaving
stepping c bs t =
    ask (in_bounds_of t (length bs) c.held) StateBroken λ _.
    choose (position c.held == t.count) (λ _. Ok c) λ _.
    choose (nat_lt (c.held.place + 1) 128) (λ _. Ok (at_place c (c.held.place + 1))) λ _.
    leaving c.held bs t 0

unfoldable pub advanced : SegmentPostings → List ℕ → Term → Moved
unfolding moved stepping
advanced c bs t = moved t c no_hit (stepping c bs t)

-- what stands at the position among 128 values, as a call of its own: 16; at the end `end`
unfoldable pub value_at : List ℕ → ℕ → Held → List ℕ → Term → Outcome ℕ
unfolding ask choose in_bounds_of position
value_at values end h bs t =
    ask (in_bounds_of t (length bs) h) StateBroken λ _.
    choose (position h == t.count) (λ _. Ok end) (λ _. Ok (slice_index values h.place))

-- the document at the position, at the end TERMINATED
unfoldable pub doc_at : SegmentPostings → List ℕ → Term → Outcome ℕ
unfolding value_at
doc_at c bs t = value_at c.docs TERMINATED c.held bs t

-- the frequency at the position, at the end 0
unfoldable pub freq_at : SegmentPostings → List ℕ → Term → Outcome ℕ
unfolding value_at
freq_at c bs t = value_at c.freqs 0 c.held bs t

-- ---- seeks

-- the place that the search of the held ids answers. Where they never fall and the last reaches the target it is the first whose id is at
-- least the target; of other arrays, which no image gives, nothing is said but that it is `search_block_of`
unfoldable pub place_of : SegmentPostings → ℕ → ℕ
unfolding search_block_of
place_of c target = search_block_of c.docs target

-- in the held block. Held values that fit no image (16 tests numbers, not values) may have no such place behind the present one, or
-- one behind the count: 16
unfoldable pub within : SegmentPostings → Term → ℕ → Outcome SegmentPostings
unfolding ask place_of at_place
within c t target =
    let p : ℕ = place_of c target in
    ask
    (and (nat_lt c.held.place p)
    (and (nat_lt p 128)
    (and (nat_le target (slice_index c.docs p))
    (nat_le (128 * c.held.block + p) t.count))))
    StateBroken
    λ _. Ok (at_place c p)

-- behind the held block: the block that the entries lead to. Held values that fit no image may give the tail, behind which there is no
-- block, a last id below the target: 16
unfoldable pub behind : SegmentPostings → List ℕ → Term → ℕ → Outcome SegmentPostings
unfolding ask and_then full_blocks_of leaving at_place place_of
behind c bs t target =
    ask (nat_lt c.held.block (full_blocks_of t)) StateBroken λ _.
    and_then (leaving c.held bs t target) λ landed. Ok (at_place landed (place_of landed target))

-- a seek: 16; 10, at the end too (document 02, Ask 10); at the end nothing; a target not behind the present document stays; then the held
-- block, if its last id is at least the target, else the blocks behind it
unfoldable pub seeking : SegmentPostings → List ℕ → Term → ℕ → Outcome SegmentPostings
unfolding ask choose in_bounds_of position within behind
seeking c bs t target =
    ask (in_bounds_of t (length bs) c.held) StateBroken λ _.
    ask (nat_le target TERMINATED) TargetTooLarge λ _.
    choose (position c.held == t.count) (λ _. Ok c) λ _.
    choose (nat_le target (slice_index c.docs c.held.place)) (λ _. Ok c) λ _.
    choose (nat_le target c.held.last_doc) (λ _. within c t target) (λ _. behind c bs t target)

-- whether the target is the document at the position (document 02, Ask 2): at the end there is none, and TERMINATED is no document, whatever
-- the held values are
unfoldable pub hit_of : Term → ℕ → SegmentPostings → Bool
unfolding choose position stands_at
hit_of t target c =
    and (nat_lt target TERMINATED)
    (choose (position c.held == t.count) (λ _. false) (λ _. stands_at c.docs target c.held.place))

unfoldable pub sought : SegmentPostings → List ℕ → Term → ℕ → Moved
unfolding moved seeking hit_of
sought c bs t target = moved t c (hit_of t target) (seeking c bs t target)

-- a fresh cursor that seeks once
unfoldable pub seeking_fresh : List ℕ → Term → ℕ → Outcome SegmentPostings
unfolding and_then opening seeking
seeking_fresh bs t target = and_then (opening bs t) λ c. seeking c bs t target

-- rank: 10 first; then the position of such a cursor, requested 0
unfoldable pub ranking : ℕ → ℕ → List ℕ → ℕ → Outcome ℕ
unfolding ask and_then seeking_fresh position
ranking mode count bs target =
    let t : Term = record { mode = mode; requested = 0; count = count } in
    ask (nat_le target TERMINATED) TargetTooLarge λ _.
    and_then (seeking_fresh bs t target) λ c. Ok (position c.held)
