-- A walk by steps over any image, sound or not, block by block. What is kept at each block that it lands on is that the image's reading
-- is the blocks passed and then what is read from this one on. The arrays hold what is read of the block, so the answer at a place is
-- what the documents and frequencies that are read have at the position. The next landing begins where the definitions read on: it
-- brings the walk on, or is refused by the question that ends the reading.
-- Assumes nothing.
use Rattle.format.specs.declared.refusal.Refusal.{Refusal}
use Rattle.std.specs.Prelude.{◌≡◌, ℕ, ◌+◌, ◌*◌, ◌<◌, ◌≤◌, min, true, false, List, [], ◌∷◌, ◌++◌, length, get_or, Ok, Err}
use mathlib.Core.List.{append_assoc, append-nil}
use mathlib.Core.Path.{refl, sym, ap, ◌∙◌}
use native.Mathlib.Decide.{dec_le}
use native.Mathlib.Omega.{arith}
use borrow.Author.Tests.{eq-eqb, ne_eqb}
use lib.ListN.{length-append, get_or-append}
use lib.Seq.{get_or-append-add, get_or-take}
use Rattle.format.specs.declared.Layout.{Layout}
use Rattle.format.specs.declared.Term.{Term}
use Rattle.format.specs.Basics.{choose, TERMINATED}
use Rattle.format.specs.Layout.{layout, full_blocks_of}
use Rattle.format.specs.Reading.{Block, Reading, nothing, before, reading, docs_of, freqs_of}
use Rattle.format.proofs.Outcome.{ok_same, and_then-ok}
use Rattle.format.proofs.Sound.{layout-inside, whole-count}
use Rattle.segment_postings.specs.declared.SegmentPostings.{SegmentPostings}
use Rattle.segment_postings.specs.Landing.{holding, landing}
use Rattle.segment_postings.specs.Cursor.{in_bounds_of, answer_at_of, position, held_at, at_place, least_after_of, stepping}
use Rattle.segment_postings.specs.Private.{FindsFrom}
use Rattle.segment_postings.specs.Passed.{docs_in_of}
use Rattle.segment_postings.proofs.Admission.LandingReads.{BlockHeld, block_held, docs_in_full, docs_in_tail, reads_on, reads-last}
use Rattle.segment_postings.proofs.arrays.Question16.{in_bounds}
use Rattle.segment_postings.proofs.find.FoundBlock.{found_from, found-there}
use Rattle.segment_postings.proofs.Simulation.HoldsBlock.{get_or-there}
use Rattle.segment_postings.proofs.Laws.LandingParts.{starts-behind, leaving-laid, stepping-ended, stepping-within, stepping-leaves}
use Rattle.segment_postings.proofs.Laws.CursorTurns.{landing_is, answer_at_of-is}
use Rattle.segment_postings.proofs.Admission.WalkReads.{walking, walking-from, reading_at, found-same, reading-whole}

-- ---- blocks in a row

docs-append : (a b : List Block) → docs_of (a ++ b) ≡ docs_of a ++ docs_of b
unfolding docs_of
docs-append [] b = refl
docs-append (x ∷ a) b = rw (docs-append a b, append_assoc)

freqs-append : (a b : List Block) → freqs_of (a ++ b) ≡ freqs_of a ++ freqs_of b
unfolding freqs_of
freqs-append [] b = refl
freqs-append (x ∷ a) b = rw (freqs-append a b, append_assoc)

docs-one : (b : Block) → docs_of (b ∷ []) ≡ b.docs
unfolding docs_of
docs-one b = append-nil _

freqs-one : (b : Block) → freqs_of (b ∷ []) ≡ b.freqs
unfolding freqs_of
freqs-one b = append-nil _

docs-first : (b : Block) (bs : List Block) → docs_of (b ∷ bs) ≡ b.docs ++ docs_of bs
unfolding docs_of
docs-first b bs = refl

freqs-first : (b : Block) (bs : List Block) → freqs_of (b ∷ bs) ≡ b.freqs ++ freqs_of bs
unfolding freqs_of
freqs-first b bs = refl

-- place p of the middle one of three lists
middle : (a m r : List ℕ) (n p z : ℕ) → length a ≡ n → p < length m → get_or (a ++ (m ++ r)) (n + p) z ≡ get_or m p z
middle a m r n p z e h = rw (← e, get_or-append-add) (get_or-append m r z p h)

-- ---- the block that the walk is on

-- blocks passed, and what is read behind them
abbrev preceded : List Block → Reading → Reading
preceded front r = record { blocks = front ++ r.blocks; verdict = r.verdict }

module _ (t : Term) (bs : List ℕ) (l : Layout) (laid : layout t bs ≡ Ok l) where
  abbrev docs : List ℕ
  docs = docs_of (reading t bs).blocks

  abbrev freqs : List ℕ
  freqs = freqs_of (reading t bs).blocks

  -- block b begins at place `at` of the image, behind the blocks of `front`
  pub record BlocksPassed (b at least : ℕ) (front : List Block) : Type 0 where
    pub block_most_is : b ≤ full_blocks_of t
    pub behind_skips : l.postings ≤ at
    pub inside : at ≤ length bs
    pub reads : reading t bs ≡ preceded front (reading_at t l bs b at least)
    pub docs_many : length (docs_of front) ≡ 128 * b
    pub freqs_many : length (freqs_of front) ≡ 128 * b

  -- a cursor at the first place of block b
  pub record OnBlock (b : ℕ) (d : SegmentPostings) : Type 0 where
    pub at : ℕ
    pub least : ℕ
    pub front : List Block
    pub passed : BlocksPassed b at least front
    pub held : BlockHeld t l bs b at least d.held d.docs d.freqs
    pub block_is : d.held.block ≡ b
    pub place_is : d.held.place ≡ 0
    pub next_inside : d.held.next ≤ length bs
    pub unpacked_is : d.held.unpacked ≡ b + 1
    pub entries_are : d.held.entries ≡ min (full_blocks_of t) (b + 1)

  pub passed_none : BlocksPassed 0 l.postings 0 []
  unfolding docs_of freqs_of
  passed_none =
      record {
        block_most_is = omega arith;
        behind_skips = omega arith;
        inside = layout-inside t bs laid;
        reads = reading-whole t l bs laid;
        docs_many = refl;
        freqs_many = refl;
      }

  pub landing-on : {b at least : ℕ} {front : List Block} {d : SegmentPostings} → BlocksPassed b at least front
      → landing t bs l 0 (walking b at least) ≡ Ok d → OnBlock b d
  unfolding holding
  landing-on {b} {at} {least} {front} {d} k e =
      let found = and_then-ok _ _ (sym (landing_is t bs l 0 (walking b at least)) ∙ e) in
      let loads = and_then-ok _ _ found.2 in
      let same : holding found.0 b loads.0 ≡ d = ok_same loads.2 in
      let from : FindsFrom t bs (walking b at least) = walking-from t l bs k.block_most_is k.inside in
      let there = found-there t l bs 0 (walking b at least) from found.1 in
      let here = (found-same t l bs b at least found.1).0 in
      record {
        at = at;
        least = least;
        front = front;
        passed = k;
        held = block_held t l bs b at least k.inside e;
        block_is = sym (ap (λ (c : SegmentPostings). c.held.block) same) ∙ here;
        place_is = sym (ap (λ (c : SegmentPostings). c.held.place) same);
        next_inside = rw (ap (λ (c : SegmentPostings). c.held.next) same) at there.bytes;
        unpacked_is = sym (ap (λ (c : SegmentPostings). c.held.unpacked) same);
        entries_are = omega (
          arith,
          ap (λ (c : SegmentPostings). c.held.entries) same,
          (found_from t l bs 0 (walking b at least) from found.1).entries_read_is,
          k.block_most_is,
        );
      }

  module _ {b : ℕ} {d : SegmentPostings} (k : OnBlock b d) where
    abbrev block : Block
    block = k.held.block

    -- ---- what is read of it and behind it

    whole : (rest : Reading) × (reading t bs ≡ preceded k.front (before (Ok block) λ _. rest))
    whole = elim (dec_le (full_blocks_of t) b) [
      | yes past ↦
          (nothing (Ok tt), k.passed.reads ∙ ap (preceded k.front) (reads-last t l bs b k.at k.least k.held past))
      | no some ↦ (_, k.passed.reads ∙ ap (preceded k.front) (reads_on t l bs b k.at k.least k.held (omega arith)))
    ]

    docs_are : docs ≡ docs_of k.front ++ (block.docs ++ docs_of whole.0.blocks)
    unfolding before
    docs_are = ap (λ (r : Reading). docs_of r.blocks) whole.1 ∙ rw (docs-append, docs-first)

    freqs_are : freqs ≡ freqs_of k.front ++ (block.freqs ++ freqs_of whole.0.blocks)
    unfolding before
    freqs_are = ap (λ (r : Reading). freqs_of r.blocks) whole.1 ∙ rw (freqs-append, freqs-first)

    module _ (p : ℕ) (h : p < docs_in_of t b) where
      pub position-there : 128 * b + p < length docs
      position-there =
          rw docs_are
          (simp (length-append, length-append) (omega (arith, k.passed.docs_many, k.held.docs_many)))

      doc_there : get_or d.docs p 0 ≡ get_or docs (128 * b + p) TERMINATED
      doc_there =
          sym (get_or-take (docs_in_of t b) d.docs p 0 h)
          ∙ rw (k.held.docs_are, docs_are)
          (get_or-there block.docs p 0 TERMINATED (omega (arith, k.held.docs_many))
          ∙ sym (middle (docs_of k.front) block.docs (docs_of whole.0.blocks) (128 * b) p TERMINATED k.passed.docs_many (omega (arith, k.held.docs_many))))

      freq_there : get_or d.freqs p 0 ≡ get_or freqs (128 * b + p) 0
      freq_there =
          sym (get_or-take (docs_in_of t b) d.freqs p 0 h)
          ∙ rw (k.held.freqs_are, freqs_are)
          (sym (middle (freqs_of k.front) block.freqs (freqs_of whole.0.blocks) (128 * b) p 0 k.passed.freqs_many (omega (arith, k.held.freqs_many))))

    -- below the count the place is one of the block's documents
    pub place-there : (p : ℕ) → p < 128 → 128 * b + p < t.count → p < docs_in_of t b
    place-there p l h = elim (dec_le (full_blocks_of t) b) [
      | yes past ↦ rw (docs_in_tail t b past) (omega (arith, whole-count t, k.passed.block_most_is))
      | no some ↦ rw (docs_in_full t b (omega arith)) l
    ]

    -- the tail ends the reading
    pub tail-ends : full_blocks_of t ≤ b → ((reading t bs).verdict ≡ Ok tt) × (length docs ≡ t.count)
    unfolding before nothing
    tail-ends past =
        let last = k.passed.reads ∙ ap (preceded k.front) (reads-last t l bs b k.at k.least k.held past) in
        let all : docs ≡ docs_of k.front ++ block.docs = ap (λ (r : Reading). docs_of r.blocks) last ∙ rw (docs-append, docs-one) in
        let many = docs_in_tail t b past in (
          ap (λ (r : Reading). r.verdict) last,
          rw all (simp length-append (omega (arith, k.passed.docs_many, k.held.docs_many, whole-count t, k.passed.block_most_is))),
        )

    -- ---- at a place of it

    module _ (p : ℕ) (small : p < 128) where
      abbrev here : SegmentPostings
      here = at_place d p

      pub answer-here : 128 * b + p < t.count
          → answer_at_of t false here
          ≡ record {
            doc = get_or docs (128 * b + p) TERMINATED;
            freq = get_or freqs (128 * b + p) 0;
            unpacked = b + 1;
            entries = min (full_blocks_of t) (b + 1);
            hit = false;
          }
      unfolding choose position at_place
      answer-here h =
          let there = place-there p small h in
          rw (
            answer_at_of-is,
            k.block_is,
            ne_eqb (128 * b + p) t.count (λ e. omega arith),
            doc_there p there,
            freq_there p there,
            k.unpacked_is,
            k.entries_are,
          )

      pub answer-end : 128 * b + p ≡ t.count
          → answer_at_of t false here ≡ record { doc = TERMINATED; freq = 0; unpacked = b + 1; entries = min (full_blocks_of t) (b + 1); hit = false }
      unfolding choose position at_place
      answer-end e = rw (answer_at_of-is, k.block_is, eq-eqb (128 * b + p) t.count e, k.unpacked_is, k.entries_are)

      module _ (inside : 128 * b + p ≤ t.count) where
        bounds : in_bounds_of t (length bs) here.held ≡ true
        unfolding at_place full_blocks_of
        bounds =
            in_bounds t (length bs) here.held
            (record {
              block_most_is = omega (arith, k.block_is, k.passed.block_most_is);
              place_below = small;
              position_most = omega (arith, k.block_is);
              next_inside = k.next_inside;
              unpacked_most = omega (arith, k.block_is, k.unpacked_is);
              entries_behind = omega (arith, k.block_is, k.entries_are);
              entries_most = omega (arith, k.entries_are);
            })

        pub step-ends : 128 * b + p ≡ t.count → stepping here bs t ≡ Ok here
        unfolding at_place position
        step-ends e = stepping-ended here bs t bounds (eq-eqb (128 * d.held.block + p) t.count (omega (arith, k.block_is)))

        pub step-goes : 128 * b + p < t.count → p + 1 < 128 → stepping here bs t ≡ Ok (at_place d (p + 1))
        unfolding at_place position
        step-goes h m = stepping-within here bs t bounds (ne_eqb (128 * d.held.block + p) t.count (λ e. omega (arith, k.block_is))) m

    -- the block behind a full one begins behind the skip bytes
    next-behind : b < full_blocks_of t → l.postings ≤ d.held.next
    next-behind some = omega (arith, (k.held.next some).next_is, k.passed.behind_skips)

    -- the last place of a full block
    pub step-leaves : b < full_blocks_of t
        → stepping (at_place d 127) bs t ≡ landing t bs l 0 (walking (b + 1) d.held.next (d.held.last_doc + 1))
    unfolding at_place least_after_of position
    step-leaves some =
        let in-it : 128 * b + 127 < t.count = omega (arith, whole-count t) in
        let bounds = bounds 127 (omega arith) (omega arith) in
        let least : min (d.held.last_doc + 1) TERMINATED ≡ d.held.last_doc + 1 = omega (arith, (k.held.next some).last_below) in
        let one_more : d.held.entries ≡ b + 1 = omega (arith, k.entries_are) in
        stepping-leaves (at_place d 127) bs t bounds (ne_eqb (128 * d.held.block + 127) t.count (λ e. omega (arith, k.block_is))) (omega arith)
        ∙ leaving-laid (held_at d.held 127) bs t 0 laid (starts-behind t l (d.held.block + 1) d.held.next (next-behind some))
        ∙ rw (k.block_is, least, one_more, k.unpacked_is)

    -- it is passed
    pub passed_on : b < full_blocks_of t → BlocksPassed (b + 1) d.held.next (d.held.last_doc + 1) (k.front ++ (block ∷ []))
    unfolding before
    passed_on some =
        let on = reads_on t l bs b k.at k.least k.held some in
        let full = docs_in_full t b some in
        record {
          block_most_is = omega arith;
          behind_skips = next-behind some;
          inside = k.next_inside;
          reads = k.passed.reads ∙ ap (preceded k.front) on ∙ rw append_assoc;
          docs_many = rw (docs-append, docs-one) (simp length-append (omega (arith, k.passed.docs_many, k.held.docs_many)));
          freqs_many = rw (freqs-append, freqs-one) (simp length-append (omega (arith, k.passed.freqs_many, k.held.freqs_many)));
        }

  -- where nothing more is read, the documents are those of the blocks passed
  pub passed_stops : {b at least : ℕ} {front : List Block} {r : Refusal} → BlocksPassed b at least front
      → reading_at t l bs b at least ≡ nothing (Err r) → ((reading t bs).verdict ≡ Err r) × (length docs ≡ 128 * b)
  unfolding nothing
  passed_stops {front = front} k e =
      let all = k.reads ∙ ap (preceded front) e in
      (ap (λ (r : Reading). r.verdict) all, ap (λ (r : Reading). length (docs_of r.blocks)) all ∙ rw append-nil k.docs_many)
