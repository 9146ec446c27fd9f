-- A cursor that holds a block of a sound image: its arrays, its last id and its offset are that block's, its numbers are in bounds.
-- Opening gives one that holds block 0, a step one that holds the same block or the next, and the answer at its position is what the
-- image's documents and frequencies have there, as are the values of `doc` and `term_freq` and a seek's hit.
-- Assumes nothing.
use Rattle.std.specs.Prelude.{◌≡◌, ℕ, zero, suc, ◌+◌, ◌-◌, ◌*◌, ◌<◌, ◌≤◌, min, Bool, true, false, ◌&&◌ as and, eqb, ltb, List, [], ◌∷◌, length, get_or, Ok}
use mathlib.Core.Bool.{and-false}
use mathlib.Core.Logic.{⊎_elim}
use mathlib.Core.Path.{refl, sym, ◌∙◌}
use native.Mathlib.Nat.{not-suc-le-zero, le_of_suc-le-suc, eq-or-lt_of_le, add-zero}
use native.Mathlib.Decide.{dec_le}
use native.Mathlib.Numerals.{add-one}
use native.Mathlib.Omega.{arith}
use borrow.Author.Tests.{lt-ltb, le-ltb, le-leb, eq-eqb, ne_eqb, eqb-true}
use lib.ListN.{get_or-append, get_or-eq_default}
use Rattle.format.specs.declared.Term.{Term}
use Rattle.format.specs.Basics.{and_then, ask, choose, TERMINATED}
use Rattle.format.specs.Layout.{full_blocks_of}
use Rattle.format.specs.Reading.{Block, reading, docs_of, freqs_of}
use Rattle.format.specs.Values.{rising}
use Rattle.format.proofs.Blocks.{block_at, full-sound, tail-sound, docs-rising, docs_many, freqs_many, doc-at, freq-at}
use Rattle.format.proofs.Values.{rising-cons}
use Rattle.format.proofs.Sound.{Sound, sound-blocks, whole-count, tail-short}
use Rattle.block_search.proofs.Hits.{stands_there}
use Rattle.segment_postings.specs.declared.find.Found.{Found}
use Rattle.segment_postings.specs.declared.SegmentPostings.{SegmentPostings}
use Rattle.segment_postings.specs.Landing.{padded, holding, landing}
use Rattle.segment_postings.specs.Cursor.{position, in_bounds_of, answer_at_of, opening, at_place}
use Rattle.segment_postings.specs.Cursor.{least_after_of, leaving, stepping, value_at, doc_at, freq_at, hit_of}
use Rattle.segment_postings.proofs.Simulation.EntriesLeadTo.{start_of, start_at, last_below, start-inside, FoundFor, search_lands}
use Rattle.segment_postings.proofs.Laws.LandingParts.{starts-behind}
use Rattle.segment_postings.proofs.Laws.CursorTurns.{landing_is, answer_at_of-is, opening-is, leaving-is, stepping-is}

pub record Holds {t : Term} {bs : List ℕ} (s : Sound t bs) (c : SegmentPostings) : Type 0 where
  pub docs_are : c.docs ≡ padded TERMINATED (block_at (reading t bs).blocks c.held.block).docs
  pub freqs_are : c.freqs ≡ padded 1 (block_at (reading t bs).blocks c.held.block).freqs
  pub last_is : c.held.last_doc ≡ (block_at (reading t bs).blocks c.held.block).last
  pub next_is : c.held.next ≡ start_of s.laid bs (min (full_blocks_of t) (c.held.block + 1))
  pub entries_are : c.held.entries ≡ min (full_blocks_of t) (c.held.block + 1)
  pub block_most_is : c.held.block ≤ full_blocks_of t
  pub place_most : c.held.place < 128
  pub position_most : position c.held ≤ t.count
  pub unpacked_some : 1 ≤ c.held.unpacked
  pub unpacked_most : c.held.unpacked ≤ c.held.block + 1

-- a cursor at the first place of the block that a search from block `from` on landed on
pub record Landed {t : Term} {bs : List ℕ} (s : Sound t bs) (target from unpacked : ℕ) (c : SegmentPostings) : Type 0 where
  pub holds : Holds s c
  pub place_first : c.held.place ≡ 0
  pub unpacked_one : c.held.unpacked ≡ unpacked + 1
  pub block_least : from ≤ c.held.block
  pub passed : (i : ℕ) → from ≤ i → i < c.held.block → (block_at (reading t bs).blocks i).last < target
  pub reached : c.held.block < full_blocks_of t → target ≤ (block_at (reading t bs).blocks c.held.block).last

module _ {t : Term} {bs : List ℕ} (s : Sound t bs) where
  abbrev blocks : List Block
  blocks = (reading t bs).blocks

  -- ---- landing

  holding_landed : (target from unpacked : ℕ) (f : Found) → unpacked ≤ from → FoundFor s target from f
      → Landed s target from unpacked (holding f unpacked (block_at blocks f.block))
  unfolding holding position
  holding_landed target from unpacked f few k =
      record {
        holds = record {
          docs_are = refl;
          freqs_are = refl;
          last_is = k.last_is;
          next_is = k.next_is;
          entries_are = k.entries_are;
          block_most_is = k.block_most_is;
          place_most = omega arith;
          position_most = omega (arith, k.block_most_is, whole-count t);
          unpacked_some = omega arith;
          unpacked_most = omega (arith, k.block_least);
        };
        place_first = refl;
        unpacked_one = refl;
        block_least = k.block_least;
        passed = k.passed;
        reached = k.reached;
      }

  pub landing_landed : (target b unpacked : ℕ) → b ≤ full_blocks_of t → unpacked ≤ b
      → (c : SegmentPostings) × Landed s target b unpacked c
      × (landing t bs s.laid target (start_at s b b unpacked) ≡ Ok c)
  unfolding and_then
  landing_landed target b unpacked h few =
      let p = search_lands s target (full_blocks_of t - b) b b unpacked (omega arith) refl in
      (_, holding_landed target b unpacked p.0 few p.1, rw (landing_is, p.2, p.1.loads))

  -- a search for 0 ends at once
  pub landed_there : {from unpacked : ℕ} {c : SegmentPostings} → Landed s 0 from unpacked c → c.held.block ≡ from
  landed_there {from} {c = c} k =
      ⊎_elim (λ e. sym e) (λ l. absurd (not-suc-le-zero (k.passed from (omega arith) l))) (eq-or-lt_of_le k.block_least)

  pub opening_landed : (c : SegmentPostings) × Landed s 0 0 0 c × (opening bs t ≡ Ok c)
  unfolding and_then
  opening_landed =
      let p = landing_landed 0 0 0 (omega arith) (omega arith) in
      (p.0, p.1, rw (opening-is, s.found) (rw add-zero at p.2))

  -- ---- in bounds

  pub holds-in_bounds_of : {c : SegmentPostings} → Holds s c → in_bounds_of t (length bs) c.held ≡ true
  unfolding in_bounds_of
  holds-in_bounds_of {c} k =
      let next_inside : c.held.next ≤ length bs = rw k.next_is (start-inside s (min (full_blocks_of t) (c.held.block + 1)) (omega arith)) in
      rw (
        le-leb _ _ k.block_most_is,
        lt-ltb _ _ k.place_most,
        le-leb _ _ k.position_most,
        le-leb _ _ next_inside,
        le-leb _ _ k.unpacked_most,
      )
      (le-leb c.held.entries (min (c.held.block + 1) (full_blocks_of t)) (omega (arith, k.entries_are)))

  -- ---- a step

  -- a call that goes to position p, and counts one block more just where it comes to another
  pub record MovesTo (p : ℕ) (c c' : SegmentPostings) : Type 0 where
    pub holds : Holds s c'
    pub goes : position c'.held ≡ p
    pub stays : c'.held.block ≡ c.held.block → c'.held.unpacked ≡ c.held.unpacked
    pub grows : c.held.block < c'.held.block → c'.held.unpacked ≡ c.held.unpacked + 1

  module _ {c : SegmentPostings} (k : Holds s c) where
    abbrev Steps : SegmentPostings → Type 0
    Steps c' = MovesTo (min (position c.held + 1) t.count) c c'

    step_end : position c.held ≡ t.count → Steps c
    step_end e = record { holds = k; goes = omega arith; stays = λ _. refl; grows = λ l. absurd (omega arith) }

    -- another place of the held block
    pub place-holds : (p : ℕ) → p < 128 → 128 * c.held.block + p ≤ t.count → Holds s (at_place c p)
    unfolding at_place position
    place-holds p l h =
        record {
          docs_are = k.docs_are;
          freqs_are = k.freqs_are;
          last_is = k.last_is;
          next_is = k.next_is;
          entries_are = k.entries_are;
          block_most_is = k.block_most_is;
          place_most = l;
          position_most = h;
          unpacked_some = k.unpacked_some;
          unpacked_most = k.unpacked_most;
        }

    step-place : position c.held < t.count → c.held.place + 1 < 128 → Steps (at_place c (c.held.place + 1))
    unfolding at_place position
    step-place h l =
        record {
          holds = place-holds (c.held.place + 1) l (omega arith);
          goes = omega arith;
          stays = λ _. refl;
          grows = λ m. absurd (omega arith);
        }

    -- leaving a full block
    pub leaving_landed : (target : ℕ) → c.held.block < full_blocks_of t
        → (c' : SegmentPostings) × Landed s target (suc c.held.block) c.held.unpacked c' × (leaving c.held bs t target ≡ Ok c')
    unfolding and_then ask least_after_of
    leaving_landed target h =
        let p = landing_landed target (suc c.held.block) c.held.unpacked h (omega (arith, k.unpacked_most)) in
        let last : ℕ = (block_at blocks c.held.block).last in
        let one_more : min (full_blocks_of t) (c.held.block + 1) ≡ suc c.held.block = omega arith in
        let least : min (last + 1) TERMINATED ≡ last + 1 = omega (arith, last_below s c.held.block h) in
        let inside = starts-behind t s.laid (suc c.held.block) (start_of s.laid bs (suc c.held.block)) (omega arith) in
        (p.0, p.1, rw (leaving-is, s.found, k.next_is, k.last_is, k.entries_are, one_more, least, add-one c.held.block, inside) p.2)

    step-leaves : position c.held < t.count → 128 ≤ c.held.place + 1 → (c' : SegmentPostings) × Steps c' × (leaving c.held bs t 0 ≡ Ok c')
    unfolding position
    step-leaves h l =
        let full : c.held.block < full_blocks_of t = omega (arith, k.place_most, k.block_most_is, whole-count t, tail-short t) in
        let p = leaving_landed 0 full in
        let there : p.0.held.block ≡ suc c.held.block = landed_there p.1 in (
          p.0,
          record {
            holds = p.1.holds;
            goes = omega (arith, p.1.place_first, k.place_most);
            stays = λ e. absurd (omega arith);
            grows = λ _. p.1.unpacked_one;
          },
          p.2,
        )

    -- a step that isn't at the end
    stepping-on : position c.held < t.count
        → stepping c bs t
        ≡ (choose (ltb (c.held.place + 1) 128) (λ _. Ok (at_place c (c.held.place + 1))) λ _. leaving c.held bs t 0)
    unfolding ask choose
    stepping-on h = rw (stepping-is, holds-in_bounds_of k, ne_eqb (position c.held) t.count (λ e. omega arith))

    pub stepping-steps : (c' : SegmentPostings) × Steps c' × (stepping c bs t ≡ Ok c')
    unfolding ask choose
    stepping-steps =
        ⊎_elim
        (λ e. (c, step_end e, rw (stepping-is, holds-in_bounds_of k, eq-eqb _ _ e)))
        (λ h. elim (dec_le 128 (c.held.place + 1)) [
          | yes l ↦ let p = step-leaves h l in (p.0, p.1, rw (stepping-on h, le-ltb (c.held.place + 1) 128 l) p.2)
          | no l ↦
              let m : c.held.place + 1 < 128 = omega arith in
              (at_place c (c.held.place + 1), step-place h m, rw (stepping-on h, lt-ltb (c.held.place + 1) 128 m))
        ])
        (eq-or-lt_of_le k.position_most)

-- ---- the answer

-- an element that is there is no default
pub get_or-there : (l : List ℕ) (i z y : ℕ) → i < length l → get_or l i z ≡ get_or l i y
get_or-there [] i z y h = absurd (not-suc-le-zero h)
get_or-there (x ∷ l) zero z y h = refl
get_or-there (x ∷ l) (suc i) z y h = get_or-there l i z y (le_of_suc-le-suc h)

-- .. and none of those filled up
pub padded-there : (filler : ℕ) (l : List ℕ) (i z y : ℕ) → i < length l → get_or (padded filler l) i z ≡ get_or l i y
unfolding padded
padded-there filler l i z y h = get_or-append l _ z i h ∙ get_or-there l i z y h

-- documents that rise lie below TERMINATED, so that equality alone tells a hit
rising-below : (least : ℕ) (ds : List ℕ) (i z : ℕ) → rising least ds ≡ true → i < length ds → get_or ds i z < TERMINATED
rising-below least [] i z r h = absurd (not-suc-le-zero h)
rising-below least (d ∷ ds) zero z r h = (rising-cons least d ds r).below
rising-below least (d ∷ ds) (suc i) z r h = rising-below (d + 1) ds i z (rising-cons least d ds r).rest (le_of_suc-le-suc h)

below_equal : (doc target : ℕ) → doc < TERMINATED → and (ltb target TERMINATED) (eqb doc target) ≡ eqb doc target
below_equal doc target h = by_test (eqb doc target) refl
  where
    by_test : (r : Bool) → eqb doc target ≡ r → and (ltb target TERMINATED) (eqb doc target) ≡ eqb doc target
    by_test true e = rw (e, lt-ltb target TERMINATED (omega (arith, eqb-true doc target e)))
    by_test false e = rw (e, and-false)

module _ {t : Term} {bs : List ℕ} (s : Sound t bs) {c : SegmentPostings} (k : Holds s c) where
  abbrev docs : List ℕ
  docs = docs_of (reading t bs).blocks

  abbrev freqs : List ℕ
  freqs = freqs_of (reading t bs).blocks

  abbrev block : Block
  block = block_at (reading t bs).blocks c.held.block

  -- below the count the place is one of the block's documents
  pub place-there : position c.held < t.count → (c.held.place < length block.docs) × (c.held.place < length block.freqs)
  unfolding position
  place-there h = ⊎_elim
      (λ e. let f = tail-sound (sound-blocks s) in rw e (omega (arith, f.sound.docs_many, f.sound.freqs_many, whole-count t)))
      (λ l. let f = full-sound (sound-blocks s) c.held.block l in omega (arith, f.sound.docs_many, f.sound.freqs_many, k.place_most))
      (eq-or-lt_of_le k.block_most_is)

  pub doc_there : position c.held < t.count → get_or c.docs c.held.place 0 ≡ get_or docs (position c.held) TERMINATED
  unfolding position
  doc_there h =
      rw (k.docs_are, padded-there _ block.docs c.held.place 0 TERMINATED (place-there h).0)
      (sym (doc-at (sound-blocks s) c.held.block c.held.place TERMINATED k.block_most_is k.place_most))

  freq_there : position c.held < t.count → get_or c.freqs c.held.place 0 ≡ get_or freqs (position c.held) 0
  unfolding position
  freq_there h =
      rw (k.freqs_are, padded-there _ block.freqs c.held.place 0 0 (place-there h).1)
      (sym (freq-at (sound-blocks s) c.held.block c.held.place 0 k.block_most_is k.place_most))

  -- at the end there is none
  no_doc : position c.held ≡ t.count → get_or docs (position c.held) TERMINATED ≡ TERMINATED
  no_doc e = get_or-eq_default docs TERMINATED (omega (arith, docs_many (sound-blocks s), whole-count t))

  no_freq : position c.held ≡ t.count → get_or freqs (position c.held) 0 ≡ 0
  no_freq e = get_or-eq_default freqs 0 (omega (arith, freqs_many (sound-blocks s), whole-count t))

  pub answer-holds : (hit : Bool) → answer_at_of t hit c
      ≡ record {
        doc = get_or docs (position c.held) TERMINATED;
        freq = get_or freqs (position c.held) 0;
        unpacked = c.held.unpacked;
        entries = c.held.entries;
        hit = hit;
      }
  unfolding choose
  answer-holds hit =
      ⊎_elim
      (λ e. rw (answer_at_of-is, eq-eqb (position c.held) t.count e, no_doc e, no_freq e))
      (λ h. rw (answer_at_of-is, ne_eqb (position c.held) t.count (λ e. omega arith), doc_there h, freq_there h))
      (eq-or-lt_of_le k.position_most)

  -- a target is the document at the position where the list says so; at the end it isn't
  pub hit-holds : (target : ℕ) → hit_of t target c ≡ and (ltb (position c.held) (length docs)) (eqb (get_or docs (position c.held) TERMINATED) target)
  unfolding hit_of choose
  hit-holds target =
      let many : length docs ≡ t.count = docs_many (sound-blocks s) ∙ whole-count t in
      ⊎_elim
      (λ e. rw (eq-eqb (position c.held) t.count e, le-ltb (position c.held) (length docs) (omega arith), and-false))
      (λ h.
      rw (
        ne_eqb (position c.held) t.count (λ e. omega arith),
        lt-ltb (position c.held) (length docs) (omega arith),
        stands_there c.docs target c.held.place k.place_most,
        doc_there h,
      )
      (below_equal (get_or docs (position c.held) TERMINATED) target
      (rising-below 0 docs (position c.held) TERMINATED (docs-rising (sound-blocks s)) (omega arith))))
      (eq-or-lt_of_le k.position_most)

  -- the document and the frequency, as calls of their own
  pub doc_holds : doc_at c bs t ≡ Ok (get_or docs (position c.held) TERMINATED)
  unfolding doc_at value_at ask choose
  doc_holds =
      ⊎_elim
      (λ e. rw (holds-in_bounds_of s k, eq-eqb (position c.held) t.count e, no_doc e))
      (λ h. rw (holds-in_bounds_of s k, ne_eqb (position c.held) t.count (λ e. omega arith), doc_there h))
      (eq-or-lt_of_le k.position_most)

  pub freq_holds : freq_at c bs t ≡ Ok (get_or freqs (position c.held) 0)
  unfolding freq_at value_at ask choose
  freq_holds =
      ⊎_elim
      (λ e. rw (holds-in_bounds_of s k, eq-eqb (position c.held) t.count e, no_freq e))
      (λ h. rw (holds-in_bounds_of s k, ne_eqb (position c.held) t.count (λ e. omega arith), freq_there h))
      (eq-or-lt_of_le k.position_most)
