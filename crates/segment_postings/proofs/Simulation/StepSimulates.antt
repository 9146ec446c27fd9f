-- The cursor and the model go together: where the cursor holds the block of the model's position, with that position, and has counted
-- as many blocks as the model has visited, a step leaves them so, and the cursor's answer is the model's. Both counts grow by one just
-- where the block of the position does.
-- Assumes nothing.
use Rattle.std.specs.Prelude.{◌≡◌, ℕ, ◌+◌, ◌/◌, ◌≤◌, min, Bool, List, length, Ok}
use mathlib.Core.Logic.{⊎_elim}
use mathlib.Core.Path.{sym, ap, ◌∙◌}
use native.Mathlib.Nat.{eq-or-lt_of_le}
use native.Mathlib.Omega.{arith}
use Rattle.format.specs.declared.Term.{Term}
use Rattle.format.specs.Layout.{full_blocks_of}
use Rattle.format.specs.Reading.{reading, docs_of, freqs_of}
use Rattle.format.specs.Model.{Call, step, State, opened, after, here, hits, entries_read}
use Rattle.format.proofs.Blocks.{docs_many}
use Rattle.format.proofs.Sound.{Sound, sound-blocks, whole-count}
use Rattle.format.proofs.Visited.{Tracked, block_of, opened-tracked, after-tracked, after-grown, step-goes}
use Rattle.segment_postings.specs.declared.SegmentPostings.{SegmentPostings}
use Rattle.segment_postings.specs.Cursor.{position, answer_at_of, opening, stepping, hit_of}
use Rattle.segment_postings.specs.Called.{with_entries}
use Rattle.segment_postings.proofs.Simulation.HoldsBlock.{Holds, MovesTo, opening_landed, landed_there, stepping-steps, answer-holds, hit-holds}

pub record Agrees {t : Term} {bs : List ℕ} (s : Sound t bs) (c : SegmentPostings) (m : State) : Type 0 where
  pub holds : Holds s c
  pub same_position : position c.held ≡ m.position
  pub same_count : c.held.unpacked ≡ length m.visited
  pub tracked : Tracked (length (docs_of (reading t bs).blocks)) m

module _ {t : Term} {bs : List ℕ} (s : Sound t bs) where
  abbrev docs : List ℕ
  docs = docs_of (reading t bs).blocks

  abbrev freqs : List ℕ
  freqs = freqs_of (reading t bs).blocks

  pub docs-count : length docs ≡ t.count
  docs-count = docs_many (sound-blocks s) ∙ whole-count t

  -- the held block is the position's
  pub block-of : {c : SegmentPostings} → Holds s c → position c.held / 128 ≡ c.held.block
  unfolding position
  block-of k = omega (arith, k.place_most)

  entries_read_is : {c : SegmentPostings} → Holds s c → c.held.entries ≡ entries_read t.count (position c.held)
  unfolding entries_read full_blocks_of
  entries_read_is k = k.entries_are ∙ ap (λ b. min (t.count / 128) (b + 1)) (sym (block-of k))

  pub opening-agrees : (c : SegmentPostings) × Agrees s c opened × (opening bs t ≡ Ok c)
  unfolding position opened
  opening-agrees =
      let p = opening_landed s in (
        p.0,
        record {
          holds = p.1.holds;
          same_position = omega (arith, landed_there s p.1, p.1.place_first);
          same_count = omega (arith, p.1.unpacked_one);
          tracked = opened-tracked _;
        },
        p.2,
      )

  module _ {c : SegmentPostings} {m : State} (k : Agrees s c m) where
    pub entries_agree : c.held.entries ≡ entries_read t.count m.position
    entries_agree = rw (← k.same_position) (entries_read_is k.holds)

    -- the answer is the model's, with the entries that lead to the block of its position
    pub answer-agrees : (hit : Bool) → Ok (answer_at_of t hit c) ≡ with_entries (here docs freqs m hit) (entries_read t.count m.position)
    unfolding with_entries here
    answer-agrees hit = rw (answer-holds s k.holds, k.same_position, k.same_count, entries_agree)

    -- .. and a target is the document there just where the model says so
    pub hit-agrees : (target : ℕ) → hit_of t target c ≡ hits docs m target
    unfolding hits
    hit-agrees target = rw (hit-holds s k.holds, k.same_position)

    -- a call that goes where the model's goes
    pub moves_agree : (call : Call) {p : ℕ} {c' : SegmentPostings} → MovesTo s p c c' → (after docs m call).position ≡ p
        → Agrees s c' (after docs m call)
    moves_agree call {p} {c'} k' e =
        let grown = after-grown docs k.tracked call in
        let was : block_of m ≡ c.held.block = rw (← k.same_position) (block-of k.holds) in
        let is : block_of (after docs m call) ≡ c'.held.block = rw (e, ← k'.goes) (block-of k'.holds) in
        let onward : c.held.block ≤ c'.held.block = omega (arith, grown.onward) in
        record {
          holds = k'.holds;
          same_position = k'.goes ∙ sym e;
          same_count = ⊎_elim
              (λ stays. omega (arith, k.same_count, k'.stays (sym stays), grown.stays (omega arith)))
              (λ grows. omega (arith, k.same_count, k'.grows grows, grown.grows (omega arith)))
              (eq-or-lt_of_le onward);
          tracked = after-tracked docs k.tracked call;
        }

    pub stepping-agrees : (c' : SegmentPostings) × Agrees s c' (after docs m step) × (stepping c bs t ≡ Ok c')
    stepping-agrees =
        let p = stepping-steps s k.holds in
        (p.0, moves_agree step p.1 (rw (step-goes, docs-count, k.same_position)), p.2)
