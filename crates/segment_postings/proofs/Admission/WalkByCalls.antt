-- A walk by steps over any image, call by call: opening and then k steps. Where opening isn't refused, the walk stands on a block that is
-- read (WalkByBlocks.antt), at position k or at the end, or a step was refused by the question that ends the reading, behind the
-- documents that are read; then the cursor stays, and each further step is refused alike. By induction on the calls.
-- Assumes nothing.
use Rattle.format.specs.declared.refusal.Refusal.{Refusal}
use Rattle.std.specs.Prelude.{◌≡◌, ℕ, zero, suc, ◌+◌, ◌*◌, ◌/◌, ◌<◌, ◌≤◌, min, false, List, ◌∷◌, length, get_or, replicate, Ok, Err}
use mathlib.Core.Path.{refl, sym, ap, ◌∙◌}
use native.Mathlib.Decide.{dec_le}
use native.Mathlib.Numerals.{add-one}
use native.Mathlib.Omega.{arith}
use Rattle.format.specs.declared.Layout.{Layout}
use Rattle.format.specs.declared.Term.{Term}
use Rattle.format.specs.Basics.{Outcome, and_then, tabulate_from, tabulate, TERMINATED}
use Rattle.format.specs.Layout.{layout, full_blocks_of}
use Rattle.format.specs.Model.{step}
use Rattle.format.specs.Reading.{nothing, read_all, reading, docs_of, freqs_of}
use Rattle.format.proofs.Outcome.{refused≢ok}
use Rattle.format.proofs.Opened.{reading-is}
use Rattle.format.proofs.Sound.{whole-count, tail-short}
use Rattle.segment_postings.specs.declared.Moved.{Moved}
use Rattle.segment_postings.specs.declared.SegmentPostings.{SegmentPostings}
use Rattle.segment_postings.specs.Landing.{first_start_of, landing}
use Rattle.segment_postings.specs.Cursor.{answer_at_of, no_hit, moved, blank, opening, opened, at_place, stepping}
use Rattle.segment_postings.proofs.Admission.LandingReads.{landing-none}
use Rattle.segment_postings.proofs.Laws.CursorTurns.{moved_ok, opening-is, opened-is, advanced-is}
use Rattle.segment_postings.specs.Called.{called, calls_from, calls}
use Rattle.segment_postings.specs.Admission.{walk_at}
use Rattle.segment_postings.proofs.Simulation.CallsSimulate.{calls_from-none, calls_from-more, calls_is, moved-refused}
use Rattle.segment_postings.proofs.Admission.WalkReads.{walking, reading-whole}
use Rattle.segment_postings.proofs.Admission.WalkByBlocks.{OnBlock, passed_none, landing-on, position-there, place-there, tail-ends, answer-here, answer-end}
use Rattle.segment_postings.proofs.Admission.WalkByBlocks.{step-ends, step-goes, step-leaves, passed_on, passed_stops}

module _ (bs : List ℕ) (t : Term) where
  pub walk_at-first : walk_at bs t zero ≡ moved t blank no_hit (opening bs t)
  unfolding walk_at
  walk_at-first = opened-is bs t

  walk_at-next : (k : ℕ) → walk_at bs t (suc k) ≡ moved t (walk_at bs t k).cursor no_hit (stepping (walk_at bs t k).cursor bs t)
  unfolding walk_at
  walk_at-next k = advanced-is (walk_at bs t k).cursor bs t

  -- a list of calls, all of them steps, answers so in turn
  walks-one : (k : ℕ) → called (walk_at bs t k).cursor bs t step ≡ walk_at bs t (suc k)
  unfolding called walk_at
  walks-one k = refl

  walks_from : (n k : ℕ)
      → calls_from bs t (walk_at bs t k).cursor (replicate n step) ≡ tabulate_from n (suc k) (λ j. (walk_at bs t j).answer)
  unfolding tabulate_from
  walks_from zero k = calls_from-none bs t _
  walks_from (suc n) k = rw (calls_from-more, walks-one, add-one) (ap (λ rest. (walk_at bs t (suc k)).answer ∷ rest) (walks_from n (suc k)))

  pub calls-walk : (n : ℕ) → calls bs t (replicate n step) ≡ tabulate (suc n) (λ k. (walk_at bs t k).answer)
  unfolding tabulate tabulate_from walk_at
  calls-walk n = rw calls_is (ap (λ rest. (opened bs t).answer ∷ rest) (walks_from n 0))

  abbrev docs : List ℕ
  docs = docs_of (reading t bs).blocks

  abbrev freqs : List ℕ
  freqs = freqs_of (reading t bs).blocks

  abbrev verdict : Outcome (Unit {0})
  verdict = (reading t bs).verdict

  -- ---- opening

  -- refused: nothing is read
  pub unopened : {r : Refusal} → opening bs t ≡ Err r → reading t bs ≡ nothing (Err r)
  unfolding and_then read_all
  unopened {r} e = go (layout t bs) refl (sym (opening-is bs t) ∙ e)
    where
      go : (o : Outcome Layout) → layout t bs ≡ o → and_then o (λ l. landing t bs l 0 (first_start_of l)) ≡ Err r
          → reading t bs ≡ nothing (Err r)
      go (Ok l) laid h = reading-whole t l bs laid ∙ landing-none t l bs 0 l.postings 0 h
      go (Err s) laid h =
          let same : s ≡ r = cc in
          reading-is t bs ∙ ap (read_all t bs) laid ∙ ap (λ (n : Refusal). nothing (Err n)) same

  -- ---- the walk after k steps

  -- on a block that is read, at position k, or at the end
  pub record OnWalk (k : ℕ) : Type 0 where
    l : Layout
    laid : layout t bs ≡ Ok l
    block : ℕ
    place : ℕ
    first : SegmentPostings
    on : OnBlock t bs l laid block first
    small : place < 128
    there : 128 * block + place ≡ min k t.count
    is : walk_at bs t k ≡ record { answer = Ok (answer_at_of t false (at_place first place)); cursor = at_place first place }

  -- at or behind the last document that is read, and the next step is refused
  pub record Met (r : Refusal) (k : ℕ) : Type 0 where
    pub read : verdict ≡ Err r
    pub behind : length docs ≤ suc k
    refuses : stepping (walk_at bs t k).cursor bs t ≡ Err r

  pub data Comes : ℕ → Type 0 where
    stands : {k : ℕ} → OnWalk k → Comes k
    met : {r : Refusal} {k : ℕ} → Met r k → Comes (suc k)

  landed_stands : (k : ℕ) {l : Layout} (laid : layout t bs ≡ Ok l) {b : ℕ} {d : SegmentPostings} → OnBlock t bs l laid b d → 128 * b ≡ min k t.count
      → walk_at bs t k ≡ record { answer = Ok (answer_at_of t false d); cursor = d } → OnWalk k
  unfolding at_place
  landed_stands k {l} laid {b} {d} on there is =
      record {
        l = l;
        laid = laid;
        block = b;
        place = 0;
        first = d;
        on = on;
        small = omega arith;
        there = omega arith;
        is = rw (← on.place_is) is;
      }

  stands-first : {c : SegmentPostings} → opening bs t ≡ Ok c → OnWalk 0
  unfolding and_then
  stands-first {c} e = go (layout t bs) refl (sym (opening-is bs t) ∙ e)
    where
      go : (o : Outcome Layout) → layout t bs ≡ o → and_then o (λ l. landing t bs l 0 (first_start_of l)) ≡ Ok c → OnWalk 0
      go (Ok l) laid h =
          landed_stands 0 laid (landing-on t bs l laid (passed_none t bs l laid) h) (omega arith) (walk_at-first ∙ rw (e, moved_ok))
      go (Err r) laid h = absurd (refused≢ok h)

  module _ {k : ℕ} (s : OnWalk k) where
    abbrev here : SegmentPostings
    here = at_place s.first s.place

    abbrev on : OnBlock t bs s.l s.laid s.block s.first
    on = s.on

    inside : 128 * s.block + s.place ≤ t.count
    inside = omega (arith, s.there)

    -- the next call, by what its step comes to
    next_is : {o : Outcome SegmentPostings} → stepping here bs t ≡ o → walk_at bs t (suc k) ≡ moved t here no_hit o
    next_is e = walk_at-next k ∙ rw (s.is, e)

    ends-again : t.count ≤ k → OnWalk (suc k)
    ends-again h =
        record {
          l = s.l;
          laid = s.laid;
          block = s.block;
          place = s.place;
          first = s.first;
          on = on;
          small = s.small;
          there = omega (arith, s.there);
          is = next_is (step-ends t bs s.l s.laid on s.place s.small inside (omega (arith, s.there))) ∙ rw moved_ok;
        }

    goes_on : k < t.count → s.place + 1 < 128 → OnWalk (suc k)
    goes_on h m =
        record {
          l = s.l;
          laid = s.laid;
          block = s.block;
          place = s.place + 1;
          first = s.first;
          on = on;
          small = m;
          there = omega (arith, s.there);
          is = next_is (step-goes t bs s.l s.laid on s.place s.small inside (omega (arith, s.there)) m) ∙ rw moved_ok;
        }

    -- to the block behind, which is read or refused
    leaves : k < t.count → s.place ≡ 127 → Comes (suc k)
    leaves h last = go (landing t bs s.l 0 (walking (s.block + 1) s.first.held.next (s.first.held.last_doc + 1))) refl
      where
        some : s.block < full_blocks_of t
        some = omega (arith, s.there, whole-count t, tail-short t)

        go : (o : Outcome SegmentPostings)
            → landing t bs s.l 0 (walking (s.block + 1) s.first.held.next (s.first.held.last_doc + 1)) ≡ o
            → Comes (suc k)
        go (Ok d) e =
            let comes : stepping here bs t ≡ Ok d = rw last (step-leaves t bs s.l s.laid on some ∙ e) in
            let landed = landing-on t bs s.l s.laid (passed_on t bs s.l s.laid on some) e in
            stands (landed_stands (suc k) s.laid landed (omega (arith, s.there, whole-count t)) (next_is comes ∙ rw moved_ok))
        go (Err r) e =
            let comes : stepping here bs t ≡ Err r = rw last (step-leaves t bs s.l s.laid on some ∙ e) in
            let read = passed_stops t bs s.l s.laid (passed_on t bs s.l s.laid on some) (landing-none t s.l bs _ _ _ e) in
            met {k = k}
            (record { read = read.0; behind = omega (arith, read.1, s.there); refuses = rw s.is comes })

    steps : Comes (suc k)
    steps = elim (dec_le t.count k) [
      | yes past ↦ stands (ends-again past)
      | no short ↦ elim (dec_le 127 s.place) [
        | yes last ↦ leaves (omega arith) (omega (arith, s.small))
        | no m ↦ stands (goes_on (omega arith) (omega arith))
      ]
    ]

    -- ---- what it answers

    -- at a document
    pub stands-shows : k < t.count
        → (k < length docs)
        × ((walk_at bs t k).answer
        ≡ Ok (record {
          doc = get_or docs k TERMINATED;
          freq = get_or freqs k 0;
          unpacked = k / 128 + 1;
          entries = min (full_blocks_of t) (k / 128 + 1);
          hit = false;
        }))
    stands-shows h =
        let at-k : 128 * s.block + s.place ≡ k = omega (arith, s.there) in
        let in_block : s.block ≡ k / 128 = omega (arith, s.small) in
        let below = place-there t bs s.l s.laid on s.place s.small (omega arith) in (
          rw at-k at (position-there t bs s.l s.laid on s.place below),
          ap (λ (m : Moved). m.answer) s.is
              ∙ ap Ok (answer-here t bs s.l s.laid on s.place s.small (omega arith))
              ∙ rw (at-k, in_block),
        )

    -- at the end
    pub stands-ends : t.count ≤ k
        → (verdict ≡ Ok tt)
        × (length docs ≡ t.count)
        × ((walk_at bs t k).answer
        ≡ Ok (record { doc = TERMINATED; freq = 0; unpacked = full_blocks_of t + 1; entries = full_blocks_of t; hit = false }))
    stands-ends h =
        let at-end : 128 * s.block + s.place ≡ t.count = omega (arith, s.there) in
        let in_tail : s.block ≡ full_blocks_of t = omega (arith, s.small, on.passed.block_most_is, whole-count t, tail-short t) in
        let all = tail-ends t bs s.l s.laid on (omega arith) in
        let read : min (full_blocks_of t) (full_blocks_of t + 1) ≡ full_blocks_of t = omega arith in (
          all.0,
          all.1,
          ap (λ (m : Moved). m.answer) s.is
              ∙ ap Ok (answer-end t bs s.l s.laid on s.place s.small at-end)
              ∙ rw (in_tail, read),
        )

  -- the cursor stays
  pub met-is : {r : Refusal} {k : ℕ} → Met r k → walk_at bs t (suc k) ≡ record { answer = Err r; cursor = (walk_at bs t k).cursor }
  met-is {k = k} m = walk_at-next k ∙ rw (m.refuses, moved-refused)

  met-again : {r : Refusal} {k : ℕ} → Met r k → Met r (suc k)
  met-again m = record { read = m.read; behind = omega (arith, m.behind); refuses = rw (met-is m) m.refuses }

  onward : {k : ℕ} → Comes k → Comes (suc k)
  onward (stands s) = steps s
  onward (met m) = met (met-again m)

  pub comes : {c : SegmentPostings} → opening bs t ≡ Ok c → (k : ℕ) → Comes k
  comes e zero = stands (stands-first e)
  comes e (suc k) = onward (comes e k)
