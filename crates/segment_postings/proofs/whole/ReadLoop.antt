-- A walk block by block over a sound image, which writes each block behind the one before. What is kept is that the whole list, put
-- into the slices as they were, is what is read from the next block on, put behind the blocks written. No block is refused, since the
-- image isn't.
-- Assumes nothing.
use Rattle.format.specs.declared.refusal.Refusal.{Refusal}
use Rattle.std.specs.Prelude.{◌≡◌, ℕ, ◌+◌, ◌*◌, ◌<◌, ◌≤◌, List, [], ◌++◌, length, take, Ok, Err}
use mathlib.Core.List.{append-nil}
use mathlib.Core.Path.{refl, sym, ap, ◌∙◌}
use native.Mathlib.Omega.{arith}
use lib.Seq.{paste, length-take-le, take-length}
use Rattle.format.specs.declared.Layout.{Layout}
use Rattle.format.specs.declared.Term.{Term}
use Rattle.format.specs.Basics.{put_at}
use Rattle.format.specs.Layout.{full_blocks_of}
use Rattle.format.specs.Reading.{Reading, nothing, before, reading, docs_of, freqs_of}
use Rattle.format.proofs.Area.{put_at-paste, put_at-append, fits-front, fits-back, length-put_at}
use Rattle.format.proofs.Outcome.{refused≢ok}
use Rattle.format.proofs.Blocks.{docs_many, freqs_many}
use Rattle.format.proofs.Sound.{sound-image, sound-blocks, whole-count}
use Rattle.segment_postings.specs.declared.Held.{Held}
use Rattle.segment_postings.specs.declared.find.Start.{Start}
use Rattle.segment_postings.specs.Cursor.{start_behind_of}
use Rattle.segment_postings.specs.Landing.{first_start_of, landing}
use Rattle.segment_postings.specs.Passed.{docs_in_of}
use Rattle.format.specs.Layout.{layout}
use Rattle.segment_postings.specs.ReadWhole.{Walks, Written}
use Rattle.segment_postings.proofs.Admission.LandingReads.{BlockHeld, docs_in_full, reads_first, reads-last}
use Rattle.segment_postings.proofs.Admission.WalkTurns.{WalksFrom, reading_from, walks-first, turn-none, turn}

-- the front of a list put into an area is a copy of as many elements
pub put_at-front : (p n : ℕ) (xs area : List ℕ) → n ≤ length xs → p + n ≤ length area → put_at p (take n xs) area ≡ paste area p xs n
put_at-front p n xs area h room =
    let many : length (take n xs) ≡ n = length-take-le n xs h in
    put_at-paste p (take n xs) area (omega arith) ∙ rw (take-length, many)

-- ---- one slice

-- the whole, put into the slice as it was, is what is left, put behind b full blocks
record Filled (whole left : List ℕ) (b : ℕ) (out₀ out : List ℕ) : Type 0 where
  put_is : put_at 0 whole out₀ ≡ put_at (128 * b) left out
  room : 128 * b + length left ≤ length out

filled_none : (whole out : List ℕ) → length whole ≤ length out → Filled whole whole 0 out out
filled_none whole out h = record { put_is = refl; room = omega arith }

filled_on : (xs rest : List ℕ) {whole : List ℕ} {b b' : ℕ} {out₀ out : List ℕ} → Filled whole (xs ++ rest) b out₀ out → length xs ≡ 128
    → b' ≡ b + 1 → Filled whole rest b' out₀ (put_at (128 * b) xs out)
filled_on xs rest {b = b} {b' = b'} {out = out} p many next =
    let behind : 128 * b + length xs ≡ 128 * b' = omega arith in
    record {
      put_is = p.put_is ∙ (sym (put_at-append (128 * b) xs rest out p.room) ∙ ap (λ (n : ℕ). put_at n rest (put_at (128 * b) xs out)) behind);
      room = rw behind at (fits-back (128 * b) xs rest out p.room);
    }

filled-ends : (xs : List ℕ) {whole : List ℕ} {b : ℕ} {out₀ out : List ℕ} → Filled whole (xs ++ []) b out₀ out
    → put_at (128 * b) xs out ≡ put_at 0 whole out₀
filled-ends xs p = sym (p.put_is ∙ rw append-nil)

-- there is room for what comes first
filled-room : (xs rest : List ℕ) {whole : List ℕ} {b : ℕ} {out₀ out : List ℕ} → Filled whole (xs ++ rest) b out₀ out
    → 128 * b + length xs ≤ length out
filled-room xs rest {b = b} {out = out} p = fits-front (128 * b) xs rest out p.room

-- ---- both

pub record Copied (t : Term) (l : Layout) (bs docs₀ freqs₀ : List ℕ) (s : Start) (docs freqs : List ℕ) : Type 0 where
  pub walks : WalksFrom t l bs s
  pub docs_same : length docs ≡ length docs₀
  pub freqs_same : length freqs ≡ length freqs₀
  sound : (reading_from t l bs s).verdict ≡ Ok tt
  docs_filled : Filled (docs_of (reading t bs).blocks) (docs_of (reading_from t l bs s).blocks) s.block docs₀ docs
  freqs_filled : Filled (freqs_of (reading t bs).blocks) (freqs_of (reading_from t l bs s).blocks) s.block freqs₀ freqs

pub copied_none : (t : Term) (l : Layout) (bs docs freqs : List ℕ) {s : Start} → layout t bs ≡ Ok l → Walks t bs (length docs) (length freqs) → s ≡ first_start_of l
    → Copied t l bs docs freqs s docs freqs
copied_none t l bs docs freqs {s} laid w is =
    let blocks = sound-blocks (sound-image t bs w.sound) in
    let first = walks-first t l bs laid is in
    let here = first.1 in
    let none : s.block ≡ 0 = ap (λ (x : Start). x.block) is in
    record {
      walks = first.0;
      docs_same = refl;
      freqs_same = refl;
      sound = rw here at w.sound;
      docs_filled = rw (← here, none) (filled_none _ docs (omega (arith, docs_many blocks, whole-count t, w.docs_fit)));
      freqs_filled = rw (← here, none) (filled_none _ freqs (omega (arith, freqs_many blocks, whole-count t, w.freqs_fit)));
    }

module _ {t : Term} {l : Layout} {bs docs₀ freqs₀ : List ℕ} {s : Start} {docs freqs : List ℕ}
    (w : Copied t l bs docs₀ freqs₀ s docs freqs) where
  -- no block is refused
  pub never_refused : {n : Refusal} → landing t bs l 0 s ≡ Err n → ⊥
  unfolding nothing
  never_refused e =
      let none = turn-none t l bs w.walks e in
      refused≢ok (sym (ap (λ (r : Reading). r.verdict) none) ∙ w.sound)

  module _ {h : Held} {ids counts : List ℕ} (k : BlockHeld t l bs s.block s.at s.least h ids counts) where
    module _ (rest : Reading) (e : reading_from t l bs s ≡ (before (Ok k.block) λ _. rest)) where
      sound-behind : rest.verdict ≡ Ok tt
      unfolding before
      sound-behind = rw e at w.sound

      docs-here : Filled (docs_of (reading t bs).blocks) (take (docs_in_of t s.block) ids ++ docs_of rest.blocks) s.block docs₀ docs
      unfolding before docs_of
      docs-here = rw k.docs_are (rw e at w.docs_filled)

      freqs-here : Filled (freqs_of (reading t bs).blocks) (take (docs_in_of t s.block) counts ++ freqs_of rest.blocks) s.block freqs₀ freqs
      unfolding before freqs_of
      freqs-here = rw k.freqs_are (rw e at w.freqs_filled)

    docs_long : length (take (docs_in_of t s.block) ids) ≡ docs_in_of t s.block
    docs_long = ap (λ (xs : List ℕ). length xs) k.docs_are ∙ k.docs_many

    freqs_long : length (take (docs_in_of t s.block) counts) ≡ docs_in_of t s.block
    freqs_long = ap (λ (xs : List ℕ). length xs) k.freqs_are ∙ k.freqs_many

    -- there is room for the block
    pub docs_room : 128 * s.block + docs_in_of t s.block ≤ length docs
    docs_room =
        let behind = reads_first t l bs s.block s.at s.least k in
        omega (arith, docs_long, filled-room (take (docs_in_of t s.block) ids) (docs_of behind.0.blocks) (docs-here behind.0 behind.1))

    pub freqs_room : 128 * s.block + docs_in_of t s.block ≤ length freqs
    freqs_room =
        let behind = reads_first t l bs s.block s.at s.least k in
        omega (arith, freqs_long, filled-room (take (docs_in_of t s.block) counts) (freqs_of behind.0.blocks) (freqs-here behind.0 behind.1))

    module _ {docs' freqs' : List ℕ} (put-docs : docs' ≡ put_at (128 * s.block) (take (docs_in_of t s.block) ids) docs)
        (put-freqs : freqs' ≡ put_at (128 * s.block) (take (docs_in_of t s.block) counts) freqs) where
      pub docs-kept : length docs' ≡ length docs₀
      docs-kept = rw (put-docs, length-put_at) w.docs_same

      pub freqs-kept : length freqs' ≡ length freqs₀
      freqs-kept = rw (put-freqs, length-put_at) w.freqs_same

      pub copy-goes-on : {s' : Start} → s.block < full_blocks_of t → s' ≡ start_behind_of h → Copied t l bs docs₀ freqs₀ s' docs' freqs'
      copy-goes-on some is =
          let next = turn t l bs w.walks k some is in
          let e = next.reads in
          let many = docs_in_full t s.block some in
          record {
            walks = next.walks;
            docs_same = docs-kept;
            freqs_same = freqs-kept;
            sound = sound-behind _ e;
            docs_filled = rw put-docs (filled_on _ _ (docs-here _ e) (docs_long ∙ many) next.block_is);
            freqs_filled = rw put-freqs (filled_on _ _ (freqs-here _ e) (freqs_long ∙ many) next.block_is);
          }

      pub copy-ends : full_blocks_of t ≤ s.block → Written t bs docs₀ freqs₀ docs' freqs'
      unfolding nothing docs_of freqs_of
      copy-ends past =
          let e = reads-last t l bs s.block s.at s.least k past in
          record {
            docs_after = put-docs ∙ filled-ends _ (docs-here _ e);
            freqs_after = put-freqs ∙ filled-ends _ (freqs-here _ e);
          }
