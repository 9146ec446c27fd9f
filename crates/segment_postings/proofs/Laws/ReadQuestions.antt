-- The questions before a whole list is read, in turn: the layout in the requested mode, soundness, room. A sound image is sound in every
-- known requested mode, so that once its layout is found in the requested one, the walk is refused nothing.
-- Assumes nothing.
use Rattle.format.specs.declared.refusal.Refusal.{Refusal}
use Rattle.format.specs.declared.refusal.Refusal.TheVariants.{UnknownMode, NoRoom}
use Rattle.std.specs.Prelude.{◌≡◌, ℕ, ◌<◌, ◌≤◌, ◌&&◌ as and, leb, List, length, Ok, Err}
use mathlib.Core.Bool.{and-false}
use mathlib.Core.Path.{refl, sym, ap, ◌∙◌}
use native.Mathlib.Decide.{dec_le}
use native.Mathlib.Omega.{arith}
use borrow.Author.Tests.{le-leb, lt-leb}
use Rattle.format.specs.declared.Layout.{Layout}
use Rattle.format.specs.declared.Term.{Term}
use Rattle.format.specs.Basics.{Outcome, and_then, ask, TERMINATED, or_before}
use Rattle.format.specs.Layout.{layout}
use Rattle.format.specs.Reading.{Block, reading, soundness, docs_of}
use Rattle.format.proofs.Blocks.{docs_many}
use Rattle.format.proofs.Opened.{layout_is}
use Rattle.format.proofs.Outcome.{refused≢ok, ok_same, ask-ok, and_then-ok}
use Rattle.format.proofs.Requested.{sound_requested}
use Rattle.format.proofs.Sound.{sound-image, sound-blocks, whole-count}
use Rattle.segment_postings.specs.ReadWhole.{read_whole, WholeRead, Walks, Written}
use Rattle.segment_postings.proofs.Laws.BelowMark.{count_most}

-- ---- the requested mode of a sound image

mode_unknown : (t : Term) (bs : List ℕ) → 2 < t.requested → layout t bs ≡ Err UnknownMode
unfolding ask
mode_unknown t bs h = rw (layout_is, lt-leb t.requested 2 h, and-false)

module _ (t : Term) (bs : List ℕ) {l : Layout} (e : layout t bs ≡ Ok l) where
  known : t.requested ≤ 2
  known = elim (dec_le t.requested 2) [
    | yes k ↦ k
    | no more ↦ absurd (refused≢ok (sym (mode_unknown t bs (omega arith)) ∙ e))
  ]

  known_sound : soundness t.mode t.count bs ≡ Ok tt → (reading t bs).verdict ≡ Ok tt
  known_sound sound = sound_requested t.mode t.requested t.count bs known sound

-- ---- the questions

module _ (t : Term) (bs : List ℕ) (docs_room freqs_room : ℕ) where
  pub unlaid : {n : Refusal} → layout t bs ≡ Err n → read_whole t bs docs_room freqs_room ≡ Err n
  unfolding read_whole and_then
  unlaid e = rw e

  module _ {l : Layout} (e : layout t bs ≡ Ok l) where
    pub unsound : {n : Refusal} → soundness t.mode t.count bs ≡ Err n → read_whole t bs docs_room freqs_room ≡ Err n
    unfolding read_whole and_then
    unsound is = rw (e, is)

    module _ (sound : soundness t.mode t.count bs ≡ Ok tt) where
      pub docs-short : docs_room < t.count → read_whole t bs docs_room freqs_room ≡ Err NoRoom
      unfolding read_whole and_then ask
      docs-short h = rw (e, sound, lt-leb t.count docs_room h)

      pub freqs-short : freqs_room < t.count → read_whole t bs docs_room freqs_room ≡ Err NoRoom
      unfolding read_whole and_then ask
      freqs-short h = rw (e, sound, lt-leb t.count freqs_room h, and-false)

      module _ (docs_fit : t.count ≤ docs_room) (freqs_fit : t.count ≤ freqs_room) where
        pub whole_walks : Walks t bs docs_room freqs_room
        whole_walks = record { sound = known_sound t bs e sound; docs_fit = docs_fit; freqs_fit = freqs_fit }

        pub whole_is : read_whole t bs docs_room freqs_room ≡ Ok (reading t bs).blocks
        unfolding read_whole and_then ask
        whole_is = rw (e, sound, le-leb _ _ docs_fit, le-leb _ _ freqs_fit)

-- ---- the answers

pub whole-refused : {o : Outcome (List Block)} {docs freqs : List ℕ} {n : Refusal} → o ≡ Err n
    → WholeRead o docs freqs docs freqs (Err n)
unfolding and_then or_before
whole-refused e = rw e (record { answer = refl; docs_after = refl; freqs_after = refl })

-- as many as the count says
pub whole-many : (t : Term) (bs : List ℕ) → (reading t bs).verdict ≡ Ok tt → length (docs_of (reading t bs).blocks) ≡ t.count
whole-many t bs sound = docs_many (sound-blocks (sound-image t bs sound)) ∙ whole-count t

pub whole-written : (t : Term) (bs : List ℕ) {o : Outcome (List Block)} {docs freqs docs' freqs' : List ℕ} → o ≡ Ok (reading t bs).blocks
    → (reading t bs).verdict ≡ Ok tt → Written t bs docs freqs docs' freqs' → WholeRead o docs freqs docs' freqs' (Ok t.count)
unfolding and_then or_before
whole-written t bs e sound w =
    rw e
    (record {
      answer = ap (λ (n : ℕ). Ok n) (sym (whole-many t bs sound));
      docs_after = w.docs_after;
      freqs_after = w.freqs_after;
    })

-- ---- how many may be read

module _ (t : Term) (bs : List ℕ) (docs_room freqs_room : ℕ) where
  read_whole-is : read_whole t bs docs_room freqs_room
      ≡ (and_then (layout t bs) λ _.
      and_then (soundness t.mode t.count bs) λ _.
      ask (and (leb t.count docs_room) (leb t.count freqs_room)) NoRoom λ _.
      Ok (reading t bs).blocks)
  unfolding read_whole
  read_whole-is = refl

  -- as many as the count says, which is in range
  pub read-many : {blocks : List Block} → read_whole t bs docs_room freqs_room ≡ Ok blocks
      → (length (docs_of blocks) ≡ t.count) × (t.count ≤ TERMINATED)
  read-many e =
      let laid = and_then-ok _ _ (sym read_whole-is ∙ e) in
      let sound = and_then-ok _ _ laid.2 in
      let room = ask-ok _ _ _ sound.2 in
      let through = known_sound t bs laid.1 sound.1 in
      (rw (← ok_same room.1) (whole-many t bs through), count_most t bs laid.1)
