-- A whole list handed to the writer in one call is written exactly where the definitions write it and the two areas and the output have
-- room: the call asks for the image first, then for the room. What is written is admitted and reads back, since every written image is.
-- Assumes nothing.
use Rattle.format.specs.declared.refusal.Refusal.TheVariants.{CountMismatch, NoRoom}
use Rattle.std.specs.Prelude.{◌≡◌, ℕ, ◌/◌, ◌^◌, ◌≤◌, Bool, true, ◌&&◌ as and, eqb, ltb, ◌↔◌, List, length, Ok}
use mathlib.Core.Bool.{and-eq-true_iff}
use mathlib.Core.Path.{refl, sym, ◌∙◌}
use native.Mathlib.Nat.{zero-add}
use borrow.Author.Tests.{le-leb, leb-true, eq-eqb, eqb-true}
use Rattle.format.specs.Basics.{and_then, ask, fits_at, AllBelow}
use Rattle.format.specs.SkipEntry.{has_freq_of}
use Rattle.format.specs.Written.{Parts, blocks_of}
use Rattle.format.specs.Accepted.{kept_in, written}
use Rattle.format.specs.Reading.{reading, soundness}
use Rattle.format.specs.ReadsBack.{read_freqs, ReadsBack}
use Rattle.format.proofs.Outcome.{ok_same, ask-ok, and_then-ok}
use Rattle.format.proofs.ReadsBack.{reads-back, written-sound}
use Rattle.serializer.specs.Lists.{HasRoom}
use Rattle.serializer.specs.Writer.{listing, announcing}

module _ (mode : ℕ) (recording : Bool) (ds fs skips postings output : List ℕ) where
  abbrev blocks : Parts
  blocks = blocks_of (kept_in mode recording) (length ds / 128) 0 ds fs

  abbrev fit : List ℕ → Bool
  fit image = and (and (fits_at 0 blocks.skips skips) (fits_at 0 blocks.postings postings)) (fits_at 0 image output)

  listing-is : listing mode recording ds fs skips postings output
      ≡ (and_then (written mode recording ds fs) λ image. ask (fit image) NoRoom λ _. Ok image)
  unfolding listing
  listing-is = refl

  pub announcing-is : (announced : ℕ) → announcing mode recording announced ds fs skips postings output
      ≡ (and_then (written mode recording ds fs) λ _. ask (eqb (length ds) announced) CountMismatch λ _. listing mode recording ds fs skips postings output)
  unfolding announcing
  announcing-is announced = refl

  fit-room : {image : List ℕ} → fit image ≡ true → HasRoom mode recording ds fs skips postings output image
  unfolding fits_at
  fit-room e =
      let p = (and-eq-true_iff _ _).0 (simp zero-add at e) in
      let q = (and-eq-true_iff _ _).0 p.0 in
      record { skips_fit = leb-true _ _ q.0; postings_fit = leb-true _ _ q.1; output_fit = leb-true _ _ p.1 }

  room-fit : {image : List ℕ} → HasRoom mode recording ds fs skips postings output image → fit image ≡ true
  unfolding fits_at
  room-fit r = simp zero-add (rw (le-leb _ _ r.skips_fit, le-leb _ _ r.postings_fit, le-leb _ _ r.output_fit))

  listing-ok : {image : List ℕ} → listing mode recording ds fs skips postings output ≡ Ok image
      → (written mode recording ds fs ≡ Ok image) × HasRoom mode recording ds fs skips postings output image
  listing-ok e =
      let p = and_then-ok (written mode recording ds fs) (λ l. ask (fit l) NoRoom λ _. Ok l) (sym listing-is ∙ e) in
      let q = ask-ok (fit p.0) NoRoom (λ _. Ok p.0) p.2 in
      (rw (ok_same q.1) at p.1, fit-room (rw (ok_same q.1) at q.0))

  -- promise 1 of the order: a list is written exactly where the definitions accept it and the buffers are long enough
  pub whole-list-writes : {image : List ℕ} → (listing mode recording ds fs skips postings output ≡ Ok image)
      ↔ ((written mode recording ds fs ≡ Ok image) × HasRoom mode recording ds fs skips postings output image)
  unfolding and_then ask
  whole-list-writes = (listing-ok, λ w. rw (listing-is, w.0, room-fit w.1))

  -- .. and under an announced count exactly where that is the list's own
  pub announced_writes : (announced : ℕ) {image : List ℕ} → (announcing mode recording announced ds fs skips postings output ≡ Ok image)
      ↔ ((announced ≡ length ds) × (listing mode recording ds fs skips postings output ≡ Ok image))
  unfolding and_then ask
  announced_writes announced = (
    λ e.
        let p = and_then-ok (written mode recording ds fs) _ (sym (announcing-is announced) ∙ e) in
        let q = ask-ok (eqb (length ds) announced) CountMismatch _ p.2 in
        (sym (eqb-true (length ds) announced q.0), q.1),
    λ p. rw (announcing-is, (listing-ok p.1).0, eq-eqb (length ds) announced (sym p.0)) p.1,
  )

  -- promise 2: what is written is admitted ..
  pub whole-list-sound : {image : List ℕ} → AllBelow (2 ^ 32) fs → listing mode recording ds fs skips postings output ≡ Ok image
      → soundness mode (length ds) image ≡ Ok tt
  whole-list-sound small e = written-sound mode recording ds fs small (listing-ok e).0

  -- .. and reads back as the list, with the frequencies where they are kept and requested, else a 1 for each
  pub whole-list-reads-back : {image : List ℕ} (requested : ℕ) → requested ≤ 2 → AllBelow (2 ^ 32) fs
      → listing mode recording ds fs skips postings output ≡ Ok image
      → ReadsBack ds (read_freqs (and (has_freq_of (kept_in mode recording)) (ltb 0 requested)) fs)
      (reading (record { mode = mode; requested = requested; count = length ds }) image)
  whole-list-reads-back requested known small e = reads-back mode requested recording ds fs known small (listing-ok e).0
