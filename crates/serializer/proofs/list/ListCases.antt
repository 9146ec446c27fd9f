-- A whole list's outcome, question by question: where one is answered no the list is refused and nothing is written, and where all
-- are answered yes the blocks in their areas and the tail make the image.
-- Assumes nothing.
use Rattle.format.specs.declared.refusal.Refusal.{Refusal}
use Rattle.format.specs.declared.refusal.Refusal.TheVariants.{UnknownMode, CountMismatch, NoRoom}
use Rattle.std.specs.Prelude.{◌≡◌, ℕ, ◌≤◌, Bool, true, false, ◌&&◌ as and, eqb, leb, List, length, take, Ok, Err}
use mathlib.Core.Bool.{and-eq-true_iff}
use mathlib.Core.Path.{refl, sym, ap, ◌∙◌}
use borrow.Author.Tests.{eq-eqb, ne_eqb, eqb-true}
use Rattle.format.specs.declared.IndexRecordOption.{IndexRecordOption}
use Rattle.format.specs.Basics.{Outcome, and_then, ask, choose, fits_at, put_at, or_before}
use Rattle.format.specs.Written.{image, image_from}
use Rattle.format.specs.Accepted.{known_mode_of, kept_in, begin, take_docs, written}
use Rattle.format.proofs.Area.{length-put_at, take-put_at-front}
use Rattle.format.proofs.Outcome.{ok_same, ask-ok, and_then-ok}
use Rattle.serializer.specs.declared.list.Sizes.{Sizes}
use Rattle.serializer.specs.Calls.{accepted, answered, ListLeft, Listed}
use Rattle.serializer.specs.Pieces.{ImagePut}
use Rattle.serializer.specs.Whole.{Checked, ListSized, full_blocks_of, blocks_fit, list_fits_of, BlocksPut, ListPut}
use Rattle.serializer.specs.Writer.{listing, announcing}
use Rattle.serializer.proofs.Laws.WholeList.{announcing-is}
use Rattle.serializer.proofs.list.CheckLoop.{taken-rises}
use Rattle.serializer.proofs.Laws.BlockPlaces.{image-from, front_fits, blocks-room, list_fits_of-is}

-- ---- an outcome that hangs on one question

module _ {A : Type 0} {o : Outcome A} (n : Refusal) (a : A) where
  asked-answer : (bytes : A → ℕ) (t : Bool) → o ≡ (ask t n λ _. Ok a)
      → answered bytes o ≡ choose t (λ _. Ok (bytes a)) (λ _. Err n)
  unfolding answered ask choose
  asked-answer bytes true e = rw e
  asked-answer bytes false e = rw e

  asked-after : {B : Type 0} (f : A → B) (t : Bool) (b : B) → o ≡ (ask t n λ _. Ok a) → or_before f o b ≡ choose t (λ _. f a) (λ _. b)
  unfolding or_before ask choose
  asked-after f true b e = rw e
  asked-after f false b e = rw e

-- ---- the definitions, opened by one turn

begin-is : (mode : ℕ) (recording : Bool) → begin mode recording ≡ ask (known_mode_of mode) UnknownMode λ _. Ok (kept_in mode recording)
unfolding begin
begin-is mode recording = refl

written_is : (mode : ℕ) (recording : Bool) (ds fs : List ℕ)
    → written mode recording ds fs
    ≡ (and_then (begin mode recording) λ option.
    ask (eqb (length ds) (length fs)) CountMismatch λ _.
    and_then (take_docs option 0 ds fs) λ _.
    Ok (image option ds fs))
unfolding written
written_is mode recording ds fs = refl

listing-is : (mode : ℕ) (recording : Bool) (ds fs skips postings output : List ℕ)
    → listing mode recording ds fs skips postings output
    ≡ (and_then (written mode recording ds fs) λ image.
    ask (and (blocks_fit (kept_in mode recording) ds fs skips postings) (fits_at 0 image output)) NoRoom λ _.
    Ok image)
unfolding listing blocks_fit full_blocks_of
listing-is mode recording ds fs skips postings output = refl

-- ---- the questions of the documents

then_accepted : {A B : Type 0} (b : B) (o : Outcome A) → accepted o ≡ accepted (and_then o λ _. Ok b)
unfolding accepted and_then
then_accepted b (Ok a) = refl
then_accepted b (Err n) = refl

module _ (mode : ℕ) (recording : Bool) (ds fs : List ℕ) where
  pub mode_unknown : known_mode_of mode ≡ false → accepted (written mode recording ds fs) ≡ Err UnknownMode
  unfolding accepted and_then ask
  mode_unknown h = rw (written_is, begin-is, h)

  pub lengths_differ : known_mode_of mode ≡ true → (length ds ≡ length fs → ⊥) → accepted (written mode recording ds fs) ≡ Err CountMismatch
  unfolding accepted and_then ask
  lengths_differ known h = rw (written_is, begin-is, known, ne_eqb _ _ h)

  pub docs-asked : known_mode_of mode ≡ true → length ds ≡ length fs
      → accepted (take_docs (kept_in mode recording) 0 ds fs) ≡ accepted (written mode recording ds fs)
  unfolding and_then ask
  docs-asked known same = rw (written_is, begin-is, known, eq-eqb _ _ same) (then_accepted (image (kept_in mode recording) ds fs) _)

  -- a list that passed them
  pub checked : {bytes : List ℕ} → written mode recording ds fs ≡ Ok bytes → Checked ds fs × (bytes ≡ image (kept_in mode recording) ds fs)
  checked e =
      let p = and_then-ok _ _ (sym (written_is mode recording ds fs) ∙ e) in
      let option = ok_same (ask-ok _ _ _ (sym (begin-is mode recording) ∙ p.1)).1 in
      let same = ask-ok _ _ _ p.2 in
      let taken = and_then-ok _ _ same.1 in
      (record { rises = taken-rises _ 0 _ _ taken.1; as_many = eqb-true _ _ same.0 }, sym (ok_same taken.2) ∙ rw option)

-- ---- where a question is answered no

-- nothing is written
pub left-refused : {o : Outcome (List ℕ)} {n : Refusal} (option : IndexRecordOption) (ds fs skips postings output : List ℕ) → o ≡ Err n
    → ListLeft o option ds fs skips postings output skips postings output (Err n)
unfolding answered or_before
left-refused option ds fs skips postings output e = record { answer = rw e; skips_after = rw e; postings_after = rw e; output_after = rw e }

-- .. nor where the documents' questions are
module _ (mode : ℕ) (recording : Bool) (ds fs skips postings output : List ℕ) where
  pub listing-refused : {n : Refusal} → written mode recording ds fs ≡ Err n → listing mode recording ds fs skips postings output ≡ Err n
  unfolding and_then
  listing-refused e = rw (listing-is, e)

  -- behind them only the room is asked for
  pub listing-room : {bytes : List ℕ} → written mode recording ds fs ≡ Ok bytes
      → listing mode recording ds fs skips postings output
      ≡ (ask (list_fits_of (kept_in mode recording) ds fs skips postings (length output)) NoRoom λ _. Ok (image (kept_in mode recording) ds fs))
  unfolding and_then
  listing-room e = rw (listing-is, e, (checked mode recording ds fs e).1, list_fits_of-is, front_fits (image (kept_in mode recording) ds fs) output)

  module _ (announced : ℕ) where
    pub announcing-refused : {n : Refusal} → written mode recording ds fs ≡ Err n
        → announcing mode recording announced ds fs skips postings output ≡ Err n
    unfolding and_then
    announcing-refused e = rw (announcing-is, e)

    module _ {bytes : List ℕ} (e : written mode recording ds fs ≡ Ok bytes) where
      pub miscounted : (length ds ≡ announced → ⊥) → announcing mode recording announced ds fs skips postings output ≡ Err CountMismatch
      unfolding and_then ask
      miscounted h = rw (announcing-is, e, ne_eqb _ _ h)

      pub announcing-room : length ds ≡ announced
          → announcing mode recording announced ds fs skips postings output
          ≡ (ask (list_fits_of (kept_in mode recording) ds fs skips postings (length output)) NoRoom λ _. Ok (image (kept_in mode recording) ds fs))
      unfolding and_then ask
      announcing-room h = rw (announcing-is, e, eq-eqb _ _ h) (listing-room e)

      module _ (h : length ds ≡ announced) {b : Bool} (fits : b ≡ list_fits_of (kept_in mode recording) ds fs skips postings (length output)) where
        pub without_room : b ≡ false → announcing mode recording announced ds fs skips postings output ≡ Err NoRoom
        unfolding ask
        without_room f = announcing-room h ∙ rw (sym fits ∙ f)

        pub with_room : b ≡ true → announcing mode recording announced ds fs skips postings output ≡ Ok (image (kept_in mode recording) ds fs)
        unfolding ask
        with_room t = announcing-room h ∙ rw (sym fits ∙ t)

-- ---- where all are answered yes

module _ (option : IndexRecordOption) (ds fs skips postings output : List ℕ) where
  pub put_refused : list_fits_of option ds fs skips postings (length output) ≡ false
      → ListPut option ds fs skips postings output skips postings output (Err NoRoom)
  unfolding choose
  put_refused e = record { answer = rw e; skips_after = rw e; postings_after = rw e; output_after = rw e }

  module _ (fits : list_fits_of option ds fs skips postings (length output) ≡ true) where
    both : (blocks_fit option ds fs skips postings ≡ true) × (leb (length (image option ds fs)) (length output) ≡ true)
    both = (and-eq-true_iff _ _).0 (sym (list_fits_of-is option ds fs skips postings (length output)) ∙ fits)

    pub blocks-fit : blocks_fit option ds fs skips postings ≡ true
    blocks-fit = both.0

    module _ {sizes : Sizes} {skips' postings' : List ℕ} (sized : ListSized option ds fs sizes)
        (blocks : BlocksPut option ds fs skips postings skips' postings') where
      room : (sizes.entries ≤ length skips) × (sizes.blocks ≤ length postings)
      room = rw (sized.entries_are, sized.blocks_are) (blocks-room option ds fs skips postings blocks-fit)

      pub parts-there : (sizes.entries ≤ length skips') × (sizes.blocks ≤ length postings')
      parts-there = (rw (blocks.skips_after, length-put_at) room.0, rw (blocks.postings_after, length-put_at) room.1)

      -- the image of what stands in the areas is the list's
      image_there : image_from option ds fs (take sizes.entries skips') (take sizes.blocks postings') ≡ image option ds fs
      image_there =
          let all = blocks-room option ds fs skips postings blocks-fit in
          rw (blocks.skips_after, blocks.postings_after, sized.entries_are, sized.blocks_are, take-put_at-front _ skips all.0, take-put_at-front _ postings all.1, ← image-from)

      pub put_all : {output' : List ℕ} {r : Outcome ℕ}
          → ImagePut (image_from option ds fs (take sizes.entries skips') (take sizes.blocks postings')) output output' r
          → ListPut option ds fs skips postings output skips' postings' output' r
      unfolding choose
      put_all p = record {
        answer = p.answer ∙ rw (image_there, front_fits (image option ds fs) output, both.1, fits);
        skips_after = rw fits blocks.skips_after;
        postings_after = rw fits blocks.postings_after;
        output_after = rw fits (p.output_after ∙ ap (λ (bs : List ℕ). put_at 0 bs output) image_there);
      }

-- a list that passed questions 11 to 14 is listed as it is put
pub listed_put : (mode : ℕ) (recording : Bool) (ds fs skips postings output : List ℕ) {skips' postings' output' : List ℕ} {r : Outcome ℕ}
    → listing mode recording ds fs skips postings output
    ≡ (ask (list_fits_of (kept_in mode recording) ds fs skips postings (length output)) NoRoom λ _. Ok (image (kept_in mode recording) ds fs))
    → ListPut (kept_in mode recording) ds fs skips postings output skips' postings' output' r
    → Listed mode recording ds fs skips postings output skips' postings' output' r
unfolding full_blocks_of
listed_put mode recording ds fs skips postings output e p = record {
  answer = p.answer ∙ sym (asked-answer _ _ length _ e);
  skips_after = p.skips_after ∙ sym (asked-after _ _ _ _ skips e);
  postings_after = p.postings_after ∙ sym (asked-after _ _ _ _ postings e);
  output_after = p.output_after ∙ sym (asked-after _ _ _ _ output e);
}
