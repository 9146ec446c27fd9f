-- What a whole list answers decides the listing: an image that is written reads back as the columns, so that the text of its walk is the
-- model's on them; and since there is room for every image, a refusal is the definitions'.
-- Assumes nothing.
use Rattle.std.specs.Prelude.{Option, None, Some, option_map, Ok, Err}
use mathlib.Core.Bool.{true}
use mathlib.Core.List.{List, ◌++◌}
use mathlib.Core.Path.{◌≡◌, refl, ◌∙◌}
use Prim.Native.Nat.{ℕ, ◌≤◌, ◌<◌, ◌^◌}
use native.Mathlib.Omega.{arith}
use borrow.Author.Tests.{le-leb, lt-leb}
use lib.ListN.{length, take}
use Rattle.format.specs.declared.refusal.Refusal.{Refusal}
use Rattle.format.specs.Basics.{Outcome, choose, put_at, AllBelow, or_before}
use Rattle.format.specs.SkipEntry.{has_freq_of}
use Rattle.format.specs.Accepted.{kept_in, written}
use Rattle.format.specs.Reading.{reading, docs_of, freqs_of}
use Rattle.format.specs.ReadsBack.{read_freqs, ReadsBack}
use Rattle.format.proofs.Area.{length-put_at, take-put_at-front}
use Rattle.format.proofs.ReadsBack.{reads-back}
use Rattle.serializer.specs.Writer as writer
use Rattle.serializer.specs.Calls.{answered, Listed}
use Rattle.serializer.proofs.Laws.WholeList.{whole-list-writes}
use Rattle.listing.specs.Input.{table, taken, Reads}
use Rattle.listing.specs.Output.{header, refusal, steps, unless_refused, listing, listing_in, listing_of, Puts}
use Rattle.listing.proofs.Putting.{puts_then}
use Rattle.listing.proofs.Room.{has_room}

listing-ok : (ds fs : List ℕ) {bytes : List ℕ} → written 1 true ds fs ≡ Ok bytes → listing ds fs ≡ header ++ steps ds fs
unfolding listing unless_refused
listing-ok ds fs w = rw w

listing-refused : (ds fs : List ℕ) {why : Refusal} → written 1 true ds fs ≡ Err why → listing ds fs ≡ refusal
unfolding listing unless_refused
listing-refused ds fs w = rw w

-- the image's bytes at the front of the area read back as the list
pub record Wrote (ds fs area : List ℕ) (size : ℕ) : Type 0 where
  pub text : listing ds fs ≡ header ++ steps ds fs
  pub within : size ≤ length area
  pub back : ReadsBack ds fs (reading (record { mode = 1; requested = 1; count = length ds }) (take size area))

back_as : (ds fs : List ℕ) {bytes : List ℕ} → AllBelow (2 ^ 32) fs → written 1 true ds fs ≡ Ok bytes
    → ReadsBack ds fs (reading (record { mode = 1; requested = 1; count = length ds }) bytes)
unfolding read_freqs has_freq_of kept_in choose
back_as ds fs small w = reads-back 1 1 true ds fs (omega arith) small w

module _ (ds fs skips postings area : List ℕ) where
  -- .. with the image that is written
  wrote_ok : (area' bytes : List ℕ) (n : ℕ) → AllBelow (2 ^ 32) fs → writer.listing 1 true ds fs skips postings area ≡ Ok bytes
      → n ≡ length bytes → area' ≡ put_at 0 bytes area → Wrote ds fs area' n
  wrote_ok area' bytes n small is size put =
      let p = (whole-list-writes 1 true ds fs skips postings area).0 is in
      let room = p.1.output_fit in
      rw (size, put)
      (record {
        text = listing-ok ds fs p.0;
        within = rw (length-put_at 0 bytes area) room;
        back = rw (take-put_at-front bytes area room) (back_as ds fs small p.0);
      })

  module _ {skips' postings' area' : List ℕ} {r : Outcome ℕ} (few : length ds ≤ 16384) (small : AllBelow (2 ^ 32) fs)
      (k : Listed 1 true ds fs skips postings area skips' postings' area' r) where
    pub wrote : (n : ℕ) → r ≡ Ok n → Wrote ds fs area' n
    unfolding answered or_before
    wrote n e = go (writer.listing 1 true ds fs skips postings area) refl
      where
        go : (o : Outcome (List ℕ)) → writer.listing 1 true ds fs skips postings area ≡ o → Wrote ds fs area' n
        go (Ok bytes) is =
            let answer : r ≡ Ok (length bytes) = k.answer ∙ rw is in
            wrote_ok area' bytes n small is (cc) (k.output_after ∙ rw is)
        go (Err m) is =
            let answer : r ≡ Err m = k.answer ∙ rw is in grind arith

    pub wrote_none : (why : Refusal) → length skips ≡ 1024 → length postings ≡ 131072 → length area ≡ 163840 → r ≡ Err why → listing ds fs ≡ refusal
    unfolding answered
    wrote_none why s p a e = go (written 1 true ds fs) refl
      where
        go : (o : Outcome (List ℕ)) → written 1 true ds fs ≡ o → listing ds fs ≡ refusal
        go (Ok bytes) w =
            let is = (whole-list-writes 1 true ds fs skips postings area).1 (w, has_room ds fs few small w s p a) in
            let answer : r ≡ Ok (length bytes) = k.answer ∙ rw is in grind arith
        go (Err m) w = listing-refused ds fs w

-- ---- the text of what is written

-- the header, then the lines of the walk over the image
pub listed_text : {ds fs area : List ℕ} {n : ℕ} → Wrote ds fs area n → {output output' output'' : List ℕ} {next r : ℕ} → Puts header 0 output output' next
    → (let read = reading (record { mode = 1; requested = 1; count = length ds }) (take n area) in
    Puts (steps (docs_of read.blocks) (freqs_of read.blocks)) next output' output'' r)
    → Puts (listing ds fs) 0 output output'' r
listed_text w first later = rw w.text (puts_then first (rw (w.back.docs, w.back.freqs) at later))

-- ---- the whole program

pub too_long : (text : List ℕ) → 65536 < length text → listing_of text ≡ refusal
unfolding listing_of choose
too_long text h = rw (lt-leb (length text) 65536 h)

module _ (text : List ℕ) {ids freqs : List ℕ} {r : Option ℕ} (k : Reads (table text) ids freqs r) where
  listing-text : length text ≤ 65536 → listing_of text ≡ listing_in (option_map (λ n. taken n ids freqs) r)
  unfolding listing_of choose
  listing-text h = rw (le-leb (length text) 65536 h, k.columns_are)

  pub listed_rows : (n : ℕ) → length text ≤ 65536 → r ≡ Some n → listing_of text ≡ listing (take n ids) (take n freqs)
  unfolding listing_in
  listed_rows n h e = listing-text h ∙ rw e

  pub listed_none : length text ≤ 65536 → r ≡ None → listing_of text ≡ refusal
  unfolding listing_in
  listed_none h e = listing-text h ∙ rw e
