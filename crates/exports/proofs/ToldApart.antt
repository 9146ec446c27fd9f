-- A caller tells a refusal from what it asked for by the mark 2 ^ 63: every count, rank, total and image's length lies below it, and
-- every refusal from it on.
-- Assumes nothing.
use Rattle.std.specs.Prelude.{Ok, Err}
use mathlib.Core.List.{List}
use mathlib.Core.Path.{◌≡◌, refl, sym, ap, ◌∙◌}
use Prim.Native.Nat.{ℕ, ◌+◌, ◌^◌, ◌<◌}
use native.Mathlib.Omega.{arith}
use lib.ListN.{length}
use Rattle.format.specs.declared.refusal.Refusal.{Refusal}
use Rattle.format.specs.declared.Term.{Term}
use Rattle.format.specs.Basics.{Outcome, and_then, AllBelow}
use Rattle.format.specs.Counts.{total}
use Rattle.format.specs.Refusal.{number_of}
use Rattle.format.specs.Reading.{docs_of}
use Rattle.format.proofs.Outcome.{refused≢ok, ok_same, and_then-ok}
use Rattle.segment_postings.specs.Cursor.{ranking}
use Rattle.segment_postings.specs.ReadWhole.{read_whole}
use Rattle.segment_postings.proofs.Laws.BelowMark.{total-most, rank_most}
use Rattle.segment_postings.proofs.Laws.ReadQuestions.{read-many}
use Rattle.serializer.specs.Calls.{answered}
use Rattle.serializer.specs.Writer.{listing, announcing}
use Rattle.serializer.proofs.Laws.EnoughRoom.{image-short}
use Rattle.serializer.proofs.Laws.WholeList.{whole-list-writes, announced_writes}
use Rattle.exports.specs.Exports.{coded, recorded, LeftCoded, ListCoded, DocsCoded}

pub record Told (o : Outcome ℕ) (r : ℕ) : Type 0 where
  pub number : (n : ℕ) → o ≡ Ok n → (r ≡ n) × (r < 2 ^ 63)
  pub refusal : (n : Refusal) → o ≡ Err n → r ≡ 2 ^ 63 + number_of n

told : (o : Outcome ℕ) → ((n : ℕ) → o ≡ Ok n → n < 2 ^ 63) → Told o (coded o)
told o small = record { number = λ n e. rw e (refl, small n e); refusal = λ n e. rw e }

module _ (mode count : ℕ) (bs : List ℕ) (target : ℕ) where
  pub total-told : Told (total mode count bs target) (coded (total mode count bs target))
  total-told = told _ (λ n e. total-most mode count bs target e)

  pub rank_told : Told (ranking mode count bs target) (coded (ranking mode count bs target))
  rank_told = told _ (λ n e. rank_most mode count bs target e)

module _ (t : Term) (bs : List ℕ) (docs_room freqs_room : ℕ) where
  -- how many documents a whole list has
  abbrev many : Outcome ℕ
  many = and_then (read_whole t bs docs_room freqs_room) λ blocks. Ok (length (docs_of blocks))

  pub read_told : Told many (coded many)
  read_told =
      told _ (λ n e.
      let blocks = and_then-ok _ _ e in
      omega (arith, ok_same blocks.2, read-many t bs docs_room freqs_room blocks.1))

-- ---- the length of an image that is written

abbrev sized : Outcome (List ℕ) → Outcome ℕ
sized o = and_then o λ image. Ok (length image)

image-told : (o : Outcome (List ℕ)) → ((image : List ℕ) → o ≡ Ok image → length image < 2 ^ 63) → Told (sized o) (coded (answered length o))
unfolding answered and_then
image-told (Ok image) short = record { number = λ n e. (ok_same e, short image refl); refusal = λ n e. absurd (refused≢ok (sym e)) }
image-told (Err k) short =
    record { number = λ n e. absurd (refused≢ok e); refusal = λ n e. let same : k ≡ n = cc in ap (λ m. 2 ^ 63 + number_of m) same }

left-told : {o : Outcome (List ℕ)} {mode recording : ℕ} {ds fs skips postings output skips' postings' output' : List ℕ} {r : ℕ}
    → LeftCoded o mode recording ds fs skips postings output skips' postings' output' r
    → ((image : List ℕ) → o ≡ Ok image → length image < 2 ^ 63) → Told (sized o) r
left-told {o} left short = rw (left.number ∙ ap coded left.left.answer) (image-told o short)

module _ (mode recording : ℕ) (ds fs skips postings output : List ℕ) (small : AllBelow (2 ^ 32) fs) where
  listed_short : {image : List ℕ} → listing mode (recorded recording) ds fs skips postings output ≡ Ok image → length image < 2 ^ 63
  listed_short e = image-short mode (recorded recording) ds fs small ((whole-list-writes mode (recorded recording) ds fs skips postings output).0 e).0

  -- what `vilthorwy_write_list` answers
  pub list-told : {skips' postings' output' : List ℕ} {r : ℕ} → ListCoded mode recording ds fs skips postings output skips' postings' output' r
      → Told (sized (listing mode (recorded recording) ds fs skips postings output)) r
  list-told left = left-told left (λ image e. listed_short e)

  -- .. and `vilthorwy_write_docs`
  pub docs-told : (announced : ℕ) {skips' postings' output' : List ℕ} {r : ℕ} → DocsCoded mode recording ds fs announced skips postings output skips' postings' output' r
      → Told (sized (announcing mode (recorded recording) announced ds fs skips postings output)) r
  docs-told announced left =
      left-told left (λ image e. listed_short ((announced_writes mode (recorded recording) ds fs skips postings output announced).0 e).1)
