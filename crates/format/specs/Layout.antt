-- The parts of an image: questions 1 to 4.
-- Assumes nothing.
use Rattle.format.specs.declared.refusal.Refusal.TheVariants.{UnknownMode, CountTooLarge, SkipLengthBroken, SkipLengthWrong}
use Rattle.std.specs.Prelude.{true, ◌&&◌ as and, List, ℕ, ◌+◌, ◌-◌, ◌*◌, ◌/◌, ◌%◌, length, take, drop, eqb, leb, Ok, Err, Option, None, Some}
use Rattle.format.specs.declared.IndexRecordOption.{IndexRecordOption}
use Rattle.format.specs.declared.Layout.{Layout}
use Rattle.format.specs.declared.Term.{Term}
use Rattle.format.specs.Basics.{Outcome, ask, choose, TERMINATED}
use Rattle.format.specs.Vint.{skip_length}
use Rattle.format.specs.SkipEntry.{entry_size_of}
use Rattle.format.specs.Accepted.{known_mode_of, kept_in}

-- F of document 01
unfoldable pub full_blocks_of : Term → ℕ
full_blocks_of t = t.count / 128

unfoldable pub tail_length : Term → ℕ
tail_length t = t.count % 128

-- the skip bytes and the posting bytes, as parts of the image
unfoldable pub skip_bytes_of : Layout → List ℕ → List ℕ
skip_bytes_of l bs = take (l.postings - l.skips) (drop l.skips bs)

unfoldable pub posting_bytes_of : Layout → List ℕ → List ℕ
posting_bytes_of l bs = drop l.postings bs

-- question 4: the skip length is 5 for each full block without frequencies, 8 with; below 8 for each they weren't recorded
unfoldable pub sized : Term → ℕ → ℕ → Outcome Layout
unfolding ask full_blocks_of entry_size_of kept_in
sized t size used =
    let option : IndexRecordOption = kept_in t.mode (leb (8 * full_blocks_of t) size) in
    ask (eqb size (entry_size_of option * full_blocks_of t)) SkipLengthWrong λ _.
    Ok (record { option = option; skips = used; postings = used + size })

-- question 3: the skip length is a number, not above the bytes left
unfoldable pub split : Term → List ℕ → Option (ℕ × ℕ) → Outcome Layout
unfolding ask sized
split t bs None = Err SkipLengthBroken
split t bs (Some (size, used)) = ask (leb size (length bs - used)) SkipLengthBroken λ _. sized t size used

-- questions 1 to 4
unfoldable pub layout : Term → List ℕ → Outcome Layout
unfolding ask choose full_blocks_of split skip_length known_mode_of kept_in
layout t bs =
    ask (and (known_mode_of t.mode) (leb t.requested 2)) UnknownMode λ _.
    ask (leb t.count TERMINATED) CountTooLarge λ _.
    choose (eqb (full_blocks_of t) 0)
    (λ _. Ok (record { option = kept_in t.mode true; skips = 0; postings = 0 }))
    (λ _. split t bs (skip_length bs))
