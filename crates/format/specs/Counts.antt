-- How many documents lie below a target, which ones they are, and the total, the sum of their frequencies. Rank, which a fresh cursor
-- counts by a seek, is `ranking` of crate segment_postings.
-- Assumes nothing.
use Rattle.format.specs.declared.refusal.Refusal.TheVariants.{TargetTooLarge}
use Rattle.std.specs.Prelude.{List, [], ◌∷◌, ℕ, ◌+◌, length, take, leb, ltb, Ok}
use Rattle.format.specs.Basics.{Outcome, and_then, ask, choose, TERMINATED}
use Rattle.format.specs.Reading.{Reading, reading, docs_of, freqs_of}

-- how many documents at the front lie below the target
unfoldable pub count_below : ℕ → List ℕ → ℕ
unfolding choose
count_below target [] = 0
count_below target (d ∷ ds) = choose (ltb d target) (λ _. 1 + count_below target ds) (λ _. 0)

unfoldable pub sum : List ℕ → ℕ
sum [] = 0
sum (f ∷ fs) = f + sum fs

-- the frequencies below the target, if the walk comes to a document at or above it or to the end
unfoldable pub total_in : ℕ → Reading → Outcome ℕ
unfolding and_then choose count_below sum docs_of freqs_of
total_in target r =
    let n : ℕ = count_below target (docs_of r.blocks) in
    and_then (choose (ltb n (length (docs_of r.blocks))) (λ _. Ok tt) (λ _. r.verdict)) λ _.
    Ok (sum (take n (freqs_of r.blocks)))

-- question 10, then a walk with frequencies requested
unfoldable pub total : ℕ → ℕ → List ℕ → ℕ → Outcome ℕ
unfolding ask total_in reading
total mode count bs target =
    ask (leb target TERMINATED) TargetTooLarge λ _.
    total_in target (reading (record { mode = mode; requested = 1; count = count }) bs)

-- ---- what rank and total are on a sound image (crate postings: `rank_counted`, `total-sums`)

-- the ids below the target, wherever in the list they stand
unfoldable pub ids_below : ℕ → List ℕ → List ℕ
unfolding choose
ids_below target [] = []
ids_below target (d ∷ ds) = choose (ltb d target) (λ _. d ∷ ids_below target ds) (λ _. ids_below target ds)

-- the sum of the frequencies of the documents below the target
unfoldable pub sum_below : ℕ → List ℕ → List ℕ → ℕ
unfolding choose
sum_below target [] fs = 0
sum_below target (d ∷ ds) [] = 0
sum_below target (d ∷ ds) (f ∷ fs) = choose (ltb d target) (λ _. f) (λ _. 0) + sum_below target ds fs
