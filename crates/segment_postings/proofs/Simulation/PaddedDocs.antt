-- The 128 places of a block: its documents, which rise, filled up with TERMINATED. They never fall, and the last is a full block's last
-- document, a shorter one's TERMINATED. So the search for a target that the last place reaches answers how many documents lie below
-- it.
-- Assumes nothing.
use Rattle.std.specs.Prelude.{◌≡◌, ℕ, zero, suc, ◌+◌, ◌-◌, ◌<◌, ◌≤◌, true, List, [], ◌∷◌, ◌++◌, length, get_or, replicate}
use mathlib.Core.Path.{refl, ap, ◌∙◌}
use native.Mathlib.Nat.{not-suc-le-zero, le_of_suc-le-suc}
use native.Mathlib.Numerals.{add-one}
use native.Mathlib.Omega.{arith}
use lib.ListN.{length-append, length-replicate, get_or-replicate, get_or-append}
use lib.Seq.{get_or-append-add}
use Rattle.format.specs.Basics.{last_of, TERMINATED}
use Rattle.format.specs.Counts.{count_below}
use Rattle.format.specs.Values.{rising}
use Rattle.format.proofs.Values.{rising-cons}
use Rattle.format.proofs.Below.{count-reaches, count-filled}
use Rattle.block_search.specs.Search.{search_block_of}
use Rattle.block_search.proofs.Search.{search_is-count}
use Rattle.segment_postings.specs.Landing.{padded}

-- documents that rise, filled up with TERMINATED, never fall
filled-rises : (least k : ℕ) (ds : List ℕ) (i : ℕ) → rising least ds ≡ true
    → (let xs : List ℕ = ds ++ replicate k TERMINATED in suc i < length xs → get_or xs i 0 ≤ get_or xs (suc i) 0)
filled-rises least k [] i r h =
    let within : suc i < k = omega (arith, length-replicate k TERMINATED) in
    rw (get_or-replicate k i TERMINATED 0 (omega arith), get_or-replicate k (suc i) TERMINATED 0 within) (omega arith)
filled-rises least zero (d ∷ []) zero r h = absurd (not-suc-le-zero (le_of_suc-le-suc h))
filled-rises least (suc k) (d ∷ []) zero r h = omega (arith, (rising-cons least d [] r).below)
filled-rises least k (d ∷ (e ∷ ds)) zero r h =
    omega (arith, (rising-cons (d + 1) e ds (rising-cons least d (e ∷ ds) r).rest).above)
filled-rises least k (d ∷ ds) (suc i) r h = filled-rises (d + 1) k ds i (rising-cons least d ds r).rest (le_of_suc-le-suc h)

-- the last of a list
last-at : (z n : ℕ) (ds : List ℕ) → length ds ≡ suc n → get_or ds n 0 ≡ last_of z ds
unfolding last_of
last-at z n [] e = absurd (omega arith)
last-at z zero (d ∷ []) e = refl
last-at z (suc n) (d ∷ []) e = absurd (omega arith)
last-at z zero (d ∷ (d' ∷ ds)) e = absurd (omega arith)
last-at z (suc n) (d ∷ (d' ∷ ds)) e = last-at d n (d' ∷ ds) (omega arith)

-- .. and of the places
pub full_last : (ds : List ℕ) → length ds ≡ 128 → get_or (padded TERMINATED ds) 127 0 ≡ last_of 0 ds
unfolding padded
full_last ds full = get_or-append ds _ 0 127 (omega arith) ∙ last-at 0 127 ds full

pub tail-last : (ds : List ℕ) → length ds < 128 → get_or (padded TERMINATED ds) 127 0 ≡ TERMINATED
unfolding padded
tail-last ds short =
    let behind : 127 ≡ length ds + (127 - length ds) = omega arith in
    ap (λ i. get_or (padded TERMINATED ds) i 0) behind
    ∙ get_or-append-add ds _ (127 - length ds) 0
    ∙ get_or-replicate (128 - length ds) _ TERMINATED 0 (omega arith)

-- the place that the search of an array finds
pub record Searches (target : ℕ) (ds xs : List ℕ) : Type 0 where
  pub counts : search_block_of xs target ≡ count_below target ds
  pub below : search_block_of xs target < 128
  pub reaches : target ≤ get_or xs (search_block_of xs target) 0

module _ (least : ℕ) (ds : List ℕ) (r : rising least ds ≡ true) (few : length ds ≤ 128) where
  padded-length : length (padded TERMINATED ds) ≡ 128
  unfolding padded
  padded-length = rw (length-append, length-replicate) (omega arith)

  padded-rises : (i : ℕ) → i + 1 < 128 → get_or (padded TERMINATED ds) i 0 ≤ get_or (padded TERMINATED ds) (i + 1) 0
  unfolding padded
  padded-rises i h = rw add-one (filled-rises least (128 - length ds) ds i r (omega (arith, padded-length)))

  -- so the search counts the documents below the target, where the last place reaches it
  pub padded_search : (target : ℕ) → target ≤ TERMINATED → target ≤ get_or (padded TERMINATED ds) 127 0
      → Searches target ds (padded TERMINATED ds)
  unfolding padded
  padded_search target most reached =
      let xs : List ℕ = padded TERMINATED ds in
      let p = search_is-count xs target (λ i h. padded-rises i (omega (arith, padded-length))) reached in
      record {
        counts = p.0 ∙ count-filled target ds (128 - length ds) TERMINATED most;
        below = p.1;
        reaches = rw p.0 (count-reaches target xs 0 (omega (arith, p.0, p.1, padded-length)));
      }
