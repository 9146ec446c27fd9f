-- The full blocks of a list, taken off the front block by block, so that each law is one induction on their number. Blocks of m + n are
-- those of the first m and those of the n behind them, which begin above the last id of the first m.
-- Assumes nothing.
use Rattle.std.specs.Prelude.{◌≡◌, ℕ, zero, suc, ◌+◌, ◌-◌, ◌*◌, ◌/◌, ◌<◌, ◌≤◌, List, [], ◌∷◌, ◌++◌, length, get_or, take, drop}
use mathlib.Core.List.{append_assoc, append-nil}
use mathlib.Core.Path.{refl, ap, ◌∙◌}
use native.Mathlib.Nat.{not-suc-le-zero, mul-suc, zero-add, suc-add, add-sub_of_le}
use native.Mathlib.Numerals.{add-one}
use native.Mathlib.Omega.{arith}
use lib.ListN.{length-append, length-take, length-drop}
use lib.Seq.{take-add, drop-drop, get_or-take, get_or-drop}
use Rattle.std.specs.Simd.{first_chunks}
use Rattle.format.specs.declared.IndexRecordOption.{IndexRecordOption}
use Rattle.format.specs.Basics.{last_of}
use Rattle.format.specs.Written.{entry_of, block_of, Parts, blocks_of}
use Rattle.format.proofs.ImageParts.{blocks_of-zero, blocks_of-suc}
use Rattle.serializer.specs.Writer.{least_after_of}

-- ---- the blocks of a list as arrays

pub block-at : (k n : ℕ) (ds : List ℕ) → n < k → get_or (first_chunks 128 k ds) n [] ≡ take 128 (drop (128 * n) ds)
block-at zero n ds h = absurd (omega arith)
block-at (suc k) zero ds h = refl
block-at (suc k) (suc n) ds h = block-at k n (drop 128 ds) (omega arith) ∙ rw (drop-drop, mul-suc) (ap (λ (m : ℕ). take 128 (drop m ds)) (omega arith))

-- what a loop over them has at turn n
pub record BlockTurn (ds fs ids freqs : List ℕ) (n : ℕ) : Type 0 where
  pub more : n < length ds / 128
  pub docs_are : ids ≡ take 128 (drop (128 * n) ds)
  pub freqs_are : freqs ≡ take 128 (drop (128 * n) fs)
  pub last_is : get_or ids 127 0 ≡ get_or ds (128 * n + 127) 0

pub block-turn : (ds fs : List ℕ) {blocks blocks' : List (List ℕ)} {ids freqs : List ℕ} {n : ℕ} → length ds ≡ length fs
    → blocks ≡ first_chunks 128 (length ds / 128) ds → length blocks ≡ length ds / 128 → blocks' ≡ first_chunks 128 (length fs / 128) fs
    → n < length blocks → ids ≡ get_or blocks n [] → freqs ≡ get_or blocks' n [] → BlockTurn ds fs ids freqs n
block-turn ds fs {ids = ids} {n = n} same front long front' more ids_are freqs_are =
    let docs : ids ≡ take 128 (drop (128 * n) ds) = ids_are ∙ rw front (block-at (length ds / 128) n ds (omega arith)) in
    record {
      more = omega arith;
      docs_are = docs;
      freqs_are = freqs_are ∙ rw front' (block-at (length fs / 128) n fs (omega arith));
      last_is = rw docs (get_or-take 128 (drop (128 * n) ds) 127 0 (omega arith) ∙ get_or-drop (128 * n) ds 127 0);
    }

-- ---- the least id behind a list

-- one more than its last, if it has one
pub least_after_of-last : (least : ℕ) (ds : List ℕ) → 0 < length ds → least_after_of least ds ≡ last_of 0 ds + 1
unfolding least_after_of last_of
least_after_of-last least [] h = absurd (not-suc-le-zero h)
least_after_of-last least (d ∷ ds) h = refl

-- the id before it: the list's last, 0 where it has none
pub least-before : (ds : List ℕ) → least_after_of 0 ds - 1 ≡ last_of 0 ds
unfolding least_after_of last_of
least-before [] = refl
least-before (d ∷ ds) = omega arith

pub least_after_of-append : (least : ℕ) (a b : List ℕ) → least_after_of least (a ++ b) ≡ least_after_of (least_after_of least a) b
unfolding least_after_of last_of
least_after_of-append least [] b = refl
least_after_of-append least (d ∷ []) [] = refl
least_after_of-append least (d ∷ []) (e ∷ b) = refl
least_after_of-append least (d ∷ (e ∷ a)) b = least_after_of-append least (e ∷ a) b

-- .. behind a full block and what is taken of what follows it
next-least : (m least : ℕ) (ds : List ℕ) → 128 ≤ length ds
    → least_after_of (last_of 0 (take 128 ds) + 1) (take m (drop 128 ds)) ≡ least_after_of least (take (128 + m) ds)
next-least m least ds h = rw (take-add, least_after_of-append, least_after_of-last least (take 128 ds) (rw length-take (omega arith)))

-- ---- more blocks

pub blocks-append : (option : IndexRecordOption) (m n least : ℕ) (ds fs : List ℕ) → 128 * m ≤ length ds
    → blocks_of option (m + n) least ds fs
    ≡ (let behind : Parts = blocks_of option n (least_after_of least (take (128 * m) ds)) (drop (128 * m) ds) (drop (128 * m) fs) in
    record {
      skips = (blocks_of option m least ds fs).skips ++ behind.skips;
      postings = (blocks_of option m least ds fs).postings ++ behind.postings;
    })
unfolding least_after_of
blocks-append option zero n least ds fs h = rw (zero-add, blocks_of-zero)
blocks-append option (suc m) n least ds fs h =
    let later = blocks-append option m n (last_of 0 (take 128 ds) + 1) (drop 128 ds) (drop 128 fs) (rw length-drop (omega arith)) in
    let more : 128 * suc m ≡ 128 + 128 * m = omega arith in
    rw (
      suc-add,
      blocks_of-suc option (m + n) least ds fs,
      blocks_of-suc option m least ds fs,
      later,
      more,
      ← drop-drop (128 * m) 128 ds,
      ← drop-drop (128 * m) 128 fs,
      next-least (128 * m) least ds (omega arith),
    )
    (simp append_assoc)

-- fewer are not longer
pub blocks_fewer : (option : IndexRecordOption) (m n least : ℕ) (ds fs : List ℕ) → m ≤ n → 128 * m ≤ length ds
    → (length (blocks_of option m least ds fs).skips ≤ length (blocks_of option n least ds fs).skips)
    × (length (blocks_of option m least ds fs).postings ≤ length (blocks_of option n least ds fs).postings)
blocks_fewer option m n least ds fs fewer h =
    rw (← add-sub_of_le fewer, blocks-append option m (n - m) least ds fs h) (simp length-append (omega arith))

-- one more, at the end: the next 128 documents
pub blocks-next : (option : IndexRecordOption) (n least : ℕ) (ds fs : List ℕ) → 128 * n ≤ length ds
    → blocks_of option (suc n) least ds fs
    ≡ (let next : ℕ = least_after_of least (take (128 * n) ds) in
    let docs : List ℕ = take 128 (drop (128 * n) ds) in
    let freqs : List ℕ = take 128 (drop (128 * n) fs) in
    record {
      skips = (blocks_of option n least ds fs).skips ++ entry_of option next docs freqs;
      postings = (blocks_of option n least ds fs).postings ++ block_of option next docs freqs;
    })
blocks-next option n least ds fs h = rw (← add-one n, blocks-append option n 1 least ds fs h, blocks_of-suc, blocks_of-zero) (simp append-nil)
