-- The blocks of a list, full ones and a tail, each above the one before: their documents together rise, there are as many as the
-- blocks have, as many frequencies, each from 1 on, and place i of block b is position 128 * b + i. By induction on the blocks.
-- Assumes nothing.
use mathlib.Core.List.{List, [], ◌∷◌, ◌++◌, append-nil}
use mathlib.Core.Path.{◌≡◌, refl}
use Prim.Native.Nat.{ℕ, zero, suc, ◌+◌, ◌*◌, ◌≤◌, ◌<◌}
use native.Mathlib.Nat.{not-suc-le-zero, le_of_suc-le-suc, zero-add}
use native.Mathlib.Omega.{arith}
use mathlib.Core.Bool.{true}
use lib.ListN.{length, get_or, length-append, get_or-append}
use lib.Seq.{get_or-append-add}
use Rattle.format.specs.Values.{rising, countable}
use Rattle.format.specs.Reading.{Block, docs_of, freqs_of}
use Rattle.format.proofs.Values.{rising-joined, countable-append}
use Rattle.format.proofs.SoundBlock.{SoundBlock, SoundFull, SoundTail}

-- n full blocks and a tail of `tail` documents, where `least` is the least that may come
pub data Blocks (tail : ℕ) : ℕ → ℕ → List Block → Type 0 where
  last_one : {least : ℕ} {b : Block} → SoundTail tail least b → Blocks tail zero least (b ∷ [])
  one_more : {n least : ℕ} {b : Block} {bs : List Block} → SoundFull least b → Blocks tail n (b.last + 1) bs
      → Blocks tail (suc n) least (b ∷ bs)

-- what stands where there is no block
abbrev pub no_block : Block
no_block = record { docs = []; freqs = []; last = 0 }

abbrev pub block_at : List Block → ℕ → Block
block_at bs b = get_or bs b no_block

-- the least id that may come in block b
abbrev pub least_at : ℕ → List Block → ℕ → ℕ
least_at least bs zero = least
least_at least bs (suc b) = (block_at bs b).last + 1

-- ---- each of them

least_at-later : (least : ℕ) (first : Block) (bs : List Block) (b : ℕ) → least_at (first.last + 1) bs b ≡ least_at least (first ∷ bs) (suc b)
least_at-later least first bs zero = refl
least_at-later least first bs (suc b) = refl

pub full-sound : {tail n least : ℕ} {bs : List Block} → Blocks tail n least bs → (b : ℕ) → b < n
    → SoundFull (least_at least bs b) (block_at bs b)
full-sound (last_one s) b h = absurd (not-suc-le-zero h)
full-sound (one_more s later) zero h = s
full-sound (one_more {least = least} {b = first} {bs = bs} s later) (suc b) h =
    rw (← least_at-later least first bs b) (full-sound later b (le_of_suc-le-suc h))

pub tail-sound : {tail n least : ℕ} {bs : List Block} → Blocks tail n least bs → SoundTail tail (least_at least bs n) (block_at bs n)
tail-sound (last_one s) = s
tail-sound (one_more {n = n} {least = least} {b = first} {bs = bs} s later) =
    rw (← least_at-later least first bs n) (tail-sound later)

-- ---- their documents and frequencies

abbrev joined : (Block → List ℕ) → List Block → List ℕ
joined f [] = []
joined f (b ∷ bs) = f b ++ joined f bs

docs_of-joined : (bs : List Block) → docs_of bs ≡ joined (λ b. b.docs) bs
unfolding docs_of
docs_of-joined [] = refl
docs_of-joined (b ∷ bs) = rw (docs_of-joined bs)

freqs_of-joined : (bs : List Block) → freqs_of bs ≡ joined (λ b. b.freqs) bs
unfolding freqs_of
freqs_of-joined [] = refl
freqs_of-joined (b ∷ bs) = rw (freqs_of-joined bs)

module _ {tail : ℕ} where
  pub docs-rising : {n least : ℕ} {bs : List Block} → Blocks tail n least bs → rising least (docs_of bs) ≡ true
  unfolding docs_of
  docs-rising (last_one {b = b} s) = rw append-nil s.sound.docs_rise
  docs-rising (one_more {least = least} {b = b} {bs = bs} s later) =
      rising-joined least b.docs (docs_of bs) (omega (arith, s.sound.docs_many)) s.sound.docs_rise
      (rw s.ends (docs-rising later))

  pub freqs-countable : {n least : ℕ} {bs : List Block} → Blocks tail n least bs → countable (freqs_of bs) ≡ true
  unfolding freqs_of
  freqs-countable (last_one s) = rw append-nil s.sound.freqs_count
  freqs-countable (one_more s later) = rw (countable-append, s.sound.freqs_count, freqs-countable later)

  -- f of each block, of which there are as many as documents
  module _ (f : Block → List ℕ) (each : (size least : ℕ) (b : Block) → SoundBlock size least b → length (f b) ≡ size) where
    joined-many : {n least : ℕ} {bs : List Block} → Blocks tail n least bs → length (joined f bs) ≡ 128 * n + tail
    joined-many (last_one s) = rw append-nil (omega (arith, each _ _ _ s.sound))
    joined-many (one_more s later) = rw length-append (omega (arith, each _ _ _ s.sound, joined-many later))

    -- place i of block b
    joined_at : {n least : ℕ} {bs : List Block} → Blocks tail n least bs → (b i z : ℕ) → b ≤ n → i < 128
        → get_or (joined f bs) (128 * b + i) z ≡ get_or (f (block_at bs b)) i z
    joined_at (last_one s) zero i z h l = rw (append-nil, zero-add)
    joined_at (last_one s) (suc b) i z h l = absurd (not-suc-le-zero h)
    joined_at (one_more {b = first} s later) zero i z h l =
        rw zero-add (get_or-append (f first) _ z i (omega (arith, each _ _ _ s.sound)))
    joined_at (one_more {b = first} s later) (suc b) i z h l =
        let shift : 128 * suc b + i ≡ length (f first) + (128 * b + i) = omega (arith, each _ _ _ s.sound) in
        rw (shift, get_or-append-add) (joined_at later b i z (le_of_suc-le-suc h) l)

  -- of documents, and of frequencies
  module _ {n least : ℕ} {bs : List Block} (k : Blocks tail n least bs) where
    pub docs_many : length (docs_of bs) ≡ 128 * n + tail
    docs_many = rw docs_of-joined (joined-many (λ b. b.docs) (λ _ _ _ s. s.docs_many) k)

    pub freqs_many : length (freqs_of bs) ≡ 128 * n + tail
    freqs_many = rw freqs_of-joined (joined-many (λ b. b.freqs) (λ _ _ _ s. s.freqs_many) k)

    module _ (b i z : ℕ) (h : b ≤ n) (l : i < 128) where
      pub doc-at : get_or (docs_of bs) (128 * b + i) z ≡ get_or (block_at bs b).docs i z
      doc-at = rw docs_of-joined (joined_at (λ b. b.docs) (λ _ _ _ s. s.docs_many) k b i z h l)

      pub freq-at : get_or (freqs_of bs) (128 * b + i) z ≡ get_or (block_at bs b).freqs i z
      freq-at = rw freqs_of-joined (joined_at (λ b. b.freqs) (λ _ _ _ s. s.freqs_many) k b i z h l)
