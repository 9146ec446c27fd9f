-- What lies ahead of a writer's state: the full blocks of the documents that wait and of those that follow. It is the same behind a
-- document that waits; behind one that fills a block it is that block less. An area that is written block after block holds the
-- blocks one behind the other, and has room for all of them where it has room for each in turn.
-- Assumes nothing.
use Rattle.std.specs.Prelude.{◌≡◌, ℕ, zero, suc, ◌+◌, ◌/◌, ◌≤◌, Bool, true, false, ◌&&◌ as and, List, [], ◌∷◌, ◌++◌, length, take, drop}
use mathlib.Core.Bool.{and-false}
use mathlib.Core.List.{append_assoc}
use mathlib.Core.Path.{refl, sym, ◌∙◌}
use native.Mathlib.Nat.{add-zero, zero-add, add_assoc, le_refl}
use native.Mathlib.Decide.{dec_le}
use native.Mathlib.Omega.{arith}
use borrow.Author.Tests.{le-leb, lt-leb}
use lib.ListN.{length-append}
use lib.Seq.{append_snoc, take_at, drop_at, take-length, take-paste}
use Rattle.format.specs.declared.IndexRecordOption.{IndexRecordOption}
use Rattle.format.specs.Basics.{last_of, put_at, fits_at, or_before}
use Rattle.format.specs.Written.{entry_of, block_of, Parts}
use Rattle.format.specs.Accepted.{take_doc}
use Rattle.format.proofs.Area.{put_at-paste, length-put_at, put_at-nil, put_at-append, fits-front}
use Rattle.serializer.specs.declared.PostingsSerializer.{PostingsSerializer}
use Rattle.serializer.specs.Writer.{option_of, waiting_docs, waiting_freqs, first_least_of}
use Rattle.serializer.specs.Writer.{stored, accepted_count}
use Rattle.serializer.proofs.document.OneDocument.{next_least, Held, Accepts, filled, stored-option, stored-least, stored-docs, stored-freqs}
use Rattle.serializer.proofs.document.OneDocument.{stored_next, stored-docs-long, stored-freqs-long, stored-whole-docs, stored-whole-freqs}
use Rattle.serializer.proofs.document.OneDocument.{filled-option, filled_none, filled-least, filled-docs, filled-freqs, filled_next}

-- ---- full blocks

-- what is made of the option, a number of full blocks, the least id, documents and frequencies: `blocks_of` and `parts`
abbrev pub Maker : Type 0
Maker = IndexRecordOption → ℕ → ℕ → List ℕ → List ℕ → Parts

-- how many full blocks the documents waiting and those accepted behind them make
abbrev pub full : PostingsSerializer → List ℕ → List ℕ → ℕ
full s ds fs = (s.waiting + accepted_count (option_of s) (next_least s) ds fs) / 128

-- .. and what is made of them
unfoldable pub ahead : Maker → PostingsSerializer → List ℕ → List ℕ → Parts
ahead F s ds fs = F (option_of s) (full s ds fs) (first_least_of s) (waiting_docs s ++ ds) (waiting_freqs s ++ fs)

-- both are made block by block
abbrev pub Grows : Maker → Type 0
Grows F =
    (option : IndexRecordOption) (n least : ℕ) (ds fs : List ℕ)
    → F option (suc n) least ds fs
    ≡ (let rest : Parts = F option n (last_of 0 (take 128 ds) + 1) (drop 128 ds) (drop 128 fs) in
    record {
      skips = entry_of option least (take 128 ds) (take 128 fs) ++ rest.skips;
      postings = block_of option least (take 128 ds) (take 128 fs) ++ rest.postings;
    })

pub accepted-cons : (option : IndexRecordOption) (least d : ℕ) (ds : List ℕ) (f : ℕ) (fs : List ℕ)
    → accepted_count option least (d ∷ ds) (f ∷ fs)
    ≡ or_before (λ next. 1 + accepted_count option next ds fs) (take_doc option least d f) 0
unfolding accepted_count
accepted-cons option least d ds f fs = refl

pub ahead_none : {s : PostingsSerializer} {skips postings : List ℕ} → Held s skips postings → (ds fs : List ℕ) (F : Maker)
    → accepted_count (option_of s) (next_least s) ds fs ≡ 0
    → ahead F s ds fs ≡ F (option_of s) zero (first_least_of s) (waiting_docs s ++ ds) (waiting_freqs s ++ fs)
unfolding ahead
ahead_none {s} h ds fs F none = let few : (s.waiting + 0) / 128 ≡ 0 = omega (arith, h.few) in rw (none, few)

module _ {s : PostingsSerializer} {skips postings : List ℕ} {d f : ℕ} (a : Accepts s skips postings d f) (ds fs : List ℕ) (F : Maker) where
  one_more : accepted_count (option_of s) (next_least s) (d ∷ ds) (f ∷ fs) ≡ 1 + accepted_count (option_of s) (d + 1) ds fs
  unfolding or_before
  one_more = rw (accepted-cons, a.accepted)

  as_many : s.waiting + (1 + accepted_count (option_of s) (d + 1) ds fs) ≡ (stored s d f).waiting + accepted_count (option_of s) (d + 1) ds fs
  unfolding stored
  as_many = omega arith

  pub ahead-waits : ahead F s (d ∷ ds) (f ∷ fs) ≡ ahead F (stored s d f) ds fs
  unfolding ahead
  ahead-waits =
      rw (one_more, stored-option a, stored_next a, stored-least a, stored-docs a, stored-freqs a, append_snoc (waiting_docs s) d ds, append_snoc (waiting_freqs s) f fs, as_many)

  ahead-filled : s.waiting ≡ 127
      → ahead F (filled s d f) ds fs
      ≡ F (option_of s) (accepted_count (option_of s) (d + 1) ds fs / 128) (last_of 0 (stored s d f).docs + 1) ds fs
  unfolding ahead
  ahead-filled whole =
      rw (filled_next a whole, filled-least a, filled-docs a, filled-freqs a, filled-option a, filled_none a, zero-add)

  pub ahead_fills : Grows F → s.waiting ≡ 127
      → ahead F s (d ∷ ds) (f ∷ fs)
      ≡ (let t : PostingsSerializer = stored s d f in
      let rest : Parts = ahead F (filled s d f) ds fs in
      record {
        skips = entry_of (option_of t) (first_least_of s) t.docs t.freqs ++ rest.skips;
        postings = block_of (option_of t) (first_least_of s) t.docs t.freqs ++ rest.postings;
      })
  unfolding ahead
  ahead_fills grows whole =
      let k : ℕ = accepted_count (option_of s) (d + 1) ds fs in
      let more : (s.waiting + (1 + k)) / 128 ≡ suc (k / 128) = omega arith in
      rw (ahead-filled whole, one_more, more, grows, stored-whole-docs a whole ds, stored-whole-freqs a whole fs, stored-option a)
      (rw (take_at _ ds 128 (stored-docs-long a), drop_at _ ds 128 (stored-docs-long a))
      (rw (take_at _ fs 128 (stored-freqs-long a), drop_at _ fs 128 (stored-freqs-long a))))

-- ---- an area that is written

-- from the place `at` on `blocks` are put, and what the area holds then, up to at', with a tail, is `bytes` behind what it held
pub record Wrote (area : List ℕ) (at : ℕ) (blocks bytes area' : List ℕ) (at' : ℕ) (tail : List ℕ) : Type 0 where
  pub put : area' ≡ put_at at blocks area
  pub holds : take at' area' ++ tail ≡ take at area ++ bytes

take-put_at : (p : ℕ) (bs area : List ℕ) → p + length bs ≤ length area → take (p + length bs) (put_at p bs area) ≡ take p area ++ bs
take-put_at p bs area h =
    rw (put_at-paste p bs area h, take-paste area p bs (length bs) (omega arith) (le_refl _), take-length)

pub wrote_none : (area : List ℕ) (at : ℕ) (tail : List ℕ) → Wrote area at [] tail area at tail
wrote_none area at tail = record { put = sym (put_at-nil at area); holds = refl }

pub wrote_front : {area : List ℕ} {at : ℕ} {blocks bytes area' : List ℕ} {at' : ℕ} {tail : List ℕ} (front : List ℕ)
    → at + length (front ++ blocks) ≤ length area
    → Wrote (put_at at front area) (at + length front) blocks bytes area' at' tail
    → Wrote area at (front ++ blocks) (front ++ bytes) area' at' tail
wrote_front {area} {at} {blocks} front fits w =
    record {
      put = w.put ∙ put_at-append at front blocks area fits;
      holds = w.holds ∙ rw (take-put_at at front area (fits-front at front blocks area fits), append_assoc);
    }

-- ---- room

-- what fits as a whole fits in parts, one behind the other
fits-append : (p : ℕ) (a b area : List ℕ) → fits_at p (a ++ b) area ≡ and (fits_at p a area) (fits_at (p + length a) b (put_at p a area))
unfolding fits_at
fits-append p a b area =
    rw (length-put_at, length-append)
    (elim (dec_le (p + length a) (length area)) [
      | yes h ↦ rw (le-leb _ _ h, add_assoc)
      | no h ↦ rw (lt-leb (p + length a) (length area) (omega arith), lt-leb (p + (length a + length b)) (length area) (omega arith))
    ])

and_swap : (a b c d : Bool) → and (and a b) (and c d) ≡ and (and a c) (and b d)
and_swap true b true d = refl
and_swap true b false d = and-false b
and_swap false b c d = refl

pub both-append : (p q : ℕ) (entry block : List ℕ) (rest : Parts) (skips postings : List ℕ)
    → and (fits_at p (entry ++ rest.skips) skips) (fits_at q (block ++ rest.postings) postings)
    ≡ and (and (fits_at p entry skips) (fits_at q block postings))
    (and (fits_at (p + length entry) rest.skips (put_at p entry skips)) (fits_at (q + length block) rest.postings (put_at q block postings)))
both-append p q entry block rest skips postings =
    rw (fits-append p entry rest.skips skips, fits-append q block rest.postings postings)
    (and_swap (fits_at p entry skips) (fits_at (p + length entry) rest.skips (put_at p entry skips)) (fits_at q block postings) _)

-- whether blocks fit the areas behind what is there
abbrev pub room : Parts → PostingsSerializer → List ℕ → List ℕ → Bool
room blocks s skips postings = and (fits_at s.skips_at blocks.skips skips) (fits_at s.postings_at blocks.postings postings)

pub room-none : {s : PostingsSerializer} {skips postings : List ℕ} → Held s skips postings
    → room (record { skips = []; postings = [] }) s skips postings ≡ true
unfolding fits_at
room-none {s} h = rw (add-zero s.skips_at, add-zero s.postings_at, le-leb _ _ h.skips_within, le-leb _ _ h.postings_within)
