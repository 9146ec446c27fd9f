-- One document handed to the writer. In every state that such calls reach the numbers are in bounds, and no document's id is less
-- than its place in the list, so that one that is accepted can still be counted. A document is refused as the definitions refuse
-- it; or it waits; or it fills a block, which goes into the areas where there is room.
-- Assumes nothing.
use Rattle.format.specs.declared.refusal.Refusal.{Refusal}
use Rattle.format.specs.declared.refusal.Refusal.TheVariants.{NoRoom, StateBroken}
use Rattle.std.specs.Prelude.{◌≡◌, ℕ, suc, ◌+◌, ◌^◌, ◌<◌, ◌≤◌, true, not, ◌&&◌ as and, ◌||◌ as or, ltb, leb, List, [], ◌∷◌, ◌++◌, length, take, set, Ok, Err}
use mathlib.Core.List.{append-nil}
use mathlib.Core.Path.{refl, sym, ◌∙◌}
use native.Mathlib.Nat.{zero-lt-suc}
use native.Mathlib.Numerals.{add-one}
use native.Mathlib.Omega.{arith}
use borrow.Author.Tests.{lt-ltb, le-ltb, le-leb, leb-true, ltb-true}
use lib.Dec.{leb-suc-suc}
use lib.ListN.{length-append, length-set, drop_of_length-le}
use lib.Seq.{append_snoc, set_split, take-suc-set}
use Rattle.format.specs.Basics.{and_then, ask, choose, last_of, put_at, fits_at, TERMINATED}
use Rattle.format.specs.Values.{rising, countable}
use Rattle.format.specs.SkipEntry.{has_freq_of}
use Rattle.format.specs.Accepted.{known_mode_of, take_doc}
use Rattle.format.proofs.Accepted.{known_mode_lem, Taken, take_doc-ok}
use Rattle.format.proofs.Choice.{granted}
use Rattle.format.proofs.Values.{rising-append, countable-append}
use Rattle.serializer.specs.declared.PostingsSerializer.{PostingsSerializer}
use Rattle.format.specs.Written.{entry_of, block_of}
use Rattle.serializer.specs.Writer.{option_of, waiting_docs, waiting_freqs, first_least_of, least_after_of}
use Rattle.serializer.specs.Writer.{in_bounds_of, stored, emptied, finished, taking}
use Rattle.serializer.proofs.list.Blocks.{least_after_of-append, least_after_of-last}

-- the least id that the next document may have
abbrev pub next_least : PostingsSerializer → ℕ
next_least s = least_after_of (first_least_of s) (waiting_docs s)

-- a state that calls reach, with its areas
pub record Held (s : PostingsSerializer) (skips postings : List ℕ) : Type 0 where
  pub docs_long : length s.docs ≡ 128
  pub freqs_long : length s.freqs ≡ 128
  pub few : s.waiting ≤ 127
  pub rises : rising (first_least_of s) (waiting_docs s) ≡ true
  pub counts : has_freq_of (option_of s) ≡ true → countable (waiting_freqs s) ≡ true
  pub placed : s.taken ≤ next_least s
  pub least_most : next_least s ≤ TERMINATED
  pub skips_within : s.skips_at ≤ length skips
  pub postings_within : s.postings_at ≤ length postings
  pub mode_known : s.mode ≤ 1

-- a document that it accepts
pub record Accepts (s : PostingsSerializer) (skips postings : List ℕ) (d f : ℕ) : Type 0 where
  pub held : Held s skips postings
  pub small : f < 2 ^ 32
  pub accepted : take_doc (option_of s) (next_least s) d f ≡ Ok (d + 1)

pub accepts : {s : PostingsSerializer} {skips postings : List ℕ} → Held s skips postings → (d f : ℕ) {next : ℕ} → f < 2 ^ 32
    → take_doc (option_of s) (next_least s) d f ≡ Ok next → Accepts s skips postings d f
accepts {s} h d f small e =
    record { held = h; small = small; accepted = rw (take_doc-ok (option_of s) (next_least s) d f e).next_is at e }

-- the state behind the block that the document d fills
abbrev pub filled : PostingsSerializer → ℕ → ℕ → PostingsSerializer
filled s d f =
    let t : PostingsSerializer = stored s d f in
    emptied t (record {
      skips = t.skips_at + length (entry_of (option_of t) (first_least_of s) t.docs t.freqs);
      postings = t.postings_at + length (block_of (option_of t) (first_least_of s) t.docs t.freqs);
    })

-- ---- the definitions, opened by one turn

in_bounds_of-is : (s : PostingsSerializer) (skips postings : List ℕ)
    → in_bounds_of s skips postings
    ≡ and (leb s.waiting 127)
    (and (rising (first_least_of s) (waiting_docs s))
    (and (or (not (has_freq_of (option_of s))) (countable (waiting_freqs s)))
    (and (leb s.taken TERMINATED)
    (and (and (leb s.skips_at (length skips)) (leb s.postings_at (length postings)))
    (known_mode_of s.mode)))))
unfolding in_bounds_of
in_bounds_of-is s skips postings = refl

finished-is : (s : PostingsSerializer) (least : ℕ) (skips postings : List ℕ)
    → finished s least skips postings
    ≡ (let entry : List ℕ = entry_of (option_of s) least s.docs s.freqs in
    let block : List ℕ = block_of (option_of s) least s.docs s.freqs in
    ask (and (fits_at s.skips_at entry skips) (fits_at s.postings_at block postings)) NoRoom λ _.
    Ok (record {
      state = emptied s (record { skips = s.skips_at + length entry; postings = s.postings_at + length block });
      skips = put_at s.skips_at entry skips;
      postings = put_at s.postings_at block postings;
    }))
unfolding finished
finished-is s least skips postings = refl

taking-is : (s : PostingsSerializer) (d f : ℕ) (skips postings : List ℕ)
    → taking s d f skips postings
    ≡ (ask (in_bounds_of s skips postings) StateBroken λ _.
    and_then (take_doc (option_of s) (next_least s) d f) λ _.
    ask (ltb s.taken TERMINATED) StateBroken λ _.
    choose (ltb s.waiting 127)
    (λ _. Ok (record { state = stored s d f; skips = skips; postings = postings }))
    (λ _. finished (stored s d f) (first_least_of s) skips postings))
unfolding taking
taking-is s d f skips postings = refl

pub in_bounds : {s : PostingsSerializer} {skips postings : List ℕ} → Held s skips postings → in_bounds_of s skips postings ≡ true
in_bounds {s} h =
    let counted = le-leb s.taken TERMINATED (omega arith) in
    rw (in_bounds_of-is, le-leb _ _ h.few, h.rises, granted _ _ h.counts, counted, le-leb _ _ h.skips_within)
    (rw (le-leb _ _ h.postings_within, known_mode_lem _ h.mode_known))

-- ---- one more id that rises, one more frequency that counts

rising-after : (least : ℕ) (a b : List ℕ) → rising least (a ++ b) ≡ and (rising least a) (rising (least_after_of least a) b)
unfolding least_after_of rising last_of
rising-after least [] b = refl
rising-after least (d ∷ a) b = rising-append least (d ∷ a) b (zero-lt-suc _)

rising-next : (least : ℕ) (ds : List ℕ) (d : ℕ) → rising least ds ≡ true → leb (least_after_of least ds) d ≡ true → ltb d TERMINATED ≡ true
    → rising least (ds ++ (d ∷ [])) ≡ true
unfolding rising
rising-next least ds d r above below = rw (rising-after, r, above, below)

countable-next : (fs : List ℕ) (f : ℕ) → countable fs ≡ true → leb 1 f ≡ true → f < 2 ^ 32 → countable (fs ++ (f ∷ [])) ≡ true
unfolding countable
countable-next fs f c pos small = rw (countable-append, c, pos, le-leb f 4294967295 (omega arith))

-- ---- the state with one more document

-- one that is stored at the last place
last_stored : (l : List ℕ) (i a : ℕ) (rest : List ℕ) → length l ≡ suc i → take i l ++ (a ∷ rest) ≡ set l i a ++ rest
last_stored l i a rest e =
    rw (set_split l i a (omega arith), drop_of_length-le l {i = suc i} (omega arith)) (sym (append_snoc (take i l) a rest))

module _ {s : PostingsSerializer} {skips postings : List ℕ} {d f : ℕ} (a : Accepts s skips postings d f) where
  taken_as : Taken (option_of s) (next_least s) d f (d + 1)
  taken_as = take_doc-ok (option_of s) (next_least s) d f a.accepted

  above : next_least s ≤ d
  above = leb-true (next_least s) d taken_as.above

  below : d < TERMINATED
  below = ltb-true d TERMINATED taken_as.below

  taken-below : s.taken < TERMINATED
  taken-below = omega (arith, above, below, a.held.placed)

  -- it waits

  pub stored-option : option_of (stored s d f) ≡ option_of s
  unfolding option_of stored
  stored-option = refl

  pub stored-least : first_least_of (stored s d f) ≡ first_least_of s
  unfolding first_least_of stored
  stored-least = rw (add-one s.waiting, add-one s.taken, leb-suc-suc)

  pub stored-docs : waiting_docs (stored s d f) ≡ waiting_docs s ++ (d ∷ [])
  unfolding waiting_docs stored
  stored-docs = rw add-one (take-suc-set s.docs s.waiting d (omega (arith, a.held.docs_long, a.held.few)))

  pub stored-freqs : waiting_freqs (stored s d f) ≡ waiting_freqs s ++ (f ∷ [])
  unfolding waiting_freqs stored
  stored-freqs = rw add-one (take-suc-set s.freqs s.waiting f (omega (arith, a.held.freqs_long, a.held.few)))

  pub stored_next : next_least (stored s d f) ≡ d + 1
  unfolding least_after_of last_of
  stored_next = rw (stored-docs, least_after_of-append)

  pub stored-docs-long : length (stored s d f).docs ≡ 128
  unfolding stored
  stored-docs-long = length-set s.docs s.waiting d ∙ a.held.docs_long

  pub stored-freqs-long : length (stored s d f).freqs ≡ 128
  unfolding stored
  stored-freqs-long = length-set s.freqs s.waiting f ∙ a.held.freqs_long

  stored-counts : has_freq_of (option_of s) ≡ true → countable (waiting_freqs (stored s d f)) ≡ true
  stored-counts k = rw stored-freqs (countable-next (waiting_freqs s) f (a.held.counts k) (taken_as.counts k) a.small)

  pub stored-held : s.waiting < 127 → Held (stored s d f) skips postings
  unfolding stored
  stored-held few =
      record {
        docs_long = stored-docs-long;
        freqs_long = stored-freqs-long;
        few = omega arith;
        rises = rw (stored-least, stored-docs) (rising-next _ _ d a.held.rises taken_as.above taken_as.below);
        counts = λ k. stored-counts (rw stored-option at k);
        placed = rw stored_next (omega (arith, above, a.held.placed));
        least_most = rw stored_next (omega (arith, below));
        skips_within = a.held.skips_within;
        postings_within = a.held.postings_within;
        mode_known = a.held.mode_known;
      }

  pub call-waits : s.waiting < 127 → taking s d f skips postings ≡ Ok (record { state = stored s d f; skips = skips; postings = postings })
  unfolding ask and_then choose
  call-waits few = rw (taking-is, in_bounds a.held, a.accepted, lt-ltb _ _ taken-below, lt-ltb _ _ few)

  -- it is the last of 128

  pub stored-whole-docs : s.waiting ≡ 127 → (ds : List ℕ) → waiting_docs s ++ (d ∷ ds) ≡ (stored s d f).docs ++ ds
  unfolding waiting_docs stored
  stored-whole-docs full ds = last_stored s.docs s.waiting d ds (omega (arith, a.held.docs_long))

  pub stored-whole-freqs : s.waiting ≡ 127 → (fs : List ℕ) → waiting_freqs s ++ (f ∷ fs) ≡ (stored s d f).freqs ++ fs
  unfolding waiting_freqs stored
  stored-whole-freqs full fs = last_stored s.freqs s.waiting f fs (omega (arith, a.held.freqs_long))

  stored_last : s.waiting ≡ 127 → last_of 0 (stored s d f).docs + 1 ≡ d + 1
  unfolding least_after_of last_of
  stored_last full =
      let last = least_after_of-last 0 (waiting_docs s ++ (d ∷ [])) (rw length-append (omega arith)) in
      rw (← append-nil (stored s d f).docs, ← stored-whole-docs full [], ← last, least_after_of-append)

  pub filled-option : option_of (filled s d f) ≡ option_of s
  unfolding option_of emptied stored
  filled-option = refl

  pub filled_none : (filled s d f).waiting ≡ 0
  unfolding emptied
  filled_none = refl

  pub filled-least : first_least_of (filled s d f) ≡ last_of 0 (stored s d f).docs + 1
  unfolding first_least_of emptied stored choose
  filled-least = rw (lt-ltb 0 (s.taken + 1) (omega arith))

  pub filled-docs : waiting_docs (filled s d f) ≡ []
  unfolding waiting_docs emptied
  filled-docs = refl

  pub filled-freqs : waiting_freqs (filled s d f) ≡ []
  unfolding waiting_freqs emptied
  filled-freqs = refl

  pub filled_next : s.waiting ≡ 127 → next_least (filled s d f) ≡ d + 1
  unfolding least_after_of
  filled_next full = rw filled-docs (filled-least ∙ stored_last full)

  pub filled-held : (skips' postings' : List ℕ) → s.waiting ≡ 127
      → (filled s d f).skips_at ≤ length skips' → (filled s d f).postings_at ≤ length postings'
      → Held (filled s d f) skips' postings'
  unfolding emptied stored rising countable
  filled-held skips' postings' full p q =
      record {
        docs_long = stored-docs-long;
        freqs_long = stored-freqs-long;
        few = omega arith;
        rises = rw filled-docs;
        counts = λ k. rw filled-freqs;
        placed = rw (filled_next full) (omega (arith, above, a.held.placed));
        least_most = rw (filled_next full) (omega (arith, below));
        skips_within = p;
        postings_within = q;
        mode_known = a.held.mode_known;
      }

  pub call_fills : s.waiting ≡ 127
      → taking s d f skips postings
      ≡ (let entry : List ℕ = entry_of (option_of (stored s d f)) (first_least_of s) (stored s d f).docs (stored s d f).freqs in
      let block : List ℕ = block_of (option_of (stored s d f)) (first_least_of s) (stored s d f).docs (stored s d f).freqs in
      ask (and (fits_at s.skips_at entry skips) (fits_at s.postings_at block postings)) NoRoom λ _.
      Ok (record {
        state = filled s d f;
        skips = put_at s.skips_at entry skips;
        postings = put_at s.postings_at block postings;
      }))
  unfolding ask and_then choose stored
  call_fills full =
      rw (taking-is, in_bounds a.held, a.accepted, lt-ltb _ _ taken-below, le-ltb s.waiting 127 (omega arith))
      (finished-is (stored s d f) (first_least_of s) skips postings)

-- a document that is refused
pub call-refused : {s : PostingsSerializer} {skips postings : List ℕ} → Held s skips postings → (d f : ℕ) {n : Refusal}
    → take_doc (option_of s) (next_least s) d f ≡ Err n → taking s d f skips postings ≡ Err n
unfolding ask and_then
call-refused h d f e = rw (taking-is, in_bounds h, e)
