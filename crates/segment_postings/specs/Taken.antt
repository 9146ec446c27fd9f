-- A block's values as they are taken out of an image, and the questions that are asked of them in turn. Ids are taken as differences
-- (compression/specs/Restored.antt), frequencies as they are, in places of 32 bits: one that is out of range is 0 there.
-- Assumes nothing.
use Rattle.format.specs.declared.refusal.Refusal.TheVariants.{DocsNotRising, FreqOutOfRange, NumberBroken, BytesLeft}
use Rattle.std.specs.Prelude.{◌≡◌, ℕ, ◌+◌, ◌-◌, ◌^◌, ◌≤◌, Bool, true, false, not, ◌&&◌ as and, List, ◌++◌, length, take, drop, replicate, ◌==◌, nat_lt, Ok}
use Rattle.format.specs.declared.BlockInfo.{BlockInfo}
use Rattle.format.specs.declared.Layout.{Layout}
use Rattle.format.specs.declared.Term.{Term}
use Rattle.format.specs.Basics.{Outcome, and_then, ask, choose, last_of, TERMINATED, AllBelow}
use Rattle.format.specs.Model.{member}
use Rattle.format.specs.Layout.{full_blocks_of}
use Rattle.format.specs.Reading.{Block, kept_by}
use Rattle.compression.specs.Restored.{ids_behind, differences_rise}
use Rattle.segment_postings.specs.declared.find.Found.{Found}
use Rattle.segment_postings.specs.declared.load.Taken.{Taken}
use Rattle.segment_postings.specs.Landing.{load_block_of}

-- a full block: its numbers are packed, so that all are there, and its bytes end where its entry says
abbrev pub full_taken_of : BlockInfo → Bool → Bool → ℕ → Taken
full_taken_of e freqs_nonzero kept unpacked = record {
  full = true;
  n = 128;
  last_doc = e.last_doc;
  docs_there = true;
  docs_nonzero = e.strict;
  freqs_there = true;
  freqs_nonzero = freqs_nonzero;
  ended = true;
  kept = kept;
  unpacked = unpacked;
}

-- a tail of n documents
abbrev pub tail_taken_of : ℕ → Bool → Bool → Bool → Bool → Bool → ℕ → Taken
tail_taken_of n docs_there freqs_there freqs_nonzero ended kept unpacked = record {
  full = false;
  n = n;
  last_doc = TERMINATED;
  docs_there = docs_there;
  docs_nonzero = false;
  freqs_there = freqs_there;
  freqs_nonzero = freqs_nonzero;
  ended = ended;
  kept = kept;
  unpacked = unpacked;
}

-- a full block ends on its entry's last id; a tail has no entry
unfoldable pub ends_on : Bool → ℕ → List ℕ → Bool
ends_on true last ds = last_of 0 ds == last
ends_on false last ds = true

-- questions 8, 7 and 9 of frequencies, each over all of them before the next
unfoldable pub asked_freqs : Taken → List ℕ → Outcome (List ℕ)
asked_freqs k freqs =
    let fs : List ℕ = take k.n freqs in
    ask k.freqs_there NumberBroken λ _.
    ask (not (member 0 fs)) FreqOutOfRange λ _.
    ask k.ended BytesLeft λ _. Ok fs

-- questions 8 and 6 of the differences of ids
unfoldable pub asked_docs : Taken → ℕ → List ℕ → Outcome (List ℕ)
asked_docs k least docs =
    let ds : List ℕ = ids_behind least (take k.n docs) in
    ask k.docs_there NumberBroken λ _.
    ask (and (differences_rise least (take k.n docs)) (ends_on k.full k.last_doc ds)) DocsNotRising λ _. Ok ds

-- the block that they are the values of
unfoldable pub asked : Taken → ℕ → List ℕ → List ℕ → Outcome Block
asked k least docs freqs =
    and_then (asked_docs k least docs) λ ds.
    and_then (asked_freqs k freqs) λ fs.
    Ok (record { docs = ds; freqs = fs; last = k.last_doc })

-- what an array of 128 places holds: some values, behind them the filler
pub record FilledUp (n filler : ℕ) (values : List ℕ) : Type 0 where
  pub long : length values ≡ 128
  pub behind : drop n values ≡ replicate (128 - n) filler

-- what taking a block's values leaves: values of which the questions give the block, with what is known of them
pub record ValuesTaken (t : Term) (l : Layout) (bs : List ℕ) (f : Found) (unpacked : ℕ) (docs freqs : List ℕ) (k : Taken) : Type 0 where
  pub counted : k.unpacked ≡ unpacked + 1
  pub questions : asked k f.least docs freqs ≡ load_block_of t l bs f
  pub is_full : k.full ≡ nat_lt f.block (full_blocks_of t)
  pub full_n : k.full ≡ true → k.n ≡ 128
  pub full_last : k.full ≡ true → k.last_doc ≡ f.info.last_doc
  pub n_most : k.n ≤ 128
  pub docs_fill : k.docs_there ≡ true → FilledUp k.n TERMINATED docs
  pub freqs_fill : FilledUp k.n 1 freqs
  pub docs_below : k.docs_there ≡ true → AllBelow (2 ^ 32) (take k.n docs)
  pub docs_nonzero : k.docs_nonzero ≡ true → member 0 (take k.n docs) ≡ false
  pub freqs_nonzero : k.freqs_nonzero ≡ true → member 0 (take k.n freqs) ≡ false
  pub kept : k.docs_there ≡ true → k.kept ≡ kept_by t l (drop f.at bs)

-- what asking the questions of ids answers, and leaves where that is a yes: the ids in the place of their differences
pub record DocsAsked (k : Taken) (least : ℕ) (docs docs' : List ℕ) (r : Outcome (Unit {0})) : Type 0 where
  pub answer : asked_docs k least docs ≡ and_then r λ _. Ok (ids_behind least (take k.n docs))
  pub left : r ≡ Ok tt → docs' ≡ ids_behind least (take k.n docs) ++ drop k.n docs

-- a full block ends on its entry's last id, where `least` is the least id that may come behind it
unfoldable pub ends_before : Bool → ℕ → ℕ → Bool
ends_before true last least = least == last + 1
ends_before false last least = true

-- how many frequencies are still to be asked for 0
unfoldable pub freqs_to_ask_of : Taken → ℕ
unfolding choose
freqs_to_ask_of k = choose k.freqs_nonzero (λ _. 0) (λ _. k.n)
