-- What a walk over a whole image reads, block after block, up to the first question of 5 to 9 that is answered no.
-- Assumes nothing.
use Rattle.format.specs.declared.refusal.Refusal.TheVariants.{EntryBroken, DocsNotRising, FreqOutOfRange, NumberBroken, BytesLeft}
use Rattle.std.specs.Prelude.{Bool, true, false, not, ◌&&◌ as and, List, [], ◌∷◌, ◌++◌, ℕ, zero, suc, ◌+◌, ◌*◌, length, drop, replicate, eqb, ltb, Ok, Err}
use Rattle.format.specs.declared.IndexRecordOption.{IndexRecordOption}
use Rattle.format.specs.declared.BlockInfo.{BlockInfo}
use Rattle.format.specs.declared.Layout.{Layout}
use Rattle.format.specs.Basics.{Outcome, and_then, ask, last_of, TERMINATED}
use Rattle.format.specs.Vint.{Numbers, tail_numbers}
use Rattle.format.specs.Bitpacking.{unpack}
use Rattle.format.specs.Values.{ids, restored, rising, countable}
use Rattle.format.specs.SkipEntry.{has_freq_of, entry_size_of, read_entry, block_size_of, entry_fits_of}
use Rattle.format.specs.declared.Term.{Term}
use Rattle.format.specs.Layout.{layout, full_blocks_of, tail_length, skip_bytes_of, posting_bytes_of}

-- a block's documents and frequencies; its entry's last id, TERMINATED for the tail
pub record Block : Type 0 where
  pub docs : List ℕ
  pub freqs : List ℕ
  pub last : ℕ

-- the ids of a full block whose bytes begin bs
unfoldable pub full_docs : ℕ → BlockInfo → List ℕ → List ℕ
unfolding ids unpack
full_docs least e bs = ids e.strict least (unpack e.doc_width bs)

-- question 7, of a full block's frequencies where they are read; else each is 1
unfoldable pub full_freqs : Bool → BlockInfo → List ℕ → Outcome (List ℕ)
unfolding ask restored unpack countable
full_freqs false e bs = Ok (replicate 128 1)
full_freqs true e bs =
    let fs : List ℕ = restored e.strict (unpack e.freq_width (drop (16 * e.doc_width) bs)) in
    ask (countable fs) FreqOutOfRange λ _. Ok fs

-- questions 6 and 7, of a full block whose bytes begin bs
unfoldable pub full_block : Bool → ℕ → BlockInfo → List ℕ → Outcome Block
unfolding ask and_then full_docs full_freqs rising last_of
full_block wanted least e bs =
    let ds : List ℕ = full_docs least e bs in
    ask (and (rising least ds) (eqb (last_of 0 ds) e.last_doc)) DocsNotRising λ _.
    and_then (full_freqs wanted e bs) λ fs.
    Ok (record { docs = ds; freqs = fs; last = e.last_doc })

-- question 8: n numbers, complete and in limits
unfoldable pub numbers : ℕ → List ℕ → Outcome Numbers
unfolding ask tail_numbers
numbers n bs = let ns : Numbers = tail_numbers n bs in ask ns.complete NumberBroken λ _. Ok ns

-- question 9
unfoldable pub ended : List ℕ → List ℕ → Outcome (List ℕ)
unfolding ask
ended fs bs = ask (eqb (length bs) 0) BytesLeft λ _. Ok fs

-- questions 8, 7 and 9, of the frequencies of a tail of n documents; bs is what follows its ids. Not kept: 1 throughout.
-- Kept and not requested: what follows isn't looked at
unfoldable pub tail_freqs : Bool → Bool → ℕ → List ℕ → Outcome (List ℕ)
unfolding and_then ask numbers countable ended
tail_freqs false wanted n bs = ended (replicate n 1) bs
tail_freqs true false n bs = Ok (replicate n 1)
tail_freqs true true n bs =
    and_then (numbers n bs) λ ns.
    ask (countable ns.values) FreqOutOfRange λ _.
    ended ns.values (drop ns.used bs)

-- whether an image keeps frequencies: its layout's option says it; but where no block stands before a tail of n documents (`alone`), a
-- nonempty one with no byte after its ids has none. bs is what follows the ids. An empty list keeps what its mode says (ours)
unfoldable pub keeps_freqs_of : IndexRecordOption → Bool → ℕ → List ℕ → Bool
unfolding has_freq_of
keeps_freqs_of option alone n bs = and (has_freq_of option) (not (and alone (and (ltb 0 n) (eqb (length bs) 0))))

-- .. and whether its tail has them: an empty one has none to read
unfoldable pub tail_has_freq : IndexRecordOption → Bool → ℕ → List ℕ → Bool
unfolding keeps_freqs_of
tail_has_freq option alone n bs = and (keeps_freqs_of option alone n bs) (ltb 0 n)

-- questions 8, 6, 8, 7 and 9, of a tail of n documents; bs is all that is left of the image
unfoldable pub tail_block : IndexRecordOption → Bool → Bool → ℕ → ℕ → List ℕ → Outcome Block
unfolding ask and_then numbers ids rising tail_freqs tail_has_freq
tail_block option wanted alone n least bs =
    and_then (numbers n bs) λ ns.
    let ds : List ℕ = ids false least ns.values in
    ask (rising least ds) DocsNotRising λ _.
    let rest : List ℕ = drop ns.used bs in
    and_then (tail_freqs (tail_has_freq option alone n rest) wanted n rest) λ fs.
    Ok (record { docs = ds; freqs = fs; last = TERMINATED })

-- the blocks that a walk reads, and what it ends with: the question that ended it, if one did
pub record Reading : Type 0 where
  pub blocks : List Block
  pub verdict : Outcome (Unit {0})

unfoldable pub nothing : Outcome (Unit {0}) → Reading
nothing v = record { blocks = []; verdict = v }

unfoldable pub before : Outcome Block → (Bool → Reading) → Reading
unfolding nothing
before (Err r) rest = nothing (Err r)
before (Ok b) rest = let r : Reading = rest true in record { blocks = b ∷ r.blocks; verdict = r.verdict }

-- question 5 of the entry at the beginning of skips, then its block
unfoldable pub entry_block : IndexRecordOption → Bool → ℕ → List ℕ → List ℕ → Outcome Block
unfolding ask read_entry entry_fits_of full_block has_freq_of
entry_block option wanted least skips bs =
    let e : BlockInfo = read_entry option skips in
    ask (entry_fits_of least (length bs) e) EntryBroken λ _. full_block (and (has_freq_of option) wanted) least e bs

-- what a walk goes by: what the entries and blocks hold, whether frequencies are wanted, whether the tail stands alone, and how many
-- documents it has
pub record Walk : Type 0 where
  pub option : IndexRecordOption
  pub wanted : Bool
  pub alone : Bool
  pub tail : ℕ

-- n full blocks and the tail
unfoldable pub read_from : Walk → ℕ → ℕ → List ℕ → List ℕ → Reading
unfolding before nothing entry_block tail_block entry_size_of read_entry block_size_of
read_from w zero least skips bs = before (tail_block w.option w.wanted w.alone w.tail least bs) λ _. nothing (Ok tt)
read_from w (suc n) least skips bs =
    before (entry_block w.option w.wanted least skips bs) λ _.
    let e : BlockInfo = read_entry w.option skips in
    read_from w n (e.last_doc + 1) (drop (entry_size_of w.option) skips) (drop (block_size_of e) bs)

-- frequencies are requested in modes 1 and 2
abbrev pub walk_of : Term → Layout → Walk
walk_of t l = record { option = l.option; wanted = ltb 0 t.requested; alone = eqb (full_blocks_of t) 0; tail = tail_length t }

-- whether an image keeps frequencies, from its layout and, for a tail alone, from its bytes; bs are the bytes of the tail. Where there are
-- full blocks these don't matter
unfoldable pub kept_by : Term → Layout → List ℕ → Bool
unfolding keeps_freqs_of full_blocks_of tail_length tail_numbers
kept_by t l bs = keeps_freqs_of l.option (eqb (full_blocks_of t) 0) (tail_length t) (drop (tail_numbers (tail_length t) bs).used bs)

-- .. of an image. Where not all ids of a tail alone are there its reading is refused (8), and nothing goes by this
unfoldable pub kept : Term → Layout → List ℕ → Bool
unfolding kept_by posting_bytes_of
kept t l bs = kept_by t l (posting_bytes_of l bs)

unfoldable pub read_all : Term → List ℕ → Outcome Layout → Reading
unfolding nothing read_from full_blocks_of tail_length skip_bytes_of posting_bytes_of
read_all t bs (Err r) = nothing (Err r)
read_all t bs (Ok l) =
    read_from (walk_of t l) (full_blocks_of t) 0 (skip_bytes_of l bs) (posting_bytes_of l bs)

unfoldable pub reading : Term → List ℕ → Reading
unfolding read_all layout
reading t bs = read_all t bs (layout t bs)

-- sound is a yes: a walk by steps over the whole image, frequencies requested, gets yes to questions 1 to 9; else the first no
unfoldable pub soundness : ℕ → ℕ → List ℕ → Outcome (Unit {0})
unfolding reading
soundness mode count bs = (reading (record { mode = mode; requested = 1; count = count }) bs).verdict

unfoldable pub docs_of : List Block → List ℕ
docs_of [] = []
docs_of (b ∷ bs) = b.docs ++ docs_of bs

unfoldable pub freqs_of : List Block → List ℕ
freqs_of [] = []
freqs_of (b ∷ bs) = b.freqs ++ freqs_of bs
