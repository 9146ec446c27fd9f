-- Skip entries: last id (4 bytes, little-endian); width byte (low 5 bits the width, bit 6 strict, bits 5 and 7 ignored); with
-- frequencies also frequency width, field norm id, capped frequency.
-- Assumes nothing.
use Rattle.std.specs.Prelude.{Bool, true, false, ◌&&◌ as and, List, [], ◌∷◌, ◌++◌, ℕ, ◌+◌, ◌*◌, ◌/◌, ◌%◌, get_or, eqb, leb, ltb}
use Rattle.format.specs.declared.IndexRecordOption.{IndexRecordOption}
use Rattle.format.specs.declared.IndexRecordOption.TheVariants.{Basic, WithFreqs}
use Rattle.format.specs.declared.BlockInfo.{BlockInfo}
use Rattle.format.specs.Basics.{choose, word, le32, TERMINATED}

-- whether blocks and entries hold frequencies
unfoldable pub has_freq_of : IndexRecordOption → Bool
has_freq_of Basic = false
has_freq_of WithFreqs = true

unfoldable pub entry_size_of : IndexRecordOption → ℕ
entry_size_of Basic = 5
entry_size_of WithFreqs = 8

unfoldable pub freq_width_of : IndexRecordOption → List ℕ → ℕ
freq_width_of Basic bs = 0
freq_width_of WithFreqs bs = get_or bs 5 0

-- the entry at the beginning of bs; field norm id and capped frequency may be any
unfoldable pub read_entry : IndexRecordOption → List ℕ → BlockInfo
unfolding word freq_width_of
read_entry option bs = record {
  last_doc = word bs 0;
  doc_width = get_or bs 4 0 % 32;
  strict = eqb (get_or bs 4 0 / 64 % 2) 1;
  freq_width = freq_width_of option bs;
}

unfoldable pub freq_part : IndexRecordOption → ℕ → List ℕ
freq_part Basic fw = []
freq_part WithFreqs fw = fw ∷ 0 ∷ 0 ∷ []

-- the width, with bit 6 set for a strict block
unfoldable pub width_byte_of : BlockInfo → ℕ
unfolding choose
width_byte_of e = e.doc_width + choose e.strict (λ _. 64) (λ _. 0)

-- an entry as it is written: 0 in the last two
unfoldable pub write_entry_of : IndexRecordOption → BlockInfo → List ℕ
unfolding le32 width_byte_of freq_part
write_entry_of option e = le32 e.last_doc ++ (width_byte_of e ∷ freq_part option e.freq_width)

-- the bytes of the entry's block: 16 for each bit of the two widths together
unfoldable pub block_size_of : BlockInfo → ℕ
block_size_of e = 16 * (e.doc_width + e.freq_width)

-- question 5, with `left` posting bytes from the block on
unfoldable pub entry_fits_of : ℕ → ℕ → BlockInfo → Bool
unfolding block_size_of
entry_fits_of least left e =
    and (leb e.freq_width 32)
    (and (and (leb least e.last_doc) (ltb e.last_doc TERMINATED))
    (leb (block_size_of e) left))
