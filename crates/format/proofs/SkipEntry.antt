-- A skip entry reads back. The five bytes in front are the same whatever the option: a 32-bit number is the sum of its four bytes,
-- each times its weight, and a width is below 32, so that neither it nor the strict bit above it disturbs the other. Only what
-- follows them, the frequency width first, goes by the option.
-- Assumes nothing.
use mathlib.Core.Bool.{Bool, true, false, and-eq-true_iff}
use mathlib.Core.List.{List, [], ◌∷◌, ◌++◌}
use mathlib.Core.Path.{◌≡◌, refl, sym}
use Prim.Native.Nat.{ℕ, ◌+◌, ◌/◌, ◌%◌, ◌^◌, ◌≤◌, ◌<◌}
use native.Mathlib.Nat.{mod-eq_of_lt, div-div-eq-div-mul}
use native.Mathlib.Omega.{arith}
use borrow.Author.Tests.{leb-true, ltb-true}
use lib.Dec.{eqb}
use lib.ListN.{length}
use lib.Seq.{get_or_at}
use Rattle.format.specs.declared.IndexRecordOption.{IndexRecordOption}
use Rattle.format.specs.declared.IndexRecordOption.TheVariants.{Basic, WithFreqs}
use Rattle.format.specs.declared.BlockInfo.{BlockInfo}
use Rattle.format.specs.Basics.{choose, word, le32, TERMINATED}
use Rattle.format.specs.SkipEntry.{has_freq_of, entry_size_of, freq_width_of, read_entry, freq_part, width_byte_of, write_entry_of, block_size_of, entry_fits_of}

-- no entry is longer than the longest
pub size-most : (option : IndexRecordOption) → entry_size_of option ≤ 8
unfolding entry_size_of
size-most Basic = omega arith
size-most WithFreqs = omega arith

-- ---- 32-bit numbers

-- the sum of the four, of which the highest needs no remainder
word-here : (n : ℕ) (rest : List ℕ) → n < 2 ^ 32 → word (le32 n ++ rest) 0 ≡ n
unfolding word le32
word-here n rest h =
    let top : n / 16777216 % 256 ≡ n / 16777216 = mod-eq_of_lt (omega arith) in
    omega (arith, div-div-eq-div-mul n 256 256, div-div-eq-div-mul n 65536 256)

-- ---- entries

freq_part-length : (option : IndexRecordOption) (fw : ℕ) → 5 + length (freq_part option fw) ≡ entry_size_of option
unfolding freq_part entry_size_of
freq_part-length Basic fw = refl
freq_part-length WithFreqs fw = refl

pub entry_length : (option : IndexRecordOption) (e : BlockInfo) → length (write_entry_of option e) ≡ entry_size_of option
unfolding write_entry_of le32
entry_length option e = omega (arith, freq_part-length option e.freq_width)

freq_part-reads-back : (option : IndexRecordOption) (fw : ℕ) (five rest : List ℕ)
    → length five ≡ 5 → (has_freq_of option ≡ false → fw ≡ 0) → freq_width_of option (five ++ (freq_part option fw ++ rest)) ≡ fw
unfolding freq_part freq_width_of has_freq_of
freq_part-reads-back Basic fw five rest l h = sym (h refl)
freq_part-reads-back WithFreqs fw five rest l h = get_or_at five fw _ 0 5 l

-- a width byte holds the width below its bit 6
byte_reads-back : (dw : ℕ) (strict : Bool) → dw < 32
    → (let byte : ℕ = dw + choose strict (λ _. 64) (λ _. 0) in (byte % 32 ≡ dw) × (eqb (byte / 64 % 2) 1 ≡ strict))
unfolding choose
byte_reads-back dw true h = let high : (dw + 64) / 64 ≡ 1 = omega arith in (omega arith, rw high)
byte_reads-back dw false h = let high : (dw + 0) / 64 ≡ 0 = omega arith in (omega arith, rw high)

pub entry-reads-back : (option : IndexRecordOption) (e : BlockInfo) (rest : List ℕ)
    → e.last_doc < 2 ^ 32 → e.doc_width < 32 → (has_freq_of option ≡ false → e.freq_width ≡ 0)
    → read_entry option (write_entry_of option e ++ rest) ≡ e
unfolding read_entry write_entry_of width_byte_of
entry-reads-back option e rest l d f =
    let byte = byte_reads-back e.doc_width e.strict d in
    let five : List ℕ = le32 e.last_doc ++ (width_byte_of e ∷ []) in
    rw (byte.0, byte.1, word-here e.last_doc _ l, freq_part-reads-back option e.freq_width five rest refl f)

-- question 5 answered yes
pub record EntryFits (least left : ℕ) (e : BlockInfo) : Type 0 where
  pub freq_width : e.freq_width ≤ 32
  pub last_least : least ≤ e.last_doc
  pub last_below : e.last_doc < TERMINATED
  pub bytes : block_size_of e ≤ left

pub entry_fits_of-true : (least left : ℕ) (e : BlockInfo) → entry_fits_of least left e ≡ true → EntryFits least left e
unfolding entry_fits_of
entry_fits_of-true least left e h =
    let p = (and-eq-true_iff _ _).0 h in
    let q = (and-eq-true_iff _ _).0 p.1 in
    let r = (and-eq-true_iff _ _).0 q.0 in
    record { freq_width = leb-true _ _ p.0; last_least = leb-true _ _ r.0; last_below = ltb-true _ _ r.1; bytes = leb-true _ _ q.1 }
