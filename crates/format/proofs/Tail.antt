-- A tail reads back. Its numbers are gaps and frequencies below 2 ^ 32, the ones behind the others, and nothing follows them.
-- Where frequencies are not kept, or there is no document, none are read.
-- Assumes nothing.
use Rattle.std.specs.Prelude.{Ok}
use mathlib.Core.Bool.{Bool, true, false, not, ◌&&◌ as and, and-false}
use mathlib.Core.List.{List, [], ◌∷◌, ◌++◌, append-nil}
use mathlib.Core.Path.{◌≡◌, refl, sym, ap, ◌∙◌}
use Prim.Native.Nat.{ℕ, suc, ◌+◌, ◌^◌}
use native.Mathlib.Nat.{zero-lt-suc}
use native.Mathlib.Omega.{arith}
use borrow.Author.Tests.{lt-ltb, ne_eqb}
use lib.Dec.{ltb, eqb}
use lib.ListN.{length, length-append}
use lib.Seq.{drop-append_seam, drop-length}
use Rattle.format.specs.declared.IndexRecordOption.{IndexRecordOption}
use Rattle.format.specs.declared.IndexRecordOption.TheVariants.{Basic, WithFreqs}
use Rattle.format.specs.Basics.{ask, and_then, TERMINATED, AllBelow}
use Rattle.format.specs.Vint.{vint, vints}
use Rattle.format.specs.Values.{gaps, rising, countable}
use Rattle.format.specs.SkipEntry.{has_freq_of}
use Rattle.format.specs.Written.{only_if}
use Rattle.format.specs.Accepted.{kept_in, Accepted}
use Rattle.format.specs.Reading.{numbers, ended, tail_freqs, tail_has_freq, tail_block}
use Rattle.format.specs.ReadsBack.{read_freqs}
use Rattle.format.proofs.Lists.{AllBelow-le}
use Rattle.format.proofs.Vints.{numbers-read-back, vint-length-pos}
use Rattle.format.proofs.Values.{length-gaps, gaps-read-back, gaps-below, countable-below}
use Rattle.format.proofs.Opened.{numbers-is, tail_freqs-read, tail_block-is}

numbers-ok : (ns rest : List ℕ) → AllBelow (2 ^ 32) ns
    → numbers (length ns) (vints ns ++ rest) ≡ Ok (record { values = ns; used = length (vints ns); complete = true })
unfolding ask
numbers-ok ns rest small = rw (numbers-is, numbers-read-back ns rest small)

ids-read : (least : ℕ) (ds rest : List ℕ) → rising least ds ≡ true
    → (let vs : List ℕ = gaps false least ds in
    numbers (length ds) (vints vs ++ rest) ≡ Ok (record { values = vs; used = length (vints vs); complete = true }))
ids-read least ds rest r =
    let vs : List ℕ = gaps false least ds in
    rw (← length-gaps false least ds) (numbers-ok vs rest (AllBelow-le vs (omega arith) (gaps-below false least ds r)))

kept_read : (fs : List ℕ) → countable fs ≡ true → tail_freqs true true (length fs) (vints fs) ≡ Ok fs
unfolding ask and_then ended
kept_read fs c =
    let first = ap (numbers (length fs)) (sym (append-nil (vints fs))) ∙ numbers-ok fs [] (countable-below fs c) in
    rw (tail_freqs-read, first, c, drop-length)

freqs-read : (keeps wanted : Bool) (fs : List ℕ) → (keeps ≡ true → countable fs ≡ true)
    → tail_freqs (and keeps (ltb 0 (length fs))) wanted (length fs) (only_if keeps (vints fs))
    ≡ Ok (read_freqs (and keeps wanted) fs)
unfolding tail_freqs only_if vints read_freqs
freqs-read false wanted fs h = refl
freqs-read true false [] h = refl
freqs-read true true [] h = refl
freqs-read true false (f ∷ fs) h = rw (lt-ltb 0 (suc (length fs)) (zero-lt-suc _))
freqs-read true true (f ∷ fs) h = rw (lt-ltb 0 (suc (length fs)) (zero-lt-suc _)) (kept_read (f ∷ fs) (h refl))

-- a reader by the option `reader` finds frequencies in a tail of n documents just if `option` keeps them and there are some
abbrev pub Finds : IndexRecordOption → IndexRecordOption → Bool → ℕ → List ℕ → Type 0
Finds reader option alone n fs =
    tail_has_freq reader alone n (only_if (has_freq_of option) (vints fs)) ≡ and (has_freq_of option) (ltb 0 n)

some_bytes : (f : ℕ) (fs : List ℕ) → eqb (length (vints (f ∷ fs))) 0 ≡ false
unfolding vints
some_bytes f fs = rw length-append (ne_eqb (length (vint f) + length (vints fs)) 0 (omega (arith, vint-length-pos f)))

-- by the option that they were written with
pub finds_own : (option : IndexRecordOption) (alone : Bool) (ds fs : List ℕ) → length ds ≡ length fs
    → Finds option option alone (length ds) fs
unfolding tail_has_freq has_freq_of only_if
finds_own Basic alone ds fs e = refl
finds_own WithFreqs alone [] fs e = and-false (not (and alone false))
finds_own WithFreqs alone (d ∷ ds) [] e = absurd (omega arith)
finds_own WithFreqs alone (d ∷ ds) (f ∷ fs) e = rw (some_bytes f fs, and-false, and-false)

not-both : (b : Bool) → and (not (and b true)) b ≡ false
not-both true = refl
not-both false = refl

finds_none : (reader : IndexRecordOption) (n : ℕ) (fs : List ℕ) → Finds reader Basic true n fs
unfolding tail_has_freq has_freq_of only_if
finds_none Basic n fs = refl
finds_none WithFreqs n fs = not-both (ltb 0 n)

not-kept : (mode : ℕ) → kept_in mode false ≡ Basic
unfolding kept_in
not-kept mode = rw and-false

-- by the recorded mode alone, where no block stands before
pub finds_kept : (mode : ℕ) (recording : Bool) (ds fs : List ℕ) → length ds ≡ length fs
    → Finds (kept_in mode true) (kept_in mode recording) true (length ds) fs
finds_kept mode true ds fs e = finds_own (kept_in mode true) true ds fs e
finds_kept mode false ds fs e = rw (not-kept mode) (finds_none (kept_in mode true) (length ds) fs)

pub tail-reads-back : (option reader : IndexRecordOption) (wanted alone : Bool) (least : ℕ) (ds fs : List ℕ)
    → Accepted option least ds fs → Finds reader option alone (length ds) fs
    → tail_block reader wanted alone (length ds) least (vints (gaps false least ds) ++ only_if (has_freq_of option) (vints fs))
    ≡ Ok (record { docs = ds; freqs = read_freqs (and (has_freq_of option) wanted) fs; last = TERMINATED })
unfolding ask and_then
tail-reads-back option reader wanted alone least ds fs a finds =
    rw (tail_block-is, ids-read least ds _ a.rises, gaps-read-back false least ds a.rises, a.rises)
    (rw (drop-append_seam, finds, a.as_many, freqs-read (has_freq_of option) wanted fs a.counts))
