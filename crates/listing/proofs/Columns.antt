-- Rows read one after the other into two slices: what is read so far stands in front of what the lines left give. A row of two numbers
-- goes to the ends of both fronts, and one that is none ends the table.
-- Assumes nothing.
use Rattle.std.specs.Prelude.{Option, None, Some, option_map, option_and_then}
use mathlib.Core.List.{List, [], ◌∷◌, ◌++◌, append_assoc, append-nil}
use mathlib.Core.Path.{◌≡◌, refl, sym, ◌∙◌}
use Prim.Native.Nat.{ℕ, ◌+◌, ◌*◌, ◌≤◌, ◌<◌}
use native.Mathlib.Nat.{zero-add}
use native.Mathlib.Numerals.{add-one}
use native.Mathlib.Omega.{arith}
use lib.ListN.{length, take, drop, set, length-set, drop_of_length-le}
use lib.Seq.{take-suc-set}
use Rattle.listing.specs.declared.table.Order.TheVariants.{DocFreq, FreqDoc}
use Rattle.listing.specs.Input.{up_to, behind, lines, row, Columns, with_row, rows, names, in_order, table, taken, Reads}
use Rattle.listing.proofs.Lines.{up_to-take, behind-drop, lines_at, lines_none}

-- what is read so far in front of the rest
unfoldable pub onward : List ℕ → List ℕ → Option Columns → Option Columns
onward firsts seconds (Some c) = Some (record { firsts = firsts ++ c.firsts; seconds = seconds ++ c.seconds })
onward firsts seconds None = None

onward-nil : (c : Option Columns) → onward [] [] c ≡ c
unfolding onward
onward-nil (Some c) = refl
onward-nil None = refl

onward-row : (firsts seconds : List ℕ) (a b : ℕ) (c : Option Columns)
    → onward firsts seconds (with_row (Some (a, b)) c) ≡ onward (firsts ++ (a ∷ [])) (seconds ++ (b ∷ [])) c
unfolding onward with_row
onward-row firsts seconds a b (Some c) = rw (append_assoc firsts (a ∷ []) c.firsts, append_assoc seconds (b ∷ []) c.seconds)
onward-row firsts seconds a b None = refl

rows-first : (l : List ℕ) (ls : List (List ℕ)) → rows (l ∷ ls) ≡ with_row (row l) (rows ls)
unfolding rows
rows-first l ls = refl

module _ (text : List ℕ) where
  -- n rows are read, and the next line begins at place `at`
  pub record ReadTo (start at n : ℕ) (firsts seconds : List ℕ) : Type 0 where
    pub so_far : rows (lines (drop start text)) ≡ onward (take n firsts) (take n seconds) (rows (lines (drop at text)))
    pub enough : 4 * n ≤ at
    pub few : n ≤ 16384
    pub firsts_many : length firsts ≡ 16384
    pub seconds_many : length seconds ≡ 16384

  pub none_read : (start : ℕ) {firsts seconds : List ℕ} → length firsts ≡ 16384 → length seconds ≡ 16384
      → ReadTo start start 0 firsts seconds
  none_read start f s =
      record { so_far = sym (onward-nil _); enough = omega arith; few = omega arith; firsts_many = f; seconds_many = s }

  module _ {start at n : ℕ} {firsts seconds : List ℕ} (k : ReadTo start at n firsts seconds) where
    pub all_read : length text ≤ at → Reads (rows (lines (drop start text))) firsts seconds (Some n)
    unfolding rows onward
    all_read past = record {
      columns_are = sym (k.so_far ∙ rw (drop_of_length-le text past, lines_none, append-nil (take n firsts), append-nil (take n seconds)));
      within = k.few;
    }

    module _ (more : at < length text) where
      abbrev line : List ℕ
      line = up_to 10 (drop at text)

      pub not-read : row line ≡ None → Reads (rows (lines (drop start text))) firsts seconds None
      unfolding with_row onward
      not-read e = record { columns_are = sym (k.so_far ∙ rw (lines_at text at more, rows-first, e)); within = tt }

      pub one-read : (a b next : ℕ) → row line ≡ Some (a, b) → 3 ≤ length line → n < 16384 → next ≡ at + length line + 1
          → ReadTo start next (n + 1) (set firsts n a) (set seconds n b)
      one-read a b next e long few is = record {
        so_far =
            k.so_far
            ∙ rw (lines_at text at more, rows-first, e, onward-row, ← is, add-one, take-suc-set firsts n a (omega (arith, k.firsts_many)))
            (rw (take-suc-set seconds n b (omega (arith, k.seconds_many))));
        enough = omega (arith, k.enough);
        few = omega arith;
        firsts_many = length-set firsts n a ∙ k.firsts_many;
        seconds_many = length-set seconds n b ∙ k.seconds_many;
      }

-- ---- the whole table

docs-first : (c : Option Columns) → option_map (in_order DocFreq) c ≡ c
unfolding in_order
docs-first (Some c) = refl
docs-first None = refl

freqs-first : (r : Option ℕ) (firsts seconds : List ℕ)
    → option_map (in_order FreqDoc) (option_map (λ n. taken n firsts seconds) r) ≡ option_map (λ n. taken n seconds firsts) r
unfolding in_order
freqs-first (Some n) firsts seconds = refl
freqs-first None firsts seconds = refl

module _ (text : List ℕ) (end : ℕ) (found : end ≡ 0 + length (up_to 10 (drop 0 text))) where
  size : end ≡ length (up_to 10 text)
  size = found ∙ zero-add _

  abbrev later : Option Columns
  later = rows (lines (drop (end + 1) text))

  table-parts : table text ≡ option_and_then (λ order. option_map (in_order order) later) (names (take end text))
  unfolding table
  table-parts =
      let first : take end text ≡ up_to 10 text = rw size (up_to-take 10 text) in
      let rest : drop (end + 1) text ≡ behind 10 text = rw (size, add-one) (behind-drop 10 text) in
      rw (first, rest)

  pub doc-freq : {ids freqs : List ℕ} {r : Option ℕ} → names (take end text) ≡ Some DocFreq → Reads later ids freqs r
      → Reads (table text) ids freqs r
  doc-freq e k = record { columns_are = k.columns_are ∙ sym (table-parts ∙ rw e (docs-first later)); within = k.within }

  pub freq-doc : {ids freqs : List ℕ} {r : Option ℕ} → names (take end text) ≡ Some FreqDoc → Reads later freqs ids r
      → Reads (table text) ids freqs r
  freq-doc {ids} {freqs} {r} e k =
      record { columns_are = sym (table-parts ∙ rw (e, ← k.columns_are) (freqs-first r freqs ids)); within = k.within }

  pub no_names : (ids freqs : List ℕ) → names (take end text) ≡ None → Reads (table text) ids freqs None
  no_names ids freqs e = record { columns_are = sym (table-parts ∙ rw e); within = tt }
