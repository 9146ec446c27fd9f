-- A skip entry at a place of the skip bytes, read and written.
-- Assumes nothing.
use Rattle.std.specs.Prelude.{List, ℕ, ◌+◌, length, drop, leb, ltb, Option, Some, None}
use Rattle.format.specs.declared.BlockInfo.{BlockInfo}
use Rattle.format.specs.declared.IndexRecordOption.{IndexRecordOption}
use Rattle.format.specs.Basics.{choose, put_at, next_at}
use Rattle.format.specs.SkipEntry.{entry_size_of, read_entry, write_entry_of}

-- the entry at place `at`, if the bytes reach to its end
unfoldable pub entry_at : IndexRecordOption → List ℕ → ℕ → Option BlockInfo
unfolding choose
entry_at option bs at =
    choose (leb (at + entry_size_of option) (length bs))
    (λ _. Some (read_entry option (drop at bs)))
    (λ _. None)

-- the area with an entry in it from place `at` on, where the document width has no more than its five bits and the entry fits;
-- else the area itself
unfoldable pub entry_put : IndexRecordOption → BlockInfo → ℕ → List ℕ → List ℕ
unfolding choose
entry_put option e at area = choose (ltb e.doc_width 32) (λ _. put_at at (write_entry_of option e) area) (λ _. area)

-- the place behind it; else a refusal
unfoldable pub entry_next : IndexRecordOption → BlockInfo → ℕ → List ℕ → Option ℕ
unfolding choose
entry_next option e at area = choose (ltb e.doc_width 32) (λ _. next_at at (write_entry_of option e) area) (λ _. None)
