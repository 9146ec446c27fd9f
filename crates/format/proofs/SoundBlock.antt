-- One block of an image, where the questions asked of it were answered yes: its documents rise from the least that may come, a full
-- block has 128 and ends on its entry's last id, a tail has what it should, and each document has a frequency from 1 on. Values
-- are unpacked 128 at a time or read to the number wanted, and no step changes how many they are. A refusal carries a number
-- that is not 0.
-- Assumes nothing.
use Rattle.std.specs.Prelude.{Ok}
use mathlib.Core.Bool.{Bool, true, false, ◌&&◌ as and, and-eq-true_iff}
use mathlib.Core.List.{List}
use mathlib.Core.Path.{◌≡◌, refl, sym, ◌∙◌}
use Prim.Native.Nat.{ℕ, zero, suc}
use borrow.Author.Tests.{eqb-true}
use lib.ListN.{length, replicate, length-replicate}
use Rattle.format.specs.declared.IndexRecordOption.{IndexRecordOption}
use Rattle.format.specs.declared.BlockInfo.{BlockInfo}
use Rattle.format.specs.Basics.{last_of, TERMINATED}
use Rattle.format.specs.Values.{rising, countable}
use Rattle.format.specs.Vint.{Numbers}
use Rattle.format.specs.SkipEntry.{has_freq_of, read_entry, entry_fits_of}
use Rattle.format.specs.Reading.{Block, full_freqs, full_block, entry_block, numbers, ended, tail_freqs, tail_block}
use Rattle.format.proofs.Outcome.{ok_same, ask-ok, and_then-ok}
use Rattle.format.proofs.Bitpacking.{unpack-length}
use Rattle.format.proofs.Values.{length_ids, length-restored}
use Rattle.format.proofs.Vints.{numbers-used}
use Rattle.format.proofs.Opened.{full_docs-is, full_freqs-unread, full_freqs-read, full_block-is, entry_block-is}
use Rattle.format.proofs.Opened.{numbers-is, ended_is, tail_freqs-none, tail_freqs-unread, tail_freqs-read, tail_block-is}

-- `size` documents where `least` is the least that may come
pub record SoundBlock (size least : ℕ) (b : Block) : Type 0 where
  pub docs_rise : rising least b.docs ≡ true
  pub docs_many : length b.docs ≡ size
  pub freqs_many : length b.freqs ≡ size
  pub freqs_count : countable b.freqs ≡ true

-- .. of a full block, which ends on its last id
pub record SoundFull (least : ℕ) (b : Block) : Type 0 where
  pub sound : SoundBlock 128 least b
  pub ends : last_of 0 b.docs ≡ b.last

-- .. of the tail
pub record SoundTail (size least : ℕ) (b : Block) : Type 0 where
  pub sound : SoundBlock size least b
  pub ends : b.last ≡ TERMINATED

ones-countable : (n : ℕ) → countable (replicate n 1) ≡ true
unfolding countable
ones-countable zero = refl
ones-countable (suc n) = ones-countable n

-- frequencies, as many as documents
record Counted (size : ℕ) (fs : List ℕ) : Type 0 where
  many : length fs ≡ size
  count : countable fs ≡ true

ones-counted : (n : ℕ) → Counted n (replicate n 1)
ones-counted n = record { many = length-replicate n 1; count = ones-countable n }

full_freqs-counted : (read : Bool) (e : BlockInfo) (bs : List ℕ) {fs : List ℕ} → full_freqs read e bs ≡ Ok fs → Counted 128 fs
full_freqs-counted false e bs h =
    rw (ok_same (sym (full_freqs-unread e bs) ∙ h)) at (ones-counted 128)
full_freqs-counted true e bs h =
    let p = ask-ok _ _ _ (sym (full_freqs-read e bs) ∙ h) in
    let same = ok_same p.1 in
    record { many = rw (← same, length-restored) (unpack-length _ _); count = rw (← same) p.0 }

pub full_block-sound : (read : Bool) (least : ℕ) (e : BlockInfo) (bs : List ℕ) {b : Block} → full_block read least e bs ≡ Ok b
    → SoundFull least b × (b.last ≡ e.last_doc)
full_block-sound read least e bs h =
    let p = ask-ok _ _ _ (sym (full_block-is read least e bs) ∙ h) in
    let q = (and-eq-true_iff _ _).0 p.0 in
    let f = and_then-ok _ _ p.1 in
    let freqs = full_freqs-counted read e bs f.1 in
    rw (← ok_same f.2) (
      record {
        sound = record {
          docs_rise = q.0;
          docs_many = rw (full_docs-is, length_ids) (unpack-length _ _);
          freqs_many = freqs.many;
          freqs_count = freqs.count;
        };
        ends = eqb-true _ _ q.1;
      },
      refl,
    )

-- a full block that was read: question 5 of its entry, then 6 and 7
pub record ReadFull (option : IndexRecordOption) (wanted : Bool) (least : ℕ) (skips bs : List ℕ) (b : Block) : Type 0 where
  pub fits : entry_fits_of least (length bs) (read_entry option skips) ≡ true
  pub read : full_block (and (has_freq_of option) wanted) least (read_entry option skips) bs ≡ Ok b
  pub sound : SoundFull least b
  pub last_is : b.last ≡ (read_entry option skips).last_doc

pub entry_block-read : (option : IndexRecordOption) (wanted : Bool) (least : ℕ) (skips bs : List ℕ) {b : Block}
    → entry_block option wanted least skips bs ≡ Ok b → ReadFull option wanted least skips bs b
entry_block-read option wanted least skips bs h =
    let p = ask-ok _ _ _ (sym (entry_block-is option wanted least skips bs) ∙ h) in
    let s = full_block-sound _ _ _ _ p.1 in
    record { fits = p.0; read = p.1; sound = s.0; last_is = s.1 }

pub ended_same : (fs rest : List ℕ) {fs' : List ℕ} → ended fs rest ≡ Ok fs' → fs ≡ fs'
ended_same fs rest h = ok_same (ask-ok _ _ _ (sym (ended_is fs rest) ∙ h)).1

numbers-many : (n : ℕ) (bs : List ℕ) {ns : Numbers} → numbers n bs ≡ Ok ns → length ns.values ≡ n
numbers-many n bs h =
    let p = ask-ok _ _ _ (sym (numbers-is n bs) ∙ h) in
    rw (← ok_same p.1) ((numbers-used n bs).complete_length p.0)

tail_freqs-counted : (has wanted : Bool) (n : ℕ) (bs : List ℕ) {fs : List ℕ} → tail_freqs has wanted n bs ≡ Ok fs → Counted n fs
tail_freqs-counted false wanted n bs h =
    rw (ended_same _ bs (sym (tail_freqs-none wanted n bs) ∙ h)) at (ones-counted n)
tail_freqs-counted true false n bs h = rw (ok_same (sym (tail_freqs-unread n bs) ∙ h)) at (ones-counted n)
tail_freqs-counted true true n bs h =
    let p = and_then-ok _ _ (sym (tail_freqs-read n bs) ∙ h) in
    let q = ask-ok _ _ _ p.2 in
    rw (← ended_same _ _ q.1) (record { many = numbers-many n bs p.1; count = q.0 })

pub tail_block-sound : (option : IndexRecordOption) (wanted alone : Bool) (n least : ℕ) (bs : List ℕ) {b : Block}
    → tail_block option wanted alone n least bs ≡ Ok b → SoundTail n least b
tail_block-sound option wanted alone n least bs h =
    let p = and_then-ok _ _ (sym (tail_block-is option wanted alone n least bs) ∙ h) in
    let q = ask-ok _ _ _ p.2 in
    let f = and_then-ok _ _ q.1 in
    let freqs = tail_freqs-counted _ wanted n _ f.1 in
    rw (← ok_same f.2)
    (record {
      sound = record {
        docs_rise = q.0;
        docs_many = rw length_ids (numbers-many n bs p.1);
        freqs_many = freqs.many;
        freqs_count = freqs.count;
      };
      ends = refl;
    })
