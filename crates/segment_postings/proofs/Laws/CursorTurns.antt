-- The definitions of the cursor, each opened by one turn, so that a proof sees their parts under their names.
-- Assumes nothing.
use Rattle.format.specs.declared.refusal.Refusal.TheVariants.{EntryBroken, TargetTooLarge, StateBroken}
use Rattle.std.specs.Prelude.{◌≡◌, ℕ, zero, suc, ◌+◌, ◌-◌, ◌*◌, Bool, ◌&&◌ as and, eqb, ltb, leb, List, length, get_or, drop, Ok}
use mathlib.Core.Path.{refl}
use Rattle.format.specs.declared.BlockInfo.{BlockInfo}
use Rattle.format.specs.declared.IndexRecordOption.{IndexRecordOption}
use Rattle.format.specs.declared.Layout.{Layout}
use Rattle.format.specs.declared.Term.{Term}
use Rattle.format.specs.Basics.{and_then, ask, choose, TERMINATED}
use Rattle.format.specs.SkipEntry.{has_freq_of, entry_size_of, read_entry, entry_fits_of}
use Rattle.format.specs.Layout.{layout, full_blocks_of, tail_length, skip_bytes_of}
use Rattle.format.specs.Reading.{full_block, tail_block}
use Rattle.segment_postings.specs.declared.Held.{Held}
use Rattle.segment_postings.specs.declared.SegmentPostings.{SegmentPostings}
use Rattle.segment_postings.specs.declared.find.Found.{Found}
use Rattle.segment_postings.specs.declared.find.Start.{Start}
use Rattle.segment_postings.specs.Landing.{tail_info_of, first_start_of, start_after, find_block_of, load_block_of, holding, landing}
use Rattle.segment_postings.specs.Cursor.{position, in_bounds_of, answer_at_of}
use Rattle.segment_postings.specs.Cursor.{no_hit, moved, blank, opening, opened, at_place, starts_inside_of, start_behind_of, leaving, stepping, advanced, place_of, within, behind, seeking, seeking_fresh}

pub find_block_of-zero : (option : IndexRecordOption) (skips bs : List ℕ) (target : ℕ) (s : Start)
    → find_block_of option skips bs target zero s
    ≡ Ok (record { block = s.block; at = s.at; least = s.least; info = tail_info_of; entries = s.entries })
unfolding find_block_of
find_block_of-zero option skips bs target s = refl

pub find_block_of-suc : (option : IndexRecordOption) (skips bs : List ℕ) (target n : ℕ) (s : Start)
    → find_block_of option skips bs target (suc n) s
    ≡ (let e : BlockInfo = read_entry option (drop (entry_size_of option * s.block) skips) in
    ask (entry_fits_of s.least (length bs - s.at) e) EntryBroken λ _.
    choose (leb target e.last_doc)
    (λ _. Ok (record { block = s.block; at = s.at; least = s.least; info = e; entries = s.entries + 1 }))
    (λ _. find_block_of option skips bs target n (start_after s e)))
unfolding find_block_of
find_block_of-suc option skips bs target n s = refl

pub load_block_of-is : (t : Term) (l : Layout) (bs : List ℕ) (f : Found)
    → load_block_of t l bs f
    ≡ choose (ltb f.block (full_blocks_of t))
    (λ _. full_block (and (has_freq_of l.option) (ltb 0 t.requested)) f.least f.info (drop f.at bs))
    (λ _. tail_block l.option (ltb 0 t.requested) (eqb (full_blocks_of t) 0) (tail_length t) f.least (drop f.at bs))
unfolding load_block_of
load_block_of-is t l bs f = refl

pub landing_is : (t : Term) (bs : List ℕ) (l : Layout) (target : ℕ) (s : Start)
    → landing t bs l target s
    ≡ (and_then (find_block_of l.option (skip_bytes_of l bs) bs target (full_blocks_of t - s.block) s) λ f.
    and_then (load_block_of t l bs f) λ block.
    Ok (holding f s.unpacked block))
unfolding landing
landing_is t bs l target s = refl

pub answer_at_of-is : (t : Term) (hit : Bool) (c : SegmentPostings)
    → answer_at_of t hit c
    ≡ choose (eqb (position c.held) t.count)
    (λ _. record { doc = TERMINATED; freq = 0; unpacked = c.held.unpacked; entries = c.held.entries; hit = hit })
    (λ _. record {
      doc = get_or c.docs c.held.place 0;
      freq = get_or c.freqs c.held.place 0;
      unpacked = c.held.unpacked;
      entries = c.held.entries;
      hit = hit;
    })
unfolding answer_at_of
answer_at_of-is t hit c = refl

pub moved_ok : (t : Term) (before : SegmentPostings) (hit : SegmentPostings → Bool) (c : SegmentPostings)
    → moved t before hit (Ok c) ≡ record { answer = Ok (answer_at_of t (hit c) c); cursor = c }
unfolding moved
moved_ok t before hit c = refl

pub opening-is : (bs : List ℕ) (t : Term)
    → opening bs t ≡ and_then (layout t bs) λ l. landing t bs l 0 (first_start_of l)
unfolding opening
opening-is bs t = refl

pub leaving-is : (h : Held) (bs : List ℕ) (t : Term) (target : ℕ)
    → leaving h bs t target
    ≡ (and_then (layout t bs) λ l.
    ask (starts_inside_of t l (h.block + 1) h.next) EntryBroken λ _.
    landing t bs l target (start_behind_of h))
unfolding leaving
leaving-is h bs t target = refl

pub stepping-is : (c : SegmentPostings) (bs : List ℕ) (t : Term)
    → stepping c bs t
    ≡ (ask (in_bounds_of t (length bs) c.held) StateBroken λ _.
    choose (eqb (position c.held) t.count) (λ _. Ok c) λ _.
    choose (ltb (c.held.place + 1) 128) (λ _. Ok (at_place c (c.held.place + 1))) λ _.
    leaving c.held bs t 0)
unfolding stepping
stepping-is c bs t = refl

pub opened-is : (bs : List ℕ) (t : Term) → opened bs t ≡ moved t blank no_hit (opening bs t)
unfolding opened
opened-is bs t = refl

pub advanced-is : (c : SegmentPostings) (bs : List ℕ) (t : Term) → advanced c bs t ≡ moved t c no_hit (stepping c bs t)
unfolding advanced
advanced-is c bs t = refl

pub behind-is : (c : SegmentPostings) (bs : List ℕ) (t : Term) (target : ℕ)
    → behind c bs t target
    ≡ (ask (ltb c.held.block (full_blocks_of t)) StateBroken λ _.
    and_then (leaving c.held bs t target) λ landed. Ok (at_place landed (place_of landed target)))
unfolding behind
behind-is c bs t target = refl

pub seeking-is : (c : SegmentPostings) (bs : List ℕ) (t : Term) (target : ℕ)
    → seeking c bs t target
    ≡ (ask (in_bounds_of t (length bs) c.held) StateBroken λ _.
    ask (leb target TERMINATED) TargetTooLarge λ _.
    choose (eqb (position c.held) t.count) (λ _. Ok c) λ _.
    choose (leb target (get_or c.docs c.held.place 0)) (λ _. Ok c) λ _.
    choose (leb target c.held.last_doc) (λ _. within c t target) (λ _. behind c bs t target))
unfolding seeking
seeking-is c bs t target = refl

pub seeking_fresh-is : (bs : List ℕ) (t : Term) (target : ℕ) → seeking_fresh bs t target ≡ and_then (opening bs t) λ c. seeking c bs t target
unfolding seeking_fresh
seeking_fresh-is bs t target = refl
