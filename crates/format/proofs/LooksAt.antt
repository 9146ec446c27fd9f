-- What the reading of an image looks at, beside the image's length: the layout at the bytes before the posting bytes, a full block at the
-- bytes that its entry gives it. On two images that are the same there it comes to the same, whatever their other bytes are.
-- A number looks at the bytes that it took, byte by byte; a lane of a block of width w at w words, the last of which ends at or before
-- byte 16 * w.
-- Assumes nothing.
use Rattle.std.specs.Prelude.{Ok, Option, None, Some}
use mathlib.Core.Bool.{Bool, true, false}
use mathlib.Core.List.{List, [], ◌∷◌}
use mathlib.Core.Path.{◌≡◌, refl, sym, ap, ap₂, ◌∙◌}
use Prim.Native.Nat.{ℕ, zero, suc, ◌+◌, ◌-◌, ◌*◌, ◌/◌, ◌%◌, ◌^◌, ◌≤◌, ◌<◌}
use native.Mathlib.Nat.{sub-zero, zero-sub, suc-sub-suc}
use native.Mathlib.Numerals.{one-add}
use native.Mathlib.Omega.{arith}
use lib.Dec.{eqb, ltb}
use lib.ListN.{length, take, drop, get_or}
use lib.Seq.{take-nil, take-take, get_or-take}
use Rattle.format.specs.declared.BlockInfo.{BlockInfo}
use Rattle.format.specs.declared.Layout.{Layout}
use Rattle.format.specs.declared.Term.{Term}
use Rattle.format.specs.declared.refusal.Refusal.{Refusal}
use Rattle.format.specs.Basics.{Outcome, choose, ask, word}
use Rattle.format.specs.Bitpacking.{lane_at, unpacked_at, unpack}
use Rattle.format.specs.Layout.{full_blocks_of, split, layout, skip_bytes_of}
use Rattle.format.specs.Reading.{full_docs, full_freqs, full_block}
use Rattle.format.specs.SkipEntry.{block_size_of}
use Rattle.format.specs.Vint.{onward, read_f, below, read_vint_of, skip_length}
use Rattle.format.proofs.Choice.{choose_elim}
use Rattle.format.proofs.Opened.{sized-is, split-number, split-malformed, layout_is, full_docs-is, full_freqs-unread, full_freqs-read, full_block-is}
use Rattle.format.proofs.Outcome.{refused≢ok, ok_same, ask-ok}
use Rattle.format.proofs.Tabulate.{tabulate-same}

-- ---- lists with the same first elements

drop-take : (j k : ℕ) (bs : List ℕ) → drop j (take k bs) ≡ take (k - j) (drop j bs)
drop-take zero k bs = rw sub-zero
drop-take (suc j) zero bs = rw zero-sub
drop-take (suc j) (suc k) [] = sym (take-nil (suc k - suc j))
drop-take (suc j) (suc k) (b ∷ bs) = rw suc-sub-suc (drop-take j k bs)

module _ (k : ℕ) (bs bs' : List ℕ) (same : take k bs ≡ take k bs') where
  pub same_fewer : (j : ℕ) → j ≤ k → take j bs ≡ take j bs'
  same_fewer j h = sym (take-take j k bs h) ∙ ap (take j) same ∙ take-take j k bs' h

  -- .. from place j on
  pub same-behind : (j : ℕ) → take (k - j) (drop j bs) ≡ take (k - j) (drop j bs')
  same-behind j = sym (drop-take j k bs) ∙ ap (drop j) same ∙ drop-take j k bs'

  same_at : (i : ℕ) → i < k → get_or bs i 0 ≡ get_or bs' i 0
  same_at i h = sym (get_or-take k bs i 0 h) ∙ ap (λ (l : List ℕ). get_or l i 0) same ∙ get_or-take k bs' i 0 h

  -- ---- a full block

  same_word : (p : ℕ) → p + 3 < k → word bs p ≡ word bs' p
  unfolding word
  same_word p h =
      rw (same_at p (omega arith), same_at (p + 1) (omega arith), same_at (p + 2) (omega arith), same_at (p + 3) h)

  same-lane : (n p : ℕ) → p + 16 * n ≤ k + 12 → lane_at n bs p ≡ lane_at n bs' p
  unfolding lane_at
  same-lane zero p h = refl
  same-lane (suc n) p h =
      ap₂ (λ (w l : ℕ). w + 2 ^ 32 * l) (same_word p (omega arith)) (same-lane n (p + 16) (omega arith))

pub same_unpacked : (w : ℕ) (bs bs' : List ℕ) → take (16 * w) bs ≡ take (16 * w) bs' → unpack w bs ≡ unpack w bs'
unfolding unpack unpacked_at
same_unpacked w bs bs' same =
    tabulate-same 128 (unpacked_at w bs) (unpacked_at w bs')
    (λ i h. ap (λ (l : ℕ). l / 2 ^ (i / 4 * w) % 2 ^ w) (same-lane (16 * w) bs bs' same w (4 * (i % 4)) (omega arith)))

module _ (e : BlockInfo) (bs bs' : List ℕ) (same : take (block_size_of e) bs ≡ take (block_size_of e) bs') where
  same-docs : (least : ℕ) → full_docs least e bs ≡ full_docs least e bs'
  unfolding block_size_of
  same-docs least =
      let docs = same_fewer (block_size_of e) bs bs' same (16 * e.doc_width) (omega arith) in
      rw (full_docs-is least e bs, full_docs-is least e bs', same_unpacked _ bs bs' docs)

  same-freqs : (wanted : Bool) → full_freqs wanted e bs ≡ full_freqs wanted e bs'
  unfolding block_size_of
  same-freqs false = rw (full_freqs-unread e bs, full_freqs-unread e bs')
  same-freqs true =
      let left : block_size_of e - 16 * e.doc_width ≡ 16 * e.freq_width = omega arith in
      let behind = rw left at (same-behind (block_size_of e) bs bs' same (16 * e.doc_width)) in
      rw (full_freqs-read e bs, full_freqs-read e bs', same_unpacked _ _ _ behind)

  pub same_full : (wanted : Bool) (least : ℕ) → full_block wanted least e bs ≡ full_block wanted least e bs'
  same_full wanted least = rw (full_block-is wanted least e bs, full_block-is wanted least e bs', same-docs least, same-freqs wanted)

-- ---- the skip length

-- a number read of bs is read of all bytes that begin with those that it took
abbrev Fixed : ℕ → List ℕ → Option (ℕ × ℕ) → Type 0
Fixed most bs None = Unit {0}
Fixed most bs (Some (value, used)) = (bs' : List ℕ) → take used bs ≡ take used bs' → read_f most bs' ≡ Some (value, used)

-- its last byte
fixed_last : (most b : ℕ) (bs : List ℕ) → ltb b 128 ≡ false → Fixed (suc most) (b ∷ bs) (Some (b - 128, 1))
unfolding read_f choose
fixed_last most b bs t [] same = cc
fixed_last most b bs t (b' ∷ bs') same =
    let first : b' ≡ b = cc in
    rw (first, t)

-- .. and one before it
more-read : (most b value used : ℕ) (bs bs' : List ℕ) → ltb b 128 ≡ true → Fixed most bs (Some (value, used))
    → take (suc used) (b ∷ bs) ≡ take (suc used) bs' → read_f (suc most) bs' ≡ Some (b + 128 * value, 1 + used)
unfolding read_f choose onward
more-read most b value used bs [] t h same = cc
more-read most b value used bs (b' ∷ bs') t h same =
    let first : b' ≡ b = cc in
    let rest : take used bs ≡ take used bs' = cc in
    rw (first, t, h bs' rest)

fixed_more : (most b : ℕ) (bs : List ℕ) (r : Option (ℕ × ℕ)) → ltb b 128 ≡ true → Fixed most bs r → Fixed (suc most) (b ∷ bs) (onward b r)
unfolding onward
fixed_more most b bs None t h = tt
fixed_more most b bs (Some (value, used)) t h = λ bs' same. more-read most b value used bs bs' t h (rw one-add at same)

fixed : (most : ℕ) (bs : List ℕ) → Fixed most bs (read_f most bs)
unfolding read_f
fixed zero bs = tt
fixed (suc most) [] = tt
fixed (suc most) (b ∷ bs) =
    choose_elim (Fixed (suc most) (b ∷ bs)) (ltb b 128) _ _
    (λ t. fixed_more most b bs (read_f most bs) t (fixed most bs))
    (λ t. fixed_last most b bs t)

-- a number below a limit is that number
below-is : (limit : ℕ) (r : Option (ℕ × ℕ)) {value used : ℕ} → below limit r ≡ Some (value, used) → r ≡ Some (value, used)
unfolding below
below-is limit None e = cc
below-is limit (Some (v, u)) {value} {used} e =
    choose_elim (λ (r : Option (ℕ × ℕ)). r ≡ Some (value, used) → ◌≡◌ {A = Option (ℕ × ℕ)} (Some (v, u)) (Some (value, used))) (ltb v limit) _ _ (λ _ same. same) (λ _ none. cc) e

same_number : (most limit : ℕ) (bs bs' : List ℕ) {value used : ℕ} → read_vint_of most limit bs ≡ Some (value, used)
    → take used bs ≡ take used bs' → read_vint_of most limit bs' ≡ Some (value, used)
unfolding read_vint_of
same_number most limit bs bs' e same =
    let read = below-is limit (read_f most bs) e in
    ap (below limit) ((rw read at (fixed most bs)) bs' same ∙ sym read) ∙ e

-- ---- the layout

same-split : (t : Term) (bs bs' : List ℕ) (v : Option (ℕ × ℕ)) {l : Layout} → length bs ≡ length bs' → skip_length bs ≡ v → split t bs v ≡ Ok l
    → take l.postings bs ≡ take l.postings bs' → split t bs' (skip_length bs') ≡ Ok l
unfolding skip_length
same-split t bs bs' None long e h same = absurd (refused≢ok (sym (split-malformed t bs) ∙ h))
same-split t bs bs' (Some (size, used)) {l} long e h same =
    let p = ask-ok _ _ _ (sym (split-number t bs size used) ∙ h) in
    let q = ask-ok _ _ _ (sym (sized-is t size used) ∙ p.1) in
    let places : l.postings ≡ used + size = ap (λ (k : Layout). k.postings) (sym (ok_same q.1)) in
    let read = same_number 10 (2 ^ 64) bs bs' e (same_fewer l.postings bs bs' same used (omega arith)) in
    rw (read, split-number, ← long) (sym (split-number t bs size used) ∙ h)

-- a question that was answered yes is so again
ask-again : {A : Type 0} (t : Bool) (r : Refusal) (go go' : Bool → Outcome A) {a : A} → (go true ≡ Ok a → go' true ≡ Ok a)
    → ask t r go ≡ Ok a → ask t r go' ≡ Ok a
unfolding ask
ask-again true r go go' f e = f e
ask-again false r go go' f e = absurd (refused≢ok e)

module _ (t : Term) (l : Layout) (bs bs' : List ℕ) (long : length bs ≡ length bs') (same : take l.postings bs ≡ take l.postings bs') where
  same_parts : (none : Bool) (alone : Outcome Layout) → choose none (λ _. alone) (λ _. split t bs (skip_length bs)) ≡ Ok l
      → choose none (λ _. alone) (λ _. split t bs' (skip_length bs')) ≡ Ok l
  unfolding choose
  same_parts true alone h = h
  same_parts false alone h = same-split t bs bs' (skip_length bs) long refl h same

  pub same_layout : layout t bs ≡ Ok l → layout t bs' ≡ Ok l
  same_layout h =
      layout_is t bs'
      ∙ ask-again _ _ _ _ (ask-again _ _ _ _ (same_parts (eqb (full_blocks_of t) 0) _)) (sym (layout_is t bs) ∙ h)

pub same-skips : (l : Layout) (bs bs' : List ℕ) → take l.postings bs ≡ take l.postings bs' → skip_bytes_of l bs ≡ skip_bytes_of l bs'
unfolding skip_bytes_of
same-skips l bs bs' same = same-behind l.postings bs bs' same l.skips
