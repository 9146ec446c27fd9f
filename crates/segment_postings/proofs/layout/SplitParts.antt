-- Laws of the split: what the definitions of the two parts and of the layout give is what stands at the places of the split, which
-- lie inside the image. Each goes by the answers to the same two tests, whether there is a full block and whether the skip length is
-- above the bytes behind it.
-- Assumes nothing.
use Rattle.format.specs.declared.refusal.Refusal.{Refusal}
use Rattle.format.specs.declared.refusal.Refusal.TheVariants.{UnknownMode, CountTooLarge, SkipLengthBroken}
use Rattle.std.specs.Prelude.{◌≡◌, ℕ, ◌+◌, ◌-◌, ◌*◌, ◌/◌, ◌^◌, ◌<◌, ◌≤◌, Bool, true, false, ◌&&◌ as and, eqb, leb, List, length, Ok, Err, Option, None, Some}
use mathlib.Core.Path.{refl, sym, ap, subst, ◌∙◌}
use native.Mathlib.Nat.{add-sub_cancel_left, mul-zero, mul-suc, mul-le-mul_left}
use native.Mathlib.Omega.{arith}
use borrow.Author.Tests.{leb-true, leb-false, eqb-true, eqb-false, eq-eqb, ne_eqb, le-leb, lt-leb}
use lib.ListN.{length-take, length-drop}
use Rattle.format.specs.declared.Layout.{Layout}
use Rattle.format.specs.declared.Term.{Term}
use Rattle.format.specs.Basics.{Outcome, ask, choose, TERMINATED}
use Rattle.format.specs.Accepted.{known_mode_of, kept_in}
use Rattle.format.specs.SkipEntry.{entry_size_of}
use Rattle.format.specs.Vint.{skip_length}
use Rattle.format.specs.Layout.{full_blocks_of, sized, split, layout, skip_bytes_of}
use Rattle.format.proofs.Choice.{choose_elim}
use Rattle.format.proofs.Outcome.{refused≢ok, ok_same, ask-ok}
use Rattle.format.proofs.Opened.{sized-is, split-number, layout_is}
use Rattle.format.proofs.Vints.{read-used}
use Rattle.segment_postings.specs.declared.layout.Split.{Split}
use Rattle.segment_postings.specs.Calls.{split_behind, split_of, part_of, skips_at, postings_at, skip_part, posting_part}

-- what holds of both outcomes that a question may have
ask_elim : {A : Type 0} (P : Outcome A → Type 0) (t : Bool) (r : Refusal) (go : Bool → Outcome A)
    → (t ≡ true → P (go true)) → (t ≡ false → P (Err r)) → P (ask t r go)
unfolding ask
ask_elim P true r go p q = p refl
ask_elim P false r go p q = q refl

-- what holds each time question 3 is answered, whatever the answer, holds of the split
module _ (count : ℕ) (bs : List ℕ) (P : Outcome Split → Type 0)
    (alone : count / 128 ≡ 0 → P (Ok (record { skips = 0; postings = 0 })))
    (inside : (size used : ℕ) → (count / 128 ≡ 0 → ⊥) → skip_length bs ≡ Some (size, used) → size ≤ length bs - used
    → P (Ok (record { skips = used; postings = used + size })))
    (above : (size used : ℕ) → (count / 128 ≡ 0 → ⊥) → skip_length bs ≡ Some (size, used) → length bs - used < size → P (Err SkipLengthBroken))
    (malformed : (count / 128 ≡ 0 → ⊥) → skip_length bs ≡ None → P (Err SkipLengthBroken)) where
  behind : (count / 128 ≡ 0 → ⊥) → (v : Option (ℕ × ℕ)) → skip_length bs ≡ v → P (split_behind bs v)
  unfolding split_behind
  behind some None e = malformed some e
  behind some (Some (size, used)) e =
      ask_elim P (leb size (length bs - used)) _ _
      (λ t. inside size used some e (leb-true _ _ t))
      (λ t. above size used some e (leb-false _ _ t))

  split_elim : P (split_of count bs)
  unfolding split_of
  split_elim =
      choose_elim P (eqb (count / 128) 0) _ _
      (λ t. alone (eqb-true _ _ t))
      (λ t. behind (eqb-false _ _ t) (skip_length bs) refl)

-- ---- inside the image

abbrev Inside : List ℕ → Outcome Split → Type 0
Inside bs (Ok s) = (s.skips ≤ s.postings) × (s.postings ≤ length bs)
Inside bs (Err r) = Unit {0}

split-inside : (count : ℕ) (bs : List ℕ) → Inside bs (split_of count bs)
unfolding skip_length
split-inside count bs =
    split_elim count bs (Inside bs)
    (λ _. omega arith)
    (λ size used _ v h. omega (arith, (read-used 10 (2 ^ 64) bs v).used_length))
    (λ _ _ _ _ _. tt)
    (λ _ _. tt)

pub split_places : (count : ℕ) (bs : List ℕ) {s : Split} → split_of count bs ≡ Ok s
    → (s.skips ≤ s.postings) × (s.postings ≤ length bs)
split_places count bs e = rw e at (split-inside count bs)

-- ---- the parts

part_at : (part : ℕ → ℕ → List ℕ) (count : ℕ) (bs : List ℕ) {r : Outcome Split} → split_of count bs ≡ r → part_of part r ≡ part_of part (split_of count bs)
part_at part count bs e = ap (part_of part) (sym e)

module _ (count : ℕ) (bs : List ℕ) {r : Outcome Split} (e : split_of count bs ≡ r) where
  pub skips_at_is : part_of (skips_at bs) r ≡ skip_part count bs
  unfolding skip_part
  skips_at_is = part_at (skips_at bs) count bs e

  pub postings_at_is : part_of (postings_at bs) r ≡ posting_part count bs
  unfolding posting_part
  postings_at_is = part_at (postings_at bs) count bs e

-- ---- the layout

abbrev pub layout_at : Term → Outcome Split → Outcome Layout
layout_at t (Ok s) = sized t (s.postings - s.skips) s.skips
layout_at t (Err r) = Err r

-- without a full block question 4 is answered yes by no entries in no bytes
sized-alone : (t : Term) → full_blocks_of t ≡ 0 → sized t 0 0 ≡ Ok (record { option = kept_in t.mode true; skips = 0; postings = 0 })
unfolding ask
sized-alone t e = rw (sized-is, e, mul-zero)

-- questions 1 and 2, before what follows them
abbrev pub asked : Term → Outcome Layout → Outcome Layout
asked t o =
    ask (and (known_mode_of t.mode) (leb t.requested 2)) UnknownMode λ _.
    ask (leb t.count TERMINATED) CountTooLarge λ _. o

pub layout-at : (t : Term) (bs : List ℕ) {r : Outcome Split} → split_of t.count bs ≡ r → layout t bs ≡ asked t (layout_at t r)
unfolding ask choose split full_blocks_of
layout-at t bs e =
    rw e at
    (split_elim t.count bs (λ r. layout t bs ≡ asked t (layout_at t r))
    (λ z. rw (layout_is, eq-eqb _ _ z, sized-alone t z))
    (λ size used z v h. rw (layout_is, ne_eqb _ _ z, v, split-number, le-leb _ _ h, add-sub_cancel_left))
    (λ size used z v h. rw (layout_is, ne_eqb _ _ z, v, split-number, lt-leb _ _ h))
    (λ z v. rw (layout_is, ne_eqb _ _ z, v)))

-- ---- the entries

-- the skip bytes of a layout lie inside the image, and hold an entry for each full block
pub record LaidOut (t : Term) (bs : List ℕ) (l : Layout) : Type 0 where
  pub rising : l.skips ≤ l.postings
  pub inside : l.postings ≤ length bs
  pub entries : l.postings - l.skips ≡ entry_size_of l.option * full_blocks_of t

at_split : (t : Term) (bs : List ℕ) (r : Outcome Split) {l : Layout} → Inside bs r → layout_at t r ≡ Ok l → LaidOut t bs l
at_split t bs (Ok s) i e =
    let answered = ask-ok _ _ _ (sym (sized-is t (s.postings - s.skips) s.skips) ∙ e) in
    subst (LaidOut t bs) (ok_same answered.1)
    (record {
      rising = omega arith;
      inside = omega arith;
      entries = add-sub_cancel_left s.skips (s.postings - s.skips) ∙ eqb-true _ _ answered.0;
    })
at_split t bs (Err r) i e = absurd (refused≢ok e)

pub laid_out : (t : Term) (bs : List ℕ) {l : Layout} → layout t bs ≡ Ok l → LaidOut t bs l
laid_out t bs e =
    let first = ask-ok _ _ _ (sym (layout-at t bs refl) ∙ e) in
    at_split t bs (split_of t.count bs) (split-inside t.count bs) (ask-ok _ _ _ first.1).1

-- the entry of a full block
pub entry-inside : (t : Term) (bs : List ℕ) (l : Layout) (b : ℕ) → LaidOut t bs l → b < full_blocks_of t
    → entry_size_of l.option * b + entry_size_of l.option ≤ length (skip_bytes_of l bs)
unfolding skip_bytes_of
entry-inside t bs l b o h =
    let size = entry_size_of l.option in
    simp (length-take, length-drop) (omega (arith, o.entries, mul-suc size b, mul-le-mul_left size h))
