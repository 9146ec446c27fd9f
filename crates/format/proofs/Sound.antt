-- A sound image: its layout was found, a walk over its parts went to the end, and its blocks are those of a list with as many
-- documents as the count says. No refusal carries the number 0, so a walk that ends with it was not refused, neither by the layout
-- nor later.
-- Assumes nothing.
use Rattle.std.specs.Prelude.{Ok, Err, Option, None, Some}
use mathlib.Core.List.{List}
use mathlib.Core.Path.{◌≡◌, refl, sym, ap, ◌∙◌}
use Prim.Native.Nat.{ℕ, ◌+◌, ◌-◌, ◌*◌, ◌^◌, ◌≤◌, ◌<◌}
use native.Mathlib.Omega.{arith}
use borrow.Author.Tests.{leb-true}
use lib.Dec.{eqb}
use lib.ListN.{length}
use Rattle.format.specs.declared.Layout.{Layout}
use Rattle.format.specs.declared.Term.{Term}
use Rattle.format.specs.Basics.{Outcome}
use Rattle.format.specs.Vint.{skip_length}
use Rattle.format.specs.Layout.{full_blocks_of, tail_length, split, layout, skip_bytes_of, posting_bytes_of}
use Rattle.format.specs.Reading.{nothing, walk_of, read_from, read_all, reading}
use Rattle.format.proofs.Choice.{choose_elim}
use Rattle.format.proofs.Outcome.{refused≢ok, ok_same, ask-ok}
use Rattle.format.proofs.Vints.{Read, read-used}
use Rattle.format.proofs.Blocks.{Blocks}
use Rattle.format.proofs.BlocksAt.{through, is-through, read-blocks}
use Rattle.format.proofs.Opened.{sized-is, split-number, split-malformed, layout_is, read_all-ok, reading-is}

-- ---- the layout

-- the posting bytes begin inside the image
split-inside : (t : Term) (bs : List ℕ) (v : Option (ℕ × ℕ)) {l : Layout} → skip_length bs ≡ v → split t bs v ≡ Ok l → l.postings ≤ length bs
unfolding skip_length
split-inside t bs None e h = absurd (refused≢ok (sym (split-malformed t bs) ∙ h))
split-inside t bs (Some (size, used)) e h =
    let p = ask-ok _ _ _ (sym (split-number t bs size used) ∙ h) in
    let q = ask-ok _ _ _ (sym (sized-is t size used) ∙ p.1) in
    let r : Read 10 (2 ^ 64) bs size used = read-used 10 (2 ^ 64) bs e in
    rw (← ok_same q.1) (omega (arith, leb-true size (length bs - used) p.0, r.used_length))

pub layout-inside : (t : Term) (bs : List ℕ) {l : Layout} → layout t bs ≡ Ok l → l.postings ≤ length bs
layout-inside t bs {l} h =
    let p = ask-ok _ _ _ (sym (layout_is t bs) ∙ h) in
    let q = ask-ok _ _ _ p.1 in
    choose_elim (λ (o : Outcome Layout). o ≡ Ok l → l.postings ≤ length bs) (eqb (full_blocks_of t) 0) _ _
    (λ _ e. omega (arith, ap (λ k. k.postings) (ok_same e)))
    (λ _ e. split-inside t bs (skip_length bs) refl e)
    q.1

-- ---- the walk

pub record Sound (t : Term) (bs : List ℕ) : Type 0 where
  pub laid : Layout
  pub found : layout t bs ≡ Ok laid
  pub inside : laid.postings ≤ length bs
  pub walk : read_from (walk_of t laid) (full_blocks_of t) 0
      (skip_bytes_of laid bs) (posting_bytes_of laid bs) ≡ through (reading t bs).blocks

laid_out : (t : Term) (bs : List ℕ) (o : Outcome Layout) → (read_all t bs o).verdict ≡ Ok tt → (l : Layout) × (o ≡ Ok l)
unfolding read_all nothing
laid_out t bs (Ok l) h = (l, refl)
laid_out t bs (Err r) h = absurd (refused≢ok h)

pub sound-image : (t : Term) (bs : List ℕ) → (reading t bs).verdict ≡ Ok tt → Sound t bs
sound-image t bs h =
    let p = laid_out t bs (layout t bs) (ap (λ r. r.verdict) (sym (reading-is t bs)) ∙ h) in
    let whole = reading-is t bs ∙ ap (read_all t bs) p.1 ∙ read_all-ok t bs p.0 in
    record { laid = p.0; found = p.1; inside = layout-inside t bs p.1; walk = sym whole ∙ is-through (reading t bs) h }

pub sound-blocks : {t : Term} {bs : List ℕ} → Sound t bs → Blocks (tail_length t) (full_blocks_of t) 0 (reading t bs).blocks
sound-blocks s = read-blocks _ _ _ _ _ _ _ _ s.walk

-- full blocks and the tail are the count
pub whole-count : (t : Term) → 128 * full_blocks_of t + tail_length t ≡ t.count
unfolding full_blocks_of tail_length
whole-count t = omega arith

pub tail-short : (t : Term) → tail_length t < 128
unfolding tail_length
tail-short t = omega arith
