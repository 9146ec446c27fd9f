-- `restore_docs` answers whether the ids are in order and which is the last, which is compared where the block has an entry.
use Rattle.format.specs.declared.refusal.Refusal.{Refusal}
use Rattle.format.specs.declared.refusal.Refusal.TheVariants.{DocsNotRising, NumberBroken}
use Rattle.std.proofs.Common.{◌≡◌, ℕ, Bool, true, false, List, ◌++◌, take, drop, refl, sym, ◌∙◌}
use Rattle.std.specs.Prelude.{eqb, Ok, Err}
use Rattle.segment_postings.proofs.Laws.Exits.{passed_on}
use borrow.Author.Tests.{not-true, not-false, eq-eqb, ne_eqb}
use Rattle.format.specs.Basics.{ask, and_then, last_of}
use Rattle.format.proofs.Outcome.{refused≢ok}
use Rattle.compression.specs.Restored.{ids_behind, differences_rise, risen}
use Rattle.compression.proofs.Differences.{restored-answers, restored-ids}
use Rattle.segment_postings.specs.declared.load.Taken.{Taken}
use Rattle.segment_postings.specs.Taken.{ends_on, DocsAsked}
use Rattle.segment_postings.proofs.load.BlockQuestions.{docs_broken, docs_fallen, docs-end_wrong, docs_right}
use Rattle.segment_postings.proofs.load.ask_docs.Goals as goal
use Rattle.segment_postings.proofs.load.ask_docs.Goals.{else-taken-via-then-taken+else-last-taken, else-taken-via-else-taken}

module _ (k : Taken) (least : ℕ) (docs docs' : List ℕ) where
  abbrev vs : List ℕ
  vs = take k.n docs

  abbrev ds : List ℕ
  ds = ids_behind least vs

  broken : k.docs_there ≡ false → DocsAsked k least docs docs' (Err NumberBroken)
  unfolding and_then
  broken h = record { answer = docs_broken k least docs h; left = λ z. absurd (refused≢ok z) }

  module _ (there : k.docs_there ≡ true) where
    fallen : differences_rise least vs ≡ false → DocsAsked k least docs docs' (Err DocsNotRising)
    unfolding and_then
    fallen h = record { answer = docs_fallen k least docs there h; left = λ z. absurd (refused≢ok z) }

    -- a full block is asked for its last id, a tail isn't
    ended_wrong : {last : ℕ} → last ≡ last_of 0 ds → k.full ≡ true → eqb last k.last_doc ≡ false → DocsAsked k least docs docs' (Err DocsNotRising)
    unfolding ends_on and_then
    ended_wrong l f h = record { answer = docs-end_wrong k least docs there (rw (f, ← l, h)); left = λ z. absurd (refused≢ok z) }

    module _ (rises : differences_rise least vs ≡ true) (left : docs' ≡ ds ++ drop k.n docs) where
      right : ends_on k.full k.last_doc ds ≡ true → DocsAsked k least docs docs' (Ok tt)
      unfolding and_then
      right h = record { answer = docs_right k least docs there rises h; left = λ z. left }

      ended_right : {last : ℕ} → last ≡ last_of 0 ds → k.full ≡ true → eqb last k.last_doc ≡ true → DocsAsked k least docs docs' (Ok tt)
      unfolding ends_on
      ended_right l f h = right (rw (f, ← l, h))

      tail_right : k.full ≡ false → DocsAsked k least docs docs' (Ok tt)
      unfolding ends_on
      tail_right f = right (rw f)

-- what `restore_docs` says of ids
module _ (least : ℕ) (vs : List ℕ) where
  not-rising : {r : Refusal} → Err r ≡ risen least vs → (differences_rise least vs ≡ false) × (r ≡ DocsNotRising)
  unfolding risen ask
  not-rising {r} e = go (differences_rise least vs) e
    where
      go : (t : Bool) → Err r ≡ (ask t DocsNotRising λ _. Ok (last_of 0 (ids_behind least vs))) → (t ≡ false) × (r ≡ DocsNotRising)
      go true e = absurd (refused≢ok e)
      go false e = (refl, cc)

  is-rising : {last : ℕ} → Ok last ≡ risen least vs → (differences_rise least vs ≡ true) × (last ≡ last_of 0 (ids_behind least vs))
  unfolding risen ask
  is-rising {last} e = go (differences_rise least vs) e
    where
      go : (t : Bool) → Ok last ≡ (ask t DocsNotRising λ _. Ok (last_of 0 (ids_behind least vs)))
          → (t ≡ true) × (last ≡ last_of 0 (ids_behind least vs))
      go true e = (refl, cc)
      go false e = absurd (refused≢ok (sym e))

pub returns-then-not-taken : goal.returns-then-not-taken
returns-then-not-taken c = broken _ _ _ _ (not-true _ c.if-not-taken.true)

pub returns-in_err-last : goal.returns-in_err-last
returns-in_err-last c =
    let fell = not-rising _ _ (sym c.in_err-last.was ∙ restored-answers c.restore_docs.ensures c.requires) in
    rw (passed_on c.from_residual.ensures.1, fell.1) (fallen _ _ _ _ (not-false _ c.if-not-taken.false) fell.0)

-- the ids rise
pub returns-then-last-taken : goal.returns-then-last-taken
returns-then-last-taken c =
    let rises = is-rising _ _ (sym c.in_ok-last.was ∙ restored-answers c.restore_docs.ensures c.requires) in
    ended_wrong _ _ _ _ (not-false _ c.if-not-taken.false) rises.1 c.if-taken.true (ne_eqb _ _ c.if-last-taken.true)

pub returns : goal.returns
returns c =
    let there = not-false _ c.if-not-taken.false in
    let rises = is-rising _ _ (sym c.in_ok-last.was ∙ restored-answers c.restore_docs.ensures c.requires) in
    let left = restored-ids c.restore_docs.ensures c.requires rises.0 in
    elim c.else-taken.branch [
      | else-taken-via-then-taken+else-last-taken w ↦
          ended_right _ _ _ _ there rises.0 left rises.1 w.if-taken.true (eq-eqb _ _ w.if-last-taken.false)
      | else-taken-via-else-taken w ↦ tail_right _ _ _ _ there rises.0 left w.if-taken.false
    ]
