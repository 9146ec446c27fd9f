-- Documents handed in one by one, all of which are taken: the calls of those still to come lead to where all calls lead, turn by turn. A
-- list whose questions were all answered yes is such a list, and closing behind its documents leaves what a whole list leaves.
-- Assumes nothing.
use Rattle.std.specs.Prelude.{Ok, Err}
use Rattle.std.specs.Result.{is_ok}
use mathlib.Core.Bool.{Bool, true}
use mathlib.Core.List.{List}
use mathlib.Core.Path.{◌≡◌, sym, ap, subst, ◌∙◌}
use Prim.Native.Nat.{ℕ, ◌+◌, ◌<◌, ◌^◌}
use native.Mathlib.Numerals.{add-one}
use native.Mathlib.Omega.{arith}
use lib.ListN.{length, get_or, drop}
use lib.Seq.{drop-cons, drop-length}
use Rattle.format.specs.declared.IndexRecordOption.{IndexRecordOption}
use Rattle.format.specs.declared.refusal.Refusal.{Refusal}
use Rattle.format.specs.Basics.{Outcome, and_then, ask, or_before, AllBelow}
use Rattle.format.specs.Accepted.{kept_in, begin, written}
use Rattle.format.proofs.Accepted.{known_mode_lem, written-ok}
use Rattle.format.proofs.Outcome.{refused≢ok, ok_same, and_then-ok}
use Rattle.serializer.specs.declared.ClosedIn.{ClosedIn}
use Rattle.serializer.specs.declared.PostingsSerializer.{PostingsSerializer}
use Rattle.serializer.specs.declared.Progress.{Progress}
use Rattle.serializer.specs.Writer.{Areas, fresh, taking, take_all_docs, announcing}
use Rattle.serializer.specs.Calls.{answered, progressed, state_of, Begun, TookIn, ClosedFrom, ListLeft, ListedAs}
use Rattle.serializer.specs.Lists.{HasRoom, WritesList}
use Rattle.serializer.proofs.Laws.AnswerTells.{progressed-refused}
use Rattle.serializer.proofs.Laws.ByValue.{settled_at}
use Rattle.serializer.proofs.Laws.WholeList.{whole-list-writes, announced_writes}
use Rattle.serializer.proofs.SingleCalls.AllDocuments.{take_all_docs-cons}
use Rattle.serializer.proofs.SingleCalls.WritesList.{single_calls_write}
use Rattle.postings.specs.WriterCalls.{areas_of}
use Rattle.postings.proofs.WriterManners.{settled_gives, gives-ok}

-- ---- turn by turn

-- the calls from the document at place i on
abbrev pub on_from : (ds fs : List ℕ) → ℕ → Areas → Outcome Areas
on_from ds fs i a = take_all_docs a.state (drop i ds) (drop i fs) a.skips a.postings

module _ (ds fs : List ℕ) (same : length ds ≡ length fs) (i : ℕ) (s : PostingsSerializer) (skips postings : List ℕ) where
  turn : i < length ds
      → on_from ds fs i (areas_of s skips postings) ≡ and_then (taking s (get_or ds i 0) (get_or fs i 0) skips postings) (λ a. on_from ds fs (i + 1) a)
  turn below = rw (drop-cons ds i 0 below, drop-cons fs i 0 (omega arith), take_all_docs-cons, add-one)

  module _ {a : Areas} (e : on_from ds fs i (areas_of s skips postings) ≡ Ok a) (below : i < length ds)
      {docs' freqs' skips' postings' : List ℕ} {r : Outcome Progress}
      (t : TookIn s (get_or ds i 0) (get_or fs i 0) skips postings docs' freqs' skips' postings' r) where
    pub takes-on : {p : Progress} → r ≡ Ok p → on_from ds fs (i + 1) (areas_of (state_of p docs' freqs') skips' postings') ≡ Ok a
    takes-on told =
        let p = and_then-ok _ (λ (k : Areas). on_from ds fs (i + 1) k) (sym (turn below) ∙ e) in
        subst (λ (k : Areas). on_from ds fs (i + 1) k ≡ Ok a) (sym (gives-ok (settled_gives (settled_at t s told)) p.1).1) p.2

    -- none is refused
    pub takes_all : is_ok r ≡ true
    unfolding progressed
    takes_all =
        let p = and_then-ok _ (λ (k : Areas). on_from ds fs (i + 1) k) (sym (turn below) ∙ e) in
        rw (t.answer, p.1)

  pub takes-end : i ≡ length ds → on_from ds fs i (areas_of s skips postings) ≡ Ok (areas_of s skips postings)
  unfolding take_all_docs
  takes-end all = rw (all, drop-length)

-- ---- a list whose questions were all answered yes

module _ (mode : ℕ) (recording : Bool) (announced : ℕ) (ds fs skips postings output : List ℕ) (small : AllBelow (2 ^ 32) fs) {image : List ℕ}
    (e : announcing mode recording announced ds fs skips postings output ≡ Ok image) where
  own_count : announced ≡ length ds
  own_count = ((announced_writes mode recording ds fs skips postings output announced).0 e).0

  listed : (written mode recording ds fs ≡ Ok image) × HasRoom mode recording ds fs skips postings output image
  listed = (whole-list-writes mode recording ds fs skips postings output).0 ((announced_writes mode recording ds fs skips postings output announced).0 e).1

  -- question 1 among them
  pub term-begins : {r : Outcome Progress} {n : Refusal} → r ≡ progressed (λ _. fresh mode recording) (begin mode recording) → r ≡ Err n → ⊥
  unfolding begin ask
  term-begins told refusal =
      let known = known_mode_lem mode (written-ok mode recording ds fs small listed.0).mode_known in
      let yes : begin mode recording ≡ Ok (kept_in mode recording) = rw known in
      refused≢ok (sym (progressed-refused (λ _. fresh mode recording) (begin mode recording) told refusal) ∙ yes)

  module _ {first : PostingsSerializer} (begun : Begun mode recording first) where
    writes : WritesList mode recording first ds fs skips postings image
    writes = single_calls_write begun ds fs skips postings small listed.0 listed.1.skips_fit listed.1.postings_fit

    -- every document is taken
    pub term-takes : (length ds ≡ length fs) × ((a : Areas) × (take_all_docs first ds fs skips postings ≡ Ok a))
    term-takes = ((written-ok mode recording ds fs small listed.0).accepted.as_many, (writes.areas, writes.takes))

    -- and closing leaves what the list leaves
    pub term-left : {held : PostingsSerializer} {skips' postings' output' : List ℕ} {r : ClosedIn}
        → take_all_docs first ds fs skips postings ≡ Ok (areas_of held skips' postings')
        → ClosedFrom held announced skips' postings' output output' r
        → ListedAs mode recording announced ds fs skips postings output skips' postings' output' r.answer
    unfolding answered or_before
    term-left takes closed =
        let same = ok_same (sym takes ∙ writes.takes) in
        let closing-is = rw (sym own_count, sym same) at (writes.closes output listed.1.output_fit) in
        record {
          answer = closed.answer ∙ rw (closing-is, e);
          skips_after = ap (λ (a : Areas). a.skips) same ∙ writes.skips_after ∙ rw e;
          postings_after = ap (λ (a : Areas). a.postings) same ∙ writes.postings_after ∙ rw e;
          output_after = closed.output_after ∙ rw (closing-is, e);
        }

-- ---- one that is refused

pub list-refused : {o : Outcome (List ℕ)} {why : Refusal} (option : IndexRecordOption) (ds fs skips postings output : List ℕ) → o ≡ Err why
    → ListLeft o option ds fs skips postings output skips postings output (Err why)
unfolding answered or_before
list-refused option ds fs skips postings output e = record { answer = rw e; skips_after = rw e; postings_after = rw e; output_after = rw e }
