-- The first promise of the order:
--   "A list is accepted if its ids rise strictly and stay at or below 2,147,483,646, its kept frequencies are at least 1, its count is
--   the announced one and the buffers are long enough; an image is admitted exactly if it is sound by document 01, and each call ends.
--   All else is refused under 01's numbers by the call itself, with cursor, writer state and buffers the same as before."
-- Each theorem takes what a call's contract ensures. That each call ends is the checker's verdict over every function. The numbers of
-- the refusals are those of the definitions that the contracts cite. For single calls of the writer see SingleCalls.antt.
-- Assumes nothing.
use Rattle.std.specs.Prelude.{Ok, Err}
use Rattle.format.specs.declared.refusal.Refusal.{Refusal}
use mathlib.Core.Bool.{Bool, true, not, ◌&&◌ as and, ◌||◌ as or, and-eq-true_iff}
use mathlib.Core.List.{List, [], ◌∷◌}
use mathlib.Core.Logic.{◌↔◌}
use mathlib.Core.Path.{◌≡◌, refl, ◌∙◌, sym}
use Prim.Native.Nat.{ℕ, ◌+◌, ◌≤◌, ◌<◌, ◌^◌}
use native.Mathlib.Omega.{arith}
use borrow.Author.Tests.{eq-eqb}
use lib.Dec.{leb, ltb}
use lib.ListN.{length}
use Rattle.format.specs.declared.IndexRecordOption.{IndexRecordOption}
use Rattle.format.specs.Basics.{Outcome, and_then, ask, TERMINATED, AllBelow, or_before}
use Rattle.format.specs.SkipEntry.{has_freq_of}
use Rattle.format.specs.Values.{rising, countable}
use Rattle.format.specs.Written.{image}
use Rattle.format.specs.Accepted.{kept_in, begin, take_doc, take_docs, written, Accepted}
use Rattle.format.specs.Refusal.{number_of}
use Rattle.format.specs.Reading.{soundness}
use Rattle.format.proofs.Accepted.{known_mode_lem, written-ok}
use Rattle.format.proofs.Choice.{granted}
use Rattle.serializer.specs.declared.PostingsSerializer.{PostingsSerializer}
use Rattle.serializer.specs.Writer.{Areas, listing}
use Rattle.serializer.specs.Calls.{answered, accepted_number, written_numbers, Listed}
use Rattle.serializer.proofs.Laws.AnswerTells.{answered-bytes, answered-refused}
use Rattle.serializer.proofs.Laws.WholeList.{whole-list-writes}
use Rattle.segment_postings.specs.Admission.{Meets, MeetsNone}
use Rattle.segment_postings.proofs.Admission.AdmissionExact.{admission_admits, admission_refuses}
use Rattle.postings.specs.FirstPromise.{Acceptable}
use Rattle.postings.specs.WriterCalls.{Hands, Closes}
use Rattle.postings.proofs.WriterManners.{hands_gives, gives-no, closes_as}
use Rattle.postings.proofs.WriterNumbers.{zero-yes, zero-bytes, bytes-numbers, above-no, above-refused}

-- ---- accepted lists

taken : (option : IndexRecordOption) (least d f : ℕ) (ds fs : List ℕ) → Accepted option least (d ∷ ds) (f ∷ fs)
    → (take_doc option least d f ≡ Ok (d + 1)) × Accepted option (d + 1) ds fs
unfolding take_doc ask rising countable
taken option least d f ds fs a =
    let rises : and (and (leb least d) (ltb d TERMINATED)) (rising (d + 1) ds) ≡ true = a.rises in
    let counts : has_freq_of option ≡ true → and (and (leb 1 f) (leb f 4294967295)) (countable fs) ≡ true = a.counts in
    let p = (and-eq-true_iff (and (leb least d) (ltb d TERMINATED)) (rising (d + 1) ds)).0 rises in
    let q = (and-eq-true_iff (leb least d) (ltb d TERMINATED)).0 p.0 in
    let kept : has_freq_of option ≡ true → (and (leb 1 f) (leb f 4294967295) ≡ true) × (countable fs ≡ true) =
    λ k. (and-eq-true_iff (and (leb 1 f) (leb f 4294967295)) (countable fs)).0 (counts k) in
    let one : or (not (has_freq_of option)) (leb 1 f) ≡ true =
    granted (has_freq_of option) (leb 1 f) (λ k. ((and-eq-true_iff (leb 1 f) (leb f 4294967295)).0 (kept k).0).0) in (
      rw (q.1, q.0, one),
      record { rises = p.1; counts = λ k. (kept k).1; as_many = omega (arith, a.as_many) },
    )

all-taken : (option : IndexRecordOption) (least : ℕ) (ds fs : List ℕ) → Accepted option least ds fs
    → (next : ℕ) × (take_docs option least ds fs ≡ Ok next)
unfolding take_docs and_then
all-taken option least [] fs a = (least, refl)
all-taken option least (d ∷ ds) [] a = absurd (omega (arith, a.as_many))
all-taken option least (d ∷ ds) (f ∷ fs) a =
    let p = taken option least d f ds fs a in
    let q = all-taken option (d + 1) ds fs p.1 in
    (q.0, rw p.0 q.1)

accepted-written : (mode : ℕ) (recording : Bool) (ds fs : List ℕ) → mode ≤ 1 → Accepted (kept_in mode recording) 0 ds fs
    → written mode recording ds fs ≡ Ok (image (kept_in mode recording) ds fs)
unfolding written begin and_then ask
accepted-written mode recording ds fs known a =
    let p = all-taken (kept_in mode recording) 0 ds fs a in
    rw (known_mode_lem mode known, eq-eqb (length ds) (length fs) a.as_many, p.1)

module _ (mode : ℕ) (recording : Bool) (ds fs skips postings output : List ℕ) (small : AllBelow (2 ^ 32) fs) where
  pub listed_acceptable : {bytes : List ℕ} → listing mode recording ds fs skips postings output ≡ Ok bytes
      → Acceptable mode recording ds fs skips postings output
  listed_acceptable e =
      let p = (whole-list-writes mode recording ds fs skips postings output).0 e in
      let w = written-ok mode recording ds fs small p.0 in
      record { mode_known = w.mode_known; accepted = w.accepted; has_room = rw w.bytes at p.1 }

  pub acceptable_listed : Acceptable mode recording ds fs skips postings output
      → listing mode recording ds fs skips postings output ≡ Ok (image (kept_in mode recording) ds fs)
  acceptable_listed a =
      (whole-list-writes mode recording ds fs skips postings output).1
      (accepted-written mode recording ds fs a.mode_known a.accepted, a.has_room)

  -- a list is accepted exactly then: `write_list` answers 0 and a number of bytes, and else a refusal's number
  pub list-accepted : {skips' postings' output' : List ℕ} {r : Outcome ℕ} → Listed mode recording ds fs skips postings output skips' postings' output' r
      → ((n : ℕ) × (written_numbers r ≡ 0 ∷ n ∷ [])) ↔ Acceptable mode recording ds fs skips postings output
  unfolding answered
  list-accepted {r = r} l =
      let o : Outcome (List ℕ) = listing mode recording ds fs skips postings output in (
        λ b. listed_acceptable (answered-bytes length o l.answer (zero-bytes r b.1)).1,
        λ a. (length (image (kept_in mode recording) ds fs), bytes-numbers (l.answer ∙ rw (acceptable_listed a))),
      )

-- ---- admitted images

-- what `validate` answers: yes exactly where opening and a walk by `advance` over the whole image, frequencies requested, meet no refusal,
-- and a refusal exactly where that is the first that they meet
pub image_admitted : (mode count : ℕ) (bs : List ℕ) {answer : Outcome (Unit {0})} → answer ≡ soundness mode count bs
    → ((answer ≡ Ok tt) ↔ MeetsNone bs (record { mode = mode; requested = 1; count = count }))
    × ((r : Refusal) → (answer ≡ Err r) ↔ Meets bs (record { mode = mode; requested = 1; count = count }) r)
image_admitted mode count bs e = rw e (admission_admits mode count bs, admission_refuses mode count bs)

-- the same of the number that `vilthorwy_validate` answers: 0 exactly where they meet no refusal, and any other number exactly where the
-- first refusal that they meet carries it
pub admitted_number : (mode count : ℕ) (bs : List ℕ) {n : ℕ} → n ≡ accepted_number (soundness mode count bs)
    → ((n ≡ 0) ↔ MeetsNone bs (record { mode = mode; requested = 1; count = count }))
    × ((k : ℕ) → 0 < k → (n ≡ k) ↔ ((r : Refusal) × (number_of r ≡ k) × Meets bs (record { mode = mode; requested = 1; count = count }) r))
unfolding accepted_number
admitted_number mode count bs {n} e =
    let sound : Outcome (Unit {0}) = soundness mode count bs in
    let of_answer = image_admitted mode count bs refl in (
      (λ none. of_answer.0.0 (zero-yes sound (sym e ∙ none)), λ none. e ∙ rw (of_answer.0.1 none)),
      λ k above. (
        λ is.
            let refused = above-no sound (omega (arith, e, is)) in
            (refused.0, refused.1 ∙ sym e ∙ is, (of_answer.1 refused.0).0 refused.2),
        λ met. e ∙ rw ((of_answer.1 met.0).1 met.2) met.1,
      ),
    )

-- ---- refusals leave all as it was; those of the cursor are `refused-stays` in ThirdPromise.antt

-- a document, in either manner: any answer but 0
pub refused_document : {d f : ℕ} {a b : Areas} {answer : Outcome (Unit {0})} → Hands d f a answer b → 0 < accepted_number answer → b ≡ a
refused_document {answer = answer} h above = gives-no (hands_gives h) (above-no answer above).2

-- closing, in either manner
pub refused-closing : {announced : ℕ} {a : Areas} {output output' : List ℕ} {answer : Outcome ℕ} {last : PostingsSerializer} {n : ℕ}
    → Closes announced a output answer output' last → 0 < n → written_numbers answer ≡ n ∷ 0 ∷ [] → (last ≡ a.state) × (output' ≡ output)
unfolding or_before
refused-closing {answer = answer} k above e =
    let c = closes_as k in
    let no = answered-refused length _ c.answered_as (above-refused answer above e).2 in
    (c.stays no, rw no at c.output_after)

-- a whole list, by `write_list`
pub refused-list : (mode : ℕ) (recording : Bool) (ds fs skips postings output : List ℕ) {skips' postings' output' : List ℕ} {r : Outcome ℕ} {n : ℕ}
    → Listed mode recording ds fs skips postings output skips' postings' output' r → 0 < n → written_numbers r ≡ n ∷ 0 ∷ []
    → (skips' ≡ skips) × (postings' ≡ postings) × (output' ≡ output)
unfolding or_before
refused-list mode recording ds fs skips postings output {r = r} h above e =
    let no = answered-refused length (listing mode recording ds fs skips postings output) h.answer (above-refused r above e).2 in
    (rw no at h.skips_after, rw no at h.postings_after, rw no at h.output_after)
