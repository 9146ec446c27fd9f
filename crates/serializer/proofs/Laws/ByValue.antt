-- A call on a whole state over one on its numbers and arrays: put together again, what that call leaves is what the definition leaves.
-- A term that either begins is one just begun.
-- Assumes nothing.
use Rattle.format.specs.declared.refusal.Refusal.{Refusal}
use Rattle.std.specs.Prelude.{◌≡◌, ℕ, Bool, List, length, Ok, Err}
use mathlib.Core.Path.{refl, sym, ap, subst, ◌∙◌}
use Rattle.format.specs.Basics.{Outcome, or_before}
use Rattle.format.specs.Accepted.{begin}
use Rattle.serializer.specs.declared.ClosedIn.{ClosedIn}
use Rattle.serializer.specs.declared.PostingsSerializer.{PostingsSerializer}
use Rattle.serializer.specs.declared.Progress.{Progress}
use Rattle.serializer.specs.Calls.{progress_of_of, progressed, state_of, Begun, SettledIn, Settled, TookIn, ClosedFrom, Closed}
use Rattle.serializer.specs.Writer.{Areas, fresh, closing}
use Rattle.serializer.proofs.Laws.AnswerTells.{progressed-at, progressed-refused, answered-bytes, answered-refused, answers-yes, answers-no}

-- taken apart and put together again it is the same state
whole_again : (s : PostingsSerializer) {p : Progress} → p ≡ progress_of_of s → state_of p s.docs s.freqs ≡ s
unfolding state_of progress_of_of
whole_again s e = ap (λ (p : Progress). state_of p s.docs s.freqs) e

-- ---- a term just begun

pub begun_whole : (mode : ℕ) (recording : Bool) → Begun mode recording (fresh mode recording)
unfolding fresh
begun_whole mode recording = record { numbers = refl; docs_long = refl; freqs_long = refl }

pub begun_parts : (mode : ℕ) (recording : Bool) {p : Progress} (docs freqs : List ℕ) → Ok p ≡ progressed (λ _. fresh mode recording) (begin mode recording)
    → length docs ≡ 128 → length freqs ≡ 128 → Begun mode recording (state_of p docs freqs)
unfolding state_of progress_of_of
begun_parts mode recording docs freqs e docs_long freqs_long = record {
  numbers = (progressed-at (λ _. fresh mode recording) (begin mode recording) e refl).2;
  docs_long = docs_long;
  freqs_long = freqs_long;
}

-- ---- a document

pub took_whole : (s : PostingsSerializer) {p : Progress} → p ≡ progress_of_of s → (d f : ℕ) {skips postings docs' freqs' skips' postings' : List ℕ} {r : Outcome Progress}
    → TookIn (state_of p s.docs s.freqs) d f skips postings docs' freqs' skips' postings' r → TookIn s d f skips postings docs' freqs' skips' postings' r
took_whole s e d f {skips} {postings} {docs'} {freqs'} {skips'} {postings'} {r} took =
    subst (λ (t : PostingsSerializer). TookIn t d f skips postings docs' freqs' skips' postings' r) (whole_again s e) took

module _ {o : Outcome Areas} {docs freqs skips postings docs' freqs' skips' postings' : List ℕ} {r : Outcome Progress}
    (settled : SettledIn o docs freqs skips postings docs' freqs' skips' postings' r) (s : PostingsSerializer) where
  -- the parts that a good outcome leaves are its state's
  parts-of : {p : Progress} {a : Areas} → o ≡ Ok a → p ≡ progress_of_of a.state → state_of p docs' freqs' ≡ a.state
  unfolding or_before
  parts-of {p} {a} e numbers =
      let docs_are : docs' ≡ a.state.docs = settled.docs_after ∙ rw e in
      let freqs_are : freqs' ≡ a.state.freqs = settled.freqs_after ∙ rw e in
      rw (docs_are, freqs_are) (whole_again a.state numbers)

  pub settled_at : {p : Progress} → r ≡ Ok p
      → Settled o s skips postings skips' postings' (record { answer = Ok tt; state = state_of p docs' freqs' })
  unfolding or_before
  settled_at told =
      let k = progressed-at (λ (a : Areas). a.state) o settled.answer told in
      record {
        answer = answers-yes k.1;
        state = parts-of k.1 k.2 ∙ sym (ap (λ (q : Outcome Areas). or_before (λ (a : Areas). a.state) q s) k.1);
        skips_after = settled.skips_after;
        postings_after = settled.postings_after;
      }

  pub settled_no : {n : Refusal} → r ≡ Err n → Settled o s skips postings skips' postings' (record { answer = Err n; state = s })
  unfolding or_before
  settled_no told =
      let e = progressed-refused (λ (a : Areas). a.state) o settled.answer told in
      record { answer = answers-no e; state = rw e; skips_after = settled.skips_after; postings_after = settled.postings_after }

  pub arrays_stay : {n : Refusal} → r ≡ Err n → (docs' ≡ docs) × (freqs' ≡ freqs)
  unfolding or_before
  arrays_stay told =
      let e = progressed-refused (λ (a : Areas). a.state) o settled.answer told in
      (rw e at settled.docs_after, rw e at settled.freqs_after)

-- ---- closing

pub closed_again : (s : PostingsSerializer) {p : Progress} → p ≡ progress_of_of s → {announced : ℕ} {skips postings output output' : List ℕ} {r : ClosedIn}
    → ClosedFrom (state_of p s.docs s.freqs) announced skips postings output output' r → ClosedFrom s announced skips postings output output' r
closed_again s e {announced} {skips} {postings} {output} {output'} {r} closed =
    subst (λ (t : PostingsSerializer). ClosedFrom t announced skips postings output output' r) (whole_again s e) closed

module _ {s : PostingsSerializer} {announced : ℕ} {skips postings output output' : List ℕ} {r : ClosedIn}
    (closed : ClosedFrom s announced skips postings output output' r) where
  abbrev outcome : Outcome (List ℕ)
  outcome = closing s announced skips postings output

  pub closed_yes : {n : ℕ} → r.answer ≡ Ok n
      → Closed s announced skips postings output output' (record { answer = r.answer; state = fresh s.mode s.recording })
  unfolding or_before
  closed_yes told =
      let k = answered-bytes length outcome closed.answer told in
      record { answer = closed.answer; state = rw k.1; output_after = closed.output_after }

  pub closed_no : {n : Refusal} → r.answer ≡ Err n → Closed s announced skips postings output output' (record { answer = r.answer; state = s })
  unfolding or_before
  closed_no told =
      let e = answered-refused length outcome closed.answer told in
      record { answer = closed.answer; state = rw e; output_after = closed.output_after }
