-- The writer's single calls answer and leave what the definitions give, whether they get a whole state or its numbers and two lent
-- arrays: for a document, for closing, and for the state that begins a term.
-- Assumes nothing.
use Rattle.std.specs.Prelude.{Ok, Err}
use mathlib.Core.Bool.{Bool}
use mathlib.Core.List.{List}
use mathlib.Core.Path.{◌≡◌, refl, sym, ap, subst, ◌∙◌}
use Prim.Native.Nat.{ℕ}
use native.Mathlib.Omega.{arith}
use lib.ListN.{length}
use Rattle.format.specs.Basics.{Outcome, or_before, put_at}
use Rattle.format.specs.declared.refusal.Refusal.{Refusal}
use Rattle.format.specs.Accepted.{begin}
use Rattle.serializer.specs.declared.PostingsSerializer.{PostingsSerializer}
use Rattle.serializer.specs.declared.Step.{Step}
use Rattle.serializer.specs.Calls.{accepted, answered, beginning, Begun, Settled, progress_of_of, state_of, acceptance}
use Rattle.serializer.specs.Writer.{Areas, fresh, taking, closing}
use Rattle.serializer.proofs.Laws.AnswerTells.{accepted-yes, accepted-refused, progressed-at, progressed-refused, answers-yes, answers-no}
use Rattle.serializer.proofs.Laws.ByValue.{begun_whole, begun_parts, settled_at, settled_no, arrays_stay}
use Rattle.postings.specs.WriterCalls.{areas_of, Begins, handed_out, numbered, unnumbered, Hands, handed_back, went_on, stayed, Closes, closed_whole, closed_parts}

-- ---- a document

-- an answer and what is left are what the outcome gives
pub record Gives (o : Outcome Areas) (a : Areas) (answer : Outcome (Unit {0})) (b : Areas) : Type 0 where
  pub answered : answer ≡ accepted o
  pub left : b ≡ or_before (λ k. k) o a

pub settled_gives : {o : Outcome Areas} {s : PostingsSerializer} {skips postings skips' postings' : List ℕ} {r : Step}
    → Settled o s skips postings skips' postings' r → Gives o (areas_of s skips postings) r.answer (areas_of r.state skips' postings')
unfolding or_before
settled_gives {o = Ok a} h = record { answered = h.answer; left = rw (h.state, h.skips_after, h.postings_after) }
settled_gives {o = Err n} h = record { answered = h.answer; left = rw (h.state, h.skips_after, h.postings_after) }

pub hands_gives : {d f : ℕ} {a b : Areas} {answer : Outcome (Unit {0})} → Hands d f a answer b → Gives (taking a.state d f a.skips a.postings) a answer b
unfolding state_of acceptance
hands_gives (handed_back t) = settled_gives t
hands_gives (went_on p docs freqs t) = settled_gives (settled_at t (state_of p docs freqs) refl)
hands_gives (stayed p docs freqs t) =
    let same = arrays_stay t (state_of p docs freqs) refl in
    rw (same.0, same.1) (settled_gives (settled_no t (state_of p docs freqs) refl))

module _ {o : Outcome Areas} {a b : Areas} {answer : Outcome (Unit {0})} (g : Gives o a answer b) where
  -- a call answered yes leaves what its definition gives ..
  pub gives-yes : answer ≡ Ok tt → o ≡ Ok b
  unfolding or_before
  gives-yes granted =
      let k = accepted-yes o g.answered granted in
      k.1 ∙ ap Ok (sym (rw k.1 at g.left))

  -- .. one that is refused leaves all as it was ..
  pub gives-no : {r : Refusal} → answer ≡ Err r → b ≡ a
  unfolding or_before
  gives-no denied = rw (accepted-refused o g.answered denied) at g.left

  -- .. and where the definition gives something the answer is yes
  pub gives-ok : {c : Areas} → o ≡ Ok c → (answer ≡ Ok tt) × (b ≡ c)
  unfolding accepted or_before
  gives-ok e = (rw e at g.answered, rw e at g.left)

-- ---- closing

pub record ClosesAs (o : Outcome (List ℕ)) (s : PostingsSerializer) (output : List ℕ) (answer : Outcome ℕ) (output' : List ℕ) (last : PostingsSerializer) : Type 0 where
  pub answered_as : answer ≡ answered length o
  pub output_after : output' ≡ or_before (λ image. put_at 0 image output) o output
  pub stays : {r : Refusal} → o ≡ Err r → last ≡ s

pub closes_as : {announced : ℕ} {a : Areas} {output output' : List ℕ} {answer : Outcome ℕ} {last : PostingsSerializer}
    → Closes announced a output answer output' last
    → ClosesAs (closing a.state announced a.skips a.postings output) a.state output answer output' last
unfolding or_before state_of progress_of_of
closes_as (closed_whole k) = record { answered_as = k.answer; output_after = k.output_after; stays = λ e. rw e at k.state }
closes_as (closed_parts p docs freqs k) = record {
  answered_as = k.answer;
  output_after = k.output_after;
  stays = λ e. ap (λ q. state_of q docs freqs) (rw e at k.progress);
}

-- ---- beginning

module _ {mode : ℕ} {recording : Bool} where
  pub begins_as : {answer : Outcome (Unit {0})} {s : PostingsSerializer} → Begins mode recording answer s → answer ≡ accepted (begin mode recording)
  unfolding beginning acceptance
  begins_as (handed_out e) = ap (λ s. s.answer) e
  begins_as (numbered p docs freqs e docs_long freqs_long) = answers-yes (progressed-at (λ _. fresh mode recording) (begin mode recording) e refl).1
  begins_as (unnumbered e) = answers-no (progressed-refused (λ _. fresh mode recording) (begin mode recording) e refl)

  pub begins_begun : {answer : Outcome (Unit {0})} {s : PostingsSerializer} → Begins mode recording answer s → answer ≡ Ok tt → Begun mode recording s
  unfolding beginning acceptance
  begins_begun (handed_out e) granted = subst (Begun mode recording) (sym (ap (λ s. s.state) e)) (begun_whole mode recording)
  begins_begun (numbered p docs freqs e docs_long freqs_long) granted = begun_parts mode recording docs freqs e docs_long freqs_long
  begins_begun (unnumbered e) granted = absurd (let z : ◌≡◌ {A = ℕ} 0 1 = cc in omega arith)
