-- The third promise of the order, one claim over every list of calls:
--   "For every list of steps and seeks, refused seeks included, from a freshly opened cursor on one unchanged admitted image, each call
--   getting the cursor as the last one left it and nobody else writing it, this holds after the list: the count of blocks unpacked
--   equals the number of different blocks in which the position has been, opening included (position p is in block p div 128, the end
--   as well). The image's documents and the calls alone fix the position: it begins at 0; a step goes one on until the end; a seek goes
--   to the first position, not behind the present one, whose document is at least the target, or to the end; but a target above
--   2,147,483,647 moves nothing and gets document 01's answer. The document and frequency answered by every other call are those at
--   the position it reached. Skip entries read never exceed the full blocks."
-- and of document 01:
--   "That promise is a single claim about the whole list of calls, those by value and those on the lent cursor mixed, and not one for
--   each call. After a refusal the next call gets the same cursor again."
--   "Where `doc` and `term_freq` are calls of their own, they give that document and that frequency."
-- Document 01's answer to a target above 2,147,483,647 was 10, but at the end that of a step there. Document 02 changes that (Ask 10): "The
-- target is now tested before the end." It is 10 at the end too: the model has it, and so `third_promise`; `seek_too_large` says it of one
-- seek, on every image.
-- What the promise asks is specs/ThirdPromise.antt `Promised`, of the model. `third_promise` says all of it of one list: the answers, the
-- cursor after them, what `doc`, `term_freq` and `answer_at` give there, and that the model's set, whose size is the count, is the set of
-- the different blocks in which its positions lie. Those three leave the cursor, and every beginning of a list is a list, so they may
-- stand between any two calls.
-- Document 02 adds (Ask 2) that every answer tells whether its seek's target is the document at the position that it reached; the model has it
-- (`hits`), and so `third_promise`. What a hit says of the list is SeekHits.antt's.
-- The argument: each function meets the definition of its call, whether the cursor goes by value, is lent, or lies in two lent arrays and
-- numbers (segment_postings, CallsByValue.antt), so a mixed list answers what its calls answer (`called_are`); those answer what the model
-- answers, and leave a cursor beside the model's state (segment_postings, CallsSimulate.antt `simulation`); the set is
-- VisitedBlocks.antt's.
-- Assumes nothing.
use Rattle.std.specs.Prelude.{Ok, Err}
use mathlib.Core.Path.{◌≡◌, refl, sym, ap, ap₂, ◌∙◌}
use mathlib.Core.Bool.{Bool, true}
use mathlib.Core.List.{List, ◌∷◌, map}
use Prim.Native.Nat.{ℕ, ◌+◌, ◌*◌, ◌/◌, ◌^◌, ◌≤◌, ◌<◌}
use native.Mathlib.Omega.{arith}
use borrow.Author.Tests.{lt-ltb}
use lib.ListN.{length, get_or}
use Rattle.format.specs.declared.refusal.Refusal.{Refusal}
use Rattle.format.specs.declared.refusal.Refusal.TheVariants.{TargetTooLarge}
use Rattle.format.specs.declared.Term.{Term}
use Rattle.format.specs.Basics.{Outcome, put_at, TERMINATED}
use Rattle.format.specs.Reading.{reading, soundness, docs_of, freqs_of}
use Rattle.format.specs.Model.{Call, step, seek, answers}
use Rattle.format.proofs.Outcome.{refused≢ok}
use Rattle.format.proofs.Requested.{sound_requested}
use Rattle.segment_postings.specs.declared.Answer.{Answer}
use Rattle.segment_postings.specs.declared.Held.{Held}
use Rattle.segment_postings.specs.declared.Moved.{Moved}
use Rattle.segment_postings.specs.declared.SegmentPostings.{SegmentPostings}
use Rattle.segment_postings.specs.declared.Sought.{Sought}
use Rattle.segment_postings.specs.Cursor.{in_bounds_of, answering, no_hit, moved, opened, stepping, seeking, advanced, hit_of, sought}
use Rattle.segment_postings.specs.Calls.{cursor_of, Leaves, Reaches, without_hit, Finds}
use Rattle.segment_postings.specs.Called.{reaching, hit_by, called, calls_from, calls, cursor_after, positions, answer_length, entries_place, model_numbers}
use Rattle.segment_postings.specs.Called.{with_hit, SameCall}
use Rattle.segment_postings.proofs.Laws.LandingParts.{no_hit_told}
use Rattle.segment_postings.proofs.Laws.CallsByValue.{open_in_calls, advance_in_calls, seek_in_calls}
use Rattle.segment_postings.proofs.Laws.SeekQuestions.{seeking_too_large}
use Rattle.segment_postings.proofs.Simulation.CallsSimulate.{shown-again, simulation}
use Rattle.postings.specs.MixedCalls.{Manner, on_arrays, MadeCall, calls_of, Opened, handed_out, filled, unfilled}
use Rattle.postings.specs.MixedCalls.{Meets, handed_back, left_there, came, stayed, Called, none, next}
use Rattle.postings.specs.MixedCalls.{Code, steps, seeks, steps_lent, seeks_lent, Codes, ended, coded}
use Rattle.postings.specs.RunCalls.{call_of, kind_of, all_known, model_answers, Runs}
use Rattle.postings.specs.ThirdPromise.{Promised}
use Rattle.postings.proofs.calls.CodedCalls.{step-called, lent-step-called, seek-called}
use Rattle.postings.proofs.calls.ModelAnswers.{entry-most}
use Rattle.postings.proofs.calls.RunCases.{all-taken}
use Rattle.postings.proofs.ValueNumbers.{told}
use Rattle.postings.proofs.VisitedBlocks.{visited-blocks, visited-distinct}

-- ---- a mixed list answers what its calls answer

-- an answer and a cursor that m puts together
leaves : {m : Moved} {a : Outcome Answer} {c : SegmentPostings} → record { answer = a; cursor = c } ≡ m → Leaves m a c
leaves e = (ap (λ (m : Moved). m.answer) e, ap (λ (m : Moved). m.cursor) e)

-- a call on arrays is the call by value on the cursor that they make with the numbers
on_arrays_call : (bs : List ℕ) (t : Term) (call : Call) (held : Held) {docs freqs docs' freqs' : List ℕ} {r : Outcome Held}
    → Reaches (reaching (cursor_of held docs freqs) bs t call) docs freqs docs' freqs' r
    → SameCall t (hit_by t call) (cursor_of held docs freqs) (called (cursor_of held docs freqs) bs t call) docs freqs docs' freqs' r
unfolding reaching hit_by called
on_arrays_call bs t step held k = advance_in_calls bs t _ k
on_arrays_call bs t (seek target) held k = seek_in_calls bs t _ target k

met : {bs : List ℕ} {t : Term} {call : Call} {manner : Manner} {c : SegmentPostings} {a : Outcome Answer} {c' : SegmentPostings}
    → Meets bs t call manner c a c' → Leaves (called c bs t call) a c'
met (handed_back e) = leaves e
met (left_there e) = e
met {bs} {t} {call} (came held {docs} {freqs} {docs'} {freqs'} {held'} k hits tells) =
    leaves (rw (tells, hits) (sym ((on_arrays_call bs t call held k).came refl)))
met {bs} {t} {call} (stayed held k) = let s = (on_arrays_call bs t call held k).stayed refl in leaves (rw (s.1, s.2) (sym s.0))

-- what the contract of `seek_in` says (`Finds`) makes a call on arrays, with `answer_at` where it came to
pub found_meets : {bs : List ℕ} {t : Term} {target : ℕ} (held : Held) {docs freqs docs' freqs' : List ℕ} {s : Sought} {answer : Outcome Answer}
    → Finds t target (seeking (cursor_of held docs freqs) bs t target) docs freqs docs' freqs' (Ok s) → answer ≡ answering t (cursor_of s.held docs' freqs')
    → Meets bs t (seek target) on_arrays (cursor_of held docs freqs) (with_hit s.hit answer) (cursor_of s.held docs' freqs')
unfolding reaching hit_by without_hit
found_meets held k tells = came held k.reaches (k.hit_there refl) tells

pub unfound_meets : {bs : List ℕ} {t : Term} {target : ℕ} (held : Held) {docs freqs docs' freqs' : List ℕ} {r : Refusal}
    → Finds t target (seeking (cursor_of held docs freqs) bs t target) docs freqs docs' freqs' (Err r)
    → Meets bs t (seek target) on_arrays (cursor_of held docs freqs) (Err r) (cursor_of held docs' freqs')
unfolding reaching without_hit
unfound_meets held k = stayed held k.reaches

-- on every image, admitted or not, each answer and each cursor is what the definition of its call gives
pub called_are : {bs : List ℕ} {t : Term} {c d : SegmentPostings} {made : List MadeCall} {told : List (Outcome Answer)} → Called bs t c made told d
    → (told ≡ calls_from bs t c (calls_of made)) × (d ≡ cursor_after bs t c (calls_of made))
unfolding calls_from cursor_after
called_are none = (refl, refl)
called_are (next e later) =
    let p = called_are later in
    let same = met e in
    (ap₂ ◌∷◌ same.0 (rw same.1 at p.0), rw same.1 at p.1)

-- .. and opening's
pub opened_are : {bs : List ℕ} {t : Term} {a : Outcome Answer} {c : SegmentPostings} → Opened bs t a c → Leaves (opened bs t) a c
opened_are (handed_out e) = leaves e
opened_are {bs} {t} (filled {docs} {freqs} {docs'} {freqs'} {held} k tells) =
    leaves (rw tells (sym ((open_in_calls bs t k).came refl ∙ rw no_hit_told)))
opened_are {bs} {t} (unfilled k) = leaves (sym ((open_in_calls bs t k).stayed refl).0)

-- ---- the promise

pub third_promise : (bs : List ℕ) (t : Term) → soundness t.mode t.count bs ≡ Ok tt → t.requested ≤ 2
    → {first : Outcome Answer} {begun : SegmentPostings} → Opened bs t first begun
    → {made : List MadeCall} {told : List (Outcome Answer)} {c : SegmentPostings} → Called bs t begun made told c
    → Promised bs t (calls_of made) (first ∷ told) c
unfolding calls
third_promise bs t sound known opens {made = made} later =
    let docs : List ℕ = docs_of (reading t bs).blocks in
    let said = answers docs (freqs_of (reading t bs).blocks) (calls_of made) in
    let all = (simulation t bs).opens_and_goes_on (sound_requested t.mode t.requested t.count bs known sound) (calls_of made) in
    let there = (simulation t bs).tells all.stands in
    let first-is = opened_are opens in
    let p = called_are later in
    rw (p.0, p.1, first-is.0, first-is.1)
    (record {
      model_answers_is = all.shows;
      model_entries = all.numbered;
      entries_most = λ i. rw all.numbered (entry-most t.count said (positions docs (calls_of made)) i);
      model_state = there.counts;
      model_doc = λ answers. told answers there.doc_is;
      model_freq = λ answers. told answers there.freq_is;
      model_there = λ answers. rw (answers, there.answer_is) (shown-again _ _);
      visited_once = visited-distinct docs (calls_of made);
      visited_are = visited-blocks docs (calls_of made);
    })

-- ---- after a refusal the next call gets the same cursor again

refused-moved : (t : Term) (before : SegmentPostings) (hit : SegmentPostings → Bool) (o : Outcome SegmentPostings) {r : Refusal}
    → (moved t before hit o).answer ≡ Err r → (moved t before hit o).cursor ≡ before
unfolding moved
refused-moved t before hit (Ok c) e = absurd (refused≢ok (sym e))
refused-moved t before hit (Err r) e = refl

refused-called : (c : SegmentPostings) (bs : List ℕ) (t : Term) (call : Call) {r : Refusal} → (called c bs t call).answer ≡ Err r
    → (called c bs t call).cursor ≡ c
unfolding called advanced sought
refused-called c bs t step e = refused-moved t c no_hit (stepping c bs t) e
refused-called c bs t (seek target) e = refused-moved t c (hit_of t target) (seeking c bs t target) e

-- in every manner, on every image, admitted or not
pub refused-stays : {bs : List ℕ} {t : Term} {call : Call} {manner : Manner} {c c' : SegmentPostings} {r : Refusal}
    → Meets bs t call manner c (Err r) c' → c' ≡ c
refused-stays {bs} {t} {call} {c = c} m = let p = met m in p.1 ∙ refused-called c bs t call (sym p.0)

-- ---- a target above 2147483647 is 10 wherever the cursor stands, at the end too, and leaves the cursor as it was; 16 alone is asked before

too_large_called : (c : SegmentPostings) (bs : List ℕ) (t : Term) (target : ℕ) → in_bounds_of t (length bs) c.held ≡ true → TERMINATED < target
    → called c bs t (seek target) ≡ record { answer = Err TargetTooLarge; cursor = c }
unfolding called sought moved
too_large_called c bs t target in_bounds high = rw (seeking_too_large c bs t target in_bounds high)

-- in every manner, on every image, admitted or not
pub seek_too_large : {bs : List ℕ} {t : Term} {target : ℕ} {manner : Manner} {c c' : SegmentPostings} {a : Outcome Answer}
    → Meets bs t (seek target) manner c a c' → in_bounds_of t (length bs) c.held ≡ true → TERMINATED < target
    → (a ≡ Err TargetTooLarge) × (c' ≡ c)
seek_too_large {bs} {t} {target} {c = c} m in_bounds high =
    let p = met m in
    let e = too_large_called c bs t target in_bounds high in
    (rw (p.0, e), rw (p.1, e))

-- ---- the promise of `run_calls`, which makes the calls that its numbers code, by value and on a lent cursor

-- a call's number says the call
code-called : {made : MadeCall} {n : ℕ} → Code made n → call_of n ≡ made.call
code-called steps = step-called 0 (omega arith)
code-called (seeks {target} small) = seek-called (1 * 2 ^ 32 + target) (λ e. omega arith) (λ e. omega arith) ∙ ap seek (omega arith)
code-called steps_lent = lent-step-called (2 * 2 ^ 32) (omega arith)
code-called (seeks_lent {target} small) = seek-called (3 * 2 ^ 32 + target) (λ e. omega arith) (λ e. omega arith) ∙ ap seek (omega arith)

-- .. under a known kind
code_known : {made : MadeCall} {n : ℕ} → Code made n → n / 4294967296 < 4
code_known steps = omega arith
code_known (seeks small) = omega arith
code_known steps_lent = omega arith
code_known (seeks_lent small) = omega arith

pub record Known (made : List MadeCall) (ns : List ℕ) : Type 0 where
  pub same_calls : map call_of ns ≡ calls_of made
  pub all_known_lem : all_known ns ≡ true
  pub as_many : length ns ≡ length made

codes_known : {made : List MadeCall} {ns : List ℕ} → Codes made ns → Known made ns
unfolding all_known kind_of
codes_known ended = record { same_calls = refl; all_known_lem = refl; as_many = refl }
codes_known (coded {n = n} code later) =
    let p = codes_known later in
    record {
      same_calls = ap₂ ◌∷◌ (code-called code) p.same_calls;
      all_known_lem = rw (lt-ltb (n / 4294967296) 4 (code_known code)) p.all_known_lem;
      as_many = omega (arith, p.as_many);
    }

-- what its contract says, of the calls by value and on a lent cursor in any mixture: the places written are the model's answers in order
pub run-calls_promise : (bs : List ℕ) (t : Term) → soundness t.mode t.count bs ≡ Ok tt → t.requested ≤ 2
    → {made : List MadeCall} {ns : List ℕ} → Codes made ns → {out out' : List ℕ} {r : ℕ} → Runs bs t ns out out' r
    → answer_length * (length made + 1) ≤ length out
    → (r ≡ length made + 1)
    × (out' ≡ put_at 0 (model_numbers t.count
    (answers (docs_of (reading t bs).blocks) (freqs_of (reading t bs).blocks) (calls_of made)) (positions (docs_of (reading t bs).blocks) (calls_of made))) out)
    × ((i : ℕ) → i ≤ length made → get_or out' (answer_length * i + entries_place) 0 ≤ t.count / 128)
unfolding model_answers
run-calls_promise bs t sound known {made} {ns} codes {out} runs room =
    let p = codes_known codes in
    let many = p.as_many in
    let k = runs.third_promise (all-taken ns out (omega arith) p.all_known_lem) sound known in
    (k.all_answered ∙ ap (λ n. n + 1) many, k.model_answers_is ∙ rw p.same_calls, λ i most. k.entries_most i (omega arith))
