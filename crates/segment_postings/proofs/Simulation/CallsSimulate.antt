-- The cursor's calls are the model's: `simulation`, the theorem for crates above to cite. A cursor stands beside the model's state
-- (`Stands`, what a loop over calls keeps) where it holds the block of the model's position, at that position, and has counted as many
-- blocks as the model has visited. Opening an image that is sound in the requested mode gives such a cursor. From one, a call answers
-- what the model answers, refusals too, and leaves one beside the model's next state; what `doc`, `term_freq` and `answer_at` give of it
-- is the model's. An image that `validate` admits is sound in every requested mode (format/proofs/Requested.antt `sound_requested`).
-- The argument: a step and a seek up to TERMINATED leave cursor and model together (StepSimulates.antt, SeekSimulates.antt); a target
-- above it both refuse, and both stay. A list of calls is by induction.
-- Assumes nothing.
use Rattle.format.specs.declared.refusal.Refusal.{Refusal}
use Rattle.format.specs.declared.refusal.Refusal.TheVariants.{TargetTooLarge}
use Rattle.std.specs.Prelude.{◌≡◌, ℕ, ◌<◌, ◌≤◌, Bool, false, List, [], ◌∷◌, ◌++◌, map, get_or, Ok, Err}
use mathlib.Core.Path.{refl, ap, ap₂, ◌∙◌}
use native.Mathlib.Decide.{dec_le}
use native.Mathlib.Omega.{arith}
use borrow.Author.Tests.{le-leb, lt-leb}
use Rattle.format.specs.declared.Term.{Term}
use Rattle.format.specs.Basics.{Outcome, choose, TERMINATED}
use Rattle.format.specs.Reading.{reading, docs_of, freqs_of}
use Rattle.format.specs.Model.{Answer as Shown, at, Call, step, seek, State, after, here, hits, answer, answers_from, answers, after_all, entries_read}
use Rattle.format.specs.Model as model
use Rattle.format.proofs.Sound.{Sound, sound-image}
use Rattle.format.proofs.Visited.{seek-stands}
use Rattle.segment_postings.specs.declared.Answer.{Answer}
use Rattle.segment_postings.specs.declared.Moved.{Moved}
use Rattle.segment_postings.specs.declared.SegmentPostings.{SegmentPostings}
use Rattle.segment_postings.specs.Cursor.{answering, no_hit, moved, blank, opening, opened, advanced, doc_at, freq_at, sought}
use Rattle.segment_postings.specs.Called.{shown, with_entries, reaching, hit_by, called, calls_from, calls, cursor_after, Counts}
use Rattle.segment_postings.specs.Called.{numbers, all_numbers, positions_from, positions, model_numbers}
use Rattle.segment_postings.proofs.Laws.CursorTurns.{moved_ok, opened-is}
use Rattle.segment_postings.proofs.Laws.LandingParts.{answering-at}
use Rattle.segment_postings.proofs.Laws.SeekQuestions.{seeking_too_large}
use Rattle.segment_postings.proofs.Simulation.HoldsBlock.{holds-in_bounds_of, doc_holds, freq_holds}
use Rattle.segment_postings.proofs.Simulation.StepSimulates.{Agrees, entries_agree, opening-agrees, answer-agrees, hit-agrees, stepping-agrees}
use Rattle.segment_postings.proofs.Simulation.SeekSimulates.{seeking-agrees}

-- ---- what is claimed

-- the calls that no cursor beside the model refuses
abbrev pub Allowed : Call → Type 0
Allowed step = Unit {0}
Allowed (seek target) = target ≤ TERMINATED

module _ (t : Term) (bs : List ℕ) where
  abbrev docs : List ℕ
  docs = docs_of (reading t bs).blocks

  abbrev freqs : List ℕ
  freqs = freqs_of (reading t bs).blocks

  -- a cursor beside the model's state; the block that it holds is in `agrees`
  pub record Stands (c : SegmentPostings) (m : State) : Type 0 where
    pub sound : Sound t bs
    pub agrees : Agrees sound c m

  -- what a call hands back, beside the model's answer and its state after the call: that answer, with the entries that lead to the block
  -- of the position, and a cursor that stands beside that state
  pub record Goes (r : Moved) (a : Shown) (m : State) : Type 0 where
    pub answer_is : r.answer ≡ with_entries a (entries_read t.count m.position)
    pub stands : Stands r.cursor m

  -- a list of calls, by their answers and the cursor after them, beside the model's answers, positions and state
  pub record GoesOn (told : List (Outcome Answer)) (c : SegmentPostings) (said : List Shown) (ps : List ℕ) (m : State) : Type 0 where
    pub shows : map shown told ≡ said
    pub numbered : all_numbers told ≡ model_numbers t.count said ps
    pub stands : Stands c m

  -- what is told of a cursor where it stands: its numbers, and what `doc`, `term_freq` and `answer_at` give
  pub record Tells (c : SegmentPostings) (m : State) : Type 0 where
    pub counts : Counts t c m
    pub doc_is : doc_at c bs t ≡ Ok (get_or docs m.position TERMINATED)
    pub freq_is : freq_at c bs t ≡ Ok (get_or freqs m.position 0)
    pub answer_is : answering t c ≡ with_entries (here docs freqs m false) (entries_read t.count m.position)

  pub record Simulation : Type 0 where
    -- opening an image that is sound in the requested mode; it comes to the cursor that it hands back
    pub opens : (reading t bs).verdict ≡ Ok tt → Goes (opened bs t) (here docs freqs model.opened false) model.opened
    pub opening_comes : (reading t bs).verdict ≡ Ok tt → opening bs t ≡ Ok (opened bs t).cursor
    -- a call; one that is allowed comes to the cursor that it hands back
    pub goes : {c : SegmentPostings} {m : State} → Stands c m → (call : Call) → Goes (called c bs t call) (answer docs freqs m call) (after docs m call)
    pub call_comes : {c : SegmentPostings} {m : State} → Stands c m → (call : Call) → Allowed call → reaching c bs t call ≡ Ok (called c bs t call).cursor
    -- where it stands
    pub tells : {c : SegmentPostings} {m : State} → Stands c m → Tells c m
    -- a list of calls, and one that begins with opening
    pub goes_on : {c : SegmentPostings} {m : State} → Stands c m → (cs : List Call)
        → GoesOn (calls_from bs t c cs) (cursor_after bs t c cs) (answers_from docs freqs m cs) (positions_from docs m cs) (after_all docs m cs)
    pub opens_and_goes_on : (reading t bs).verdict ≡ Ok tt → (cs : List Call)
        → GoesOn (calls bs t cs) (cursor_after bs t (opened bs t).cursor cs) (answers docs freqs cs) (positions docs cs) (after_all docs model.opened cs)

-- ---- one turn of each

pub calls_from-none : (bs : List ℕ) (t : Term) (c : SegmentPostings) → calls_from bs t c [] ≡ []
unfolding calls_from
calls_from-none bs t c = refl

pub calls_from-more : (bs : List ℕ) (t : Term) (c : SegmentPostings) (call : Call) (cs : List Call)
    → calls_from bs t c (call ∷ cs) ≡ (called c bs t call).answer ∷ calls_from bs t (called c bs t call).cursor cs
unfolding calls_from
calls_from-more bs t c call cs = refl

pub calls_is : (bs : List ℕ) (t : Term) (cs : List Call)
    → calls bs t cs ≡ (opened bs t).answer ∷ calls_from bs t (opened bs t).cursor cs
unfolding calls
calls_is bs t cs = refl

module _ (ds fs : List ℕ) (m : State) where
  answers_from-none : answers_from ds fs m [] ≡ []
  unfolding answers_from
  answers_from-none = refl

  answers_from-more : (call : Call) (cs : List Call) → answers_from ds fs m (call ∷ cs) ≡ answer ds fs m call ∷ answers_from ds fs (after ds m call) cs
  unfolding answers_from
  answers_from-more call cs = refl

  positions_from-more : (call : Call) (cs : List Call) → positions_from ds m (call ∷ cs) ≡ (after ds m call).position ∷ positions_from ds (after ds m call) cs
  unfolding positions_from
  positions_from-more call cs = refl

called_is : (c : SegmentPostings) (bs : List ℕ) (t : Term) (call : Call) → called c bs t call ≡ moved t c (hit_by t call) (reaching c bs t call)
unfolding called reaching hit_by advanced sought
called_is c bs t step = refl
called_is c bs t (seek target) = refl

pub moved-refused : (t : Term) (before : SegmentPostings) (hit : SegmentPostings → Bool) (r : Refusal)
    → moved t before hit (Err r) ≡ record { answer = Err r; cursor = before }
unfolding moved
moved-refused t before hit r = refl

moved-there : (t : Term) (before : SegmentPostings) (hit : SegmentPostings → Bool) {c : SegmentPostings} {o : Outcome SegmentPostings}
    → o ≡ Ok c → o ≡ Ok (moved t before hit o).cursor
moved-there t before hit e = rw (e, moved_ok)

all_numbers-more : (a : Outcome Answer) (rest : List (Outcome Answer)) → all_numbers (a ∷ rest) ≡ numbers a ++ all_numbers rest
unfolding all_numbers
all_numbers-more a rest = refl

model_numbers-more : (n : ℕ) (a : Shown) (rest : List Shown) (p : ℕ) (ps : List ℕ)
    → model_numbers n (a ∷ rest) (p ∷ ps) ≡ numbers (with_entries a (entries_read n p)) ++ model_numbers n rest ps
unfolding model_numbers
model_numbers-more n a rest p ps = refl

none-numbered : (n : ℕ) (ps : List ℕ) → all_numbers [] ≡ model_numbers n [] ps
unfolding all_numbers model_numbers
none-numbered n ps = refl

-- what the model says is what its answer with the entries shows
pub shown-again : (a : Shown) (entries : ℕ) → shown (with_entries a entries) ≡ a
unfolding shown with_entries
shown-again (at doc freq unpacked hit) entries = refl
shown-again (model.refused r) entries = refl

-- ---- what the model answers

-- the hit of a call that came there
model-hit : List ℕ → Call → State → Bool
model-hit ds step s = false
model-hit ds (seek target) s = hits ds s target

module _ (ds fs : List ℕ) (m : State) where
  answer_allowed : (call : Call) → Allowed call → answer ds fs m call ≡ here ds fs (after ds m call) (model-hit ds call (after ds m call))
  unfolding answer choose model-hit
  answer_allowed step _ = refl
  answer_allowed (seek target) h = rw (le-leb target TERMINATED h)

  answer-refused : (target : ℕ) → TERMINATED < target → answer ds fs m (seek target) ≡ model.refused TargetTooLarge
  unfolding answer choose
  answer-refused target h = rw (lt-leb target TERMINATED h)

-- ---- one call

module _ {t : Term} {bs : List ℕ} where
  -- a call that comes to a cursor beside the model's state answers what the model has there
  goes_to : (before : SegmentPostings) (hit : SegmentPostings → Bool) {c : SegmentPostings} {o : Outcome SegmentPostings} {m : State} (s : Sound t bs)
      → Agrees s c m → o ≡ Ok c → Goes t bs (moved t before hit o) (here (docs t bs) (freqs t bs) m (hit c)) m
  goes_to before hit {c} s k e =
      rw (e, moved_ok) (record { answer_is = answer-agrees s k (hit c); stands = record { sound = s; agrees = k } })

  -- .. and tells the hit that the model has there
  hit-same : (call : Call) {c : SegmentPostings} {m : State} (s : Sound t bs) → Agrees s c m → hit_by t call c ≡ model-hit (docs t bs) call m
  unfolding hit_by model-hit
  hit-same step s k = refl
  hit-same (seek target) s k = hit-agrees s k target

  module _ {c : SegmentPostings} {m : State} (k : Stands t bs c m) where
    -- what the call hands back, beside the model's
    abbrev GoesBy : Call → Type 0
    GoesBy call = Goes t bs (called c bs t call) (answer (docs t bs) (freqs t bs) m call) (after (docs t bs) m call)

    allowed_agrees : (call : Call) → Allowed call
        → (c' : SegmentPostings) × Agrees k.sound c' (after (docs t bs) m call) × (reaching c bs t call ≡ Ok c')
    unfolding reaching
    allowed_agrees step _ = stepping-agrees k.sound k.agrees
    allowed_agrees (seek target) most = seeking-agrees k.sound k.agrees target most

    allowed_goes : (call : Call) → Allowed call → GoesBy call
    allowed_goes call h =
        let p = allowed_agrees call h in
        rw (called_is, answer_allowed (docs t bs) (freqs t bs) m call h, ← hit-same call k.sound p.1) (goes_to c (hit_by t call) k.sound p.1 p.2)

    -- a target above TERMINATED
    high_goes : (target : ℕ) → TERMINATED < target → GoesBy (seek target)
    unfolding reaching with_entries
    high_goes target high =
        rw (
          called_is,
          seek-stands (docs t bs) m target high,
          answer-refused (docs t bs) (freqs t bs) m target high,
          seeking_too_large c bs t target (holds-in_bounds_of k.sound k.agrees.holds) high,
          moved-refused,
        )
        (record { answer_is = refl; stands = k })

    call-goes : (call : Call) → GoesBy call
    call-goes step = allowed_goes step tt
    call-goes (seek target) = elim (dec_le target TERMINATED) [ yes most ↦ allowed_goes (seek target) most | no high ↦ high_goes target (omega arith) ]

    call_comes : (call : Call) → Allowed call → reaching c bs t call ≡ Ok (called c bs t call).cursor
    call_comes call h = rw called_is (moved-there t c (hit_by t call) (allowed_agrees call h).2)

    cursor_tells : Tells t bs c m
    cursor_tells =
        let h = k.agrees.holds in
        let same = k.agrees.same_position in
        record {
          counts = record {
            at_position = same;
            unpacked_visited = k.agrees.same_count;
            entries_are = entries_agree k.sound k.agrees;
          };
          doc_is = rw (← same) (doc_holds k.sound h);
          freq_is = rw (← same) (freq_holds k.sound h);
          answer_is = answering-at t c h.place_most ∙ answer-agrees k.sound k.agrees false;
        }

  -- ---- a list of calls

  shows : {r : Moved} {a : Shown} {m : State} → Goes t bs r a m → shown r.answer ≡ a
  shows {a = a} g = ap shown g.answer_is ∙ shown-again a _

  calls_stand : {c : SegmentPostings} {m : State} → Stands t bs c m → (cs : List Call) → Stands t bs (cursor_after bs t c cs) (after_all (docs t bs) m cs)
  unfolding cursor_after after_all
  calls_stand k [] = k
  calls_stand {c = c} {m = m} k (call ∷ cs) =
      calls_stand {c = (called c bs t call).cursor} {m = after (docs t bs) m call} (call-goes k call).stands cs

  calls-show : {c : SegmentPostings} {m : State} → Stands t bs c m → (cs : List Call)
      → map shown (calls_from bs t c cs) ≡ answers_from (docs t bs) (freqs t bs) m cs
  calls-show k [] = rw (calls_from-none, answers_from-none)
  calls-show {c = c} {m = m} k (call ∷ cs) =
      let g = call-goes k call in
      rw (calls_from-more, answers_from-more)
      (ap₂ ◌∷◌ (shows g) (calls-show {c = (called c bs t call).cursor} {m = after (docs t bs) m call} g.stands cs))

  calls-numbered : {c : SegmentPostings} {m : State} → Stands t bs c m → (cs : List Call)
      → all_numbers (calls_from bs t c cs) ≡ model_numbers t.count (answers_from (docs t bs) (freqs t bs) m cs) (positions_from (docs t bs) m cs)
  calls-numbered k [] = rw (calls_from-none, answers_from-none) (none-numbered _ _)
  calls-numbered {c = c} {m = m} k (call ∷ cs) =
      let g = call-goes k call in
      rw (calls_from-more, answers_from-more, positions_from-more, all_numbers-more, model_numbers-more)
      (ap₂ ◌++◌ (ap numbers g.answer_is) (calls-numbered {c = (called c bs t call).cursor} {m = after (docs t bs) m call} g.stands cs))

-- ---- the theorem

pub simulation : (t : Term) (bs : List ℕ) → Simulation t bs
unfolding answers positions
simulation t bs = record {
  opens = opens;
  opening_comes = λ readable. rw opened-is (moved-there t blank no_hit (opening-agrees (sound-image t bs readable)).2);
  goes = call-goes;
  call_comes = call_comes;
  tells = cursor_tells;
  goes_on = λ k cs. record { shows = calls-show k cs; numbered = calls-numbered k cs; stands = calls_stand k cs };
  opens_and_goes_on = λ readable cs.
      let g = opens readable in
      rw calls_is
      (record {
        shows = ap₂ ◌∷◌ (shows g) (calls-show g.stands cs);
        numbered = rw (all_numbers-more, model_numbers-more) (ap₂ ◌++◌ (ap numbers g.answer_is) (calls-numbered g.stands cs));
        stands = calls_stand g.stands cs;
      });
}
  where
    opens : (reading t bs).verdict ≡ Ok tt → Goes t bs (opened bs t) (here (docs t bs) (freqs t bs) model.opened false) model.opened
    opens readable = let s = sound-image t bs readable in let p = opening-agrees s in rw opened-is (goes_to blank no_hit s p.1 p.2)
