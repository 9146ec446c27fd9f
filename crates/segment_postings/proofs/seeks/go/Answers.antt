-- `segment_postings::seeks::go` meets its contract: on either way the call on the arrays is the call by value that the definition names, and
-- `with_answer` gives its answer and its numbers.
-- Assumes nothing.
use Rattle.format.specs.Basics.{Outcome}
use Rattle.std.proofs.Common.{◌≡◌, ℕ, List}
use Rattle.format.specs.declared.Term.{Term}
use Rattle.segment_postings.specs.declared.Held.{Held}
use Rattle.segment_postings.specs.declared.Sought.{Sought}
use Rattle.segment_postings.specs.declared.seeks.Call.{Call}
use Rattle.segment_postings.specs.declared.seeks.Call.TheVariants.{Advance, Seek}
use Rattle.segment_postings.specs.declared.SegmentPostings.{SegmentPostings}
use Rattle.segment_postings.specs.Cursor.{stepping, seeking}
use Rattle.segment_postings.specs.Called.{called, hit_by}
use Rattle.segment_postings.specs.Calls.{cursor_of, Reaches, Finds}
use Rattle.segment_postings.specs.Private.{call_by, untargeted_of}
use Rattle.segment_postings.proofs.Laws.CallsByValue.{Came, advance_in_calls, reached_near, untargeted-came, seek-came, with_answer_of-leaves}
use Rattle.segment_postings.proofs.Laws.ReachedBounds.{stepping_near}
use Rattle.segment_postings.proofs.seeks.go.Goals as goal
use Rattle.segment_postings.proofs.seeks.go.Goals.{Joined-call, in-Advance, in-Seek}

-- what `with_answer` asks of where a call on the arrays came to: beside the call by value, its numbers, its arrays and its hit
abbrev CameBy : SegmentPostings → List ℕ → Term → List ℕ → List ℕ → Outcome Sought → Call → Type 0
CameBy was bs t docs freqs r call = Came t (hit_by t (call_by call)) was (called was bs t (call_by call)) was.docs was.freqs docs freqs r

-- either way, of the values that both meet with
module _ (was : SegmentPostings) (bs : List ℕ) (t : Term) {docs docs' freqs freqs' : List ℕ} {r r' : Outcome Sought}
    (d : docs ≡ docs') (f : freqs ≡ freqs') (e : r ≡ r') where
  steps : {call : Call} {held : Outcome Held} → call ≡ Advance → Reaches (stepping was bs t) was.docs was.freqs docs' freqs' held
      → r' ≡ untargeted_of held → CameBy was bs t docs freqs r call
  unfolding called hit_by call_by
  steps taken k told =
      rw (taken, d, f, e) (untargeted-came (advance_in_calls bs t was k) (reached_near (λ _ s. (stepping_near was bs t s).0) k) told)

  seeks : {call : Call} {target : ℕ} → call ≡ Seek target → Finds t target (seeking was bs t target) was.docs was.freqs docs' freqs' r'
      → CameBy was bs t docs freqs r call
  unfolding called hit_by call_by
  seeks {target = target} taken k = rw (taken, d, f, e) (seek-came bs t was target k)

-- .. whichever way the call took
came : (c : Joined-call) → CameBy (cursor_of c.args.held c.args.docs.now c.args.freqs.now) c.args.image.now c.args.term
    c.match-call.docs c.match-call.freqs c.match-call.reached c.args.call
came c =
    elim c.match-call.branch [
      | in-Advance w ↦ steps _ _ _ w.docs-is w.freqs-is w.reached-is w.in-Advance.is w.advance_in.ensures w.untargeted-reached.ensures
      | in-Seek w ↦ seeks _ _ _ w.docs-is w.freqs-is w.reached-is w.in-Seek.is w.seek_in-reached.ensures
    ]

pub with_answer-requires : goal.with_answer-requires
with_answer-requires c = (came c).near

pub returns : goal.returns
returns c = with_answer_of-leaves (came (goal.at.returns c).Joined-call) c.with_answer.ensures
