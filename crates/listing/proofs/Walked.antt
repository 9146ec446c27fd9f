-- The lines of a walk: what is put so far and what the model answers to the steps left are together the whole text. The cursor goes with
-- the model, so that each answer's line is the model's.
-- Assumes nothing.
use Rattle.std.specs.Prelude.{Ok}
use mathlib.Core.Bool.{false}
use mathlib.Core.List.{List, [], ◌∷◌, ◌++◌, append_assoc, append-nil}
use mathlib.Core.Path.{◌≡◌, refl, sym, ◌∙◌}
use Prim.Native.Nat.{ℕ, suc, ◌+◌, ◌*◌, ◌≤◌}
use native.Mathlib.Omega.{arith}
use lib.ListN.{length, replicate}
use Rattle.format.specs.declared.Term.{Term}
use Rattle.format.specs.Reading.{reading, docs_of, freqs_of}
use Rattle.format.specs.Model.{Answer, step, State, after, here, answers_from, answers}
use Rattle.format.specs.Model as model
use Rattle.segment_postings.specs.declared.SegmentPostings.{SegmentPostings}
use Rattle.segment_postings.specs.Cursor.{opened, advanced}
use Rattle.segment_postings.specs.Called.{shown, called}
use Rattle.segment_postings.proofs.Simulation.CallsSimulate.{Stands, Goes, shown-again, simulation}
use Rattle.segment_postings.proofs.Simulation.StepSimulates.{docs-count}
use Rattle.listing.specs.Output.{line, lines_of, steps, Puts}
use Rattle.listing.proofs.Decimal.{line-most}
use Rattle.listing.proofs.Putting.{puts_none, puts_then}

-- ---- one turn

lines_of-none : lines_of [] ≡ []
unfolding lines_of
lines_of-none = refl

lines_of-more : (a : Answer) (rest : List Answer) → lines_of (a ∷ rest) ≡ line a ++ lines_of rest
unfolding lines_of
lines_of-more a rest = refl

module _ (ds fs : List ℕ) where
  steps-is : steps ds fs ≡ line (here ds fs model.opened false) ++ lines_of (answers_from ds fs model.opened (replicate (length ds) step))
  unfolding steps answers lines_of
  steps-is = refl

  answers_from-step : (m : State) (n : ℕ)
      → answers_from ds fs m (replicate (suc n) step) ≡ here ds fs (after ds m step) false ∷ answers_from ds fs (after ds m step) (replicate n step)
  unfolding answers_from model.answer
  answers_from-step m n = refl

  answers_from-none : (m : State) → answers_from ds fs m (replicate 0 step) ≡ []
  unfolding answers_from
  answers_from-none m = refl

-- ---- the walk

module _ (t : Term) (bs : List ℕ) where
  abbrev docs : List ℕ
  docs = docs_of (reading t bs).blocks

  abbrev freqs : List ℕ
  freqs = freqs_of (reading t bs).blocks

  -- the lines of all steps
  abbrev all_steps : List ℕ
  all_steps = lines_of (answers_from docs freqs model.opened (replicate t.count step))

  -- `left` steps are left, and the text put so far, from place `start` on, ends at `next`
  pub record Walked (start left next : ℕ) (output₀ output : List ℕ) (c : SegmentPostings) : Type 0 where
    pub state : State
    pub text : List ℕ
    pub stands : Stands t bs c state
    pub to_come : text ++ lines_of (answers_from docs freqs state (replicate left step)) ≡ all_steps
    pub puts : Puts text start output₀ output next
    pub room : next + 63 * left ≤ length output₀

  module _ (sound : (reading t bs).verdict ≡ Ok tt) where
    -- the line of opening, then those of the steps
    pub walk_first : line (shown (opened bs t).answer) ++ all_steps ≡ steps docs freqs
    walk_first =
        let g = (simulation t bs).opens sound in
        rw (g.answer_is, shown-again) (sym (steps-is docs freqs ∙ rw (docs-count g.stands.sound)))

    pub walk_begins : {left next : ℕ} {output : List ℕ} → left ≡ t.count → next + 63 * left ≤ length output
        → Walked next left next output output (opened bs t).cursor
    walk_begins {left} {next} {output} many room = record {
      state = model.opened;
      text = [];
      stands = ((simulation t bs).opens sound).stands;
      to_come = rw many;
      puts = puts_none next output (omega arith);
      room = room;
    }

  module _ {start left next : ℕ} {output₀ output : List ℕ} {c : SegmentPostings} (k : Walked start left next output₀ output c) where
    steps_on : Goes t bs (advanced c bs t) (here docs freqs (after docs k.state step) false) (after docs k.state step)
    unfolding called model.answer
    steps_on = (simulation t bs).goes k.stands step

    pub walk_steps : (n : ℕ) {next' : ℕ} {output' : List ℕ} → left ≡ suc n
        → Puts (line (shown (advanced c bs t).answer)) next output output' next' → Walked start n next' output₀ output' (advanced c bs t).cursor
    walk_steps n {next'} {output'} more puts =
        let m : State = after docs k.state step in
        let last : Puts (line (here docs freqs m false)) next output output' next' = rw (steps_on.answer_is, shown-again) at puts in
        let come = rw (more, answers_from-step docs freqs k.state n, lines_of-more) at k.to_come in
        record {
          state = m;
          text = k.text ++ line (here docs freqs m false);
          stands = steps_on.stands;
          to_come = rw append_assoc come;
          puts = puts_then k.puts last;
          room = omega (arith, last.behind, k.room, line-most (here docs freqs m false));
        }

    pub walk_ends : left ≡ 0 → Puts all_steps start output₀ output next
    walk_ends none =
        let all : k.text ≡ all_steps = rw (none, answers_from-none docs freqs k.state, lines_of-none, append-nil) at k.to_come in
        rw (← all) k.puts
