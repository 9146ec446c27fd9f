-- `serializer::Progress::in_bounds` meets its contract: each test is a part of the question, and the first no answers it.
-- Assumes nothing.
use Rattle.std.proofs.Common.{◌≡◌, true, not, nat_le, refl, sym, ap₂, ◌∙◌}
use Rattle.std.proofs.Common.{◌&&◌ as and}
use Rattle.std.proofs.Common.{◌||◌ as or}
use borrow.Author.Tests.{le-leb, lt-leb}
use Rattle.format.specs.Accepted.{known_mode_of}
use Rattle.format.specs.Basics.{TERMINATED}
use Rattle.format.specs.SkipEntry.{has_freq_of}
use Rattle.format.specs.Values.{rising, countable}
use Rattle.serializer.specs.declared.PostingsSerializer.{PostingsSerializer}
use Rattle.serializer.specs.Calls.{state_of}
use Rattle.serializer.specs.Writer.{bounds_hold, option_of, waiting_docs, waiting_freqs}
use Rattle.serializer.proofs.bounds.Question16.{many_wait, documents_asked, documents-asked}
use Rattle.serializer.proofs.Progress.in_bounds.Goals as goal
use Rattle.serializer.proofs.Progress.in_bounds.Goals.{After-documents_wait}

pub returns-then-waiting-gt127 : goal.returns-then-waiting-gt127
unfolding state_of
returns-then-waiting-gt127 c =
    sym (many_wait (state_of c.args.self c.args.docs.now c.args.freqs.now) _ _ c.if-waiting-gt127.true)

-- the waiting documents are asked
module _ (c : After-documents_wait) where
  -- the state that is asked
  abbrev state : PostingsSerializer
  state = state_of c.args.self c.args.docs.now c.args.freqs.now

  asked : c.documents_wait.result ≡ documents_asked state
  unfolding waiting_docs waiting_freqs option_of state_of
  asked =
      c.documents_wait.ensures
      ∙ ap₂ and (ap₂ rising (c.first_least-least.ensures _ _) refl)
      (ap₂ (λ option fs. or (not (has_freq_of option)) (countable fs)) c.option.ensures refl)

pub returns-then-not-documents_wait : goal.returns-then-not-documents_wait
unfolding state_of
returns-then-not-documents_wait c =
    let waiting = (goal.at.returns-then-not-documents_wait c).After-documents_wait in
    let lack = sym (asked waiting) ∙ c.if-not-documents_wait.true in
    rw (documents-asked (state waiting) _ _ c.if-waiting-gt127.false, lack)

-- they are in bounds, and the other numbers are asked
waiting_pass : (c : After-documents_wait) → c.documents_wait.result ≡ true → let a = c.args in
    bounds_hold (state c) a.skips a.postings
    ≡ and (nat_le a.self.taken TERMINATED)
    (and (and (nat_le a.self.skips_at a.skips) (nat_le a.self.postings_at a.postings)) (known_mode_of a.self.mode))
unfolding state_of
waiting_pass c held = documents-asked (state c) _ _ c.if-waiting-gt127.false ∙ rw (sym (asked c) ∙ held)

pub returns-then-self-gt-TERMINATED : goal.returns-then-self-gt-TERMINATED
returns-then-self-gt-TERMINATED c =
    let waiting = (goal.at.returns-then-self-gt-TERMINATED c).After-documents_wait in
    rw (waiting_pass waiting c.if-not-documents_wait.false, lt-leb _ _ c.if-self-gt-TERMINATED.true)

pub returns-then-skips-self : goal.returns-then-skips-self
returns-then-skips-self c =
    let waiting = (goal.at.returns-then-skips-self c).After-documents_wait in
    rw (waiting_pass waiting c.if-not-documents_wait.false, le-leb _ _ c.if-self-gt-TERMINATED.false, lt-leb _ _ c.if-skips-self.true)

pub returns-then-postings-self : goal.returns-then-postings-self
returns-then-postings-self c =
    let waiting = (goal.at.returns-then-postings-self c).After-documents_wait in
    rw (
      waiting_pass waiting c.if-not-documents_wait.false,
      le-leb _ _ c.if-self-gt-TERMINATED.false,
      le-leb _ _ c.if-skips-self.false,
      lt-leb _ _ c.if-postings-self.true,
    )

pub returns : goal.returns
returns c =
    let waiting = (goal.at.returns c).After-documents_wait in
    rw (
      waiting_pass waiting c.if-not-documents_wait.false,
      le-leb _ _ c.if-self-gt-TERMINATED.false,
      le-leb _ _ c.if-skips-self.false,
      le-leb _ _ c.if-postings-self.false,
    )
    c.known_mode.ensures
