-- `postings::calls::put_answer` meets its contract: the part of the answers that is lent comes back as a copy of the answer's numbers.
-- Assumes nothing.
use Rattle.std.proofs.Common.{◌≡◌, sym, ap, ◌∙◌, List, ℕ, length, arith, refl}
use Rattle.std.proofs.lemmas.Slice.{put_mid-paste}
use Rattle.format.specs.Basics.{put_at}
use Rattle.format.proofs.Area.{put_at-paste}
use Rattle.segment_postings.specs.Called.{answer_length}
use Rattle.postings.proofs.calls.CodedCalls.{numbers-length}
use Rattle.postings.proofs.calls.put_answer.Goals as goal

pub returns : goal.returns
returns c =
    let ns : List ℕ = c.numbers_of-numbers.result in
    let many : length ns ≡ answer_length = ap length c.numbers_of-numbers.ensures ∙ numbers-length c.args.answer in
    put_mid-paste _ _ _ _ ns (length ns) c.copy_from_slice.ensures.after (omega arith) refl
    ∙ sym (put_at-paste c.args.at ns c.args.answers.now (omega (arith, c.requires)))
    ∙ ap (λ (l : List ℕ). put_at c.args.at l c.args.answers.now) c.numbers_of-numbers.ensures
