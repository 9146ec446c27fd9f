-- What was taken gives the block by the questions asked in turn, and the two functions that ask them answer with the first number; where
-- both answer 0 the arrays hold the ids and the frequencies, and behind them what an opened block starts with.
use Rattle.std.specs.Prelude.{Ok, Err}
use Rattle.std.proofs.Common.{◌≡◌, ℕ, ◌≤◌, true, List, ◌++◌, length, take, drop, refl, sym, ap, ◌∙◌, arith}
use Rattle.std.proofs.Math.ListN.{take-append-drop}
use Rattle.std.proofs.Math.Seq.{length-take-le}
use Rattle.segment_postings.proofs.Laws.Exits.{passed_on}
use Rattle.format.specs.declared.refusal.Refusal.{Refusal}
use Rattle.format.specs.declared.Layout.{Layout}
use Rattle.format.specs.declared.Term.{Term}
use Rattle.format.specs.Basics.{and_then, TERMINATED, Outcome}
use Rattle.format.specs.Reading.{Block}
use Rattle.format.proofs.Outcome.{refused≢ok, ok_same, ask-ok}
use Rattle.compression.specs.Restored.{ids_behind}
use Rattle.compression.proofs.Differences.{length-ids_behind}
use Rattle.segment_postings.specs.declared.find.Found.{Found}
use Rattle.segment_postings.specs.declared.load.Taken.{Taken}
use Rattle.segment_postings.specs.Landing.{load_block_of, padded}
use Rattle.segment_postings.specs.Private.{counted, BlockLoaded}
use Rattle.segment_postings.specs.Taken.{asked_docs, asked_freqs, asked, FilledUp, ValuesTaken, DocsAsked}
use Rattle.segment_postings.proofs.load.FoundBlock.load.Goals as goal

-- ids that passed were all there
docs_there : (k : Taken) (least : ℕ) (docs : List ℕ) {ds : List ℕ} → asked_docs k least docs ≡ Ok ds → k.docs_there ≡ true
unfolding asked_docs
docs_there k least docs e = (ask-ok _ _ _ e).0

-- what stands for n values, before what an array that was filled up has behind them, fills the 128 places
pads : (filler n : ℕ) (xs values : List ℕ) → n ≤ 128 → FilledUp n filler values → length xs ≡ length (take n values)
    → xs ++ drop n values ≡ padded filler xs
unfolding padded
pads filler n xs values few up same = rw (up.behind, same, length-take-le n values (omega (arith, up.long)))

module _ (t : Term) (l : Layout) (bs : List ℕ) (f : Found) (unpacked : ℕ) where
  -- a refusal
  none-loaded : (r : Refusal) {docs freqs : List ℕ} → load_block_of t l bs f ≡ Err r → BlockLoaded t l bs f unpacked docs freqs (Err r)
  unfolding counted
  none-loaded r e =
      record { answer = rw e; docs_are = λ b is. absurd (refused≢ok (sym e ∙ is)); freqs_are = λ b is. absurd (refused≢ok (sym e ∙ is)) }

  module _ {vs cs vs' : List ℕ} {k : Taken} (taken : ValuesTaken t l bs f unpacked vs cs k) {r : Outcome (Unit {0})} (d : DocsAsked k f.least vs vs' r) where
    abbrev ds : List ℕ
    ds = ids_behind f.least (take k.n vs)

    abbrev fs : List ℕ
    fs = take k.n cs

    block : load_block_of t l bs f
        ≡ and_then (and_then r λ _. Ok ds) λ ds. and_then (asked_freqs k cs) λ fs. Ok (record { docs = ds; freqs = fs; last = k.last_doc })
    unfolding asked
    block = sym taken.questions ∙ rw d.answer

    docs-refused : {why : Refusal} → r ≡ Err why → BlockLoaded t l bs f unpacked vs' cs (Err why)
    unfolding and_then
    docs-refused e = none-loaded _ (block ∙ rw e)

    there : r ≡ Ok tt → k.docs_there ≡ true
    unfolding and_then
    there passed = docs_there k f.least vs {ds = ds} (d.answer ∙ rw passed)

    module _ (passed : r ≡ Ok tt) (r' : Outcome (Unit {0})) (e : asked_freqs k cs ≡ and_then r' λ _. Ok fs) where
      block' : load_block_of t l bs f ≡ and_then (and_then r' λ _. Ok fs) λ fs. Ok (record { docs = ds; freqs = fs; last = k.last_doc })
      unfolding and_then
      block' = block ∙ rw (passed, e)

      freqs-refused : {why : Refusal} → r' ≡ Err why → BlockLoaded t l bs f unpacked vs' cs (Err why)
      unfolding and_then
      freqs-refused e' = none-loaded _ (block' ∙ rw e')

      loaded : r' ≡ Ok tt → BlockLoaded t l bs f unpacked vs' cs (Ok (record { unpacked = k.unpacked; kept = k.kept }))
      unfolding and_then counted
      loaded passed' =
          let is : load_block_of t l bs f ≡ Ok (record { docs = ds; freqs = fs; last = k.last_doc }) = block' ∙ rw passed' in
          record {
            answer = rw (is, taken.counted, taken.kept (there passed));
            docs_are = λ b same.
                d.left passed ∙ (pads TERMINATED k.n ds vs taken.n_most (taken.docs_fill (there passed)) (length-ids_behind _ _)
                ∙ ap (λ (b : Block). padded TERMINATED b.docs) (ok_same (sym is ∙ same)));
            freqs_are = λ b same.
                sym (take-append-drop k.n cs) ∙ (pads 1 k.n fs cs taken.n_most taken.freqs_fill refl
                ∙ ap (λ (b : Block). padded 1 b.freqs) (ok_same (sym is ∙ same)));
          }

pub returns-in_err-ask_docs : goal.returns-in_err-ask_docs
returns-in_err-ask_docs c =
    rw (passed_on c.from_residual.ensures.1) (docs-refused _ _ _ _ _ c.take_values-taken.ensures c.ask_docs.ensures c.in_err-ask_docs.was)

pub returns-in_err-ask_freqs : goal.returns-in_err-ask_freqs
returns-in_err-ask_freqs c =
    rw (passed_on c.from_residual-in_err-ask_freqs.ensures.1)
    (freqs-refused _ _ _ _ _ c.take_values-taken.ensures c.ask_docs.ensures c.in_ok-ask_docs.was _ c.ask_freqs.ensures c.in_err-ask_freqs.was)

pub returns : goal.returns
returns c =
    loaded _ _ _ _ _ c.take_values-taken.ensures c.ask_docs.ensures c.in_ok-ask_docs.was _ c.ask_freqs.ensures c.in_ok-ask_freqs.was
