-- The four ways out of `run_calls`: too few places, an unknown kind, a refused opening, and all calls made. In the first two nothing is
-- written; a refused opening is the only answer, and none happens on an admitted image.
-- Assumes nothing.
use Rattle.std.specs.Prelude.{Ok, Err}
use mathlib.Core.Path.{◌≡◌, sym, ap, ◌∙◌}
use mathlib.Core.Bool.{true, false, and-false}
use mathlib.Core.List.{List, [], ◌∷◌, ◌++◌, append-nil, map}
use Prim.Native.Nat.{ℕ, ◌+◌, ◌*◌, ◌/◌, ◌≤◌, ◌<◌}
use native.Mathlib.Omega.{arith}
use borrow.Author.Tests.{le-leb, lt-leb}
use lib.ListN.{length, drop, get_or, length-append, length-map, get_or-append}
use Rattle.format.specs.declared.refusal.Refusal.{Refusal}
use Rattle.format.specs.declared.Term.{Term}
use Rattle.format.specs.Basics.{choose, fits_at, put_at}
use Rattle.format.proofs.Area.{put_at-append}
use Rattle.segment_postings.specs.declared.Answer.{Answer}
use Rattle.segment_postings.specs.declared.Moved.{Moved}
use Rattle.segment_postings.specs.Cursor.{opened}
use Rattle.segment_postings.specs.Called.{calls_from, answer_length, entries_place, numbers, all_numbers}
use Rattle.postings.specs.RunCalls.{call_of, all_known, taken, unless_refused, answered, how_many, answers_after, model_answers, Runs}
use Rattle.postings.proofs.calls.CodedCalls.{numbers-length, all-numbers, as_many-answers}
use Rattle.postings.proofs.calls.ModelAnswers.{all_answered, answers_model, entries-full}

-- ---- what is taken

module _ (ns out : List ℕ) where
  without_room : length out / answer_length ≤ length ns → taken ns out ≡ false
  unfolding taken
  without_room h = rw (lt-leb (answer_length * (length ns + 1)) (length out) (omega arith))

  unknown_kind : all_known ns ≡ false → taken ns out ≡ false
  unfolding taken
  unknown_kind e = rw (e, and-false)

  pub all-taken : length ns < length out / answer_length → all_known ns ≡ true → taken ns out ≡ true
  unfolding taken
  all-taken h e = rw (le-leb (answer_length * (length ns + 1)) (length out) (omega arith), e)

-- ---- a place of what is put first

put_first : (xs area : List ℕ) (j : ℕ) → length xs ≤ length area → j < length xs → get_or (put_at 0 xs area) j 0 ≡ get_or xs j 0
unfolding put_at choose fits_at
put_first xs area j h below = rw (le-leb (0 + length xs) (length area) (omega arith)) (get_or-append xs (drop (0 + length xs) area) 0 j below)

module _ (bs : List ℕ) (t : Term) (ns out : List ℕ) where
  -- nothing is written
  not-run : taken ns out ≡ false → Runs bs t ns out out 0
  unfolding how_many answers_after choose
  not-run e = record {
    answer = rw e;
    answers_after_is = rw e;
    third_promise = λ so. absurd (let z : false ≡ true = sym e ∙ so in let y : ◌≡◌ {A = ℕ} 0 1 = cc in omega arith);
  }

  pub run-no-room : length out / answer_length ≤ length ns → Runs bs t ns out out 0
  run-no-room h = not-run (without_room ns out h)

  pub run_unknown : all_known ns ≡ false → Runs bs t ns out out 0
  run_unknown e = not-run (unknown_kind ns out e)

  module _ (room : length ns < length out / answer_length) (known : all_known ns ≡ true) where
    -- what is answered is written
    run-answered : (r : ℕ) (out' : List ℕ) → r ≡ length (answered bs t ns) → out' ≡ put_at 0 (all_numbers (answered bs t ns)) out
        → Runs bs t ns out out' r
    unfolding how_many answers_after choose
    run-answered r out' many written = record {
      answer = rw (all-taken ns out room known) many;
      answers_after_is = rw (all-taken ns out room known) written;
      third_promise = λ _ sound requested.
          let model : out' ≡ put_at 0 (model_answers bs t ns) out = written ∙ ap (λ (l : List ℕ). put_at 0 l out) (answers_model bs t ns sound requested) in
          let size : length (model_answers bs t ns) ≡ answer_length * (length ns + 1) =
          ap length (sym (answers_model bs t ns sound requested)) ∙ all-numbers (answered bs t ns) ∙ ap (λ k. answer_length * k) (all_answered bs t ns sound requested) in
          record {
            all_answered = many ∙ all_answered bs t ns sound requested;
            model_answers_is = model;
            entries_most = λ i most.
                rw (model, put_first (model_answers bs t ns) out (answer_length * i + entries_place) (omega arith) (omega arith)) (entries-full bs t ns sound requested i);
          };
    }

    module _ (m : Moved) (opens : m ≡ opened bs t) where
      -- a refused opening is all that is answered
      alone : {r : Refusal} → m.answer ≡ Err r → answered bs t ns ≡ m.answer ∷ []
      unfolding answered unless_refused
      alone e = rw (← opens, e)

      -- .. and else every call is
      followed : {first : Answer} → m.answer ≡ Ok first
          → answered bs t ns ≡ m.answer ∷ calls_from bs t m.cursor (map call_of ns)
      unfolding answered unless_refused
      followed e = rw (← opens, e)

      pub run-refused : {r : Refusal} → m.answer ≡ Err r → {out' : List ℕ} → out' ≡ put_at 0 (numbers m.answer) out → Runs bs t ns out out' 1
      unfolding all_numbers
      run-refused e {out'} written = run-answered 1 out' (rw (alone e)) (rw (alone e, append-nil) written)

      pub run-all : {first : Answer} → m.answer ≡ Ok first
          → {out₁ out' : List ℕ} → out₁ ≡ put_at 0 (numbers m.answer) out
          → out' ≡ put_at answer_length (all_numbers (calls_from bs t m.cursor (map call_of ns))) out₁
          → Runs bs t ns out out' (length ns + 1)
      unfolding all_numbers
      run-all e {out' = out'} first rest =
          let a : List ℕ = numbers m.answer in
          let b : List ℕ = all_numbers (calls_from bs t m.cursor (map call_of ns)) in
          let behind : 0 + length a ≡ answer_length = omega (arith, numbers-length m.answer) in
          let many : length (calls_from bs t m.cursor (map call_of ns)) ≡ length ns =
          as_many-answers bs t m.cursor (map call_of ns) ∙ length-map ns call_of in
          let room-there : 0 + length (a ++ b) ≤ length out =
          omega (arith, length-append a b, all-numbers (calls_from bs t m.cursor (map call_of ns))) in
          let joined : put_at answer_length b (put_at 0 a out) ≡ put_at 0 (a ++ b) out =
          ap (λ (p : ℕ). put_at p b (put_at 0 a out)) (sym behind) ∙ put_at-append 0 a b out room-there in
          run-answered (length ns + 1) out' (rw (followed e) (omega arith)) (rw (followed e) (rest ∙ ap (λ (l : List ℕ). put_at answer_length b l) first ∙ joined))
