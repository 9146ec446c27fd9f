-- On an admitted image the numbers answered are the model's. The image is sound in the requested mode too, so opening isn't refused and
-- every call is made; each answers what the model answers, and the entries read lead to the block of the model's position, so that
-- they are at most the full blocks.
-- Assumes nothing.
use Rattle.std.specs.Prelude.{Ok}
use Rattle.format.specs.Basics.{Outcome}
use mathlib.Core.Path.{◌≡◌, ap}
use mathlib.Core.List.{List, [], ◌∷◌, map}
use Prim.Native.Nat.{ℕ, zero, suc, ◌+◌, ◌*◌, ◌/◌, ◌≤◌}
use native.Mathlib.Omega.{arith}
use lib.ListN.{length, get_or, get_or-append, length-map}
use lib.Seq.{get_or-append-add}
use Rattle.format.specs.declared.Term.{Term}
use Rattle.format.specs.Reading.{reading, soundness, docs_of, freqs_of}
use Rattle.format.specs.Model.{Answer as Shown, at, refused, Call, here, answers, entries_read}
use Rattle.format.proofs.Requested.{sound_requested}
use Rattle.segment_postings.specs.declared.Answer.{Answer}
use Rattle.segment_postings.specs.Cursor.{opened}
use Rattle.segment_postings.specs.Called.{with_entries, calls, answer_length, entries_place, numbers, all_numbers, positions, model_numbers}
use Rattle.segment_postings.proofs.Simulation.CallsSimulate.{simulation}
use Rattle.postings.specs.RunCalls.{call_of, unless_refused, answered, model_answers}
use Rattle.postings.proofs.calls.CodedCalls.{numbers-length, as_many-answers}

-- ---- entries read

entry_of : (a : Shown) (e n : ℕ) → e ≤ n → get_or (numbers (with_entries a e)) entries_place 0 ≤ n
unfolding numbers with_entries
entry_of (at doc freq unpacked hit) e n h = h
entry_of (refused k) e n h = omega arith

entries_most : (n p : ℕ) → entries_read n p ≤ n / 128
unfolding entries_read
entries_most n p = omega arith

-- of every answer
pub entry-most : (n : ℕ) (told : List Shown) (ps : List ℕ) (i : ℕ) → get_or (model_numbers n told ps) (answer_length * i + entries_place) 0 ≤ n / 128
unfolding model_numbers
entry-most n [] ps i = omega arith
entry-most n (a ∷ told) [] i = omega arith
entry-most n (a ∷ told) (p ∷ ps) zero =
    let first : Outcome Answer = with_entries a (entries_read n p) in
    rw (get_or-append (numbers first) (model_numbers n told ps) 0 entries_place (omega (arith, numbers-length first)))
    (entry_of a (entries_read n p) (n / 128) (entries_most n p))
entry-most n (a ∷ told) (p ∷ ps) (suc i) =
    let first : Outcome Answer = with_entries a (entries_read n p) in
    let later : ℕ = answer_length * i + entries_place in
    let behind : answer_length * suc i + entries_place ≡ length (numbers first) + later = omega (arith, numbers-length first) in
    rw (behind, get_or-append-add (numbers first) (model_numbers n told ps) later 0) (entry-most n told ps i)

-- ---- where opening isn't refused

module _ (bs : List ℕ) (t : Term) (ns : List ℕ) (sound : soundness t.mode t.count bs ≡ Ok tt) (known : t.requested ≤ 2) where
  readable : (reading t bs).verdict ≡ Ok tt
  readable = sound_requested t.mode t.requested t.count bs known sound

  not-refused : (rest : List (Outcome Answer)) → unless_refused (opened bs t).answer rest ≡ rest
  unfolding unless_refused with_entries here
  not-refused rest = rw ((simulation t bs).opens readable).answer_is

  all-called : answered bs t ns ≡ calls bs t (map call_of ns)
  unfolding answered calls
  all-called = ap (λ (l : List (Outcome Answer)). (opened bs t).answer ∷ l) (not-refused _)

  pub all_answered : length (answered bs t ns) ≡ length ns + 1
  unfolding calls
  all_answered = rw all-called (omega (arith, as_many-answers bs t (opened bs t).cursor (map call_of ns), length-map ns call_of))

  pub answers_model : all_numbers (answered bs t ns) ≡ model_answers bs t ns
  unfolding model_answers
  answers_model = rw all-called ((simulation t bs).opens_and_goes_on readable (map call_of ns)).numbered

  -- .. and the entries read stand at their place of each answer
  pub entries-full : (i : ℕ) → get_or (model_answers bs t ns) (answer_length * i + entries_place) 0 ≤ t.count / 128
  unfolding model_answers
  entries-full i =
      let docs : List ℕ = docs_of (reading t bs).blocks in
      let cs : List Call = map call_of ns in
      entry-most t.count (answers docs (freqs_of (reading t bs).blocks) cs) (positions docs cs) i
