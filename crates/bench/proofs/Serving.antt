-- A run of seeks, opened by one turn: a target that is served leads on from where its seek came to, a refused one ends the run. What is
-- stored goes the same way, a turn's answer before those of the turns behind it.
-- Assumes nothing.
use Rattle.std.specs.Prelude.{Ok, Err, min}
use Rattle.std.specs.Result.{is_ok}
use Rattle.std.proofs.Math.Nat.{min-le_left, min-le_right}
use mir.Val.{bool_byte}
use mathlib.Core.Path.{◌≡◌, refl, sym, ap, ◌∙◌}
use mathlib.Core.Bool.{Bool, true}
use mathlib.Core.List.{List, [], ◌∷◌, map}
use Prim.Native.Nat.{ℕ, suc, ◌+◌, ◌≤◌, ◌<◌}
use native.Mathlib.Numerals.{add-one}
use native.Mathlib.Omega.{arith}
use borrow.Author.Tests.{le-leb, lt-leb}
use lib.ListN.{length, drop, get_or, set, length-map, length-drop}
use lib.Seq.{drop-cons, drop-length}
use Rattle.format.specs.declared.refusal.Refusal.{Refusal}
use Rattle.format.specs.declared.Term.{Term}
use Rattle.format.specs.Basics.{Outcome, choose, put_at, or_before}
use Rattle.format.proofs.Outcome.{ok_same}
use Rattle.format.proofs.Area.{put_at-nil, put_at-one, put_at-append, length-put_at}
use Rattle.segment_postings.specs.declared.Answer.{Answer}
use Rattle.segment_postings.specs.declared.SegmentPostings.{SegmentPostings}
use Rattle.segment_postings.specs.Cursor.{answer_at_of, answering, opening, seeking, hit_of, sought, moved}
use Rattle.segment_postings.specs.Called.{with_hit}
use Rattle.segment_postings.proofs.Laws.LandingParts.{answering-at, with_hit-at}
use Rattle.bench.specs.Seeks.{Slices, slices, room, put_answers, before_those, seeks_from, seeks, served_in, Served}

-- ---- the slices

-- each of them has that room
module _ (s : Slices) where
  pub docs_room : room s ≤ length s.docs
  unfolding room
  docs_room = omega (arith, min-le_left (min (length s.docs) (length s.freqs)) (length s.hits), min-le_left (length s.docs) (length s.freqs))

  pub freqs_room : room s ≤ length s.freqs
  unfolding room
  freqs_room = omega (arith, min-le_left (min (length s.docs) (length s.freqs)) (length s.hits), min-le_right (length s.docs) (length s.freqs))

  pub hits_room : room s ≤ length s.hits
  unfolding room
  hits_room = min-le_right (min (length s.docs) (length s.freqs)) (length s.hits)

  put_none : (at : ℕ) → put_answers at [] s ≡ s
  unfolding put_answers
  put_none at = rw (put_at-nil at s.docs, put_at-nil at s.freqs, put_at-nil at s.hits) refl

  room-kept : (at : ℕ) (answers : List Answer) → room (put_answers at answers s) ≡ room s
  unfolding room put_answers
  room-kept at answers = rw (length-put_at at _ s.docs, length-put_at at _ s.freqs, length-put_at at _ s.hits) refl

-- whatever is stored of an answer: the first's, and then those of the answers behind it
put_one : (f : Answer → ℕ) (at : ℕ) (a : Answer) (behind : List Answer) (area : List ℕ) → at + length (a ∷ behind) ≤ length area
    → put_at at (map f (a ∷ behind)) area ≡ put_at (at + 1) (map f behind) (put_at at (f a ∷ []) area)
put_one f at a behind area fits =
    sym (put_at-append at (f a ∷ []) (map f behind) area (omega (arith, length-map behind f)))

-- .. in each slice
put_first : (at : ℕ) (s : Slices) {answers behind : List Answer} {a : Answer} → answers ≡ a ∷ behind → at + length answers ≤ room s
    → put_answers at answers s ≡ put_answers (at + 1) behind (put_answers at (a ∷ []) s)
unfolding put_answers
put_first at s {behind = behind} {a} e fits =
    rw (
      e,
      put_one (λ (a : Answer). a.doc) at a behind s.docs (omega (arith, ap length e, docs_room s)),
      put_one (λ (a : Answer). a.freq) at a behind s.freqs (omega (arith, ap length e, freqs_room s)),
      put_one (λ (a : Answer). bool_byte a.hit) at a behind s.hits (omega (arith, ap length e, hits_room s)),
    ) refl

-- ---- one answer

-- at a place of a block there is one, and it is stored, with the hit that is told beside
module _ (t : Term) (c : SegmentPostings) (below : c.held.place < 128) where
  pub never_refused : {o : Outcome Answer} → o ≡ answering t c → is_ok o ≡ true
  never_refused e = ap is_ok (e ∙ answering-at t c below)

  pub stored_answer : (s : Slices) (hit : Bool) (at : ℕ) → at < room s → {o : Outcome Answer} {a : Answer} → o ≡ answering t c → o ≡ Ok a
      → slices (set s.docs at a.doc) (set s.freqs at a.freq) (set s.hits at (bool_byte hit)) ≡ put_answers at (answer_at_of t hit c ∷ []) s
  unfolding put_answers with_hit
  stored_answer s hit at there {a = a} e told =
      let is = ok_same (ap (with_hit hit) (sym told ∙ e) ∙ with_hit-at t hit c below) in
      rw (
        ← is,
        put_at-one at a.doc s.docs (omega (arith, docs_room s)),
        put_at-one at a.freq s.freqs (omega (arith, freqs_room s)),
        put_at-one at (bool_byte hit) s.hits (omega (arith, hits_room s)),
      ) refl

-- ---- a run

-- none, and nothing stored
pub none-served : (s : Slices) {answers : List Answer} → answers ≡ [] → Served answers s s 0
none-served s e = rw e (record { answer = refl; stored = sym (put_none s 0) })

-- no more are served than there are targets
one_more : (o : Outcome Answer) (behind : List Answer) (n : ℕ) → length behind ≤ n → length (before_those o behind) ≤ suc n
unfolding before_those
one_more (Ok a) behind n most = omega arith
one_more (Err k) behind n most = omega arith

served-most : (bs : List ℕ) (t : Term) (c : SegmentPostings) (targets : List ℕ) → length (seeks_from bs t c targets) ≤ length targets
unfolding seeks_from
served-most bs t c [] = omega arith
served-most bs t c (target ∷ targets) =
    one_more (sought c bs t target).answer _ (length targets) (served-most bs t (sought c bs t target).cursor targets)

-- a seek that came somewhere has its answer before those behind it, a refused one has none
module _ (t : Term) (c : SegmentPostings) (hit : SegmentPostings → Bool) (go : SegmentPostings → List Answer) {o : Outcome SegmentPostings} where
  came-first : {d : SegmentPostings} → o ≡ Ok d → before_those (moved t c hit o).answer (go (moved t c hit o).cursor) ≡ answer_at_of t (hit d) d ∷ go d
  unfolding moved before_those
  came-first e = rw e

  refused-none : {n : Refusal} → o ≡ Err n → before_those (moved t c hit o).answer (go (moved t c hit o).cursor) ≡ []
  unfolding moved before_those
  refused-none e = rw e

module _ (bs : List ℕ) (t : Term) (targets : List ℕ) where
  -- the answers of the targets from place i on
  abbrev on_from : ℕ → SegmentPostings → List Answer
  on_from i c = seeks_from bs t c (drop i targets)

  -- where the loop stands: of all answers, i are stored, and the rest are those from place i on
  pub record Serving (before now : Slices) (c : SegmentPostings) (i : ℕ) : Type 0 where
    pub upto : i ≤ length targets
    pub room_there : length targets ≤ room now
    pub served : length (seeks bs t targets) ≡ i + length (on_from i c)
    pub stored : put_answers 0 (seeks bs t targets) before ≡ put_answers i (on_from i c) now

  -- ---- opening

  pub seeks_unopened : {n : Refusal} → opening bs t ≡ Err n → seeks bs t targets ≡ []
  unfolding seeks or_before
  seeks_unopened e = rw e

  seeks-opened : {c : SegmentPostings} → opening bs t ≡ Ok c → seeks bs t targets ≡ on_from 0 c
  unfolding seeks or_before
  seeks-opened e = rw e

  pub serving_first : (s : Slices) {c : SegmentPostings} → length targets ≤ room s → opening bs t ≡ Ok c → Serving s s c 0
  serving_first s there e =
      record { upto = omega arith; room_there = there; served = rw (seeks-opened e) (omega arith); stored = rw (seeks-opened e) refl }

  -- ---- a turn

  module _ (i : ℕ) (c : SegmentPostings) (below : i < length targets) where
    rest : drop i targets ≡ get_or targets i 0 ∷ drop (i + 1) targets
    rest = rw add-one (drop-cons targets i 0 below)

    turn : on_from i c ≡ before_those (sought c bs t (get_or targets i 0)).answer (on_from (i + 1) (sought c bs t (get_or targets i 0)).cursor)
    unfolding seeks_from
    turn = rw rest refl

    turn_on : {d : SegmentPostings} → seeking c bs t (get_or targets i 0) ≡ Ok d
        → on_from i c ≡ answer_at_of t (hit_of t (get_or targets i 0) d) d ∷ on_from (i + 1) d
    unfolding sought
    turn_on e = turn ∙ came-first t c (hit_of t (get_or targets i 0)) (on_from (i + 1)) e

    turn-refused : {n : Refusal} → seeking c bs t (get_or targets i 0) ≡ Err n → on_from i c ≡ []
    unfolding sought
    turn-refused e = turn ∙ refused-none t c (hit_of t (get_or targets i 0)) (on_from (i + 1)) e

  module _ {before now : Slices} {c : SegmentPostings} {i : ℕ} (s : Serving before now c i) where
    -- the run ends where nothing is served from here on
    ends_here : on_from i c ≡ [] → Served (seeks bs t targets) before now i
    ends_here none = record { answer = omega (arith, s.served, ap length none); stored = sym (s.stored ∙ rw none (put_none now i)) }

    module _ (below : i < length targets) where
      pub serving_on : {d : SegmentPostings} {hit : Bool} {after : Slices} → seeking c bs t (get_or targets i 0) ≡ Ok d
          → hit ≡ hit_of t (get_or targets i 0) d → after ≡ put_answers i (answer_at_of t hit d ∷ []) now → Serving before after d (i + 1)
      serving_on e told put =
          let on = turn_on i c below e in
          let few = served-most bs t c (drop i targets) in
          record {
            upto = omega arith;
            room_there = rw (put, room-kept now i _) s.room_there;
            served = omega (arith, s.served, ap length on);
            stored = s.stored ∙ rw (put, told) (put_first i now on (omega (arith, s.room_there, few, length-drop i targets)));
          }

      pub serving_refused : {n : Refusal} → seeking c bs t (get_or targets i 0) ≡ Err n → Served (seeks bs t targets) before now i
      serving_refused e = ends_here (turn-refused i c below e)

    pub serving_all : i ≡ length targets → Served (seeks bs t targets) before now (length targets)
    unfolding seeks_from
    serving_all all = rw (← all) (ends_here (rw (all, drop-length) refl))

  -- ---- room

  pub too-short : (s : Slices) → room s < length targets → served_in t bs targets s ≡ []
  unfolding served_in choose
  too-short s h = rw (lt-leb (length targets) (room s) h)

  pub room-enough : (s : Slices) → length targets ≤ room s → served_in t bs targets s ≡ seeks bs t targets
  unfolding served_in choose
  room-enough s h = rw (le-leb (length targets) (room s) h)

pub served_as : {answers answers' : List Answer} {before after : Slices} {r : ℕ} → answers ≡ answers'
    → Served answers' before after r → Served answers before after r
served_as e k = rw e k
