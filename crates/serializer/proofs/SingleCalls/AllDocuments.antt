-- Documents handed to the writer one by one, from any state that calls reach. What one call answers and leaves is known, and what
-- lies ahead behind it; so one induction on the documents tells what all the calls answer and leave.
-- Assumes nothing.
use Rattle.format.specs.declared.refusal.Refusal.{Refusal}
use Rattle.format.specs.declared.refusal.Refusal.TheVariants.{NoRoom}
use Rattle.std.specs.Prelude.{◌≡◌, ℕ, ◌+◌, ◌-◌, ◌^◌, ◌<◌, Bool, true, false, ◌&&◌ as and, List, [], ◌∷◌, ◌++◌, length, Ok, Err}
use mathlib.Core.Bool.{and-eq-true_iff, false≢true}
use mathlib.Core.List.{append-nil}
use mathlib.Core.Path.{refl, sym, ◌∙◌}
use native.Mathlib.Nat.{add-zero}
use native.Mathlib.Decide.{dec_lt}
use native.Mathlib.Omega.{arith}
use borrow.Author.Tests.{leb-true}
use Rattle.format.specs.declared.IndexRecordOption.{IndexRecordOption}
use Rattle.format.specs.Basics.{Outcome, and_then, ask, put_at, fits_at, AllBelow, or_before}
use Rattle.format.specs.Written.{entry_of, block_of, Parts, blocks_of, tail_of_of}
use Rattle.format.specs.Accepted.{take_doc, take_docs}
use Rattle.format.proofs.Outcome.{refused≢ok}
use Rattle.format.proofs.Area.{length-put_at}
use Rattle.format.proofs.ImageParts.{parts, blocks_of-zero, blocks_of-suc, parts-front, parts-tail}
use Rattle.serializer.specs.declared.PostingsSerializer.{PostingsSerializer}
use Rattle.serializer.specs.Writer.{Areas, option_of, waiting_docs, waiting_freqs, first_least_of}
use Rattle.serializer.specs.Writer.{stored, emptied, taking, take_all_docs, accepted_count}
use Rattle.serializer.proofs.document.OneDocument.{next_least, Held, Accepts, accepts, filled, call-refused, call-waits, call_fills}
use Rattle.serializer.proofs.document.OneDocument.{stored-option, stored_next, stored-held, filled-option, filled_next, filled-held}
use Rattle.serializer.proofs.SingleCalls.BlocksAhead.{ahead, accepted-cons, ahead_none, ahead-waits, ahead_fills}
use Rattle.serializer.proofs.SingleCalls.BlocksAhead.{Wrote, wrote_none, wrote_front, both-append, room, room-none}

-- ---- the definitions, opened by one turn

take_docs-cons : (option : IndexRecordOption) (least d : ℕ) (ds : List ℕ) (f : ℕ) (fs : List ℕ)
    → take_docs option least (d ∷ ds) (f ∷ fs) ≡ and_then (take_doc option least d f) λ next. take_docs option next ds fs
unfolding take_docs
take_docs-cons option least d ds f fs = refl

pub take_all_docs-cons : (s : PostingsSerializer) (d : ℕ) (ds : List ℕ) (f : ℕ) (fs skips postings : List ℕ)
    → take_all_docs s (d ∷ ds) (f ∷ fs) skips postings
    ≡ and_then (taking s d f skips postings) λ a. take_all_docs a.state ds fs a.skips a.postings
unfolding take_all_docs
take_all_docs-cons s d ds f fs skips postings = refl

-- ---- what calls answer and leave

-- all documents were taken
pub record Ended (s : PostingsSerializer) (ds fs skips postings : List ℕ) (r : Outcome Areas) : Type 0 where
  pub areas : Areas
  pub answer : r ≡ Ok areas
  pub held : Held areas.state areas.skips areas.postings
  pub taken : areas.state.taken ≡ s.taken + length ds
  pub option_is : option_of areas.state ≡ option_of s
  pub next_is : take_docs (option_of s) (next_least s) ds fs ≡ Ok (next_least areas.state)
  pub skips_wrote :
      Wrote skips s.skips_at (ahead blocks_of s ds fs).skips (ahead parts s ds fs).skips
      areas.skips areas.state.skips_at []
  pub postings_wrote :
      Wrote postings s.postings_at (ahead blocks_of s ds fs).postings (ahead parts s ds fs).postings
      areas.postings areas.state.postings_at
      (tail_of_of (option_of areas.state) (first_least_of areas.state - 1) (waiting_docs areas.state) (waiting_freqs areas.state))

-- 15 where the blocks don't fit; else what the definitions refuse; else all were taken
pub data Answers (P : Outcome Areas → Type 0) : Bool → Outcome ℕ → Outcome Areas → Type 0 where
  without_room : {o : Outcome ℕ} {r : Outcome Areas} → r ≡ Err NoRoom → Answers P false o r
  refuses : {n : Refusal} {r : Outcome Areas} → r ≡ Err n → Answers P true (Err n) r
  ends : {next : ℕ} {r : Outcome Areas} → P r → Answers P true (Ok next) r

module _ {P : Outcome Areas → Type 0} where
  pub answers-room : {b : Bool} {o : Outcome ℕ} {r : Outcome Areas} → Answers P b o r → b ≡ false → r ≡ Err NoRoom
  answers-room (without_room e) f = e
  answers-room (refuses e) f = absurd (false≢true (sym f))
  answers-room (ends p) f = absurd (false≢true (sym f))

  pub answers-refused : {b : Bool} {o : Outcome ℕ} {r : Outcome Areas} {n : Refusal} → Answers P b o r → b ≡ true → o ≡ Err n
      → r ≡ Err n
  answers-refused (without_room e) f t = absurd (false≢true f)
  answers-refused (refuses e) f t = cc
  answers-refused (ends p) f t = absurd (refused≢ok (sym t))

  pub answers-ok : {b : Bool} {o : Outcome ℕ} {r : Outcome Areas} {next : ℕ} → Answers P b o r → b ≡ true → o ≡ Ok next → P r
  answers-ok (without_room e) f t = absurd (false≢true f)
  answers-ok (refuses e) f t = absurd (refused≢ok t)
  answers-ok (ends p) f t = p

  pub answers-taken : {b : Bool} {o : Outcome ℕ} {r : Outcome Areas} {a : Areas} → Answers P b o r → r ≡ Ok a
      → (next : ℕ) × (b ≡ true) × (o ≡ Ok next) × P r
  answers-taken (without_room e) all = absurd (refused≢ok (sym e ∙ all))
  answers-taken (refuses e) all = absurd (refused≢ok (sym e ∙ all))
  answers-taken (ends {next} p) all = (next, refl, refl, p)

  answers-map : {Q : Outcome Areas → Type 0} {b : Bool} {o : Outcome ℕ} {r : Outcome Areas} → (b ≡ true → P r → Q r)
      → Answers P b o r → Answers Q b o r
  answers-map m (without_room e) = without_room e
  answers-map m (refuses e) = refuses e
  answers-map m (ends p) = ends (m refl p)

abbrev pub Claim : PostingsSerializer → List ℕ → List ℕ → List ℕ → List ℕ → Type 0
Claim s ds fs skips postings =
    Answers (Ended s ds fs skips postings) (room (ahead blocks_of s ds fs) s skips postings)
    (take_docs (option_of s) (next_least s) ds fs) (take_all_docs s ds fs skips postings)

-- ---- none, or one that is refused

module _ {s : PostingsSerializer} {skips postings : List ℕ} (h : Held s skips postings) where
  no_document : Claim s [] [] skips postings
  unfolding take_docs take_all_docs accepted_count
  no_document =
      let blocks = ahead_none h [] [] blocks_of refl ∙ blocks_of-zero _ _ _ _ in
      let all = ahead_none h [] [] parts refl ∙ parts-tail _ _ _ _ in
      rw (blocks, room-none h)
      (ends (record {
        areas = record { state = s; skips = skips; postings = postings };
        answer = refl;
        held = h;
        taken = sym (add-zero s.taken);
        option_is = refl;
        next_is = refl;
        skips_wrote = rw (blocks, all) (wrote_none skips _ []);
        postings_wrote = rw (blocks, all, append-nil (waiting_docs s), append-nil (waiting_freqs s)) (wrote_none postings _ _);
      }))

  document_refused : (d f : ℕ) {n : Refusal} (ds fs : List ℕ) → take_doc (option_of s) (next_least s) d f ≡ Err n
      → Claim s (d ∷ ds) (f ∷ fs) skips postings
  unfolding and_then or_before
  document_refused d f ds fs e =
      rw (ahead_none h (d ∷ ds) (f ∷ fs) blocks_of (rw (accepted-cons, e)), blocks_of-zero, room-none h)
      (rw (take_docs-cons, take_all_docs-cons, e, call-refused h d f e) (refuses refl))

-- ---- one that waits, or fills a block

-- the claim of the documents that follow
abbrev Later : List ℕ → List ℕ → Type 0
Later ds fs = (s : PostingsSerializer) (skips postings : List ℕ) → Held s skips postings → Claim s ds fs skips postings

module _ {s : PostingsSerializer} {skips postings : List ℕ} {d f : ℕ} (a : Accepts s skips postings d f) (ds fs : List ℕ) where
  ended-waits : (r : Outcome Areas) → Ended (stored s d f) ds fs skips postings r → Ended s (d ∷ ds) (f ∷ fs) skips postings r
  unfolding and_then stored
  ended-waits r ended =
      record {
        areas = ended.areas;
        answer = ended.answer;
        held = ended.held;
        taken = ended.taken ∙ omega arith;
        option_is = ended.option_is ∙ stored-option a;
        next_is = rw (take_docs-cons, a.accepted) (rw (stored-option a, stored_next a) at ended.next_is);
        skips_wrote = rw (ahead-waits a ds fs blocks_of, ahead-waits a ds fs parts) ended.skips_wrote;
        postings_wrote = rw (ahead-waits a ds fs blocks_of, ahead-waits a ds fs parts) ended.postings_wrote;
      }

  document_waits : Later ds fs → s.waiting < 127 → Claim s (d ∷ ds) (f ∷ fs) skips postings
  unfolding and_then stored
  document_waits later few =
      let claim = rw (stored-option a, stored_next a) at (later (stored s d f) skips postings (stored-held a few)) in
      rw (ahead-waits a ds fs blocks_of, take_docs-cons, take_all_docs-cons, a.accepted, call-waits a few)
      (answers-map (λ _. ended-waits _) claim)

  abbrev entry : List ℕ
  entry = entry_of (option_of (stored s d f)) (first_least_of s) (stored s d f).docs (stored s d f).freqs

  abbrev block : List ℕ
  block = block_of (option_of (stored s d f)) (first_least_of s) (stored s d f).docs (stored s d f).freqs

  abbrev skips_next : List ℕ
  skips_next = put_at s.skips_at entry skips

  abbrev postings_next : List ℕ
  postings_next = put_at s.postings_at block postings

  abbrev block_fits_here : Bool
  block_fits_here = and (fits_at s.skips_at entry skips) (fits_at s.postings_at block postings)

  held_fills : s.waiting ≡ 127 → block_fits_here ≡ true → Held (filled s d f) skips_next postings_next
  unfolding emptied stored fits_at
  held_fills whole fits =
      let both = (and-eq-true_iff (fits_at s.skips_at entry skips) (fits_at s.postings_at block postings)).0 fits in
      filled-held a skips_next postings_next whole (rw length-put_at (leb-true _ _ both.0)) (rw length-put_at (leb-true _ _ both.1))

  room_fills : s.waiting ≡ 127
      → room (ahead blocks_of s (d ∷ ds) (f ∷ fs)) s skips postings
      ≡ and block_fits_here (room (ahead blocks_of (filled s d f) ds fs) (filled s d f) skips_next postings_next)
  unfolding emptied stored
  room_fills whole =
      rw (ahead_fills a ds fs blocks_of blocks_of-suc whole)
      (both-append _ _ entry block (ahead blocks_of (filled s d f) ds fs) skips postings)

  ended_fills : s.waiting ≡ 127 → room (ahead blocks_of s (d ∷ ds) (f ∷ fs)) s skips postings ≡ true → (r : Outcome Areas)
      → Ended (filled s d f) ds fs skips_next postings_next r → Ended s (d ∷ ds) (f ∷ fs) skips postings r
  unfolding and_then emptied stored fits_at
  ended_fills whole fits r ended =
      let blocks = ahead_fills a ds fs blocks_of blocks_of-suc whole in
      let all = ahead_fills a ds fs parts parts-front whole in
      let rest : Parts = ahead blocks_of (filled s d f) ds fs in
      let both = (and-eq-true_iff (fits_at s.skips_at (entry ++ rest.skips) skips) _).0 (rw blocks at fits) in
      record {
        areas = ended.areas;
        answer = ended.answer;
        held = ended.held;
        taken = ended.taken ∙ omega arith;
        option_is = ended.option_is ∙ filled-option a;
        next_is = rw (take_docs-cons, a.accepted) (rw (filled-option a, filled_next a whole) at ended.next_is);
        skips_wrote = rw (blocks, all) (wrote_front entry (leb-true _ _ both.0) ended.skips_wrote);
        postings_wrote = rw (blocks, all) (wrote_front block (leb-true _ _ both.1) ended.postings_wrote);
      }

  document_fills : Later ds fs → s.waiting ≡ 127 → (fits : Bool) → block_fits_here ≡ fits → Claim s (d ∷ ds) (f ∷ fs) skips postings
  unfolding and_then ask
  document_fills later whole false b = rw (room_fills whole, take_all_docs-cons, call_fills a whole, b) (without_room refl)
  document_fills later whole true b =
      let claim = rw (filled-option a, filled_next a whole) at (later (filled s d f) skips_next postings_next (held_fills whole b)) in
      rw (room_fills whole, take_docs-cons, take_all_docs-cons, a.accepted, call_fills a whole, b)
      (answers-map (λ fits. ended_fills whole (room_fills whole ∙ (and-eq-true_iff _ _).1 (b, fits)) _) claim)

-- ---- all

document : {s : PostingsSerializer} {skips postings : List ℕ} → Held s skips postings → (d f : ℕ) → f < 2 ^ 32 → (ds fs : List ℕ)
    → Later ds fs → (o : Outcome ℕ) → take_doc (option_of s) (next_least s) d f ≡ o → Claim s (d ∷ ds) (f ∷ fs) skips postings
document h d f small ds fs later (Err n) e = document_refused h d f ds fs e
document {s} h d f small ds fs later (Ok next) e =
    let a = accepts h d f small e in
    elim (dec_lt s.waiting 127) [
      | yes few ↦ document_waits a ds fs later few
      | no many ↦ document_fills a ds fs later (omega (arith, h.few)) _ refl
    ]

pub all-calls : (s : PostingsSerializer) (ds fs skips postings : List ℕ) → Held s skips postings → AllBelow (2 ^ 32) fs
    → length ds ≡ length fs → Claim s ds fs skips postings
all-calls s [] [] skips postings h small e = no_document h
all-calls s [] (f ∷ fs) skips postings h small e = absurd (omega arith)
all-calls s (d ∷ ds) [] skips postings h small e = absurd (omega arith)
all-calls s (d ∷ ds) (f ∷ fs) skips postings h small e =
    let later : Later ds fs = λ s' skips' postings' h'. all-calls s' ds fs skips' postings' h' small.1 (omega arith) in
    document h d f small.0 ds fs later _ refl
