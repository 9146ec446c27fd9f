-- Promises 1 and 2 of the order for a term that is written by single calls: begun, its documents handed in one by one, and closed, each
-- call on a whole state or on two lent arrays. Either way a call gives what its definition gives (WriterManners.antt). A refused document
-- leaves everything as it was, so that the calls leave what the calls of the documents taken leave, all answered yes (serializer,
-- TakenDocuments.antt). So those documents form a list that is accepted; closing under their number gives their image, which is admitted
-- and reads back. A whole list handed in so is accepted exactly where `write_list` accepts it.
-- Assumes nothing.
use Rattle.std.specs.Prelude.{Ok, Err}
use Rattle.format.specs.declared.refusal.Refusal.TheVariants.{NoRoom, CountMismatch}
use mathlib.Core.Bool.{Bool, true, ◌&&◌ as and, false≢true}
use mathlib.Core.List.{List, [], ◌∷◌, ◌++◌}
use mathlib.Core.Logic.{◌↔◌}
use mathlib.Core.Path.{◌≡◌, refl, sym, ap, subst, ◌∙◌}
use Prim.Native.Nat.{ℕ, suc, ◌+◌, ◌≤◌, ◌<◌, ◌^◌}
use native.Mathlib.Omega.{arith}
use borrow.Author.Tests.{le-leb, leb-true, eq-eqb, eqb-true}
use lib.Dec.{eqb, ltb}
use lib.ListN.{length, take}
use Rattle.format.specs.declared.IndexRecordOption.{IndexRecordOption}
use Rattle.format.specs.Basics.{Outcome, and_then, ask, or_before, fits_at, AllBelow}
use Rattle.format.specs.Accepted.{kept_in, begin, take_doc, take_docs, written}
use Rattle.format.specs.Reading.{reading, soundness}
use Rattle.format.specs.ReadsBack.{read_freqs, ReadsBack}
use Rattle.format.specs.SkipEntry.{has_freq_of}
use Rattle.format.specs.Written.{image}
use Rattle.format.proofs.Area.{take-put_at-front}
use Rattle.format.proofs.Accepted.{known_mode_lem, known_most, take_doc-ok, written-ok}
use Rattle.format.proofs.Outcome.{ok_same, ask-ok, and_then-ok}
use Rattle.format.proofs.ReadsBack.{reads-back, written-sound}
use Rattle.serializer.specs.declared.PostingsSerializer.{PostingsSerializer}
use Rattle.serializer.specs.Calls.{accepted, answered, accepted_number}
use Rattle.serializer.specs.Whole.{full_blocks_of, blocks_fit}
use Rattle.serializer.specs.Writer.{Areas, taking, closing, take_all_docs, listing}
use Rattle.serializer.proofs.Laws.AnswerTells.{accepted-yes, answered-bytes}
use Rattle.serializer.proofs.Laws.BlockPlaces.{front_fits, blocks-room}
use Rattle.serializer.proofs.Laws.WholeList.{whole-list-writes}
use Rattle.serializer.proofs.SingleCalls.TakenDocuments.{TakenAll, taken-all}
use Rattle.serializer.proofs.SingleCalls.WritesList.{single_calls_write}
use Rattle.postings.specs.FirstPromise.{Acceptable}
use Rattle.postings.proofs.FirstPromise.{listed_acceptable, acceptable_listed}
use Rattle.postings.proofs.WriterNumbers.{zero-yes, zero-bytes, bytes-numbers}
use Rattle.postings.proofs.WriterManners.{hands_gives, gives-yes, gives-no, gives-ok, closes_as, begins_as, begins_begun}
use Rattle.postings.specs.WriterCalls.{areas_of, Begins, Hands, Closes, Handed, none, next, TermWritten, taken, all_yes, AllAccepted}

-- ---- the calls leave what those of the documents taken leave

take_all_docs-ok : (s : PostingsSerializer) (d f : ℕ) (ds fs skips postings : List ℕ) {a b : Areas} → taking s d f skips postings ≡ Ok a
    → take_all_docs a.state ds fs a.skips a.postings ≡ Ok b → take_all_docs s (d ∷ ds) (f ∷ fs) skips postings ≡ Ok b
unfolding take_all_docs and_then
take_all_docs-ok s d f ds fs skips postings e later = rw e later

module _ {d f : ℕ} {a b c : Areas} (ds fs : List ℕ) {answer : Outcome (Unit {0})} (answers : List (Outcome (Unit {0}))) (h : Hands d f a answer b)
    (later : take_all_docs b.state (taken answers ds) (taken answers fs) b.skips b.postings ≡ Ok c) where
  next-taken : (x : Outcome (Unit {0})) → answer ≡ x
      → take_all_docs a.state (taken (x ∷ answers) (d ∷ ds)) (taken (x ∷ answers) (f ∷ fs)) a.skips a.postings ≡ Ok c
  unfolding taken
  next-taken (Ok tt) e = take_all_docs-ok a.state d f (taken answers ds) (taken answers fs) a.skips a.postings (gives-yes (hands_gives h) e) later
  next-taken (Err n) e = rw (gives-no (hands_gives h) e) at later

pub handed-taken : {a b : Areas} {ds fs : List ℕ} {answers : List (Outcome (Unit {0}))} → Handed a ds fs answers b
    → take_all_docs a.state (taken answers ds) (taken answers fs) a.skips a.postings ≡ Ok b
unfolding take_all_docs taken
handed-taken none = refl
handed-taken (next {ds = ds} {fs} {answers = answers} h later) = next-taken ds fs answers h (handed-taken later) _ refl

-- as many of the one as of the other, and the frequencies are numbers of 32 bits still
taken-many : (answers : List (Outcome (Unit {0}))) (ds fs : List ℕ) → length ds ≡ length fs → length (taken answers ds) ≡ length (taken answers fs)
unfolding taken
taken-many [] ds fs e = refl
taken-many (x ∷ answers) [] [] e = refl
taken-many (x ∷ answers) [] (f ∷ fs) e = absurd (omega arith)
taken-many (x ∷ answers) (d ∷ ds) [] e = absurd (omega arith)
taken-many (Ok tt ∷ answers) (d ∷ ds) (f ∷ fs) e = ap suc (taken-many answers ds fs (omega arith))
taken-many (Err n ∷ answers) (d ∷ ds) (f ∷ fs) e = taken-many answers ds fs (omega arith)

handed-many : {a b : Areas} {ds fs : List ℕ} {answers : List (Outcome (Unit {0}))} → Handed a ds fs answers b → length ds ≡ length fs
handed-many none = refl
handed-many (next h later) = ap suc (handed-many later)

taken-small : (m : ℕ) (answers : List (Outcome (Unit {0}))) (fs : List ℕ) → AllBelow m fs → AllBelow m (taken answers fs)
unfolding taken
taken-small m [] fs small = tt
taken-small m (x ∷ answers) [] small = tt
taken-small m (Ok tt ∷ answers) (f ∷ fs) small = (small.0, taken-small m answers fs small.1)
taken-small m (Err n ∷ answers) (f ∷ fs) small = taken-small m answers fs small.1

front-room : (bs area : List ℕ) → fits_at 0 bs area ≡ true → length bs ≤ length area
front-room bs area e = leb-true _ _ (sym (front_fits bs area) ∙ e)

room-front : (bs area : List ℕ) → length bs ≤ length area → fits_at 0 bs area ≡ true
room-front bs area h = front_fits bs area ∙ le-leb _ _ h

-- ---- a term's documents

begins_known : {mode : ℕ} {recording : Bool} {answer : Outcome (Unit {0})} {first : PostingsSerializer} → Begins mode recording answer first → answer ≡ Ok tt → mode ≤ 1
unfolding begin
begins_known {mode} {recording} begins granted = known_most mode (ask-ok _ _ _ (accepted-yes (begin mode recording) (begins_as begins) granted).1).0

-- a term that is begun, documents handed in, and what is known behind them
module _ {mode : ℕ} {recording : Bool} {first : PostingsSerializer} (begins : Begins mode recording (Ok tt) first) (skips postings : List ℕ)
    {ds fs : List ℕ} {answers : List (Outcome (Unit {0}))} {a : Areas} (handed : Handed (areas_of first skips postings) ds fs answers a) (small : AllBelow (2 ^ 32) fs) where
  known : mode ≤ 1
  known = begins_known begins refl

  behind : TakenAll mode recording (taken answers ds) (taken answers fs) skips postings a
  behind =
      taken-all (begins_begun begins refl) skips postings known (taken answers ds) (taken answers fs) (taken-small (2 ^ 32) answers fs small)
      (taken-many answers ds fs (handed-many handed)) (handed-taken handed)

  abbrev option : IndexRecordOption
  option = kept_in mode recording

  abbrev ids : List ℕ
  ids = taken answers ds

  abbrev freqs : List ℕ
  freqs = taken answers fs

  -- those taken form a list that is accepted
  pub taken-accepted : (least : ℕ) × (take_docs option 0 ids freqs ≡ Ok least)
  taken-accepted = (behind.least, behind.docs_accepted)

  -- one document more: 11 to 13 behind those taken, and 15 where the full blocks with it don't fit the areas
  module _ (d f : ℕ) (below : f < 2 ^ 32) {answer : Outcome (Unit {0})} {b : Areas} (h : Hands d f a answer b) where
    abbrev asked : Outcome ℕ
    asked =
        and_then (take_docs option 0 ids freqs) λ least.
        and_then (take_doc option least d f) λ next.
        ask (blocks_fit option (ids ++ (d ∷ [])) (freqs ++ (f ∷ [])) skips postings) NoRoom λ _. Ok next

    pub document_answered : answer ≡ accepted asked
    unfolding and_then
    document_answered = (hands_gives h).answered ∙ behind.one_more d f below ∙ rw behind.docs_accepted

    -- it is taken exactly if it passes 11 to 13 behind those taken and the full blocks with it fit
    pub document_taken : (least : ℕ) → take_docs option 0 ids freqs ≡ Ok least
        → (answer ≡ Ok tt)
        ↔ ((take_doc option least d f ≡ Ok (d + 1)) × (blocks_fit option (ids ++ (d ∷ [])) (freqs ++ (f ∷ [])) skips postings ≡ true))
    unfolding accepted and_then ask
    document_taken least e =
        let told = rw e at document_answered in (
          λ yes.
              let p = accepted-yes _ told yes in
              let q = and_then-ok (take_doc option least d f) (λ next. ask (blocks_fit option (ids ++ (d ∷ [])) (freqs ++ (f ∷ [])) skips postings) NoRoom λ _. Ok next) p.1 in
              (q.1 ∙ ap Ok (take_doc-ok option least d f q.1).next_is, (ask-ok _ _ _ q.2).0),
          λ p. told ∙ rw (p.0, p.1),
        )

  -- ---- closing

  module _ {announced : ℕ} {output output' : List ℕ} {answer : Outcome ℕ} {last : PostingsSerializer} (closed : Closes announced a output answer output' last) where
    -- 14 where another count is announced, and 15 where the image of those taken doesn't fit the output
    pub closing-answered : answer
        ≡ answered length (ask (eqb (length ids) announced) CountMismatch λ _. ask (fits_at 0 (image option ids freqs) output) NoRoom λ _. Ok (image option ids freqs))
    closing-answered = (closes_as closed).answered_as ∙ rw (behind.closes announced output)

    module _ {n : ℕ} (e : answer ≡ Ok n) where
      -- the count announced is theirs, and there is room
      closes : (announced ≡ length ids) × (length (image option ids freqs) ≤ length output) × (n ≡ length (image option ids freqs))
      closes =
          let p = answered-bytes length _ closing-answered e in
          let q = ask-ok (eqb (length ids) announced) CountMismatch _ p.1 in
          let room = ask-ok (fits_at 0 (image option ids freqs) output) NoRoom (λ _. Ok (image option ids freqs)) q.1 in
          (sym (eqb-true (length ids) announced q.0), front-room (image option ids freqs) output room.0, p.2 ∙ ap length (sym (ok_same room.1)))

      pub closed_bytes : take n output' ≡ image option ids freqs
      unfolding or_before ask
      closed_bytes =
          let k = closes in
          let is = rw (eq-eqb (length ids) announced (sym k.0), room-front (image option ids freqs) output k.1) at (behind.closes announced output) in
          let out = rw is at (closes_as closed).output_after in
          ap (λ m. take m output') k.2 ∙ ap (take (length (image option ids freqs))) out ∙ take-put_at-front (image option ids freqs) output k.1

      closed_written : written mode recording ids freqs ≡ Ok (take n output')
      unfolding written begin and_then ask
      closed_written =
          rw (known_mode_lem mode known, eq-eqb (length ids) (length freqs) (taken-many answers ds fs (handed-many handed)), behind.docs_accepted, closed_bytes)

      -- .. what `write_list` writes of them
      pub closed_listed : listing mode recording ids freqs skips postings output ≡ Ok (image option ids freqs)
      unfolding full_blocks_of
      closed_listed =
          let fit = blocks-room option ids freqs skips postings behind.fit in
          (whole-list-writes mode recording ids freqs skips postings output).1
          (closed_written ∙ ap Ok closed_bytes, record { skips_fit = fit.0; postings_fit = fit.1; output_fit = closes.1 })

      pub closed_admitted : soundness mode (length ids) (take n output') ≡ Ok tt
      closed_admitted = written-sound mode recording ids freqs (taken-small (2 ^ 32) answers fs small) closed_written

      pub closed_reads-back : (requested : ℕ) → requested ≤ 2
          → ReadsBack ids (read_freqs (and (has_freq_of option) (ltb 0 requested)) freqs) (reading (record { mode = mode; requested = requested; count = length ids }) (take n output'))
      closed_reads-back requested asks = reads-back mode requested recording ids freqs asks (taken-small (2 ^ 32) answers fs small) closed_written

-- ---- a whole list

handed-answers : {a b : Areas} {ds fs : List ℕ} {answers : List (Outcome (Unit {0}))} → Handed a ds fs answers b → length answers ≡ length ds
handed-answers none = refl
handed-answers (next h later) = ap suc (handed-answers later)

taken-whole : (answers : List (Outcome (Unit {0}))) (ds : List ℕ) → length answers ≡ length ds → all_yes answers ≡ true → taken answers ds ≡ ds
unfolding taken all_yes
taken-whole [] [] e granted = refl
taken-whole [] (d ∷ ds) e granted = absurd (omega arith)
taken-whole (x ∷ answers) [] e granted = absurd (omega arith)
taken-whole (Ok tt ∷ answers) (d ∷ ds) e granted = ap (λ l. d ∷ l) (taken-whole answers ds (omega arith) granted)
taken-whole (Err n ∷ answers) (d ∷ ds) e granted = absurd (false≢true granted)

all_yes_lem : (x : Outcome (Unit {0})) (answers : List (Outcome (Unit {0}))) → x ≡ Ok tt → all_yes answers ≡ true → all_yes (x ∷ answers) ≡ true
unfolding all_yes
all_yes_lem x answers e granted = rw e granted

-- where the definitions take all documents, the calls do
handed-yes : {a b c : Areas} {ds fs : List ℕ} {answers : List (Outcome (Unit {0}))} → Handed a ds fs answers b
    → take_all_docs a.state ds fs a.skips a.postings ≡ Ok c → (all_yes answers ≡ true) × (b ≡ c)
unfolding take_all_docs all_yes
handed-yes none all = (refl, ok_same all)
handed-yes {c = c} (next {ds = ds} {fs} {answer = answer} {answers} h later) all =
    let p = and_then-ok _ (λ (k : Areas). take_all_docs k.state ds fs k.skips k.postings) all in
    let one = gives-ok (hands_gives h) p.1 in
    let rest = handed-yes {c = c} later (subst (λ (k : Areas). take_all_docs k.state ds fs k.skips k.postings ≡ Ok c) (sym one.1) p.2) in
    (all_yes_lem answer answers one.0 rest.0, rest.1)

module _ (mode : ℕ) (recording : Bool) (ds fs : List ℕ) (announced : ℕ) (skips postings output : List ℕ) (small : AllBelow (2 ^ 32) fs)
    {begun : Outcome (Unit {0})} {answers : List (Outcome (Unit {0}))} {closed : Outcome ℕ} {output' : List ℕ}
    (t : TermWritten mode recording ds fs announced skips postings output begun answers closed output') where
  known_begins : mode ≤ 1 → begun ≡ Ok tt
  unfolding begin ask accepted
  known_begins known = begins_as t.begins ∙ rw (known_mode_lem mode known)

  accepted_listed : AllAccepted begun answers closed → (announced ≡ length ds) × (listing mode recording ds fs skips postings output ≡ Ok (image (kept_in mode recording) ds fs))
  accepted_listed a =
      let begins = subst (λ (x : Outcome (Unit {0})). Begins mode recording x t.first) (zero-yes begun a.begins) t.begins in
      let closes-bytes = zero-bytes closed a.closes in
      let ids = taken-whole answers ds (handed-answers t.handed) a.takes in
      let freqs = taken-whole answers fs (handed-answers t.handed ∙ handed-many t.handed) a.takes in
      let k = closes begins skips postings t.handed small t.closes closes-bytes in
      let listed = closed_listed begins skips postings t.handed small t.closes closes-bytes in
      (k.0 ∙ ap length ids, rw (ids, freqs) at listed)

  listed_closes : {a : Areas} {bytes : List ℕ} → announced ≡ length ds → t.left ≡ a → closing a.state (length ds) a.skips a.postings output ≡ Ok bytes
      → closed ≡ Ok (length bytes)
  unfolding answered
  listed_closes same left_is e =
      (closes_as t.closes).answered_as
      ∙ ap (λ n. answered length (closing t.left.state n t.left.skips t.left.postings output)) same ∙ rw (left_is, e)

  listed_accepted : announced ≡ length ds → listing mode recording ds fs skips postings output ≡ Ok (image (kept_in mode recording) ds fs) → AllAccepted begun answers closed
  unfolding accepted_number
  listed_accepted same e =
      let p = (whole-list-writes mode recording ds fs skips postings output).0 e in
      let w = written-ok mode recording ds fs small p.0 in
      let yes = known_begins w.mode_known in
      let calls = single_calls_write (begins_begun t.begins yes) ds fs skips postings small p.0 p.1.skips_fit p.1.postings_fit in
      let all = handed-yes t.handed calls.takes in
      record {
        begins = ap accepted_number yes;
        takes = all.0;
        bytes = length (image (kept_in mode recording) ds fs);
        closes = bytes-numbers (listed_closes same all.1 (calls.closes output p.1.output_fit));
      }

  -- promise 1 of the order, for single calls: a list is accepted exactly if `write_list` accepts it and its count is the announced one
  pub term-accepted : AllAccepted begun answers closed ↔ ((announced ≡ length ds) × Acceptable mode recording ds fs skips postings output)
  term-accepted = (
    λ a. let p = accepted_listed a in (p.0, listed_acceptable mode recording ds fs skips postings output small p.1),
    λ p. listed_accepted p.0 (acceptable_listed mode recording ds fs skips postings output small p.1),
  )
