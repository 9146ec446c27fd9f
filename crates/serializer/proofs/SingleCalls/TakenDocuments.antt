-- What is known behind single calls that were all answered yes, from a term just begun on: the documents are accepted together, their full
-- blocks are in the areas, and closing puts together their image. One document more is answered as the definitions ask it behind them,
-- and 15 where the blocks with it don't fit: handed in with the others, it is the last of a longer list of such calls.
-- Assumes nothing.
use Rattle.format.specs.declared.refusal.Refusal.TheVariants.{NoRoom, CountMismatch}
use Rattle.std.specs.Prelude.{◌≡◌, ℕ, ◌^◌, ◌<◌, ◌≤◌, Bool, true, false, eqb, List, [], ◌∷◌, ◌++◌, length, Ok, Err}
use mathlib.Core.Path.{refl, sym, ◌∙◌}
use native.Mathlib.Omega.{arith}
use lib.ListN.{length-append}
use Rattle.format.specs.declared.IndexRecordOption.{IndexRecordOption}
use Rattle.format.specs.Basics.{Outcome, and_then, ask, put_at, fits_at, AllBelow}
use Rattle.format.specs.Written.{image}
use Rattle.format.specs.Accepted.{kept_in, take_doc, take_docs}
use Rattle.format.proofs.Outcome.{ok_same}
use Rattle.serializer.specs.declared.PostingsSerializer.{PostingsSerializer}
use Rattle.serializer.specs.Calls.{accepted, Begun}
use Rattle.serializer.specs.Whole.{full_blocks_of, blocks_fit}
use Rattle.serializer.specs.Writer.{Areas, option_of, taking, closing, take_all_docs}
use Rattle.serializer.proofs.document.OneDocument.{next_least, call-refused}
use Rattle.serializer.proofs.SingleCalls.BlocksAhead.{room}
use Rattle.serializer.proofs.SingleCalls.AllDocuments.{Ended, Answers, answers-room, answers-ok, answers-taken}
use Rattle.serializer.specs.Lists.{accepted_blocks}
use Rattle.serializer.proofs.SingleCalls.WritesList.{accepted-all, begun_skips, begun_postings, begun_option, begun_next, answers, ended-areas, ended-closes}

-- ---- one more at the end

and_then-same : {A : Type 0} (o : Outcome A) → and_then o (λ a. Ok a) ≡ o
unfolding and_then
and_then-same (Ok a) = refl
and_then-same (Err n) = refl

-- what follows each outcome alike follows them one behind the other
and_then_then : {A B C : Type 0} (f : A → Outcome B) (g : B → Outcome C) (h : A → Outcome C) → ((a : A) → h a ≡ and_then (f a) g) → (o : Outcome A)
    → and_then o h ≡ and_then (and_then o f) g
unfolding and_then
and_then_then f g h e (Ok a) = e a
and_then_then f g h e (Err n) = refl

docs-last : (option : IndexRecordOption) (least : ℕ) (ds fs : List ℕ) (d f : ℕ) → length ds ≡ length fs
    → take_docs option least (ds ++ (d ∷ [])) (fs ++ (f ∷ [])) ≡ and_then (take_docs option least ds fs) λ next. take_doc option next d f
unfolding take_docs and_then
docs-last option least [] [] d f e = and_then-same (take_doc option least d f)
docs-last option least [] (g ∷ fs) d f e = absurd (omega arith)
docs-last option least (c ∷ ds) [] d f e = absurd (omega arith)
docs-last option least (c ∷ ds) (g ∷ fs) d f e = and_then_then _ _ _ (λ next. docs-last option next ds fs d f (omega arith)) (take_doc option least c g)

all-last : (s : PostingsSerializer) (ds fs skips postings : List ℕ) (d f : ℕ) → length ds ≡ length fs
    → take_all_docs s (ds ++ (d ∷ [])) (fs ++ (f ∷ [])) skips postings
    ≡ and_then (take_all_docs s ds fs skips postings) λ a. taking a.state d f a.skips a.postings
unfolding take_all_docs and_then
all-last s [] [] skips postings d f e = and_then-same (taking s d f skips postings)
all-last s [] (g ∷ fs) skips postings d f e = absurd (omega arith)
all-last s (c ∷ ds) [] skips postings d f e = absurd (omega arith)
all-last s (c ∷ ds) (g ∷ fs) skips postings d f e =
    and_then_then _ _ _ (λ a. all-last a.state ds fs a.skips a.postings d f (omega arith)) (taking s c g skips postings)

below_last : (m : ℕ) (ns : List ℕ) (n : ℕ) → AllBelow m ns → n < m → AllBelow m (ns ++ (n ∷ []))
below_last m [] n a h = (h, tt)
below_last m (k ∷ ns) n a h = (a.0, below_last m ns n a.1 h)

-- ---- behind calls that were all answered yes

pub record TakenAll (mode : ℕ) (recording : Bool) (ds fs skips postings : List ℕ) (a : Areas) : Type 0 where
  pub least : ℕ
  pub docs_accepted : take_docs (kept_in mode recording) 0 ds fs ≡ Ok least
  pub fit : blocks_fit (kept_in mode recording) ds fs skips postings ≡ true
  pub skips_after : a.skips ≡ put_at 0 (full_blocks_of (kept_in mode recording) ds fs).skips skips
  pub postings_after : a.postings ≡ put_at 0 (full_blocks_of (kept_in mode recording) ds fs).postings postings
  pub closes : (announced : ℕ) (output : List ℕ)
      → closing a.state announced a.skips a.postings output
      ≡ (ask (eqb (length ds) announced) CountMismatch λ _.
      ask (fits_at 0 (image (kept_in mode recording) ds fs) output) NoRoom λ _. Ok (image (kept_in mode recording) ds fs))
  pub one_more : (d f : ℕ) → f < 2 ^ 32
      → accepted (taking a.state d f a.skips a.postings)
      ≡ accepted (and_then (take_doc (kept_in mode recording) least d f) λ next.
      ask (blocks_fit (kept_in mode recording) (ds ++ (d ∷ [])) (fs ++ (f ∷ [])) skips postings) NoRoom λ _. Ok next)

module _ {mode : ℕ} {recording : Bool} {s : PostingsSerializer} (begun : Begun mode recording s) (skips postings : List ℕ) (known : mode ≤ 1) where
  abbrev option : IndexRecordOption
  option = kept_in mode recording

  room-is : (ds fs : List ℕ) {least : ℕ} → take_docs option 0 ds fs ≡ Ok least
      → room (accepted_blocks mode recording ds fs) s skips postings ≡ blocks_fit option ds fs skips postings
  unfolding blocks_fit full_blocks_of
  room-is ds fs t = rw (accepted-all option 0 ds fs t, begun_skips begun, begun_postings begun)

  -- what the calls answer where the documents are accepted together
  accepted-calls : (ds fs : List ℕ) → AllBelow (2 ^ 32) fs → length ds ≡ length fs → {least : ℕ} → take_docs option 0 ds fs ≡ Ok least
      → Answers (Ended s ds fs skips postings) (blocks_fit option ds fs skips postings) (Ok least)
      (take_all_docs s ds fs skips postings)
  accepted-calls ds fs small as_many t = rw (room-is ds fs t, t) at (answers begun ds fs skips postings small known as_many)

  module _ (ds fs : List ℕ) (small : AllBelow (2 ^ 32) fs) (as_many : length ds ≡ length fs) where
    -- one document more, behind calls that ended
    module _ {r : Outcome Areas} (ended : Ended s ds fs skips postings r) (all : take_all_docs s ds fs skips postings ≡ r)
        {least : ℕ} (t : take_docs option 0 ds fs ≡ Ok least) (d f : ℕ) (below : f < 2 ^ 32) where
      abbrev ds' : List ℕ
      ds' = ds ++ (d ∷ [])

      abbrev fs' : List ℕ
      fs' = fs ++ (f ∷ [])

      abbrev taken : Outcome Areas
      taken = taking ended.areas.state d f ended.areas.skips ended.areas.postings

      -- it is asked as the definitions ask it
      asked : take_doc (option_of ended.areas.state) (next_least ended.areas.state) d f ≡ take_doc option least d f
      asked =
          let next = rw (begun_option begun, begun_next begun) at ended.next_is in
          rw (ended.option_is, begun_option begun, ok_same (sym next ∙ t))

      -- with it the calls are those of a longer list
      longer : take_all_docs s ds' fs' skips postings ≡ taken
      unfolding and_then
      longer = rw (all-last s ds fs skips postings d f as_many, all, ended.answer)

      longer_calls : {next : ℕ} → take_doc option least d f ≡ Ok next
          → Answers (Ended s ds' fs' skips postings) (blocks_fit option ds' fs' skips postings) (Ok next)
          (take_all_docs s ds' fs' skips postings)
      unfolding and_then
      longer_calls e =
          accepted-calls ds' fs' (below_last (2 ^ 32) fs f small below) (rw (length-append ds (d ∷ []), length-append fs (f ∷ []), as_many))
          (rw (docs-last option 0 ds fs d f as_many, t) e)

      room_for : {next : ℕ} → take_doc option least d f ≡ Ok next → (b : Bool) → blocks_fit option ds' fs' skips postings ≡ b
          → accepted taken ≡ accepted (ask b NoRoom λ _. Ok next)
      unfolding accepted ask
      room_for e true fit =
          let ended' = answers-ok (longer_calls e) fit refl in
          rw (sym longer ∙ ended'.answer)
      room_for e false fit = rw (sym longer ∙ answers-room (longer_calls e) fit)

      document_more : (o : Outcome ℕ) → take_doc option least d f ≡ o
          → accepted taken ≡ accepted (and_then o λ next. ask (blocks_fit option ds' fs' skips postings) NoRoom λ _. Ok next)
      unfolding accepted and_then
      document_more (Err n) e = rw (call-refused ended.held d f (asked ∙ e))
      document_more (Ok next) e = room_for e _ refl

    pub taken-all : {a : Areas} → take_all_docs s ds fs skips postings ≡ Ok a → TakenAll mode recording ds fs skips postings a
    unfolding full_blocks_of
    taken-all all =
        let k = answers-taken (answers begun ds fs skips postings small known as_many) all in
        let ended = k.3 in
        let every = accepted-all option 0 ds fs k.2 in
        let areas = ended-areas begun ds fs skips postings small known as_many ended every in
        rw (sym (ok_same (sym ended.answer ∙ all)))
        (record {
          least = k.0;
          docs_accepted = k.2;
          fit = sym (room-is ds fs k.2) ∙ k.1;
          skips_after = areas.0;
          postings_after = areas.1;
          closes = ended-closes begun ds fs skips postings small known as_many ended every;
          one_more = λ d f below. document_more ended refl k.2 d f below _ refl;
        })
