-- Laws of taking a document. What is asked is asked in turn, and the first no ends it; what was answered yes says that the waiting ids
-- rise and that the document's lies above them, so that a block that it fills rises too. Whether that block has room decides what is
-- left behind.
-- Assumes nothing.
use Rattle.format.specs.declared.refusal.Refusal.{Refusal}
use Rattle.format.specs.declared.refusal.Refusal.TheVariants.{NoRoom, StateBroken}
use Rattle.std.specs.Prelude.{◌≡◌, ℕ, suc, ◌+◌, ◌-◌, ◌<◌, ◌≤◌, Bool, true, false, ltb, leb, List, [], ◌∷◌, length, take, set, Ok, Err, Some, None}
use mathlib.Core.Path.{refl, sym, ap, subst, ◌∙◌}
use native.Mathlib.Omega.{arith}
use lib.ListN.{length-set, drop_of_length-le}
use lib.Seq.{length-take-le, set_split, get_or-set_same}
use borrow.Author.Tests.{le-leb, lt-ltb, le-ltb, leb-true, ltb-true}
use Rattle.format.specs.declared.IndexRecordOption.{IndexRecordOption}
use Rattle.std.specs.List.{slice_get}
use Rattle.std.proofs.lemmas.Option.{none-some, slice_get-get_or, slice_get_within, get_or_from_slice_get}
use Rattle.format.specs.Basics.{Outcome, and_then, ask, choose, last_of, put_at, TERMINATED, or_before}
use Rattle.format.specs.Values.{rising}
use Rattle.format.specs.Accepted.{take_doc}
use Rattle.format.proofs.Outcome.{refused≢ok, ask-ok, and_then-ok}
use Rattle.format.proofs.Values.{rising-append, rising-last}
use Rattle.serializer.specs.declared.PostingsSerializer.{PostingsSerializer}
use Rattle.serializer.specs.declared.block.Places.{Places}
use Rattle.serializer.specs.Calls.{progress_of_of, progressed, SettledIn, TookIn}
use Rattle.serializer.specs.Pieces.{asking, behind_block_of, behind_both, BlockWritten, block_fits}
use Rattle.format.specs.Written.{entry_of, block_of}
use Rattle.serializer.specs.Writer.{Areas, bounds_hold, in_bounds_of, option_of, first_least_of, least_after_of, waiting_docs, stored, finished, taking, emptied}
use Rattle.serializer.proofs.block.BlockPlaced.{last-at}
use Rattle.serializer.proofs.bounds.Question16.{few, waiting_rises}
use Rattle.serializer.proofs.list.Blocks.{least_after_of-last}

-- ---- the least id that may come

pub least-none : (least : ℕ) (ds : List ℕ) → None ≡ slice_get ds (length ds - 1) → least_after_of least ds ≡ least
unfolding least_after_of
least-none least [] e = refl
least-none least (d ∷ ds) e = absurd (none-some _ (e ∙ slice_get-get_or (d ∷ ds) _ 0 (omega arith)))

pub least-some : (least : ℕ) (ds : List ℕ) {d : ℕ} → Some d ≡ slice_get ds (length ds - 1) → least_after_of least ds ≡ d + 1
least-some least ds e =
    let some = slice_get_within ds (length ds - 1) _ (sym e) in
    least_after_of-last least ds (omega arith) ∙ rw (last-at ds, get_or_from_slice_get ds _ _ 0 (sym e))

-- ---- what is asked

module _ (s : PostingsSerializer) (d f : ℕ) where
  abbrev asked : Outcome ℕ
  asked = take_doc (option_of s) (least_after_of (first_least_of s) (waiting_docs s)) d f

  module _ (n m : ℕ) where
    pub asking_broken : bounds_hold s n m ≡ false → asking s d f n m ≡ Err StateBroken
    unfolding asking ask
    asking_broken e = rw e

    pub asking-refused : {k : Refusal} → bounds_hold s n m ≡ true → asked ≡ Err k → asking s d f n m ≡ Err k
    unfolding asking ask and_then
    asking-refused e r = rw (e, r)

    pub asking-full : {k : ℕ} → bounds_hold s n m ≡ true → asked ≡ Ok k → TERMINATED ≤ s.taken → asking s d f n m ≡ Err StateBroken
    unfolding asking ask and_then
    asking-full e r h = rw (e, r, le-ltb _ _ h)

    pub asking-ok : {k : ℕ} → bounds_hold s n m ≡ true → asked ≡ Ok k → s.taken < TERMINATED → asking s d f n m ≡ Ok tt
    unfolding asking ask and_then
    asking-ok e r h = rw (e, r, lt-ltb _ _ h)

-- .. and what a yes says
pub record Admitted (s : PostingsSerializer) (d : ℕ) : Type 0 where
  pub waits : s.waiting ≤ 127
  pub rises : rising (first_least_of s) (waiting_docs s) ≡ true
  pub below : d < TERMINATED
  pub above : least_after_of (first_least_of s) (waiting_docs s) ≤ d
  pub not_full : s.taken < TERMINATED

pub admitted : (s : PostingsSerializer) (d f n m : ℕ) → asking s d f n m ≡ Ok tt → Admitted s d
unfolding asking take_doc
admitted s d f n m e =
    let bounds = ask-ok (bounds_hold s n m) StateBroken _ e in
    let doc = and_then-ok _ _ bounds.1 in
    let below = ask-ok (ltb d TERMINATED) _ _ doc.1 in
    let above = ask-ok (leb (least_after_of (first_least_of s) (waiting_docs s)) d) _ _ below.1 in
    let not_full = ask-ok (ltb s.taken TERMINATED) _ _ doc.2 in
    record {
      waits = few s n m bounds.0;
      rises = waiting_rises s n m bounds.0;
      below = ltb-true _ _ below.0;
      above = leb-true _ _ above.0;
      not_full = ltb-true _ _ not_full.0;
    }

-- ---- what taking leaves

module _ (s : PostingsSerializer) (d f : ℕ) (skips postings : List ℕ) where
  -- the questions come before everything else
  first : (b : Bool) (o : Outcome ℕ) (l : Bool) (rest : Outcome Areas)
      → ask b StateBroken (λ _. and_then o λ _. ask l StateBroken λ _. rest)
      ≡ and_then {A = Unit {0}} (ask b StateBroken λ _. and_then o λ _. ask l StateBroken λ _. Ok tt) λ _. rest
  unfolding ask and_then
  first false o l rest = refl
  first true (Err k) l rest = refl
  first true (Ok a) false rest = refl
  first true (Ok a) true rest = refl

  abbrev taken : Outcome Areas
  taken =
      choose (ltb s.waiting 127)
      (λ _. Ok (record { state = stored s d f; skips = skips; postings = postings }))
      (λ _. finished (stored s d f) (first_least_of s) skips postings)

  taking-is : taking s d f skips postings ≡ and_then (asking s d f (length skips) (length postings)) (λ _. taken)
  unfolding taking asking in_bounds_of
  taking-is = first (bounds_hold s (length skips) (length postings)) (asked s d f) (ltb s.taken TERMINATED) taken

  pub taking-refused : {k : Refusal} → asking s d f (length skips) (length postings) ≡ Err k → taking s d f skips postings ≡ Err k
  unfolding and_then
  taking-refused e = rw (taking-is, e)

  pub taking-waits : asking s d f (length skips) (length postings) ≡ Ok tt → s.waiting < 127
      → taking s d f skips postings ≡ Ok (record { state = stored s d f; skips = skips; postings = postings })
  unfolding and_then choose
  taking-waits e h = rw (taking-is, e, lt-ltb _ _ h)

  pub taking_fills : asking s d f (length skips) (length postings) ≡ Ok tt → 127 ≤ s.waiting
      → taking s d f skips postings ≡ finished (stored s d f) (first_least_of s) skips postings
  unfolding and_then choose
  taking_fills e h = rw (taking-is, e, le-ltb _ _ h)

-- ---- what finishing a block leaves

-- the answer of `write_block` says whether the block had room
without_room : (t : Bool) (at : Places) {k : Refusal} → Err k ≡ choose t (λ _. Ok at) (λ _. Err NoRoom) → (t ≡ false) × (k ≡ NoRoom)
unfolding choose
without_room true at e = absurd (refused≢ok e)
without_room false at e = (refl, cc)

had-room : (t : Bool) (at : Places) {at' : Places} → Ok at' ≡ choose t (λ _. Ok at) (λ _. Err NoRoom) → (t ≡ true) × (at' ≡ at)
unfolding choose
had-room true at e = (refl, cc)
had-room false at e = absurd (refused≢ok (sym e))

pub settled_refused : (docs freqs skips postings : List ℕ) {o : Outcome Areas} {n : Refusal} → o ≡ Err n
    → SettledIn o docs freqs skips postings docs freqs skips postings (Err n)
unfolding progressed or_before
settled_refused docs freqs skips postings e =
    record { answer = rw e; docs_after = rw e; freqs_after = rw e; skips_after = rw e; postings_after = rw e }

pub settled_ok : (docs freqs skips postings : List ℕ) {o : Outcome Areas} {a : Areas} → o ≡ Ok a
    → SettledIn o docs freqs skips postings a.state.docs a.state.freqs a.skips a.postings (Ok (progress_of_of a.state))
unfolding progressed or_before
settled_ok docs freqs skips postings e =
    record { answer = rw e; docs_after = rw e; freqs_after = rw e; skips_after = rw e; postings_after = rw e }

module _ (full : PostingsSerializer) (least : ℕ) (skips postings docs freqs : List ℕ) where
  abbrev entry : List ℕ
  entry = entry_of (option_of full) least full.docs full.freqs

  abbrev block : List ℕ
  block = block_of (option_of full) least full.docs full.freqs

  abbrev at : Places
  at = record { skips = full.skips_at; postings = full.postings_at }

  abbrev fits : Bool
  fits = block_fits (option_of full) least full.docs full.freqs at skips postings

  abbrev Written : (skips' postings' : List ℕ) → Outcome Places → Type 0
  Written skips' postings' r = BlockWritten (option_of full) least full.docs full.freqs at skips postings skips' postings' r

  finished-is : finished full least skips postings
      ≡ (ask fits NoRoom λ _.
      Ok (record {
        state = emptied full (behind_both entry block at);
        skips = put_at full.skips_at entry skips;
        postings = put_at full.postings_at block postings;
      }))
  unfolding finished block_fits
  finished-is = refl

  finish_refused : {skips' postings' : List ℕ} {k : Refusal} → Written skips' postings' (Err k)
      → SettledIn (finished full least skips postings) docs freqs skips postings docs freqs skips' postings' (Err k)
  unfolding ask choose
  finish_refused w =
      let short = without_room fits _ w.placed in
      rw (w.skips_after, w.postings_after, short.0) (settled_refused docs freqs skips postings (rw (finished-is, short.0, short.1)))

  finish_done : {skips' postings' : List ℕ} {next : Places} → Written skips' postings' (Ok next)
      → SettledIn (finished full least skips postings) docs freqs skips postings full.docs full.freqs skips' postings'
      (Ok (progress_of_of (emptied full next)))
  unfolding ask choose emptied
  finish_done w =
      let room = had-room fits _ w.placed in
      rw (w.skips_after, w.postings_after, room.0, room.1) (settled_ok docs freqs skips postings (rw (finished-is, room.0)))

-- ---- the block that a document fills

module _ (s : PostingsSerializer) (d f : ℕ) (skips postings : List ℕ) (may : asking s d f (length skips) (length postings) ≡ Ok tt)
    (many : 127 ≤ s.waiting) (sized : length s.docs ≡ 128) where
  -- it is the last of its block
  last_place : s.waiting ≡ 127
  last_place = omega (arith, (admitted s d f _ _ may).waits)

  waiting_rise : rising (first_least_of s) (take 127 s.docs) ≡ true
  unfolding waiting_docs
  waiting_rise = subst (λ (w : ℕ). rising (first_least_of s) (take w s.docs) ≡ true) last_place (admitted s d f _ _ may).rises

  long : length (take 127 s.docs) ≡ 127
  long = length-take-le 127 s.docs (omega arith)

  -- the least id that its first document may have lies below TERMINATED
  pub least-small : first_least_of s < TERMINATED
  least-small =
      let last = rising-last (first_least_of s) (take 127 s.docs) waiting_rise (omega (arith, long)) in
      omega arith

  pub filled-rises : rising (first_least_of s) (set s.docs 127 d) ≡ true
  unfolding rising waiting_docs
  filled-rises =
      let ds = take 127 s.docs in
      let a = admitted s d f _ _ may in
      let h : 0 < length ds = omega (arith, long) in
      let none : length s.docs ≤ suc 127 = omega arith in
      let behind = subst (λ (w : ℕ). least_after_of (first_least_of s) (take w s.docs) ≤ d) last_place a.above in
      let above : last_of 0 ds + 1 ≤ d = rw (← least_after_of-last (first_least_of s) ds h) behind in
      rw (
        set_split s.docs 127 d (omega arith),
        drop_of_length-le s.docs none,
        rising-append (first_least_of s) ds (d ∷ []) h,
        waiting_rise,
        le-leb _ _ above,
        lt-ltb _ _ a.below,
      )

  filled-last : last_of 0 (set s.docs 127 d) ≡ d
  filled-last = last-at (set s.docs 127 d) ∙ rw (length-set, sized) (get_or-set_same s.docs 127 d 0 (omega arith))

  -- the block that is written is that of the state with the document in its place
  module _ {option : IndexRecordOption} {least : ℕ} {ds fs skips' postings' : List ℕ} {r : Outcome Places} (Option-is : option ≡ option_of s)
      (least_is : least ≡ first_least_of s) (ds-are : ds ≡ set s.docs 127 d) (fs-are : fs ≡ set s.freqs 127 f)
      (w : BlockWritten option least ds fs (record { skips = s.skips_at; postings = s.postings_at }) skips postings skips' postings' r) where
    docs-stored : ds ≡ (stored s d f).docs
    unfolding stored
    docs-stored = ds-are ∙ ap (λ (w : ℕ). set s.docs w d) (sym last_place)

    freqs-stored : fs ≡ (stored s d f).freqs
    unfolding stored
    freqs-stored = fs-are ∙ ap (λ (w : ℕ). set s.freqs w f) (sym last_place)

    block-stored : Written (stored s d f) (first_least_of s) skips postings s.docs s.freqs skips' postings' r
    unfolding stored option_of
    block-stored = rw (Option-is, least_is, docs-stored, freqs-stored) at w

    -- there is no room
    pub fill_refused : {k : Refusal} → r ≡ Err k → TookIn s d f skips postings s.docs s.freqs skips' postings' (Err k)
    fill_refused e =
        rw (taking_fills s d f skips postings may many)
        (finish_refused (stored s d f) (first_least_of s) skips postings s.docs s.freqs (rw e at block-stored))

    -- .. or the block is written
    pub fill_done : {next : Places} → r ≡ Ok next
        → TookIn s d f skips postings ds fs skips' postings' (Ok (behind_block_of (progress_of_of s) d next))
    unfolding stored emptied progress_of_of
    fill_done e =
        let done = finish_done (stored s d f) (first_least_of s) skips postings s.docs s.freqs (rw e at block-stored) in
        let last = ap (last_of 0) (sym docs-stored ∙ ds-are) ∙ filled-last in
        rw (taking_fills s d f skips postings may many, docs-stored, freqs-stored) (rw last at done)
