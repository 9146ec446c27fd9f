-- Admission is exact, of promise 1: opening and then a walk by `advance` over the whole image meets the refusal that the definitions of
-- document 01 read from it, at the place where they read it, and shows the documents and frequencies before it in order; on a sound
-- image it comes to the end and meets none. This holds of every image, in every requested mode. With frequencies requested what it
-- meets is `soundness`, which the contract of `validate` answers. Each call of the walk stands on a block that is read, or has met the
-- refusal (WalkByCalls.antt).
-- Assumes nothing.
use Rattle.format.specs.declared.refusal.Refusal.{Refusal}
use Rattle.std.specs.Prelude.{◌≡◌, ℕ, suc, ◌+◌, ◌<◌, ◌≤◌, ◌⊎◌, ◌↔◌, false, List, length, Ok, Err}
use mathlib.Core.Logic.{inl, inr, ⊎_elim}
use mathlib.Core.Path.{refl, sym, ap, subst, ◌∙◌}
use native.Mathlib.Nat.{eq-or-lt_of_le}
use native.Mathlib.Decide.{dec_le}
use native.Mathlib.Omega.{arith}
use Rattle.format.specs.declared.Term.{Term}
use Rattle.format.specs.Basics.{Outcome, TERMINATED}
use Rattle.format.specs.Layout.{full_blocks_of}
use Rattle.format.specs.Reading.{Reading, nothing, reading, soundness, docs_of, freqs_of}
use Rattle.format.proofs.Opened.{soundness-is}
use Rattle.format.proofs.Outcome.{refused≢ok}
use Rattle.segment_postings.specs.declared.Moved.{Moved}
use Rattle.segment_postings.specs.declared.SegmentPostings.{SegmentPostings}
use Rattle.segment_postings.specs.Cursor.{no_hit, moved, blank, opening}
use Rattle.segment_postings.specs.Admission.{walk_at, Shows, Meets, MeetsNone}
use Rattle.segment_postings.proofs.Simulation.CallsSimulate.{moved-refused}
use Rattle.segment_postings.proofs.Admission.WalkByCalls.{walk_at-first, unopened, Met, Comes, stands, met, stands-shows, stands-ends, met-is, comes}

module _ (bs : List ℕ) (t : Term) where
  abbrev docs : List ℕ
  docs = docs_of (reading t bs).blocks

  abbrev freqs : List ℕ
  freqs = freqs_of (reading t bs).blocks

  abbrev verdict : Outcome (Unit {0})
  verdict = (reading t bs).verdict

  -- opening is refused, and nothing is read
  unread : {r : Refusal} → opening bs t ≡ Err r → (length docs ≡ 0) × (verdict ≡ Err r) × ((walk_at bs t 0).answer ≡ Err r)
  unfolding nothing docs_of
  unread e =
      let p = unopened bs t e in (
        ap (λ (r : Reading). length (docs_of r.blocks)) p,
        ap (λ (r : Reading). r.verdict) p,
        ap (λ (m : Moved). m.answer) (walk_at-first bs t ∙ ap (moved t blank no_hit) e ∙ moved-refused t blank no_hit _),
      )

  opens-or-not : ((c : SegmentPostings) × (opening bs t ≡ Ok c)) ⊎ ((r : Refusal) × (opening bs t ≡ Err r))
  opens-or-not = go (opening bs t) refl
    where
      go : (o : Outcome SegmentPostings) → opening bs t ≡ o
          → ((c : SegmentPostings) × (opening bs t ≡ Ok c)) ⊎ ((r : Refusal) × (opening bs t ≡ Err r))
      go (Ok c) e = inl (c, e)
      go (Err r) e = inr (r, e)

  -- ---- the documents and frequencies that are read, in order, with the blocks unpacked and the entries read so far

  shows-at : {k : ℕ} → Comes bs t k → k < length docs → Shows bs t k
  shows-at {k} (stands s) h = elim (dec_le t.count k) [
    | yes past ↦ absurd (omega (arith, (stands-ends bs t s past).1))
    | no short ↦ (stands-shows bs t s (omega arith)).1
  ]
  shows-at (met m) h = absurd (omega (arith, m.behind))

  pub walk-shows-all : (k : ℕ) → k < length docs → Shows bs t k
  walk-shows-all k h = ⊎_elim (λ o. shows-at (comes bs t o.1 k) h) (λ o. absurd (omega (arith, (unread o.1).0))) opens-or-not

  -- ---- the refusal, right behind them

  -- a walk that has come behind them met it
  behind-met : {r : Refusal} {k : ℕ} → verdict ≡ Err r → Comes bs t k → length docs ≤ k → (j : ℕ) × (k ≡ suc j) × Met bs t r j
  behind-met {k = k} some (stands s) h = elim (dec_le t.count k) [
    | yes past ↦ absurd (refused≢ok (sym some ∙ (stands-ends bs t s past).0))
    | no short ↦ absurd (omega (arith, (stands-shows bs t s (omega arith)).0))
  ]
  behind-met {r} some (met {r = s} {k = j} m) h =
      let read = m.read in
      let same : s ≡ r = cc in
      (j, refl, rw (← same) m)

  pub walk_meets : {r : Refusal} → verdict ≡ Err r → (walk_at bs t (length docs)).answer ≡ Err r
  walk_meets {r} some =
      ⊎_elim
      (λ o.
      let p = behind-met some (comes bs t o.1 (length docs)) (omega arith) in
      rw p.1 (ap (λ (m : Moved). m.answer) (met-is bs t p.2)))
      (λ o.
      let p = unread o.1 in
      let read = p.1 in
      let same : o.0 ≡ r = cc in
      rw (p.0, ← same) p.2)
      opens-or-not

  -- .. and from there on each step, the cursor staying, unless opening was refused and there is no cursor
  pub walk-stays : {r : Refusal} → verdict ≡ Err r → 0 < length docs → (k : ℕ) → length docs ≤ suc k
      → walk_at bs t (suc k) ≡ record { answer = Err r; cursor = (walk_at bs t k).cursor }
  walk-stays {r} some many k h =
      ⊎_elim
      (λ o.
      let p = behind-met some (comes bs t o.1 (suc k)) h in
      let same : p.0 ≡ k = omega (arith, p.1) in
      met-is bs t (subst (Met bs t r) same p.2))
      (λ o. absurd (omega (arith, (unread o.1).0)))
      opens-or-not

  -- ---- the end, where there is none

  -- call k is at the end, with all blocks unpacked and all entries read
  abbrev Ends : ℕ → Type 0
  Ends k = (walk_at bs t k).answer ≡ Ok (record { doc = TERMINATED; freq = 0; unpacked = full_blocks_of t + 1; entries = full_blocks_of t; hit = false })

  ends_at : {k : ℕ} → verdict ≡ Ok tt → Comes bs t k → length docs ≤ k → Ends k
  ends_at {k} none (stands s) h = elim (dec_le t.count k) [
    | yes past ↦ (stands-ends bs t s past).2
    | no short ↦ absurd (omega (arith, (stands-shows bs t s (omega arith)).0))
  ]
  ends_at none (met m) h = absurd (refused≢ok (sym m.read ∙ none))

  pub walk_ends : verdict ≡ Ok tt → (k : ℕ) → length docs ≤ k → Ends k
  walk_ends none k h =
      ⊎_elim (λ o. ends_at none (comes bs t o.1 k) h) (λ o. absurd (refused≢ok (sym (unread o.1).1 ∙ none))) opens-or-not

  -- ---- the first refusal of the walk

  shown_once : {k : ℕ} {r : Refusal} → k < length docs → (walk_at bs t k).answer ≡ Err r → ⊥
  shown_once {k} h e = refused≢ok (sym e ∙ walk-shows-all k h)

  met-none : verdict ≡ Ok tt → MeetsNone bs t
  met-none none k r e = elim (dec_le (length docs) k) [
    | yes past ↦ refused≢ok (sym e ∙ walk_ends none k past)
    | no short ↦ shown_once (omega arith) e
  ]

  met_some : {r : Refusal} → verdict ≡ Err r → Meets bs t r
  met_some some = record { call = length docs; refuses = walk_meets some; first = λ k other h e. shown_once h e }

  -- two that are first are one
  met_once : {r s : Refusal} → Meets bs t r → Meets bs t s → r ≡ s
  met_once p q = elim (dec_le p.call q.call) [
    | yes h ↦ ⊎_elim
        (λ (same : p.call ≡ q.call). let a = p.refuses in let b = q.refuses in cc)
        (λ l. absurd (q.first p.call _ l p.refuses))
        (eq-or-lt_of_le h)
    | no h ↦ absurd (p.first q.call _ (omega arith) q.refuses)
  ]

  pub meets_exactly : (r : Refusal) → (verdict ≡ Err r) ↔ Meets bs t r
  meets_exactly r = (met_some, go verdict refl)
    where
      go : (o : Outcome (Unit {0})) → verdict ≡ o → Meets bs t r → o ≡ Err r
      go (Ok tt) e p = absurd (met-none e p.call r p.refuses)
      go (Err s) e p = ap Err (met_once (met_some e) p)

  pub none_exactly : (verdict ≡ Ok tt) ↔ MeetsNone bs t
  none_exactly = (met-none, go verdict refl)
    where
      go : (o : Outcome (Unit {0})) → verdict ≡ o → MeetsNone bs t → o ≡ Ok tt
      go (Ok tt) e never = refl
      go (Err r) e never = absurd (never (length docs) r (walk_meets e))

-- ---- admission

module _ (mode count : ℕ) (bs : List ℕ) where
  abbrev term : Term
  term = record { mode = mode; requested = 1; count = count }

  -- an image is refused by a question just where the walk meets that refusal first
  pub admission_refuses : (r : Refusal) → (soundness mode count bs ≡ Err r) ↔ Meets bs term r
  admission_refuses r = rw soundness-is (meets_exactly bs term r)

  -- .. and admitted just where it meets no refusal
  pub admission_admits : (soundness mode count bs ≡ Ok tt) ↔ MeetsNone bs term
  admission_admits = rw soundness-is (none_exactly bs term)
