-- What an accepted list is: its ids rise, the frequencies that are kept are at least 1, and there are as many of these as of
-- those. Each is the answer to one question, read off document by document. Ids that rise below TERMINATED are no more than that.
-- Assumes nothing.
use Rattle.std.specs.Prelude.{Ok}
use mathlib.Core.Bool.{Bool, true, false, not, ◌||◌ as or, and-eq-true_iff, false≢true}
use mathlib.Core.List.{List, [], ◌∷◌}
use mathlib.Core.Path.{◌≡◌, refl, sym, ap}
use Prim.Native.Nat.{ℕ, ◌+◌, ◌-◌, ◌≤◌, ◌<◌, ◌^◌, min}
use native.Mathlib.Omega.{arith}
use borrow.Author.Tests.{leb-true, le-leb, eqb-true}
use lib.Dec.{leb, ltb}
use lib.ListN.{length, take, drop, length-take, length-drop}
use Rattle.format.specs.declared.IndexRecordOption.{IndexRecordOption}
use Rattle.format.specs.Basics.{last_of, TERMINATED, AllBelow}
use Rattle.format.specs.SkipEntry.{has_freq_of}
use Rattle.format.specs.Values.{rising, countable}
use Rattle.format.specs.Written.{image}
use Rattle.format.specs.Accepted.{known_mode_of, kept_in, begin, take_doc, take_docs, written, Accepted}
use Rattle.format.proofs.Values.{rising-cons, rising-take, rising-drop, countable-take, countable-drop}
use Rattle.format.proofs.Outcome.{refused≢ok, ok_same, ask-ok, and_then-ok}

-- a known mode is at most 1, and one that is at most 1 is known
pub known_mode_lem : (mode : ℕ) → mode ≤ 1 → known_mode_of mode ≡ true
unfolding known_mode_of
known_mode_lem mode h = le-leb mode 1 h

pub known_most : (mode : ℕ) → known_mode_of mode ≡ true → mode ≤ 1
unfolding known_mode_of
known_most mode h = leb-true mode 1 h

rising-length : (least : ℕ) (ds : List ℕ) → least ≤ TERMINATED → rising least ds ≡ true → least + length ds ≤ TERMINATED
rising-length least [] h r = omega arith
rising-length least (d ∷ ds) h r =
    let k = rising-cons least d ds r in
    omega (arith, k.above, rising-length (d + 1) ds (omega arith) k.rest)

pub accepted-length : {option : IndexRecordOption} {ds fs : List ℕ} → Accepted option 0 ds fs → length ds ≤ TERMINATED
accepted-length {ds = ds} a = omega (arith, rising-length 0 ds (omega arith) a.rises)

-- the first n documents, and the others

pub accepted-take : {option : IndexRecordOption} {least : ℕ} {ds fs : List ℕ} (n : ℕ) → Accepted option least ds fs
    → Accepted option least (take n ds) (take n fs)
accepted-take {least = least} {ds} {fs} n a =
    record {
      rises = rising-take least n ds a.rises;
      counts = λ k. countable-take n fs (a.counts k);
      as_many = simp length-take (ap (min n) a.as_many);
    }

pub accepted-drop : {option : IndexRecordOption} {least : ℕ} {ds fs : List ℕ} (n : ℕ) → 0 < n → Accepted option least ds fs
    → Accepted option (last_of 0 (take n ds) + 1) (drop n ds) (drop n fs)
accepted-drop {least = least} {ds} {fs} n h a =
    record {
      rises = rising-drop least n ds a.rises h;
      counts = λ k. countable-drop n fs (a.counts k);
      as_many = simp length-drop (ap (λ l. l - n) a.as_many);
    }

-- one document
pub record Taken (option : IndexRecordOption) (least d f next : ℕ) : Type 0 where
  pub below : ltb d TERMINATED ≡ true
  pub above : leb least d ≡ true
  pub counts : has_freq_of option ≡ true → leb 1 f ≡ true
  pub next_is : next ≡ d + 1

implied : (a b : Bool) → or (not a) b ≡ true → a ≡ true → b ≡ true
implied true b e h = e
implied false b e h = absurd (false≢true h)

pub take_doc-ok : (option : IndexRecordOption) (least d f : ℕ) {next : ℕ} → take_doc option least d f ≡ Ok next
    → Taken option least d f next
unfolding take_doc
take_doc-ok option least d f e =
    let p = ask-ok _ _ _ e in
    let q = ask-ok _ _ _ p.1 in
    let r = ask-ok _ _ _ q.1 in
    record { below = p.0; above = q.0; counts = implied _ _ r.0; next_is = sym (ok_same r.1) }

in-front : {option : IndexRecordOption} {least d f next : ℕ} {ds fs : List ℕ} → f < 2 ^ 32 → Taken option least d f next
    → Accepted option next ds fs → Accepted option least (d ∷ ds) (f ∷ fs)
unfolding rising countable
in-front {f = f} small t a =
    record {
      rises = (and-eq-true_iff _ _).1 ((and-eq-true_iff _ _).1 (t.above, t.below), rw t.next_is at a.rises);
      counts = λ k. (and-eq-true_iff _ _).1 ((and-eq-true_iff _ _).1 (t.counts k, le-leb f 4294967295 (omega arith)), a.counts k);
      as_many = omega (arith, a.as_many);
    }

take_docs-ok : (option : IndexRecordOption) (least : ℕ) (ds fs : List ℕ) {next : ℕ} → AllBelow (2 ^ 32) fs → length ds ≡ length fs
    → take_docs option least ds fs ≡ Ok next → Accepted option least ds fs
unfolding take_docs rising countable
take_docs-ok option least [] [] small e t = record { rises = refl; counts = λ k. refl; as_many = refl }
take_docs-ok option least [] (f ∷ fs) small e t = absurd (omega arith)
take_docs-ok option least (d ∷ ds) [] small e t = absurd (refused≢ok t)
take_docs-ok option least (d ∷ ds) (f ∷ fs) small e t =
    let p = and_then-ok _ _ t in
    in-front small.0 (take_doc-ok option least d f p.1) (take_docs-ok option p.0 ds fs small.1 (omega arith) p.2)

-- what is known of a list that is written
pub record Written (mode : ℕ) (recording : Bool) (ds fs bs : List ℕ) : Type 0 where
  pub mode_known : mode ≤ 1
  pub accepted : Accepted (kept_in mode recording) 0 ds fs
  pub bytes : bs ≡ image (kept_in mode recording) ds fs

pub written-ok : (mode : ℕ) (recording : Bool) (ds fs : List ℕ) {bs : List ℕ} → AllBelow (2 ^ 32) fs
    → written mode recording ds fs ≡ Ok bs → Written mode recording ds fs bs
unfolding written begin
written-ok mode recording ds fs small e =
    let p = and_then-ok _ _ e in
    let q = ask-ok _ _ _ p.1 in
    let option = ok_same q.1 in
    let r = ask-ok _ _ _ p.2 in
    let s = and_then-ok _ _ r.1 in
    record {
      mode_known = known_most mode q.0;
      accepted = rw (← option) at (take_docs-ok _ 0 ds fs small (eqb-true _ _ r.0) s.1);
      bytes = rw option (sym (ok_same s.2));
    }
