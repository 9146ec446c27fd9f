-- Lists by index: how long `tabulate n f` is, what stands in it, how it grows, and what a loop that stores f i at i keeps.
-- What goes by recursion is proved of `tabulate_from`, over its first index, and read at 0.
-- Assumes nothing.
use mathlib.Core.Path.{◌≡◌, refl, sym, ap, ◌∙◌}
use mathlib.Core.List.{List, [], ◌∷◌, ◌++◌, map}
use Prim.Native.Nat.{ℕ, zero, suc, ◌+◌, ◌<◌, suc-le-suc}
use native.Mathlib.Nat.{add-zero, zero-add, add_assoc, zero-lt-suc, le_of_suc-le-suc, not-suc-le-zero}
use native.Mathlib.Numerals.{add-one, one-add}
use native.Mathlib.Omega.{arith}
use lib.ListN.{length, get_or, drop, set}
use lib.Seq.{drop-cons, set_at, append_snoc, ext_get_or}
use Rattle.format.specs.Basics.{tabulate_from, tabulate, AllBelow}

from-length : {A : Type 0} (n k : ℕ) (f : ℕ → A) → length (tabulate_from n k f) ≡ n
unfolding tabulate_from
from-length zero k f = refl
from-length (suc n) k f = ap suc (from-length n (k + 1) f)

from_at : {A : Type 0} (n k : ℕ) (f : ℕ → A) (i : ℕ) (d : A) → i < n → get_or (tabulate_from n k f) i d ≡ f (k + i)
unfolding tabulate_from
from_at zero k f i d h = absurd (not-suc-le-zero h)
from_at (suc n) k f zero d h = ap f (sym (add-zero k))
from_at (suc n) k f (suc i) d h = from_at n (k + 1) f i d (le_of_suc-le-suc h) ∙ ap f (omega arith)

from_suc : {A : Type 0} (n k : ℕ) (f : ℕ → A) → tabulate_from (suc n) k f ≡ tabulate_from n k f ++ (f (k + n) ∷ [])
unfolding tabulate_from
from_suc zero k f = ap (λ (i : ℕ). f i ∷ []) (sym (add-zero k))
from_suc (suc n) k f =
    ap (λ (l : List _). f k ∷ l) (from_suc n (k + 1) f ∙ ap (λ (i : ℕ). tabulate_from n (k + 1) f ++ (f i ∷ [])) (omega arith))

from-below : {m : ℕ} (n k : ℕ) (f : ℕ → ℕ) → ((i : ℕ) → i < n → f (k + i) < m) → AllBelow m (tabulate_from n k f)
unfolding tabulate_from
from-below zero k f h = tt
from-below (suc n) k f h =
    (rw add-zero at (h 0 (zero-lt-suc n)), from-below n (k + 1) f (λ i b. rw (add_assoc, one-add) (h (suc i) (suc-le-suc b))))

from-map : {A B : Type 0} (n k : ℕ) (f : ℕ → A) (g : A → B) → map g (tabulate_from n k f) ≡ tabulate_from n k (λ i. g (f i))
unfolding tabulate_from
from-map zero k f g = refl
from-map (suc n) k f g = ap (λ (l : List _). g (f k) ∷ l) (from-map n (k + 1) f g)

pub tabulate-length : {A : Type 0} (n : ℕ) (f : ℕ → A) → length (tabulate n f) ≡ n
unfolding tabulate
tabulate-length n f = from-length n 0 f

pub tabulate-at : {A : Type 0} (n : ℕ) (f : ℕ → A) (i : ℕ) (d : A) → i < n → get_or (tabulate n f) i d ≡ f i
unfolding tabulate
tabulate-at n f i d h = from_at n 0 f i d h ∙ ap f (zero-add i)

pub tabulate-suc : {A : Type 0} (n : ℕ) (f : ℕ → A) → tabulate (suc n) f ≡ tabulate n f ++ (f n ∷ [])
unfolding tabulate
tabulate-suc n f = from_suc n 0 f ∙ ap (λ (i : ℕ). tabulate_from n 0 f ++ (f i ∷ [])) (zero-add n)

pub tabulate-more : {A : Type 0} (n : ℕ) (f : ℕ → A) → tabulate (n + 1) f ≡ tabulate n f ++ (f n ∷ [])
tabulate-more n f = rw add-one (tabulate-suc n f)

-- after i turns of a loop that stores f i at i the list l is `tabulate i f ++ drop i l`
pub tabulate-store : {A : Type 0} (f : ℕ → A) (l : List A) (i : ℕ) → i < length l
    → set (tabulate i f ++ drop i l) i (f i) ≡ tabulate (i + 1) f ++ drop (i + 1) l
tabulate-store f l i h =
    ap (λ (t : List _). set (tabulate i f ++ t) i (f i)) (drop-cons l i (f i) h)
    ∙ set_at (tabulate i f) _ (drop (suc i) l) (f i) i (tabulate-length i f)
    ∙ rw (add-one, tabulate-suc) (sym (append_snoc (tabulate i f) (f i) (drop (suc i) l)))

-- a list is `tabulate n f` if it is n long and has f i at i
pub tabulate-is : {A : Type 0} (n : ℕ) (f : ℕ → A) (l : List A) (d : A) → length l ≡ n
    → ((i : ℕ) → i < n → f i ≡ get_or l i d) → tabulate n f ≡ l
tabulate-is n f l d e h =
    ext_get_or d (tabulate n f) l (tabulate-length n f ∙ sym e)
    (λ i b. let b' : i < n = rw tabulate-length at b in tabulate-at n f i d b' ∙ h i b')

pub tabulate-same : {A : Type 0} (n : ℕ) (f g : ℕ → A) → ((i : ℕ) → i < n → f i ≡ g i) → tabulate n f ≡ tabulate n g
tabulate-same n f g h =
    tabulate-is n f (tabulate n g) (g 0) (tabulate-length n g) (λ i b. h i b ∙ sym (tabulate-at n g i (g 0) b))

pub tabulate-below : {m : ℕ} (n : ℕ) (f : ℕ → ℕ) → ((i : ℕ) → i < n → f i < m) → AllBelow m (tabulate n f)
unfolding tabulate
tabulate-below n f h = from-below n 0 f (λ i b. rw zero-add (h i b))

pub tabulate-map : {A B : Type 0} (n : ℕ) (f : ℕ → A) (g : A → B) → map g (tabulate n f) ≡ tabulate n (λ i. g (f i))
unfolding tabulate
tabulate-map n f g = from-map n 0 f g
