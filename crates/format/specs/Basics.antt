-- What all definitions share: what a call answers, a choice, lists by index, little-endian words, and TERMINATED.
-- Assumes nothing.
use Rattle.std.specs.Prelude.{Bool, true, false, List, [], ◌∷◌, ◌++◌, ℕ, zero, suc, ◌+◌, ◌*◌, ◌/◌, ◌%◌, ◌<◌, length, get_or, take, drop, leb, Option, None, Some, Result, Ok, Err}
use Rattle.format.specs.declared.refusal.Refusal.{Refusal}

-- END of document 01: the document at the end of a list
abbrev pub TERMINATED : ℕ
TERMINATED = 2147483647

-- a value, or the first question of document 01 that is answered no
abbrev pub Outcome : Type 0 → Type 0
Outcome A = Result A Refusal

-- the first refusal ends it
unfoldable pub and_then : {A B : Type 0} → Outcome A → (A → Outcome B) → Outcome B
and_then (Ok a) f = f a
and_then (Err r) f = Err r

-- a question: go on where the answer is yes, else refuse
unfoldable pub ask : {A : Type 0} → Bool → Refusal → (Bool → Outcome A) → Outcome A
ask true r go = go true
ask false r go = Err r

-- what an outcome brings, or what stood there before
unfoldable pub or_before : {A B : Type 0} → (A → B) → Outcome A → B → B
or_before f (Ok a) before = f a
or_before f (Err r) before = before

-- one of two; the other isn't computed
unfoldable pub choose : {A : Type 0} → Bool → (Bool → A) → (Bool → A) → A
choose true a b = a true
choose false a b = b true

-- f k, f (k + 1), .. , n of them
unfoldable pub tabulate_from : {A : Type 0} → ℕ → ℕ → (ℕ → A) → List A
tabulate_from zero k f = []
tabulate_from (suc n) k f = f k ∷ tabulate_from n (k + 1) f

unfoldable pub tabulate : {A : Type 0} → ℕ → (ℕ → A) → List A
unfolding tabulate_from
tabulate n f = tabulate_from n 0 f

-- the last element, z where there is none
unfoldable pub last_of : ℕ → List ℕ → ℕ
last_of z [] = z
last_of z (d ∷ ds) = last_of d ds

-- every element lies below m
abbrev pub AllBelow : ℕ → List ℕ → Type 0
AllBelow m [] = Unit {0}
AllBelow m (n ∷ ns) = (n < m) × AllBelow m ns

-- the four bytes from place p on as a number, lowest first
abbrev pub four_bytes : List ℕ → ℕ → ℕ
four_bytes bs p = get_or bs p 0 + 256 * get_or bs (p + 1) 0 + 65536 * get_or bs (p + 2) 0 + 16777216 * get_or bs (p + 3) 0

-- .. the 32-bit number at place p, whose bytes no goal shows unasked
unfoldable pub word : List ℕ → ℕ → ℕ
word bs p = four_bytes bs p

-- the four bytes of a 32-bit number, lowest first
unfoldable pub le32 : ℕ → List ℕ
le32 n = (n % 256) ∷ (n / 256 % 256) ∷ (n / 65536 % 256) ∷ (n / 16777216 % 256) ∷ []

-- whether the bytes bs fit into an area from place p on
unfoldable pub fits_at : ℕ → List ℕ → List ℕ → Bool
fits_at p bs area = leb (p + length bs) (length area)

-- the area with bs in it from place p on, every other byte as before; the area itself where they don't fit
unfoldable pub put_at : ℕ → List ℕ → List ℕ → List ℕ
unfolding choose fits_at
put_at p bs area = choose (fits_at p bs area) (λ _. take p area ++ (bs ++ drop (p + length bs) area)) (λ _. area)

-- the place behind them
unfoldable pub next_at : ℕ → List ℕ → List ℕ → Option ℕ
unfolding choose fits_at
next_at p bs area = choose (fits_at p bs area) (λ _. Some (p + length bs)) (λ _. None)
