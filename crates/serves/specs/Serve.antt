-- What one target is asked and gets, and what all targets get, with a stand-in for the cursor.
--     asks_one, asks_all      what is asked of one target, behind those before it, and of all: refusal 10, 17 or 0
--     any_too_large, falling     the two questions by themselves, for the law of asks_all (`proofs/Asking.antt`)
--     opens, opens_docs, opens_freqs      opening: the numbers or a refusal, and what the arrays hold
--     turns, turns_docs, turns_freqs      the turn of one target: likewise
--     ends                  what is handed out at the end
--     first, next           opening and a turn, as `thin` has them: the state is the numbers and the two arrays
--     served, seeks         all targets, from what was asked of them, and from nothing
--     answer, list, Leaves  what is handed out of that, the list that is left, and how a contract says both
-- Assumes nothing.
use Rattle.std.specs.Prelude.{◌≡◌, ℕ, ◌+◌, Bool, true, false, cond, ◌||◌ as or, List, [], ◌∷◌, get_or, set, replicate, length, ltb, eqb}
use Rattle.thin.specs.Fold as Fold
use Rattle.thin.specs.Fold.{Ran, pass, begins}
use Rattle.serves.specs.declared.Target.{Target}
use Rattle.serves.specs.declared.Term.{Term}
use Rattle.serves.specs.declared.Numbers.{Numbers}
use Rattle.serves.specs.declared.Asked.{Asked}
use Rattle.serves.specs.declared.Opened.{Opened}
use Rattle.serves.specs.declared.Turn.{Turn}
use Rattle.serves.specs.declared.Served.{Served}

-- ---- 10, then 17
abbrev pub unasked : Asked
unasked = record { refusal = 0; last = 0 }

unfoldable pub asks_one : Asked → Target → Asked
asks_one a t = record {
  refusal = cond (ltb 2147483647 t.id) 10 (cond (eqb a.refusal 0) (cond (ltb t.id a.last) 17 0) a.refusal);
  last = t.id;
}

abbrev pub asks_all : List Target → Asked
asks_all ts = pass (λ a t. asks_one a t) unasked ts

-- some id is above 2147483647
abbrev pub any_too_large : List Target → Bool
any_too_large [] = false
any_too_large (t ∷ ts) = or (ltb 2147483647 t.id) (any_too_large ts)

-- some id is below the one before, the first below `last`
abbrev pub falling : ℕ → List Target → Bool
falling last [] = false
falling last (t ∷ ts) = or (ltb t.id last) (falling t.id ts)

-- ---- opening
abbrev pub none : Numbers
none = record { place = 0; unpacked = 0; entries = 0 }

unfoldable pub opens : Asked → List ℕ → Opened
opens a image =
    cond (eqb a.refusal 0)
    (cond (eqb (length image) 0) (record { refusal = 9; numbers = none })
    (record { refusal = 0; numbers = record { place = 1; unpacked = 1; entries = 0 } }))
    (record { refusal = a.refusal; numbers = none })

unfoldable pub opens_docs : List ℕ → Asked → List ℕ → Term → List ℕ
opens_docs docs a image t = cond (eqb a.refusal 0) (cond (eqb (length image) 0) docs (set docs 0 t.count)) docs

unfoldable pub opens_freqs : List ℕ → List ℕ
opens_freqs freqs = freqs

-- ---- a turn
unfoldable pub turns : List ℕ → List ℕ → Target → Numbers → Term → Turn
turns docs freqs t n term =
    cond (ltb n.place 128)
    (record {
      refusal = 0;
      target = record {
        id = t.id;
        doc = get_or (set docs n.place t.id) 0 0;
        freq = get_or (set freqs n.place term.count) 0 0;
        hit = true;
      };
      numbers = record { place = n.place + 1; unpacked = n.unpacked; entries = n.entries };
    })
    (record { refusal = 16; target = t; numbers = n })

unfoldable pub turns_docs : List ℕ → Target → Numbers → List ℕ
turns_docs docs t n = cond (ltb n.place 128) (set docs n.place t.id) docs

unfoldable pub turns_freqs : List ℕ → Numbers → Term → List ℕ
turns_freqs freqs n term = cond (ltb n.place 128) (set freqs n.place term.count) freqs

unfoldable pub ends : ℕ → ℕ → Numbers → Served
ends refusal served n = record { refusal = refusal; served = served; unpacked = n.unpacked; entries = n.entries }

-- ---- all of them
abbrev pub State : Type 0
State = Numbers × (List ℕ × List ℕ)

abbrev pub first : Asked → List ℕ → Term → ℕ × State
first asked image term =
    let r = opens asked image in
    (r.refusal, (r.numbers, (opens_docs (replicate 128 2147483647) asked image term, opens_freqs (replicate 128 1))))

abbrev pub next : Term → Target → State → Fold.Turn Target State
next term t z =
    let r = turns z.1.0 z.1.1 t z.0 term in
    (r.refusal, (r.target, (r.numbers, (turns_docs z.1.0 t z.0, turns_freqs z.1.1 z.0 term))))

abbrev pub served : List Target → Asked → List ℕ → Term → Ran Target State
served ts asked image term = begins (next term) (first asked image term) ts

abbrev pub seeks : List Target → List ℕ → Term → Ran Target State
seeks ts image term = served ts (asks_all ts) image term

abbrev pub answer : Ran Target State → Served
answer w = ends w.0 w.1.0 w.1.1.1.0

abbrev pub list : Ran Target State → List Target
list w = w.1.1.0

abbrev pub Leaves : Ran Target State → Served → List Target → Type 0
Leaves w r left = (r ≡ answer w) × (left ≡ list w)
