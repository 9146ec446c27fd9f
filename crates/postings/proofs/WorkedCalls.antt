-- What `run_calls` writes, computed from its definition: the worked list of document 01, "Ids 0 to 128, mode 0: `85 7F 00 00 00 40 81`; seek
-- 128: position 128, 2 unpacked, 1 entry", with a place behind the answers that stays as it was; a target above 2147483647 before the end
-- and at it (document 02, Ask 10); hits and misses (Ask 2); and the inputs that it refuses.
-- Assumes nothing.
use mathlib.Core.List.{List, [], ◌∷◌}
use mathlib.Core.Path.{◌≡◌, refl}
use Prim.Native.Nat.{ℕ, ◌+◌, ◌*◌, ◌^◌}
use lib.ListN.{replicate}
use Rattle.format.specs.declared.Term.{Term}
use Rattle.block_search.specs.Search.{pivots_below_of}
use Rattle.postings.specs.RunCalls.{how_many, answers_after}

abbrev list : List ℕ
list = 0x85 ∷ 0x7F ∷ 0 ∷ 0 ∷ 0 ∷ 0x40 ∷ 0x81 ∷ []

abbrev term : Term
term = record { mode = 0; requested = 0; count = 129 }

-- a seek on the lent cursor, a target above 2147483647, a step by value to the end
abbrev mixed : List ℕ
mixed = (3 * 2 ^ 32 + 128) ∷ (1 * 2 ^ 32 + 2147483648) ∷ 0 ∷ []

pub mixed-answers : answers_after list term mixed (replicate 25 7)
    ≡ 0 ∷ 0 ∷ 1 ∷ 1 ∷ 1 ∷ 0 ∷ 0 ∷ 128 ∷ 1 ∷ 2 ∷ 1 ∷ 1 ∷ 10 ∷ 0 ∷ 0 ∷ 0 ∷ 0 ∷ 0 ∷ 0 ∷ 2147483647 ∷ 0 ∷ 2 ∷ 1 ∷ 0 ∷ 7 ∷ []
unfolding answers_after pivots_below_of
mixed-answers = refl

pub mixed-count : how_many list term mixed (replicate 25 7) ≡ 4
unfolding how_many pivots_below_of
mixed-count = refl

-- at the end, on the empty list: such a target by value and on the lent cursor, then the largest that is taken
pub ended-answers : answers_after [] (record { mode = 0; requested = 0; count = 0 })
    ((1 * 2 ^ 32 + 2147483648) ∷ (3 * 2 ^ 32 + 4294967295) ∷ (1 * 2 ^ 32 + 2147483647) ∷ []) (replicate 24 7)
    ≡ 0 ∷ 2147483647 ∷ 0 ∷ 1 ∷ 0 ∷ 0 ∷ 10 ∷ 0 ∷ 0 ∷ 0 ∷ 0 ∷ 0 ∷ 10 ∷ 0 ∷ 0 ∷ 0 ∷ 0 ∷ 0 ∷ 0 ∷ 2147483647 ∷ 0 ∷ 1 ∷ 0 ∷ 0 ∷ []
unfolding answers_after pivots_below_of
ended-answers = refl

-- on 3, 7, 300: 4, which isn't in the list; 7, which is; 6, below the present document; 300; 301, which leads to the end; and TERMINATED there
abbrev three : List ℕ
three = 0x83 ∷ 0x84 ∷ 0x25 ∷ 0x82 ∷ []

pub hits-told : answers_after three (record { mode = 0; requested = 0; count = 3 })
    ((1 * 2 ^ 32 + 4) ∷ (3 * 2 ^ 32 + 7) ∷ (1 * 2 ^ 32 + 6) ∷ (3 * 2 ^ 32 + 300) ∷ (1 * 2 ^ 32 + 301) ∷ (3 * 2 ^ 32 + 2147483647) ∷ []) (replicate 42 9)
    ≡ 0 ∷ 3 ∷ 1 ∷ 1 ∷ 0 ∷ 0 ∷ 0 ∷ 7 ∷ 1 ∷ 1 ∷ 0 ∷ 0 ∷ 0 ∷ 7 ∷ 1 ∷ 1 ∷ 0 ∷ 1 ∷ 0 ∷ 7 ∷ 1 ∷ 1 ∷ 0 ∷ 0 ∷ 0 ∷ 300 ∷ 1 ∷ 1 ∷ 0 ∷ 1
    ∷ 0 ∷ 2147483647 ∷ 0 ∷ 1 ∷ 0 ∷ 0 ∷ 0 ∷ 2147483647 ∷ 0 ∷ 1 ∷ 0 ∷ 0 ∷ []
unfolding answers_after pivots_below_of
hits-told = refl

-- one place too few
pub too_short : answers_after list term mixed (replicate 23 7) ≡ replicate 23 7
unfolding answers_after
too_short = refl

-- kind 4
pub unknown_kind : how_many list term ((4 * 2 ^ 32) ∷ []) (replicate 12 7) ≡ 0
unfolding how_many
unknown_kind = refl
