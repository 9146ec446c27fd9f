-- The worked lists of document 01, as one table with one test; its last three cases are document 02's Asks 10 and 2.
-- Assumes nothing.
use Rattle.format.specs.declared.refusal.Refusal.TheVariants.{EntryBroken, BytesLeft, TargetTooLarge, IdTooLarge}
use Rattle.std.specs.Prelude.{Bool, true, false, ◌&&◌ as and, List, [], ◌∷◌, ◌++◌, ℕ, ◌+◌, length, replicate, eqb, Ok, Err}
use mir.Val.{bool_byte}
use Rattle.format.specs.declared.refusal.Refusal.{Refusal}
use Rattle.format.specs.Refusal.{number_of}
use Rattle.format.specs.Basics.{Outcome, tabulate, TERMINATED}
use Rattle.format.specs.SkipEntry.{has_freq_of}
use Rattle.format.specs.Accepted.{kept_in, written}
use Rattle.format.specs.Reading.{Reading, reading, soundness, docs_of, freqs_of}
use Rattle.format.specs.ReadsBack.{read_freqs}
use Rattle.format.specs.Counts.{total}
use Rattle.format.specs.Model.{Call, Answer, State, answers, after_all, opened, entries_read}
use Rattle.format.specs.Model as model

unfoldable pub same : List ℕ → List ℕ → Bool
same [] [] = true
same [] (y ∷ ys) = false
same (x ∷ xs) [] = false
same (x ∷ xs) (y ∷ ys) = and (eqb x y) (same xs ys)

-- an answer as a list of numbers
unfoldable pub shown : List Answer → List ℕ
shown [] = []
shown (model.at d f u hit ∷ rest) = 0 ∷ d ∷ f ∷ u ∷ bool_byte hit ∷ shown rest
shown (model.refused r ∷ rest) = number_of r ∷ shown rest

pub data Case : Type 0 where
  -- in this mode, recording, these ids and frequencies are written as these bytes, which are sound and read back: the ids, and the
  -- frequencies where they are kept, else a 1 for each
  writes : ℕ → List ℕ → List ℕ → List ℕ → Case
  -- .. are refused so
  refuses : ℕ → List ℕ → List ℕ → Refusal → Case
  -- in this mode an image of this count and these bytes is sound, or refused so
  weighs : ℕ → ℕ → List ℕ → Outcome (Unit {0}) → Case
  -- .. has these frequencies
  holds : ℕ → ℕ → List ℕ → List ℕ → Case
  -- .. has, below this target, this total
  totals : ℕ → ℕ → List ℕ → ℕ → ℕ → Case
  -- .. on what is read from it the model answers these calls so, opening first
  answers_to : ℕ → ℕ → List ℕ → List Call → List Answer → Case
  -- .. the model comes by these calls to this position, with this many skip entries read
  ends_at : ℕ → ℕ → List ℕ → List Call → ℕ → ℕ → Case

-- 0, or the refusal's number
unfoldable pub outcome_number : {A : Type 0} → Outcome A → ℕ
outcome_number (Ok a) = 0
outcome_number (Err r) = number_of r

unfoldable pub is_ok : Outcome (List ℕ) → List ℕ → Bool
unfolding same
is_ok (Ok a) b = same a b
is_ok (Err n) b = false

unfoldable pub is_number : Outcome ℕ → ℕ → Bool
is_number (Ok a) n = eqb a n
is_number (Err m) n = false

unfoldable pub read_in : ℕ → ℕ → List ℕ → Reading
unfolding reading
read_in mode count bs = reading (record { mode = mode; requested = 1; count = count }) bs

unfoldable pub passes : Case → Bool
unfolding is_ok is_number outcome_number same shown has_freq_of kept_in written read_in soundness docs_of freqs_of read_freqs total answers after_all opened entries_read
passes (writes mode ds fs bs) =
    let r : Reading = read_in mode (length ds) bs in
    and (is_ok (written mode true ds fs) bs)
    (and (eqb (outcome_number (soundness mode (length ds) bs)) 0)
    (and (same (docs_of r.blocks) ds)
    (same (freqs_of r.blocks) (read_freqs (has_freq_of (kept_in mode true)) fs))))
passes (refuses mode ds fs r) = eqb (outcome_number (written mode true ds fs)) (number_of r)
passes (weighs mode count bs v) = eqb (outcome_number (soundness mode count bs)) (outcome_number v)
passes (holds mode count bs fs) = same (freqs_of (read_in mode count bs).blocks) fs
passes (totals mode count bs target n) = is_number (total mode count bs target) n
passes (answers_to mode count bs cs expected) =
    let r : Reading = read_in mode count bs in
    same (shown (answers (docs_of r.blocks) (freqs_of r.blocks) cs)) (shown expected)
passes (ends_at mode count bs cs p n) =
    let s : State = after_all (docs_of (read_in mode count bs).blocks) opened cs in
    and (eqb s.position p) (eqb (entries_read count s.position) n)

unfoldable pub all_pass : List Case → Bool
unfolding passes
all_pass [] = true
all_pass (c ∷ cs) = and (passes c) (all_pass cs)

-- k, k + 1, .. , n of them
unfoldable pub run : ℕ → ℕ → List ℕ
unfolding tabulate
run k n = tabulate n (λ i. k + i)

unfoldable pub ones : ℕ → List ℕ
ones n = replicate n 1

-- 3, 7, 300 with frequencies 1, 2, 130
unfoldable pub three : List ℕ
three = 0x83 ∷ 0x84 ∷ 0x25 ∷ 0x82 ∷ 0x81 ∷ 0x82 ∷ 0x02 ∷ 0x81 ∷ []

-- 0 to 128, mode 0
unfoldable pub block_and_one : List ℕ
block_and_one = 0x85 ∷ 0x7F ∷ 0 ∷ 0 ∷ 0 ∷ 0x40 ∷ 0x81 ∷ []

-- 2147483646 alone, mode 0
unfoldable pub largest_id : List ℕ
largest_id = 0x7E ∷ 0x7F ∷ 0x7F ∷ 0x7F ∷ 0x87 ∷ []

-- an image of the ids 0 to 127 whose frequency width is w
unfoldable pub wide : ℕ → ℕ → List ℕ
wide w size = 0x88 ∷ 0x7F ∷ 0 ∷ 0 ∷ 0 ∷ 0x40 ∷ w ∷ 0 ∷ 0 ∷ replicate size 0

unfoldable pub table : List Case
unfolding run ones three block_and_one largest_id wide
table =
    writes 1 [] [] []
    ∷ weighs 0 0 (7 ∷ []) (Err BytesLeft)
    ∷ weighs 1 0 (7 ∷ []) (Err BytesLeft)
    ∷ answers_to 1 0 [] [] (model.at TERMINATED 0 1 false ∷ [])
    ∷ writes 1 (0 ∷ []) (1 ∷ []) (0x80 ∷ 0x81 ∷ [])
    ∷ writes 0 (0 ∷ []) (1 ∷ []) (0x80 ∷ [])
    ∷ writes 1 (3 ∷ 7 ∷ 300 ∷ []) (1 ∷ 2 ∷ 130 ∷ []) three
    ∷ holds 1 3 three (1 ∷ 2 ∷ 130 ∷ [])
    ∷ totals 1 3 three 300 3
    ∷ totals 1 3 three TERMINATED 133
    ∷ answers_to 1 3 three (model.step ∷ model.step ∷ model.step ∷ [])
    (model.at 3 1 1 false ∷ model.at 7 2 1 false ∷ model.at 300 130 1 false ∷ model.at TERMINATED 0 1 false ∷ [])
    ∷ weighs 1 3 (0x83 ∷ 0x84 ∷ 0x25 ∷ 0x82 ∷ []) (Ok tt)
    ∷ holds 1 3 (0x83 ∷ 0x84 ∷ 0x25 ∷ 0x82 ∷ []) (1 ∷ 1 ∷ 1 ∷ [])
    ∷ writes 1 (run 0 128) (ones 128) (0x88 ∷ 0x7F ∷ 0 ∷ 0 ∷ 0 ∷ 0x40 ∷ 0 ∷ 0 ∷ 0 ∷ [])
    ∷ writes 0 (run 0 128) (ones 128) (0x85 ∷ 0x7F ∷ 0 ∷ 0 ∷ 0 ∷ 0x40 ∷ [])
    ∷ writes 0 (run 0 127) (ones 127) (0x80 ∷ replicate 126 0x81)
    ∷ writes 0 (run 1 128) (ones 128) (0x85 ∷ 0x80 ∷ 0 ∷ 0 ∷ 0 ∷ 0x41 ∷ 0x01 ∷ replicate 15 0)
    ∷ writes 0 (run 0 127 ++ (128 ∷ [])) (ones 128) (0x85 ∷ 0x80 ∷ 0 ∷ 0 ∷ 0 ∷ 0x41 ∷ (replicate 15 0 ++ (0x80 ∷ [])))
    ∷ writes 0 (run 0 129) (ones 129) block_and_one
    ∷ answers_to 0 129 block_and_one (model.seek 128 ∷ []) (model.at 0 1 1 false ∷ model.at 128 1 2 true ∷ [])
    ∷ ends_at 0 129 block_and_one (model.seek 128 ∷ []) 128 1
    ∷ writes 0 (2147483646 ∷ []) (1 ∷ []) largest_id
    ∷ refuses 0 (TERMINATED ∷ []) (1 ∷ []) IdTooLarge
    ∷ answers_to 0 1 largest_id (model.seek 2147483648 ∷ model.seek TERMINATED ∷ [])
    (model.at 2147483646 1 1 false ∷ model.refused TargetTooLarge ∷ model.at TERMINATED 0 1 false ∷ [])
    ∷ weighs 1 128 (wide 32 512) (Ok tt)
    ∷ weighs 1 128 (wide 33 528) (Err EntryBroken)
    ∷ answers_to 1 0 [] (model.seek 2147483648 ∷ model.step ∷ [])
    (model.at TERMINATED 0 1 false ∷ model.refused TargetTooLarge ∷ model.at TERMINATED 0 1 false ∷ [])
    ∷ answers_to 1 3 three (model.seek 301 ∷ model.seek 2147483648 ∷ model.seek TERMINATED ∷ [])
    (model.at 3 1 1 false ∷ model.at TERMINATED 0 1 false ∷ model.refused TargetTooLarge ∷ model.at TERMINATED 0 1 false ∷ [])
    ∷ answers_to 1 3 three (model.seek 3 ∷ model.seek 4 ∷ model.seek 7 ∷ model.seek 6 ∷ model.step ∷ model.seek 300 ∷ model.seek TERMINATED ∷ [])
    (model.at 3 1 1 false ∷ model.at 3 1 1 true ∷ model.at 7 2 1 false ∷ model.at 7 2 1 true ∷ model.at 7 2 1 false ∷ model.at 300 130 1 false
    ∷ model.at 300 130 1 true ∷ model.at TERMINATED 0 1 false ∷ [])
    ∷ []
