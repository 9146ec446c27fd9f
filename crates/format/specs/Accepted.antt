-- Which lists are accepted (questions 1 and 11 to 14), and the image of an accepted one.
-- Assumes nothing.
use Rattle.format.specs.declared.refusal.Refusal.TheVariants.{UnknownMode, IdTooLarge, IdNotRising, FreqZero, CountMismatch}
use Rattle.std.specs.Prelude.{Bool, true, not, ◌&&◌ as and, ◌||◌ as or, List, [], ◌∷◌, ◌≡◌, ℕ, ◌+◌, length, eqb, leb, ltb, Ok, Err}
use Rattle.format.specs.declared.IndexRecordOption.{IndexRecordOption}
use Rattle.format.specs.declared.IndexRecordOption.TheVariants.{Basic, WithFreqs}
use Rattle.format.specs.Basics.{Outcome, and_then, ask, choose, TERMINATED}
use Rattle.format.specs.SkipEntry.{has_freq_of}
use Rattle.format.specs.Values.{rising, countable}
use Rattle.format.specs.Written.{image}

-- question 1 of a recorded mode: it is 0 or 1
unfoldable pub known_mode_of : ℕ → Bool
known_mode_of mode = leb mode 1

-- frequencies are kept if the mode is 1 and the caller records them
unfoldable pub kept_in : ℕ → Bool → IndexRecordOption
unfolding choose
kept_in mode recording = choose (and (eqb mode 1) recording) (λ _. WithFreqs) (λ _. Basic)

-- question 1, when a term begins
unfoldable pub begin : ℕ → Bool → Outcome IndexRecordOption
unfolding ask known_mode_of kept_in
begin mode recording = ask (known_mode_of mode) UnknownMode λ _. Ok (kept_in mode recording)

-- questions 11 to 13, of one document; the least id that may come after it
unfoldable pub take_doc : IndexRecordOption → ℕ → ℕ → ℕ → Outcome ℕ
unfolding ask has_freq_of
take_doc option least d f =
    ask (ltb d TERMINATED) IdTooLarge λ _.
    ask (leb least d) IdNotRising λ _.
    ask (or (not (has_freq_of option)) (leb 1 f)) FreqZero λ _.
    Ok (d + 1)

-- .. of each document in turn
unfoldable pub take_docs : IndexRecordOption → ℕ → List ℕ → List ℕ → Outcome ℕ
unfolding and_then take_doc
take_docs option least [] fs = Ok least
take_docs option least (d ∷ ds) [] = Err CountMismatch
take_docs option least (d ∷ ds) (f ∷ fs) = and_then (take_doc option least d f) λ next. take_docs option next ds fs

-- what a whole list is written as: its two slices are equally long (14)
unfoldable pub written : ℕ → Bool → List ℕ → List ℕ → Outcome (List ℕ)
unfolding and_then ask begin take_docs image
written mode recording ds fs =
    and_then (begin mode recording) λ option.
    ask (eqb (length ds) (length fs)) CountMismatch λ _.
    and_then (take_docs option 0 ds fs) λ _.
    Ok (image option ds fs)

-- the order's sentence on a list: where `least` is the least id that may come, its ids rise strictly and lie below TERMINATED, those of
-- its frequencies that are kept are at least 1 (and numbers of 32 bits), and there are as many of the one as of the other
pub record Accepted (option : IndexRecordOption) (least : ℕ) (ds fs : List ℕ) : Type 0 where
  pub rises : rising least ds ≡ true
  pub counts : has_freq_of option ≡ true → countable fs ≡ true
  pub as_many : length ds ≡ length fs
