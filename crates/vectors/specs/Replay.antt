-- What is asked of a case: the list is written as the Rust's image, which reads back as the list and is sound.
-- Assumes nothing.
use Rattle.std.specs.Prelude.{Bool, true, false, ◌&&◌ as and, List, [], ◌∷◌, ℕ, zero, suc, ◌+◌, ◌-◌, ◌*◌, ◌≤◌, eqb, leb, length, take, drop, replicate, Option, None, Some, option_and_then, Ok, Err, is_ok}
use Rattle.std.specs.Str.{bytes_eq}
use Rattle.format.specs.declared.Term.{Term}
use Rattle.format.specs.Accepted.{kept_in}
use Rattle.format.specs.Basics.{Outcome, choose, TERMINATED}
use Rattle.format.specs.Reading.{soundness}
use Rattle.format.specs.SkipEntry.{has_freq_of}
use Rattle.segment_postings.specs.declared.Answer.{Answer}
use Rattle.segment_postings.specs.declared.Moved.{Moved}
use Rattle.segment_postings.specs.Cursor.{opened, advanced}
use Rattle.serializer.specs.Writer.{listing}
use Rattle.vectors.specs.declared.sample.Case.{Case}
use Rattle.vectors.specs.declared.Replayed.{Replayed}
use Rattle.vectors.specs.Sample.{short, words, case_at}

-- ---- written

-- whether an outcome is this image
unfoldable pub is_image : Outcome (List ℕ) → List ℕ → Bool
is_image (Ok bs) image = bytes_eq bs image
is_image (Err why) image = false

-- whether the list is written as this image, into these areas
unfoldable pub writes_image : ℕ → Bool → (ds fs image skips postings output : List ℕ) → Bool
unfolding is_image
writes_image mode recording ds fs image skips postings output = is_image (listing mode recording ds fs skips postings output) image

-- an area as it is lent
unfoldable pub zeros : ℕ → List ℕ
zeros n = replicate n 0

-- ---- read back

-- the frequency that a reader is answered: 1 where it isn't kept
unfoldable pub read_freq_of : Bool → ℕ → ℕ
read_freq_of true f = f
read_freq_of false f = 1

-- whether an answer has this document and this frequency
unfoldable pub shows_doc : Outcome Answer → ℕ → ℕ → Bool
shows_doc (Ok at) d f = and (eqb at.doc d) (eqb at.freq f)
shows_doc (Err why) d f = false

-- whether an answer and those of the steps after it are the documents and their frequencies, and then the end
unfoldable pub walks : Bool → List ℕ → Term → Moved → (ds fs : List ℕ) → Bool
unfolding shows_doc read_freq_of
walks kept image t m [] fs = shows_doc m.answer TERMINATED 0
walks kept image t m (d ∷ ds) [] = false
walks kept image t m (d ∷ ds) (f ∷ fs) =
    and (shows_doc m.answer d (read_freq_of kept f)) (walks kept image t (advanced m.cursor image t) ds fs)

-- the image as a reader takes it, frequencies requested
abbrev pub term_of : ℕ → List ℕ → Term
term_of mode ds = record { mode = mode; requested = 1; count = length ds }

unfoldable pub reads_back_of : ℕ → Bool → (ds fs image : List ℕ) → Bool
unfolding walks
reads_back_of mode recording ds fs image =
    walks (has_freq_of (kept_in mode recording)) image (term_of mode ds) (opened image (term_of mode ds)) ds fs

-- ---- a case, and all of them

unfoldable pub agrees : ℕ → Bool → (ds fs image : List ℕ) → Bool
unfolding writes_image reads_back_of
agrees mode recording ds fs image =
    and (writes_image mode recording ds fs image (zeros 32) (zeros 4032) (zeros 8192))
    (and (reads_back_of mode recording ds fs image) (is_ok (soundness mode (length ds) image)))

-- the parts of a case are there
pub record Within (bs : List ℕ) (c : Case) : Type 0 where
  pub few : c.count ≤ 512
  pub docs_there : c.docs + 4 * c.count ≤ length bs
  pub freqs_there : c.freqs + 4 * c.count ≤ length bs
  pub image_there : c.image ≤ c.end
  pub end_there : c.end ≤ length bs

unfoldable pub case_agrees : List ℕ → Case → Bool
unfolding agrees words
case_agrees bs c =
    agrees c.mode c.recording (words bs c.docs c.count) (words bs c.freqs c.count) (take (c.end - c.image) (drop c.image bs))

-- one more that differs, where it does
unfoldable pub count_differing : Bool → ℕ → ℕ
count_differing true differ = differ
count_differing false differ = differ + 1

-- n cases from place p on, and no byte behind them; so many are replayed in all, and so many differed before
unfoldable pub replay_from : List ℕ → ℕ → ℕ → ℕ → ℕ → Option Replayed
unfolding case_at case_agrees count_differing choose
replay_from bs cases zero p differ = choose (eqb p (length bs)) (λ _. Some (record { cases = cases; differ = differ })) (λ _. None)
replay_from bs cases (suc n) p differ =
    option_and_then (λ c. replay_from bs cases n c.end (count_differing (case_agrees bs c) differ)) (case_at bs p)

unfoldable pub replayed : List ℕ → Option Replayed
unfolding choose replay_from short
replayed bs = choose (leb 2 (length bs)) (λ _. replay_from bs (short bs 0) (short bs 0) 2 0) (λ _. None)
