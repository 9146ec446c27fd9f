-- The sample: how many cases there are, then each case: mode, recording, count, bytes of the image, ids, frequencies, image.
-- Assumes nothing.
use Rattle.std.specs.Prelude.{not, ◌&&◌ as and, List, ℕ, ◌+◌, ◌*◌, eqb, leb, length, get_or, Option, None, Some}
use Rattle.format.specs.Basics.{choose, tabulate, word}
use Rattle.vectors.specs.declared.sample.Case.{Case}

-- the 16-bit number at place p, lowest byte first
unfoldable pub short : List ℕ → ℕ → ℕ
short bs p = get_or bs p 0 + 256 * get_or bs (p + 1) 0

-- n numbers of 32 bits from place p on
unfoldable pub words : List ℕ → ℕ → ℕ → List ℕ
unfolding tabulate word
words bs p n = tabulate n (λ i. word bs (p + 4 * i))

-- the case whose head stands at place p
unfoldable pub case_of : List ℕ → ℕ → Case
unfolding short
case_of bs p =
    let count : ℕ = short bs (p + 2) in
    record {
      mode = get_or bs p 0;
      recording = not (eqb (get_or bs (p + 1) 0) 0);
      count = count;
      docs = p + 6;
      freqs = p + 6 + 4 * count;
      image = p + 6 + 4 * count + 4 * count;
      end = p + 6 + 4 * count + 4 * count + short bs (p + 4);
    }

-- .. where head, list and image are all there, and the list is not too long
unfoldable pub case_at : List ℕ → ℕ → Option Case
unfolding choose case_of
case_at bs p =
    choose (and (leb (p + 6) (length bs)) (and (leb (case_of bs p).count 512) (leb (case_of bs p).end (length bs))))
    (λ _. Some (case_of bs p)) (λ _. None)
