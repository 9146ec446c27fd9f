-- The questions of document 01, each with the number under which a no is refused.
-- Assumes nothing.
use Rattle.std.specs.Prelude.{ℕ, List, codes}
use Rattle.format.specs.declared.refusal.Refusal.{Refusal}
use Rattle.format.specs.declared.refusal.Refusal.TheVariants.{UnknownMode, CountTooLarge, SkipLengthBroken, SkipLengthWrong, EntryBroken, DocsNotRising, FreqOutOfRange, NumberBroken, BytesLeft, TargetTooLarge, IdTooLarge, IdNotRising, FreqZero, CountMismatch, NoRoom, StateBroken}

abbrev pub number_of : Refusal → ℕ
-- opening, in turn: recorded mode 0 or 1, requested 0 to 2
number_of UnknownMode = 1
-- count at most 2147483647
number_of CountTooLarge = 2
-- the skip length is a complete number within its limits, not above the bytes left
number_of SkipLengthBroken = 3
-- it is 5 for each full block without frequencies, 8 with
number_of SkipLengthWrong = 4
-- an entry: frequency width at most 32, last id above the previous entry's and below TERMINATED, block bytes inside the
-- posting bytes
number_of EntryBroken = 5
-- a block: ids strictly rising, above the previous last id, below TERMINATED, a full block ending on its entry's last id
number_of DocsNotRising = 6
-- frequencies 1 to 4294967295
number_of FreqOutOfRange = 7
-- a tail's numbers complete, in limits and all there
number_of NumberBroken = 8
-- no bytes left after the tail
number_of BytesLeft = 9
-- seek, rank, total: target at most TERMINATED
number_of TargetTooLarge = 10
-- writer: id below TERMINATED
number_of IdTooLarge = 11
-- above the one before
number_of IdNotRising = 12
-- kept frequency at least 1
number_of FreqZero = 13
-- a whole list's two slices equally long; at closing, as many documents as announced
number_of CountMismatch = 14
-- a finished block and its entry fit their lent areas, the image the output
number_of NoRoom = 15
-- the numbers of a lent state are in bounds
number_of StateBroken = 16

-- the words in which it is printed, as codes
abbrev pub words_of : Refusal → List ℕ
words_of UnknownMode = codes "unknown mode"
words_of CountTooLarge = codes "count above 2147483647"
words_of SkipLengthBroken = codes "skip length incomplete, or above the bytes left"
words_of SkipLengthWrong = codes "skip length other than the full blocks' entries take"
words_of EntryBroken = codes "skip entry out of its limits"
words_of DocsNotRising = codes "documents don't rise as they must"
words_of FreqOutOfRange = codes "frequency out of range"
words_of NumberBroken = codes "number incomplete or out of its limits"
words_of BytesLeft = codes "bytes left behind the last block"
words_of TargetTooLarge = codes "target above 2147483647"
words_of IdTooLarge = codes "document above 2147483646"
words_of IdNotRising = codes "document not above the one before it"
words_of FreqZero = codes "frequency 0"
words_of CountMismatch = codes "another count than announced, or slices of two lengths"
words_of NoRoom = codes "no room in what was lent"
words_of StateBroken = codes "numbers of a lent state out of bounds"
