-- What packing and unpacking leave.
-- Assumes nothing.
use Rattle.std.specs.Prelude.{◌≡◌, Bool, ◌&&◌ as and, List, ◌++◌, map, get_or, ℕ, ◌+◌, ◌-◌, ◌*◌, ◌/◌, ◌%◌, ◌^◌, ◌≤◌, ◌<◌, length, drop, leb}
use Rattle.format.specs.Basics.{choose, tabulate, put_at, word, le32}
use Rattle.format.specs.Bitpacking.{pack, unpack, unpacked_at, lane_of, lane_at}
use Rattle.bitpacking.specs.declared.Lanes.{Lanes}
use Rattle.bitpacking.specs.declared.Left.{Left}

-- a block of width w is within n bytes: the width is one of 0 to 32, with 16 bytes for each bit
unfoldable pub room_for : ℕ → ℕ → Bool
room_for w n = and (leb w 32) (leb (16 * w) n)

-- a value with `more` added, in 32 bits
unfoldable pub with_more_of : ℕ → ℕ → ℕ
with_more_of more v = (v + more) % 2 ^ 32

-- the values that the bytes begin with, `more` added to each; what stood there before, where the bytes don't hold them
pub record Unpacked (w more : ℕ) (bytes before after : List ℕ) (done : Bool) : Type 0 where
  pub answer : done ≡ room_for w (length bytes)
  pub values : after ≡ choose (room_for w (length bytes)) (λ _. map (with_more_of more) (unpack w bytes)) (λ _. before)

-- the packed values at the front of the area, every byte behind them as before; the area itself, where it has no room
pub record Packed (w : ℕ) (values before after : List ℕ) (done : Bool) : Type 0 where
  pub answer : done ≡ room_for w (length before)
  pub bytes : after ≡ choose (room_for w (length before)) (λ _. put_at 0 (pack w values) before) (λ _. before)

-- the list l, overwritten by f at its first n places
unfoldable pub filled : {A : Type 0} → ℕ → (ℕ → A) → List A → List A
unfolding tabulate
filled n f l = tabulate n f ++ drop n l

-- a function that was lent l filled to n leaves it filled to m
abbrev pub Fills : {A : Type 0} (n m : ℕ) (f : ℕ → A) (before after : List A) → Type 0
Fills {A} n m f before after = (l : List A) → m ≤ length l → before ≡ filled n f l → after ≡ filled m f l

-- value i of the packed block, `more` added
unfoldable pub more_at : ℕ → ℕ → List ℕ → ℕ → ℕ
more_at w more bs i = with_more_of more (unpacked_at w bs i)

-- the words from byte p on, one of each lane, nothing taken of them
unfoldable pub words_from : List ℕ → ℕ → Left
unfolding tabulate
words_from bs p = record {
  rests = tabulate 4 (λ m. word bs (p + 4 * m));
  bits = 32;
  at = p + 16;
}

-- what is left behind the next k bits of each lane
unfoldable pub bits_taken_of : ℕ → Left → Left
bits_taken_of k s = record {
  rests = map (λ x. x / 2 ^ k) s.rests;
  bits = s.bits - k;
  at = s.at;
}

-- so many bits of lane m, from where a row begins
unfoldable pub rest : ℕ → ℕ → List ℕ → ℕ → ℕ → ℕ
rest w row bs m bits = lane_at w bs (4 * m) / 2 ^ (row * w) % 2 ^ bits

-- behind so many rows each lane's bits up to its next word are left; 16 bytes hold a word of each lane
pub record LeftAt (w row : ℕ) (bs : List ℕ) (s : Left) : Type 0 where
  pub whole : s.at % 16 ≡ 0
  pub read : row * w + s.bits ≡ 32 * (s.at / 16)
  pub below : s.bits < 32
  pub rests : s.rests ≡ tabulate 4 (λ m. rest w row bs m s.bits)

-- what the reading of a block wants whose values have bits
pub record BlockThere (w : ℕ) (bytes : List ℕ) : Type 0 where
  pub some_bits : 1 ≤ w
  pub w_most : w ≤ 32
  pub room : 16 * w ≤ length bytes

-- .. and of one row of it
pub record RowThere (w row : ℕ) (bytes : List ℕ) (s : Left) : Type 0 where
  pub block : BlockThere w bytes
  pub row_below : row < 32
  pub left : LeftAt w row bytes s

-- the word x is f at the four places from p on, lowest byte first
abbrev pub WordIs : (f : ℕ → ℕ) (p x : ℕ) → Type 0
WordIs f p x = le32 x ≡ tabulate 4 (λ b. f (p + b))

-- four words, side by side
abbrev pub WordsAre : (f : ℕ → ℕ) (p : ℕ) (words : List ℕ) → Type 0
WordsAre f p words = (m : ℕ) → m < 4 → WordIs f (p + 4 * m) (get_or words m 0)

-- the lanes with their lowest word taken off
unfoldable pub words_taken_of : Lanes → Lanes
words_taken_of s = record {
  held = map (λ x. x / 2 ^ 32) s.held;
  bits = s.bits - 32;
  words = s.words + 1;
}

-- lane m from `words` words on, where n bits of it are packed
unfoldable pub pending : ℕ → List ℕ → ℕ → ℕ → ℕ → ℕ
pending w vs m n words = lane_of 32 w vs m % 2 ^ n / 2 ^ (32 * words)

-- each lane holds what is pending of n bits
pub record LanesHold (w n : ℕ) (vs : List ℕ) (s : Lanes) : Type 0 where
  pub packed : s.bits + 32 * s.words ≡ n
  pub held : s.held ≡ tabulate 4 (λ m. pending w vs m n s.words)

-- .. after so many rows, less than a word
pub record LanesAt (w row : ℕ) (vs : List ℕ) (s : Lanes) : Type 0 where
  pub holds : LanesHold w (row * w) vs s
  pub below : s.bits < 32

-- what the packing of one row wants
pub record RowPacks (w row : ℕ) (vs : List ℕ) (s : Lanes) : Type 0 where
  pub lanes : LanesAt w row vs s
  pub row_below : row < 32
  pub w_most : w ≤ 32

-- .. and what it makes: a row more in each lane, no word written
pub record RowAdded (w row : ℕ) (vs : List ℕ) (s r : Lanes) : Type 0 where
  pub holds : LanesHold w ((row + 1) * w) vs r
  pub words : r.words ≡ s.words
  pub bits : r.bits ≡ s.bits + w
