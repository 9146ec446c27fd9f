-- When a packed block has room, as the code tests it, and what packing and unpacking leave where it has.
-- Assumes nothing.
use mathlib.Core.Path.{◌≡◌, refl, sym, ap, ◌∙◌}
use mathlib.Core.Bool.{true, and-eq-true_iff}
use mathlib.Core.List.{List, ◌++◌, map}
use Prim.Native.Nat.{ℕ, ◌*◌, ◌≤◌}
use borrow.Author.Tests.{leb-true, le-leb}
use lib.ListN.{length, drop}
use lib.Dec.{leb}
use Rattle.format.specs.Basics.{choose, put_at}
use Rattle.format.specs.Bitpacking.{pack, packed_at, unpack}
use Rattle.format.proofs.Area.{put_at-front}
use Rattle.format.proofs.Bitpacking.{pack-length}
use Rattle.bitpacking.specs.Packed.{room_for, with_more_of, filled, Unpacked, Packed}

pub narrow : (w n : ℕ) → w ≤ 32 → room_for w n ≡ leb (16 * w) n
unfolding room_for
narrow w n h = rw (le-leb w 32 h)

-- what room says
pub room-there : (w n : ℕ) → room_for w n ≡ true → (w ≤ 32) × (16 * w ≤ n)
unfolding room_for
room-there w n e = let p = (and-eq-true_iff (leb w 32) (leb (16 * w) n)).0 e in (leb-true _ _ p.0, leb-true _ _ p.1)

pub unpacked :
    (w more : ℕ) (bytes before after : List ℕ) → room_for w (length bytes) ≡ true → after ≡ map (with_more_of more) (unpack w bytes)
    → Unpacked w more bytes before after true
unfolding choose
unpacked w more bytes before after e same = record { answer = rw e; values = rw e same }

filled-pack : (w : ℕ) (values area : List ℕ) → filled (16 * w) (packed_at w values) area ≡ pack w values ++ drop (16 * w) area
unfolding filled pack
filled-pack w values area = refl

-- an area filled by the packed bytes has them at its front
filled-front : (w : ℕ) (values area : List ℕ) → 16 * w ≤ length area → filled (16 * w) (packed_at w values) area ≡ put_at 0 (pack w values) area
filled-front w values area h =
    filled-pack w values area
    ∙ ap (λ (n : ℕ). pack w values ++ drop n area) (sym (pack-length w values))
    ∙ sym (put_at-front (pack w values) area (rw (pack-length w values) h))

pub packed :
    (w : ℕ) (values before after : List ℕ) → room_for w (length before) ≡ true → after ≡ filled (16 * w) (packed_at w values) before
    → Packed w values before after true
unfolding choose
packed w values before after e same =
    record { answer = rw e; bytes = rw e (same ∙ filled-front w values before (room-there w (length before) e).1) }
