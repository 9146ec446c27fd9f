-- `bitpacking::unpack` meets its contract. Values of width 0 have no bits, so that each is 0, and `more` once that is added.
use Rattle.std.proofs.Common.{◌≡◌, sym, ap, ◌∙◌, ℕ, List, map, ◌<◌, ◌^◌}
use Rattle.std.proofs.Math.Nat.{zero-add, mod-eq_of_lt}
use Rattle.std.proofs.Math.ListN.{replicate}
use Rattle.format.specs.Bitpacking.{unpack}
use Rattle.format.proofs.Lists.{AllBelow-one}
use Rattle.format.proofs.Bitpacking.{unpack-length, unpack-below}
use Rattle.bitpacking.specs.Packed.{with_more_of}
use Rattle.bitpacking.proofs.Room.{unpacked}
use Rattle.bitpacking.proofs.unpack.Goals as goal

-- nothing but zeros at width 0
zeros : (bytes : List ℕ) → replicate 128 0 ≡ unpack 0 bytes
zeros bytes = ap (λ (n : ℕ). replicate n 0) (sym (unpack-length 0 bytes)) ∙ sym (AllBelow-one (unpack 0 bytes) (unpack-below 0 bytes))

-- .. which `more` is added to
nothing_but_more : (more : ℕ) (bytes : List ℕ) → more < 2 ^ 32 → replicate 128 more ≡ map (with_more_of more) (unpack 0 bytes)
unfolding with_more_of
nothing_but_more more bytes h =
    ap (replicate 128) (sym (rw (zero-add more) (mod-eq_of_lt h))) ∙ ap (map (with_more_of more)) (zeros bytes)

pub returns-then-w-eq0 : goal.returns-then-w-eq0
returns-then-w-eq0 c =
    unpacked _ _ _ _ _ (sym c.has_room.ensures ∙ c.if-not-has_room.false)
    (nothing_but_more c.args.more _ c.ranges.more.fits ∙ ap (λ (w : ℕ). map (with_more_of c.args.more) (unpack w c.args.bytes.now)) (sym c.if-w-eq0.true))
