-- The loop's invariant: the value so far is below 2 ^ 32, and reading on from it gives what the whole text does.
use Rattle.std.proofs.Common.{◌≡◌, ◌<◌, ◌^◌, drop}
use Rattle.listing.specs.Input.{number, number_from}
use Rattle.listing.proofs.table.read_number.Given as goal

abbrev pub invariant-loop-byte : goal.invariant-loop-byte
invariant-loop-byte l = record {
  fits : l.value < 2 ^ 32;
  reads_on : number l.text ≡ number_from l.value (drop l.byte-index l.text);
}
