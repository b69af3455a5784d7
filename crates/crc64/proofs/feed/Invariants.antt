-- `feed`. The loop's invariant: the bits that are left to fall lead to what all eight would have led to. Assumes nothing.
use Rattle.std.proofs.Common.{◌≡◌, ◌-◌}
use Rattle.std.specs.Int.Bits.{bit_xor}
use Rattle.crc64.proofs.Register.{poly, falls}
use Rattle.crc64.proofs.feed.Given as goal

abbrev pub invariant-loop : goal.invariant-loop
invariant-loop l = falls poly (8 - l.counter) l.x ≡ falls poly 8 (bit_xor l.register l.byte)
