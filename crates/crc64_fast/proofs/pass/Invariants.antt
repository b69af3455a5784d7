-- `pass`. The loop's invariant: what is summed up and what the parts that are left would add are what the whole word leaves.
-- Assumes nothing.
use Rattle.std.proofs.Common.{◌≡◌, ◌-◌, ◌*◌}
use Rattle.std.specs.Int.Bits.{bit_xor}
use Rattle.crc64_tables.specs.Leaves.{leaves}
use Rattle.crc64_fast.proofs.pass.Given as goal

abbrev pub invariant-loop-i : goal.invariant-loop-i
invariant-loop-i l = bit_xor l.sum (leaves (64 - 6 * l.i) l.rest) ≡ leaves 64 l.x
