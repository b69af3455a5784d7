-- `State::more`. The loop's invariant: the register holds the checksum of what came before and of the bytes so far, with the ones taken
-- off. Assumes nothing.
use Rattle.std.proofs.Common.{◌≡◌, ℕ, List, ◌++◌, take}
use Rattle.std.specs.Int.Bits.{bit_xor}
use Rattle.crc64.specs.Crc64.{crc_of}
use Rattle.crc64.proofs.Division.{ones64}
use Rattle.crc64.proofs.State.more.Given as goal

abbrev pub invariant-loop-byte : goal.invariant-loop-byte
invariant-loop-byte l =
    (t : List ℕ) → l.initial.register ≡ bit_xor (crc_of t) ones64 → l.register ≡ bit_xor (crc_of (t ++ take l.byte-index l.s)) ones64
