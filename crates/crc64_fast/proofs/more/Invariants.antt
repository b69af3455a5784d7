-- `more`. The loop's invariant: the register holds the checksum of what came before and of the words so far, with the ones taken off.
-- Assumes nothing.
use Rattle.std.proofs.Common.{◌≡◌, ℕ, List, ◌++◌, take}
use Rattle.std.specs.Int.Bits.{bit_xor}
use Rattle.std.specs.List.{concat}
use Rattle.crc64.specs.Crc64.{crc_of}
use Rattle.crc64.proofs.Division.{ones64}
use Rattle.crc64_fast.proofs.more.Given as goal

abbrev pub invariant-loop-word : goal.invariant-loop-word
invariant-loop-word l =
    (t : List ℕ) → l.initial.register ≡ bit_xor (crc_of t) ones64
    → l.register ≡ bit_xor (crc_of (t ++ concat (take l.word-index l.words))) ones64
