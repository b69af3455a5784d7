-- `crc64_words`. The loop's invariant: the register holds the checksum of the words so far, with the ones taken off. Assumes nothing.
use Rattle.std.proofs.Common.{◌≡◌, take, map}
use Rattle.std.specs.Int.Bits.{bit_xor}
use Rattle.std.specs.List.{concat}
use Rattle.device.specs.Word.{low}
use Rattle.crc64.specs.Crc64.{crc_of}
use Rattle.crc64.proofs.Division.{ones64}
use Rattle.crc64_fast.proofs.crc64_words.Given as goal

abbrev pub invariant-loop-word : goal.invariant-loop-word
invariant-loop-word l = l.register ≡ bit_xor (crc_of (concat (take l.word-index (map (low 8) l.word-items)))) ones64
