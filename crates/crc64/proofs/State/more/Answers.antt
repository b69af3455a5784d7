-- `State::more`: a turn takes up one byte; and all of them. (Answers that the check needs once the limits of its search are halved.)
-- Assumes nothing.
use mathlib.Core.Path.{ap}
use Rattle.std.proofs.Common.{ℕ, List, ◌++◌, take}
use Rattle.std.specs.Int.Bits.{bit_xor}
use Rattle.crc64.proofs.Division.{ones64}
use Rattle.crc64.proofs.Turns.{bytes_more, bytes_all}
use Rattle.crc64.proofs.State.more.Goals as goal

pub loop-byte-preserved : goal.loop-byte-preserved
loop-byte-preserved c t e =
    let s : List ℕ = c.args.s.now in
    let i : ℕ = c.loop-byte.byte-index in
    bytes_more _ s t i c.loop-byte-test.true (c.feed-register.ensures (t ++ take i s) (c.loop-byte.invariant t e))

pub returns : goal.returns
returns c t e =
    bytes_all _ _ t _ c.loop-byte-test.false (c.loop-byte.invariant t (ap (λ (x : ℕ). bit_xor x ones64) e))
