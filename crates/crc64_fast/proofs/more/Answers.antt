-- `more`: a turn takes up a word; the last bytes are the plain form's. Assumes nothing.
use mathlib.Core.Path.{ap}
use Rattle.std.proofs.Common.{rules, ℕ}
use Rattle.std.specs.Int.Bits.{bit_xor}
use Rattle.crc64.proofs.Division.{ones64}
use Rattle.crc64_fast.proofs.Words.{words_more, words_rest, chunk_low}
use Rattle.crc64_fast.proofs.more.Goals as goal

pub loop-word-preserved : goal.loop-word-preserved
loop-word-preserved c t e =
    let i : ℕ = c.loop-word.word-index in
    words_more _ _ _ i _ t c.loop-word-test.true (search rules)
    (chunk_low _ _ i _ c.as_chunks.ensures.front (search rules) (λ j. (c.type_inv.s j).fits) c.from_le_bytes.ensures)
    c.pass-register.ensures (c.loop-word.invariant t e)

pub returns : goal.returns
returns c t e =
    words_rest _ _ c.args.s.now _ _ c.loop-word.word-index t c.as_chunks.ensures.front c.as_chunks.ensures.back c.loop-word-test.false
    (c.loop-word.invariant t (ap (λ (x : ℕ). bit_xor x ones64) e)) c.more.ensures
