-- `pass`: by the law of the tables a turn adds the lowest of the parts that are left; after eleven none is. Assumes nothing.
use Rattle.std.proofs.Common.{rules}
use Rattle.crc64_fast.proofs.Words.{pass_part, pass_all}
use Rattle.crc64_fast.proofs.pass.Goals as goal

pub loop-i-preserved : goal.loop-i-preserved
loop-i-preserved c = pass_part c.loop-i.i _ _ _ _ c.part-sum.ensures.six c.loop-i.invariant

pub returns : goal.returns
returns c = pass_all c.loop-i.i _ _ _ (search rules) c.loop-i.invariant
