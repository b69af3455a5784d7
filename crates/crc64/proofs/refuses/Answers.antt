-- `refuses`: the theorems on damage hold. Assumes nothing.
use Rattle.crc64.proofs.Damage.{damage}
use Rattle.crc64.proofs.refuses.Goals as goal

pub returns : goal.returns
returns c = damage
