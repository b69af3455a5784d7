-- `examples`: the worked examples hold. Assumes nothing.
use Rattle.crc64.proofs.Worked.{examples}
use Rattle.crc64.proofs.examples.Goals as goal

pub returns : goal.returns
returns c = examples
