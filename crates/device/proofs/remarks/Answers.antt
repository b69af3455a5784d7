-- `remarks`: the remarks on cuts hold. Assumes nothing.
use Rattle.device.proofs.Cuts as cuts
use Rattle.device.proofs.remarks.Goals as goal

pub returns : goal.returns
returns c = cuts.remarks
