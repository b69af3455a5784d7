-- `blackboxlog::bbl_plan_setup`: the reply is made from the answer and names the number of steps. Assumes nothing.
use mathlib.Core.Path.{refl}
use Rattle.blackboxlog.proofs.Replied.{no_steps}
use Rattle.blackboxlog.proofs.bbl_plan_setup.Goals as goal

pub returns-in-Ok : goal.returns-in-Ok
returns-in-Ok c =
    let q = rw c.in-Ok.is at c.plan_setup.ensures in
    rw (c.done.ensures, ← q.0) (refl, q.1)

pub returns-in-Err : goal.returns-in-Err
returns-in-Err c =
    let q = rw c.in-Err.is at c.plan_setup.ensures in
    rw (c.from.ensures, ← q.0, no_steps c.in-Err.e) (refl, q.1)
