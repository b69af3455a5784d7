-- `blackboxlog::bbl_plan_advance`: it plans with the numbers that stand in the other header. Assumes nothing.
use mathlib.Core.Path.{refl, sym, ◌∙◌}
use Rattle.std.proofs.Common.{rules}
use Rattle.operations.proofs.Answers.{none_planned}
use Rattle.blackboxlog.proofs.Replied.{unknown, is_known, no_steps}
use Rattle.blackboxlog.proofs.bbl_plan_advance.Goals as goal

pub returns-in_default : goal.returns-in_default
returns-in_default c b =
    let k = unknown c.args.handle _ (sym c.in_default.is ∙ c.try_from.ensures) in
    rw (k, c.from.ensures) (refl, none_planned _ b)

pub returns-in-Ok-plan_advance : goal.returns-in-Ok-plan_advance
returns-in-Ok-plan_advance c b =
    let k = is_known c.args.handle c.in-Ok.h (sym c.in-Ok.is ∙ c.try_from.ensures) in
    let f = c.of.ensures in
    let q = rw c.in-Ok-plan_advance.is at c.plan_advance.ensures in
    rw (k.0, ← k.1, c.done.ensures, ← (rw (f.handle, ← f.true_of_it.len) at q.0)) (refl, rw f.handle at (q.1 c.args.medium.now b (λ i. search rules) f.true_of_it))

pub returns-in-Err : goal.returns-in-Err
returns-in-Err c b =
    let k = is_known c.args.handle c.in-Ok.h (sym c.in-Ok.is ∙ c.try_from.ensures) in
    let f = c.of.ensures in
    let q = rw c.in-Err.is at c.plan_advance.ensures in
    rw (k.0, ← k.1, c.from-in-Err.ensures, ← (rw (f.handle, ← f.true_of_it.len) at q.0), no_steps c.in-Err.e) (refl, rw f.handle at (q.1 c.args.medium.now b (λ i. search rules) f.true_of_it))
