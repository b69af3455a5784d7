-- `part`: the entry, and for the last part that 4 bits are looked at alone. Assumes nothing.
use mathlib.Core.Path.{◌≡◌, sym, ap, ◌∙◌}
use Rattle.std.proofs.Common.{arith, ℕ, ◌-◌, ◌*◌, ◌%◌}
use Rattle.crc64_tables.specs.Leaves.{leaves}
use Rattle.crc64_tables.proofs.Tables.{entry, leaves_same, leaves_none}
use Rattle.crc64_tables.proofs.part.Goals as goal

pub returns-then-i-lt-PARTS-clause-six : goal.returns-then-i-lt-PARTS-clause-six
returns-then-i-lt-PARTS-clause-six c = entry c.args.i (c.args.x % 64) c.if-i-lt-PARTS.true (omega arith)

pub returns-then-i-lt-PARTS-clause-four : goal.returns-then-i-lt-PARTS-clause-four
returns-then-i-lt-PARTS-clause-four c e =
    let n : 64 - 6 * c.args.i ≡ 4 = omega arith in
    entry c.args.i (c.args.x % 64) c.if-i-lt-PARTS.true (omega arith)
    ∙ ap (λ (j : ℕ). leaves j (c.args.x % 64)) n
    ∙ leaves_same 4 _ _ (omega arith)

pub returns-else-i-lt-PARTS-clause-six : goal.returns-else-i-lt-PARTS-clause-six
returns-else-i-lt-PARTS-clause-six c =
    let n : 64 - 6 * c.args.i ≡ 0 = omega (arith, c.if-i-lt-PARTS.false) in
    sym (ap (λ (j : ℕ). leaves j (c.args.x % 64)) n ∙ leaves_none (c.args.x % 64))
