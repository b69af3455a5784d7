-- `feed`: one turn of the loop is one fall; and eight falls take up a byte. Assumes nothing.
use mathlib.Core.Path.{◌≡◌, sym, ◌∙◌}
use Rattle.std.proofs.Common.{rules}
use Rattle.crc64.proofs.Register.{poly, fall}
use Rattle.crc64.proofs.RegisterLaws.{fall_odd, fall_even}
use Rattle.crc64.proofs.Turns.{falls_turn, falls_done, register_byte}
use Rattle.crc64.proofs.feed.Goals as goal
use Rattle.crc64.proofs.feed.Goals.{then-x-eq1, else-x-eq1}

pub loop-preserved : goal.loop-preserved
loop-preserved c =
    let e : fall poly c.loop.x ≡ c.if-x-eq1.x =
    elim c.if-x-eq1.branch [
      | then-x-eq1 w ↦ fall_odd poly _ w.if-x-eq1.true ∙ sym w.x-is
      | else-x-eq1 w ↦ fall_even poly _ w.if-x-eq1.false ∙ sym w.x-is
    ] in
    falls_turn poly 8 _ _ _ _ (search rules) c.loop.invariant e

pub returns : goal.returns
returns c t e = falls_done poly 8 _ _ _ (search rules) c.loop.invariant ∙ register_byte _ _ t (search rules) e
