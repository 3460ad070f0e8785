-- The estimate to b is put behind those that stand there.
use Rattle.std.proofs.Common.{arith}
use Rattle.laws.specs.Fill.{filled_zero, filled_front, filled_whole}
use Rattle.gridmap.proofs.gaps.put_estimates_from.Goals as goal

pub loop-b-init : goal.loop-b-init
loop-b-init c = filled_zero _ 0 _

pub loop-b-preserved : goal.loop-b-preserved
loop-b-preserved c = filled_front _ _ _ c.loop-b.b c.loop-b.invariant (omega arith) _ c.between.ensures

pub returns : goal.returns
returns c = filled_whole _ _ _ _ _ c.loop-b.invariant c.loop-b.auto.b-end c.loop-b-test.false c.requires
