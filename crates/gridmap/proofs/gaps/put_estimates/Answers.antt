-- The estimates from a cell are put behind those from the cells before it.
use Rattle.gridmap.specs.EstimateLaws.{table_zero, table_more, table_end}
use Rattle.gridmap.proofs.gaps.put_estimates.Goals as goal

pub loop-a-init : goal.loop-a-init
loop-a-init c = table_zero c.args.spots.now _ c.args.estimates.now

pub loop-a-preserved : goal.loop-a-preserved
loop-a-preserved c = table_more c.args.spots.now _ _ c.loop-a.a c.loop-a-test.true c.requires c.loop-a.invariant _ c.put_estimates_from.ensures

pub returns : goal.returns
returns c = table_end c.args.spots.now _ _ c.loop-a.a c.loop-a.auto.a-end c.loop-a-test.false c.loop-a.invariant
