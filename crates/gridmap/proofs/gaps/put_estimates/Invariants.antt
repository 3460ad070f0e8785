-- The loop keeps that the estimates from the cells before a stand at the front.
use Rattle.std.proofs.Common.{◌*◌}
use Rattle.gridmap.specs.EstimateLaws.{Table}
use Rattle.gridmap.proofs.gaps.put_estimates.Given as goal

abbrev pub invariant-loop-a : goal.invariant-loop-a
invariant-loop-a l = Table l.spots l.fn.estimates l.estimates (l.a * l.n)
