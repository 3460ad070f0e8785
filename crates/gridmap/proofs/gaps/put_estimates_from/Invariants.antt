-- The loop keeps that the estimates to the first b cells stand at the front.
use Rattle.laws.specs.Fill.{Filled}
use Rattle.gridmap.specs.Laws.{apart_from}
use Rattle.gridmap.proofs.gaps.put_estimates_from.Given as goal

abbrev pub invariant-loop-b : goal.invariant-loop-b
invariant-loop-b l = Filled (apart_from l.from l.spots) 0 l.fn.estimates l.estimates l.b
