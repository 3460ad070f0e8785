-- The worker's place lies in the row, which the state's mark leaves as long as it was.
use Rattle.std.proofs.Common.{arith, length-set}
use Rattle.deskc.specs.Laws.{row_bounds}
use Rattle.deskc.proofs.row.put_taken.Goals as goal

pub bounds-row-worker : goal.bounds-row-worker
bounds-row-worker c = simp length-set (omega (arith, (c.requires.1 _ c.in-Took.is).1, (row_bounds _ c.requires.0).long))
