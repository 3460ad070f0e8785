-- The loop keeps that the passages of the neighbours below j stand at the front of the buffer.
use Rattle.laws.specs.Gather.{gathered}
use Rattle.laws.specs.Put.{Put}
use Rattle.gridmap.specs.Passages.{passage}
use Rattle.gridmap.specs.Laws.{map_with}
use Rattle.gridmap.proofs.states.States.put_passages.Given as goal

abbrev pub invariant-loop-j : goal.invariant-loop-j
invariant-loop-j l = Put 0 (gathered (passage (map_with l.self.grid)) l.j) l.fn.passages l.passages l.next
