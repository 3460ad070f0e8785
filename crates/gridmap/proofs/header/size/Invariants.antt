-- The loop keeps that a digit stands at each place below i, and that they make the size.
use Rattle.gridmap.specs.HeadLaws.{Read}
use Rattle.gridmap.proofs.header.size.Given as goal

abbrev pub invariant-loop-i : goal.invariant-loop-i
invariant-loop-i l = Read l.text l.at l.i l.size
