-- The loop's invariant: the machine and the row are those of the first i calls.
use Rattle.desk.specs.CallLaws.{Served}
use Rattle.desk.proofs.Machine.morning.Given as goal

abbrev pub invariant-loop-i : goal.invariant-loop-i
invariant-loop-i l = Served l.passages l.estimates l.initial.self l.events l.initial.row l.row l.self l.i
