-- The loop over the passages: at passage i the machine and the count are those of the fold over the passages below i.
use Rattle.desk.specs.Laws.{Run}
use Rattle.desk.proofs.Machine.bring_checked.Given as goal

abbrev pub invariant-loop-i : goal.invariant-loop-i
invariant-loop-i l = Run l.initial.self l.self l.passages l.estimates l.s l.many l.i
