-- `scan`: its scan is one that so many records without fault lead to, and each record takes it further.
use Rattle.std.proofs.Common.{length, ◌-◌}
use Rattle.taskfile.specs.Laws.{Reached}
use Rattle.taskfile.proofs.records.scan.Given as goal

abbrev pub invariant-loop-s : goal.invariant-loop-s
invariant-loop-s l = Reached l.file l.s

abbrev pub decreases-loop-s : goal.decreases-loop-s
decreases-loop-s l = length l.file - l.s.at
