-- `put_rows` puts a record a turn: before turn r the first r rows were written.
use Rattle.std.proofs.Common.{◌+◌, ◌*◌}
use Rattle.taskfile.specs.PutLaws.{PutsAll}
use Rattle.taskfile.specs.Writing.{row_record}
use Rattle.taskfile.proofs.put.Cursor.put_rows.Given as goal

abbrev pub invariant-loop-r : goal.invariant-loop-r
invariant-loop-r l = PutsAll (row_record l.estimates l.n) (6 + 4 * l.n) l.fn.self l.self l.r
