-- `put_rows` writes a row a turn, each behind the one before: before turn r the first r rows stand at the front of the slice.
use Rattle.taskfile.specs.FillLaws.{Stacked, row_in}
use Rattle.taskfile.proofs.fill.Whole.put_rows.Given as goal

abbrev pub invariant-loop-r : goal.invariant-loop-r
invariant-loop-r l = Stacked (row_in l.self.file.now l.self.scan.passages l.self.scan.n) l.self.scan.n 0 l.fn.estimates l.estimates l.r
