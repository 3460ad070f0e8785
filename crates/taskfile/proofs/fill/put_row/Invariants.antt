-- `fill::put_row` fills the row: before turn c the first c places hold the row's first c estimates.
use Rattle.std.proofs.Common.{◌+◌, ◌*◌}
use Rattle.laws.specs.Fill.{Filled}
use Rattle.taskfile.specs.Bytes.{long}
use Rattle.taskfile.proofs.fill.put_row.Given as goal

abbrev pub invariant-loop-c : goal.invariant-loop-c
invariant-loop-c l = Filled (λ c. long l.file (l.at + 6 + 4 * c)) 0 l.fn.row l.row l.c
