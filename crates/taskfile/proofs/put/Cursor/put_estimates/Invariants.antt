-- `put_estimates` puts four bytes a turn: before turn c the first c estimates were written.
use Rattle.std.proofs.Common.{get_or}
use Rattle.taskfile.specs.Bytes.{bytes_of}
use Rattle.taskfile.specs.PutLaws.{PutsAll}
use Rattle.taskfile.proofs.put.Cursor.put_estimates.Given as goal

abbrev pub invariant-loop-estimate : goal.invariant-loop-estimate
invariant-loop-estimate l = PutsAll (λ c. bytes_of 4 (get_or l.row c 0)) 4 l.fn.self l.self l.estimate-index
