-- `put_passages` stores three numbers a turn: before turn i the passages before i stand at the front of the slice.
use Rattle.taskfile.specs.FillLaws.{Stacked, passage_in}
use Rattle.taskfile.proofs.fill.Whole.put_passages.Given as goal

abbrev pub invariant-loop-i : goal.invariant-loop-i
invariant-loop-i l = Stacked (passage_in l.self.file.now) 3 0 l.fn.passages l.passages l.i
