-- `put_passages` puts a record a turn: before turn i the first i passages were written.
use Rattle.taskfile.specs.PutLaws.{PutsAll}
use Rattle.taskfile.specs.Writing.{passage_record}
use Rattle.taskfile.proofs.put.Cursor.put_passages.Given as goal

abbrev pub invariant-loop-passage : goal.invariant-loop-passage
invariant-loop-passage l = PutsAll (passage_record l.passages) 12 l.fn.self l.self l.passage-index
