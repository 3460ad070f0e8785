-- `put_calls` fills the front of the slice: before turn i the first i places hold the first i calls.
use Rattle.laws.specs.Fill.{Filled}
use Rattle.taskfile.specs.FillLaws.{call_in}
use Rattle.taskfile.proofs.fill.Whole.put_calls.Given as goal

abbrev pub invariant-loop-i : goal.invariant-loop-i
invariant-loop-i l = Filled (call_in l.self.file.now l.self.scan.passages l.self.scan.n) 0 l.initial.front l.front l.i
