-- `put_calls` puts a record a turn: before turn i the first i calls were written.
use Rattle.std.proofs.Common.{◌+◌}
use Rattle.taskfile.specs.PutLaws.{PutsAll}
use Rattle.taskfile.specs.Records.{payload_place, call_length}
use Rattle.taskfile.specs.Writing.{call_record}
use Rattle.taskfile.proofs.put.Cursor.put_calls.Given as goal

abbrev pub invariant-loop-event : goal.invariant-loop-event
invariant-loop-event l = PutsAll (call_record l.calls) (payload_place + call_length) l.fn.self l.self l.event-index
