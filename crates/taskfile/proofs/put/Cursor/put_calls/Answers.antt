-- One record more each turn, as `puts_more` says.
use Rattle.std.proofs.Common.{refl, arith, ◌+◌}
use Rattle.taskfile.specs.Records.{payload_place, call_length}
use Rattle.taskfile.specs.Writing.{call_record}
use Rattle.taskfile.specs.PutLaws.{puts_zero, puts_more}
use Rattle.taskfile.specs.WritingLaws.{call_length_lem}
use Rattle.taskfile.proofs.put.Cursor.put_calls.Goals as goal

pub loop-event-init : goal.loop-event-init
loop-event-init c = puts_zero (call_record _) (payload_place + call_length) (call_length_lem _) _

pub loop-event-preserved : goal.loop-event-preserved
unfolding call_record
loop-event-preserved c =
    puts_more (call_record c.args.calls.now) (payload_place + call_length) (call_length_lem _) c.args.self.now c.loop-event.self _ c.loop-event.event-index _ c.loop-event.invariant (omega arith) refl
    c.put_call.ensures
