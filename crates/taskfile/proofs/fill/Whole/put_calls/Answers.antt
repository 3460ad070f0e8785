-- One call more each turn, as `filled_front` says; at the end the front is filled, and what is behind it stays.
use Rattle.std.proofs.Common.{◌≡◌, ◌+◌, ◌*◌, length, take, zero-add, length-take-le, arith}
use Rattle.laws.specs.Fill.{made_length, filled_zero, filled_front, filled_whole}
use Rattle.taskfile.specs.Contents.{file_calls}
use Rattle.taskfile.specs.Records.{payload_place, call_length, call_place}
use Rattle.taskfile.specs.FillLaws.{call_in}
use Rattle.taskfile.proofs.fill.Whole.put_calls.Goals as goal

pub loop-i-init : goal.loop-i-init
loop-i-init c = filled_zero (call_in c.args.self.now.file.now c.args.self.now.scan.passages c.args.self.now.scan.n) 0 _

pub loop-i-preserved : goal.loop-i-preserved
loop-i-preserved c =
    let place : c.call_place-first.result + (payload_place + call_length) * c.loop-i.i ≡ call_place c.args.self.now.scan.passages c.args.self.now.scan.n c.loop-i.i = omega (arith, c.call_place-first.ensures) in
    filled_front (call_in c.args.self.now.file.now c.args.self.now.scan.passages c.args.self.now.scan.n) _ _ c.loop-i.i c.loop-i.invariant (omega arith) _ (rw (c.from.ensures, c.from-in-loop-i.ensures, c.worker.ensures, place))

pub returns : goal.returns
unfolding file_calls
returns c =
    let f = call_in c.args.self.now.file.now c.args.self.now.scan.passages c.args.self.now.scan.n in
    let front = take c.args.self.now.scan.calls c.args.calls.now in
    let long : length front ≡ c.args.self.now.scan.calls = length-take-le c.args.self.now.scan.calls c.args.calls.now (omega arith) in
    rw (filled_whole f c.args.self.now.scan.calls front c.loop-i.front c.loop-i.i c.loop-i.invariant (omega arith) (omega arith) long, made_length f c.args.self.now.scan.calls, zero-add)
