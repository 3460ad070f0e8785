-- One record more each turn, as `puts_more` says.
use Rattle.std.proofs.Common.{refl, length, arith, ◌/◌, ◌<◌}
use Rattle.taskfile.specs.Writing.{passage_record}
use Rattle.taskfile.specs.PutLaws.{passage_same, puts_zero, puts_more}
use Rattle.taskfile.specs.WritingLaws.{passage_length_lem}
use Rattle.taskfile.proofs.put.Cursor.put_passages.Goals as goal

pub loop-passage-init : goal.loop-passage-init
loop-passage-init c = puts_zero (passage_record _) 12 (passage_length_lem _) _

pub loop-passage-preserved : goal.loop-passage-preserved
loop-passage-preserved c =
    let passages = c.args.passages.now in
    let many = length passages / 3 in
    let i = c.loop-passage.passage-index in
    let more : i < many = omega (arith, c.as_chunks.ensures.front_len, c.loop-passage-test.true) in
    puts_more (passage_record passages) 12 (passage_length_lem passages) c.args.self.now c.loop-passage.self _ i 12 c.loop-passage.invariant (omega arith) refl
    (rw (← passage_same passages many i more, ← c.as_chunks.ensures.front) c.put_passage.ensures)
