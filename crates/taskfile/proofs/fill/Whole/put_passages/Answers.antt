-- Three numbers more each turn, as `passages_more` says; at the end all passages stand.
use Rattle.std.proofs.Common.{◌∙◌, ◌+◌, ◌-◌, ◌*◌, arith}
use Rattle.taskfile.specs.Contents.{file_passages}
use Rattle.taskfile.specs.FillLaws.{put_part, passage_in, passages_zero, passages_more, passage_length_lem, stacked_end}
use Rattle.taskfile.proofs.fill.Whole.put_passages.Goals as goal

pub loop-i-init : goal.loop-i-init
loop-i-init c = passages_zero _ _

pub loop-i-preserved : goal.loop-i-preserved
unfolding passage_in
loop-i-preserved c =
    let first = 3 * c.loop-i.i in
    let file = c.args.self.now.file.now in
    passages_more file _ c.loop-i.passages _ c.loop-i.i c.loop-i.invariant (omega arith)
    (put_part first (first + 3 - first) c.loop-i.passages _ (passage_in file c.loop-i.i) (c.put_passage.ensures ∙ rw c.passage_place.ensures) (omega (arith, passage_length_lem file c.loop-i.i)))

pub returns : goal.returns
unfolding file_passages passage_in
returns c = stacked_end _ _ _ _ _ c.loop-i.i _ c.loop-i.invariant c.loop-i.auto.i-end c.loop-i-test.false
