-- One record more each turn, as `puts_more` says; a row ends within the table, and its record within the records of all rows.
use Rattle.std.proofs.Common.{◌≡◌, ◌∙◌, ◌+◌, ◌-◌, ◌*◌, length, take, drop, length-drop, length-take-le, arith}
use Rattle.taskfile.specs.Writing.{row_record}
use Rattle.taskfile.specs.Laws.{row_width}
use Rattle.taskfile.specs.FillLaws.{part_inside}
use Rattle.taskfile.specs.PutLaws.{row_same, puts_zero, puts_more}
use Rattle.taskfile.specs.WritingLaws.{row_length_lem}
use Rattle.taskfile.proofs.put.Cursor.put_rows.Goals as goal

pub loop-r-init : goal.loop-r-init
loop-r-init c = puts_zero (row_record _ _) _ (λ r. row_length_lem _ _ r ∙ row_width _) _

pub loop-r-preserved : goal.loop-r-preserved
loop-r-preserved c =
    let n = c.args.n in
    let r = c.loop-r.r in
    let first = r * n in
    let estimates = c.args.estimates.now in
    let within = part_inside r n n c.loop-r-test.true in
    let short : first + n - first ≡ n = omega arith in
    let long : length (take n (drop first estimates)) ≡ n = length-take-le n (drop first estimates) (omega (arith, within, length-drop first estimates)) in
    puts_more (row_record estimates n) (6 + 4 * n) (λ r. row_length_lem estimates n r ∙ row_width n) c.args.self.now c.loop-r.self _ r (6 + 4 * length (take n (drop first estimates))) c.loop-r.invariant
    (omega (arith, part_inside r n (6 + 4 * n) c.loop-r-test.true)) (rw long)
    (rw (← row_same estimates n r (omega (arith, within))) (rw short at c.put_row.ensures))
