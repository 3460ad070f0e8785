-- One row more each turn, as `rows_more` says; a row ends within the table.
use Rattle.std.proofs.Common.{◌≡◌, ◌∙◌, ◌+◌, ◌-◌, ◌*◌, length, take, drop, length-drop, length-take-le, arith}
use Rattle.laws.specs.Fill.{made_length}
use Rattle.taskfile.specs.Bytes.{long}
use Rattle.taskfile.specs.Contents.{file_estimates}
use Rattle.taskfile.specs.Records.{row_place}
use Rattle.taskfile.specs.FillLaws.{put_part, row_from, row_in, rows_zero, rows_more, part_inside, stacked_end}
use Rattle.taskfile.proofs.fill.Whole.put_rows.Goals as goal

pub loop-r-init : goal.loop-r-init
loop-r-init c = rows_zero _ _ _ _

pub loop-r-preserved : goal.loop-r-preserved
loop-r-preserved c =
    let n = c.args.self.now.scan.n in
    let first = c.loop-r.r * n in
    let within = part_inside c.loop-r.r n n c.loop-r-test.true in
    let short : first + n - first ≡ n = omega arith in
    let whole : length (take n (drop first c.loop-r.estimates)) ≡ n = length-take-le n (drop first c.loop-r.estimates) (omega (arith, within, length-drop first c.loop-r.estimates)) in
    rows_more _ _ _ _ c.loop-r.estimates _ c.loop-r.r c.loop-r.invariant (omega (arith, within))
    (put_part first (first + n - first) c.loop-r.estimates _ (row_from c.args.self.now.file.now (row_place c.args.self.now.scan.passages n c.loop-r.r) n) (c.put_row.ensures ∙ rw (short, whole, c.row_place-at.ensures)) (omega (arith, made_length (λ k. long c.args.self.now.file.now (row_place c.args.self.now.scan.passages n c.loop-r.r + 6 + 4 * k)) n)))

pub returns : goal.returns
unfolding file_estimates row_in
returns c = stacked_end _ _ _ _ _ c.loop-r.r _ c.loop-r.invariant c.loop-r.auto.r-end c.loop-r-test.false
