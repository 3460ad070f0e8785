-- `tell`: the report's text fits the room that it was lent, and so much of it is what is written.
use Rattle.std.proofs.Common.{◌≡◌, ◌≤◌, ◌∙◌, length, arith, sym, ap}
use Rattle.std.proofs.Math.Seq.{length-take-le}
use Rattle.report.specs.SessionLaws.{report_within}
use Rattle.filter.proofs.tell.Goals as goal

pub slice_bounds-drain-end-2 : goal.slice_bounds-drain-end-2
slice_bounds-drain-end-2 c =
    let room : length c.report-many.new.out ≡ length c.args.text.now = c.report-many.auto.out in
    let fits : c.report-many.result ≤ length c.report-many.new.out =
    omega (arith, c.report-many.ensures.value, report_within _ _ (sym (ap length c.report-many.ensures.out_after) ∙ room)) in
    sym (length-take-le _ _ fits)
