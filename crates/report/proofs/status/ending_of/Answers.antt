-- `ending_of`: what was read of the file fits the arrays that it was read into, and the rest is by opening's reply.
use Rattle.std.proofs.Common.{arith}
use Rattle.report.specs.SessionLaws.{reading_bounds}
use Rattle.report.proofs.StatusLaws.{ending_fault, ending_run, ending_refused}
use Rattle.report.proofs.status.ending_of.Goals as goal

pub opened-requires-clause-passages : goal.opened-requires-clause-passages
opened-requires-clause-passages c = omega (arith, (reading_bounds _ _ c.in-Ok.ensures.value).passages_in)

pub opened-requires-clause-estimates : goal.opened-requires-clause-estimates
opened-requires-clause-estimates c = omega (arith, (reading_bounds _ _ c.in-Ok.ensures.value).estimates_in)

pub returns-in-Refused : goal.returns-in-Refused
returns-in-Refused c =
    let r = c.in-Ok.ensures in
    ending_refused _ _ r.value _ _ r.passages_after r.estimates_after _ c.opened.ensures _ c.in-Refused.is

pub returns-in_default : goal.returns-in_default
returns-in_default c =
    let r = c.in-Ok.ensures in
    ending_run _ _ r.value _ _ r.passages_after r.estimates_after _ c.opened.ensures c.in_default.not-Refused

pub returns-in-Err : goal.returns-in-Err
returns-in-Err c = ending_fault _ _ c.in-Err.ensures.value
