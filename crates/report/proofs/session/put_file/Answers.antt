-- `put_file`: what was read of the file fits the three arrays that it was read into, and its text is what is printed.
use Rattle.std.proofs.Common.{arith}
use Rattle.report.specs.SessionLaws.{reading_bounds, printed_fault, printed_task}
use Rattle.report.proofs.session.put_file.Goals as goal

pub put_session-requires-clause-counts : goal.put_session-requires-clause-counts
put_session-requires-clause-counts c =
    let w = reading_bounds _ _ c.in-Ok.ensures.value in
    record { passages_in = omega (arith, w.passages_in); estimates_in = omega (arith, w.estimates_in); calls_in = omega (arith, w.calls_in) }

pub put_session-requires-clause-room : goal.put_session-requires-clause-room
put_session-requires-clause-room c = omega (arith, (reading_bounds _ _ c.in-Ok.ensures.value).calls_in, c.requires)

pub returns-in-Ok : goal.returns-in-Ok
returns-in-Ok c =
    let r = c.in-Ok.ensures in
    rw (← printed_task _ _ _ _ _ r.value r.passages_after r.estimates_after r.calls_after) c.put_session.ensures

pub returns-in-Err : goal.returns-in-Err
returns-in-Err c = rw (← printed_fault _ _ c.in-Err.ensures.value) (rw (c.from-in-Err.ensures, c.from.ensures) at c.line.ensures.text)
