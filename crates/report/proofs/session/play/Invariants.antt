-- `play`: the loop's invariant is that the machine and the text are the session's after so many events, with 50 places left for each further event and a path line's places while the search goes on.
use Rattle.report.specs.SessionLaws.{Played}
use Rattle.report.proofs.session.play.Given as goal

abbrev pub invariant-loop-event : goal.invariant-loop-event
invariant-loop-event l = Played l.passages l.estimates l.fn.machine l.events l.fn.page l.page l.m l.event-index
