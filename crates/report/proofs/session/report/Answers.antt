-- `report`: the text is put on a page over the buffer where that has room for it.
use Rattle.std.proofs.Common.{rules, ◌∙◌}
use Rattle.report.specs.SessionLaws.{report_short, report_put}
use Rattle.report.proofs.session.report.Goals as goal

pub returns-then-out-lt-ROOM-clause-value : goal.returns-then-out-lt-ROOM-clause-value
returns-then-out-lt-ROOM-clause-value c = (report_short _ c.args.out.now c.if-out-lt-ROOM.true).0

pub returns-then-out-lt-ROOM-clause-out_after : goal.returns-then-out-lt-ROOM-clause-out_after
returns-then-out-lt-ROOM-clause-out_after c = (report_short _ _ c.if-out-lt-ROOM.true).1

pub returns-clause-value : goal.returns-clause-value
returns-clause-value c = (report_put _ _ c.if-out-lt-ROOM.false _ _ c.put_file.ensures.put).0

pub returns-clause-out_after : goal.returns-clause-out_after
returns-clause-out_after c = search rules ∙ (report_put _ _ c.if-out-lt-ROOM.false _ _ c.put_file.ensures.put).1
