-- `put_session`: the reply of opening says whether the refusal is put or the events are played, and what it accepted is what `play` asks.
use Rattle.std.proofs.Common.{rules}
use Rattle.report.specs.SessionLaws.{put_refused, put_played, played_sound}
use Rattle.report.proofs.session.put_session.Goals as goal

pub play-requires : goal.play-requires
play-requires c = (search rules, played_sound c.args.c _ _ _ c.opened-answer.ensures c.in_default.not-Refused)

pub returns-in-Refused : goal.returns-in-Refused
returns-in-Refused c = put_refused _ _ _ _ c.opened-answer.ensures _ _ _ _ c.in-Refused.is (rw (c.from-in-Refused.ensures, c.from.ensures) at c.line.ensures.text)

pub returns-in_default : goal.returns-in_default
returns-in_default c = put_played _ _ _ _ c.opened-answer.ensures _ _ _ c.in_default.not-Refused c.play.ensures
