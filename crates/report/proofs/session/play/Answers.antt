-- `play`: the machine after each event is as sound as the one that the session began with.
use Rattle.std.proofs.Common.{sym, refl, arith, rules}
use Rattle.desk.specs.KeyLaws.{after_sound}
use Rattle.report.specs.SessionLaws.{played_zero, played_more, played_end}
use Rattle.report.proofs.session.play.Goals as goal

pub loop-event-init : goal.loop-event-init
loop-event-init c = played_zero _ _ _ _ _ c.requires.0

pub tell-m-requires : goal.tell-m-requires
tell-m-requires c =
    let w = c.loop-event.invariant in (
      omega (arith, w.left, c.loop-event-test.true),
      sym (after_sound _ _ _ _ _ _ (record { marks = search rules; labels = search rules; vias = search rules; workers = search rules; keys = search rules }) (sym c.requires.1) w.machine),
    )

pub loop-event-preserved : goal.loop-event-preserved
loop-event-preserved c = played_more _ _ _ _ _ _ _ _ c.loop-event.invariant c.loop-event-test.true _ refl _ _ c.tell-m.ensures

pub returns : goal.returns
returns c = played_end _ _ _ _ _ _ _ _ c.loop-event.invariant c.loop-event-test.false
