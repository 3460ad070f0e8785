-- The loop's start and turn are the laws on `Served`. What was looked at once holds of every machine on the way.
use Rattle.std.proofs.Common.{◌≤◌, ◌∙◌, sym, ap, length, rules, arith}
use Rattle.desk.specs.Calls.{call}
use Rattle.desk.specs.KeyLaws.{after_sound}
use Rattle.desk.specs.CallLaws.{served_zero, served_more, morning_room}
use Rattle.desk.proofs.Machine.morning.Goals as goal

pub loop-i-init : goal.loop-i-init
loop-i-init c = served_zero _ _ _ _ _

pub call-reply-requires : goal.call-reply-requires
call-reply-requires c =
    after_sound _ _ _ _ _ _ (record { marks = search rules; labels = search rules; vias = search rules; workers = search rules; keys = search rules })
    c.is_sound-sound.ensures c.loop-i.invariant.machine

pub loop-i-preserved : goal.loop-i-preserved
loop-i-preserved c =
    let room : length c.args.events.now ≤ length c.args.row.now = morning_room _ _ (sym c.in_default.ensures) in
    served_more _ _ _ _ _ _ _ c.loop-i.i _ _ c.loop-i.invariant c.loop-i-test.true (omega arith) (c.call-reply.ensures ∙ ap (call _ _ c.loop-i.self) c.from.ensures) c.from-in-loop-i.ensures
