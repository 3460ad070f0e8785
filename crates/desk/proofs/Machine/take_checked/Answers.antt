-- The refusals of the ladder, then what was decided. A machine that fits gives the choice what it asks, and a decided state has a place in the rows.
use Rattle.std.proofs.Common.{◌∙◌, sym, ap, not}
use Rattle.checks.specs.Laws.{whole}
use Rattle.desk.specs.Take.{take_of}
use Rattle.desk.specs.KeyLaws.{keyed}
use Rattle.desk.specs.Laws.{sound_sizes, turned_away, not_ready}
use Rattle.desk.proofs.Calls.{leaves, leaves_as, leaves_turned, let_in, facts, worker_in, empty, in_rows, acts}
use Rattle.desk.proofs.Machine.take_checked.Goals as goal

pub hands-requires : goal.hands-requires
hands-requires c = sound_sizes _ _ _ c.requires

pub returns-in_err-hands : goal.returns-in_err-hands
unfolding take_of
returns-in_err-hands c = leaves_turned _ c.from_residual.ensures.1 (turned_away _ _ _ _ _ _ c.requires _ c.in_err-hands.ensures _ _)

pub returns-then-is_some : goal.returns-then-is_some
unfolding take_of
returns-then-is_some c =
    let m = c.args.self.now in
    leaves
    (not_ready _ _ _ _ _ _ _ (let_in m _ _ _ _ c.requires _ c.in_ok-hands.ensures)
    (empty m _ _ _ _ c.requires _ c.in_ok-hands.ensures ∙ ap not (sym c.is_some.ensures ∙ c.if-is_some.true)))

pub decide-decision-requires : goal.decide-decision-requires
decide-decision-requires c = let f = facts c.args.self.now _ _ _ _ c.requires _ c.in_ok-hands.ensures in (keyed _ _ _ _ f, whole _ f.task, f.task.goal_in)

pub act-requires : goal.act-requires
act-requires c =
    let m = c.args.self.now in
    (in_rows m _ _ _ _ c.requires _ c.in_ok-hands.ensures _ c.decide-decision.ensures, worker_in m _ _ _ _ c.requires _ c.in_ok-hands.ensures)

pub returns : goal.returns
returns c =
    leaves_as c.act.ensures
    (acts c.args.self.now _ _ _ _ c.requires _ c.in_ok-hands.ensures (sym c.is_some.ensures ∙ c.if-is_some.false) _ c.decide-decision.ensures)
