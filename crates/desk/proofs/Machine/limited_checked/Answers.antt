-- The refusals of the ladder, then Cut or what was decided. A machine that fits gives the test what it asks, and bounds how many comparisons it makes.
use Rattle.std.proofs.Common.{◌∙◌, sym, ap, not, arith}
use Rattle.checks.specs.Laws.{whole}
use Rattle.desk.specs.Limited.{limited_answer}
use Rattle.desk.specs.StepLaws.{beside}
use Rattle.desk.specs.KeyLaws.{keyed}
use Rattle.desk.specs.Laws.{sound_sizes, turned_away, not_ready}
use Rattle.desk.specs.LimitedLaws.{limited_refused, limited_cut, limited_step, limited_placed, cut_small}
use Rattle.desk.proofs.Calls.{turned, leaves_counted, counted_turned, counts, let_in, facts, worker_in, empty}
use Rattle.desk.proofs.Machine.limited_checked.Goals as goal

pub hands-requires : goal.hands-requires
hands-requires c = sound_sizes _ _ _ c.requires

pub returns-in_err-hands : goal.returns-in_err-hands
unfolding limited_answer
returns-in_err-hands c = counted_turned _ c.from_residual.ensures.1 (limited_refused _ _ _ _ _ _ (turned_away _ _ _ _ _ _ c.requires _ c.in_err-hands.ensures _ _))

pub returns-then-is_some : goal.returns-then-is_some
unfolding limited_answer
returns-then-is_some c =
    let m = c.args.self.now in
    leaves_counted
    (limited_refused _ _ _ _ _ _
    (not_ready _ _ _ _ _ _ _ (let_in m _ _ _ _ c.requires _ c.in_ok-hands.ensures)
    (empty m _ _ _ _ c.requires _ c.in_ok-hands.ensures ∙ ap not (sym c.is_some.ensures ∙ c.if-is_some.true))))

pub decide_limited-requires : goal.decide_limited-requires
decide_limited-requires c = let f = facts c.args.self.now _ _ _ _ c.requires _ c.in_ok-hands.ensures in (keyed _ _ _ _ f, whole _ f.task, f.task.goal_in)

pub overflow_cast-result : goal.overflow_cast-result
overflow_cast-result c =
    let f = (facts c.args.self.now _ _ _ _ c.requires _ c.in_ok-hands.ensures).task in
    omega (arith, cut_small _ _ _ f.states _ f.goal_in c.in-None.ensures)

pub act-requires : goal.act-requires
act-requires c =
    let m = c.args.self.now in
    let f = (facts m _ _ _ _ c.requires _ c.in_ok-hands.ensures).task in
    (limited_placed _ _ _ f.states _ _ _ c.in-Some.ensures, worker_in m _ _ _ _ c.requires _ c.in_ok-hands.ensures)

pub returns-in_err-act-in-Some : goal.returns-in_err-act-in-Some
returns-in_err-act-in-Some c =
    let m = c.args.self.now in
    let ready = empty m _ _ _ _ c.requires _ c.in_ok-hands.ensures ∙ ap not (sym c.is_some.ensures ∙ c.if-is_some.false) in
    let l = counts c.in-Some.decided.comparisons c.act.ensures (limited_step _ _ _ _ _ (let_in m _ _ _ _ c.requires _ c.in_ok-hands.ensures) ready _ _ c.in-Some.ensures) in
    (turned _ _ c.from_residual-in_err-act-in-Some.ensures.1 ∙ ap (beside c.in-Some.decided.comparisons) (sym c.in_err-act-in-Some.was) ∙ l.0, l.1)

pub returns-in-None : goal.returns-in-None
returns-in-None c =
    let m = c.args.self.now in
    let ready = empty m _ _ _ _ c.requires _ c.in_ok-hands.ensures ∙ ap not (sym c.is_some.ensures ∙ c.if-is_some.false) in
    leaves_counted (limited_cut _ _ _ _ _ (let_in m _ _ _ _ c.requires _ c.in_ok-hands.ensures) ready c.in-None.ensures)

pub returns-in_ok-act-in-Some : goal.returns-in_ok-act-in-Some
returns-in_ok-act-in-Some c =
    let m = c.args.self.now in
    let ready = empty m _ _ _ _ c.requires _ c.in_ok-hands.ensures ∙ ap not (sym c.is_some.ensures ∙ c.if-is_some.false) in
    let l = counts c.in-Some.decided.comparisons c.act.ensures (limited_step _ _ _ _ _ (let_in m _ _ _ _ c.requires _ c.in_ok-hands.ensures) ready _ _ c.in-Some.ensures) in
    (ap (beside c.in-Some.decided.comparisons) (sym c.in_ok-act-in-Some.was) ∙ l.0, l.1)
