-- A digit more, or the first place where none stands.
use Rattle.std.proofs.Common.{sym, arith}
use Rattle.gridmap.specs.HeadLaws.{read_zero, read_more, read_stop, read_end}
use Rattle.gridmap.proofs.header.size.Goals as goal

pub loop-i-init : goal.loop-i-init
loop-i-init c = read_zero _ _

pub overflow_add-size : goal.overflow_add-size
overflow_add-size c = omega (arith, c.loop-i.invariant.low, c.in-Some.ensures.1)

pub loop-i-preserved : goal.loop-i-preserved
loop-i-preserved c = read_more _ _ _ _ _ c.loop-i-test.true c.loop-i.invariant (sym c.in-Some.ensures.0) c.in-Some.ensures.1

pub returns-in_default : goal.returns-in_default
returns-in_default c = read_stop _ _ _ _ c.loop-i-test.true c.loop-i.invariant (sym c.in_default.ensures.0)

pub returns : goal.returns
returns c = read_end _ _ _ _ c.loop-i.auto.i-end c.loop-i-test.false c.loop-i.invariant
