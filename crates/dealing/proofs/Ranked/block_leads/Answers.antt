-- The loop's start, turn and end are the laws on `Filled`.
use Rattle.std.proofs.Common.{refl, arith}
use Rattle.laws.specs.Fill.{filled_zero, filled_front, filled_whole}
use Rattle.dealing.specs.LimitedLeadLaws.{leads_in}
use Rattle.dealing.proofs.Ranked.block_leads.Goals as goal

pub loop-b-init : goal.loop-b-init
loop-b-init c = filled_zero _ 0 _

pub loop-b-preserved : goal.loop-b-preserved
loop-b-preserved c = filled_front _ _ _ _ c.loop-b.invariant c.loop-b-test.true _ c.block_lead.ensures

pub returns : goal.returns
unfolding leads_in
returns c = filled_whole _ _ _ _ _ c.loop-b.invariant (omega arith) (omega arith) refl
