-- The loop's start, turn and end are the laws on `Foremost`.
use Rattle.std.proofs.Common.{◌∙◌, sym, arith}
use Rattle.dealing.specs.LimitedLeadLaws.{foremost_zero, foremost_skip, foremost_lost, foremost_won, foremost_end}
use Rattle.dealing.proofs.limits.foremost_lead.Goals as goal
use Rattle.dealing.proofs.limits.foremost_lead.Goals.{in-Some+then-wins, in-Some+else-wins, in_default}

pub loop-lead-init : goal.loop-lead-init
loop-lead-init c = foremost_zero _

pub loop-lead-preserved : goal.loop-lead-preserved
loop-lead-preserved c =
    elim c.match-lead.branch [
      | in-Some+then-wins w ↦ rw (w.best-is, w.in-Some.is) (foremost_won _ _ _ c.loop-lead.invariant _ w.in-Some.is c.loop-lead-test.true (sym w.wins.ensures ∙ w.if-wins.true))
      | in-Some+else-wins w ↦ rw w.best-is (foremost_lost _ _ _ c.loop-lead.invariant _ w.in-Some.is (sym w.wins.ensures ∙ w.if-wins.false))
      | in_default w ↦ rw w.best-is (foremost_skip _ _ _ c.loop-lead.invariant w.in_default.is)
    ]

pub returns : goal.returns
returns c = foremost_end _ _ _ c.loop-lead.invariant (omega arith) (omega arith)
