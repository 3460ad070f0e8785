-- The loop's invariant: `best` is the lead of the block that is foremost of those looked at.
use Rattle.dealing.specs.LimitedLeadLaws.{Foremost}
use Rattle.dealing.proofs.limits.foremost_lead.Given as goal

abbrev pub invariant-loop-lead : goal.invariant-loop-lead
invariant-loop-lead l = Foremost l.leads l.lead-index l.best
