-- Where none of 1 to 4 applies the task is right, so that 5 to 7 can be asked.
use Rattle.std.proofs.Common.{sym}
use Rattle.checks.specs.Laws.{right, whole}
use Rattle.checks.proofs.task.Task.fault.Goals as goal

pub invariant_of-table : goal.invariant_of-table
invariant_of-table c = record { whole = whole _ (right _ (sym c.in_ok-early_fault.ensures)) }

pub passages_bound-requires : goal.passages_bound-requires
passages_bound-requires c = let r = right _ (sym c.in_ok-early_fault.ensures) in r.listed
