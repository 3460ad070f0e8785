-- Where conditions 1 to 4 hold, the table is whole and the goal is a state, which is what the test of the keys asks.
use Rattle.std.proofs.Common.{◌∙◌, sym}
use Rattle.laws.specs.Truth.{passed}
use Rattle.checks.specs.Laws.{Right, right, whole}
use Rattle.desk.specs.Machine.{task_of}
use Rattle.desk.proofs.Machine.is_sound.Goals as goal
use Rattle.desk.proofs.Machine.is_sound.Goals.{Else-is_err}

holds : (c : Else-is_err) → Right (task_of c.args.self.now c.args.passages.now c.args.estimates.now)
holds c = right _ (sym c.early_fault.ensures ∙ passed _ c.if-is_err.ensures.negation)

pub invariant_of-table : goal.invariant_of-table
invariant_of-table c = record { whole = whole _ (holds c) }

pub keys_right-requires : goal.keys_right-requires
keys_right-requires c = (holds (goal.at.keys_right-requires c).Else-is_err).goal_in
