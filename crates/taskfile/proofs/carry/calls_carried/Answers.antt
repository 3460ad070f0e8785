-- `all` stops at the first event that fails, and is true where none does.
use Rattle.std.proofs.Common.{rules}
use Rattle.std.proofs.iter.runs.Made.{chains}
use Rattle.laws.specs.Chains.{all_by}
use Rattle.taskfile.specs.Writing.{calls_carried}
use Rattle.taskfile.proofs.carry.calls_carried.Goals as goal

pub returns : goal.returns
unfolding calls_carried
returns c = all_by _ _ _ (λ e i l. search (rules, chains)) (λ e. search (rules, chains))
