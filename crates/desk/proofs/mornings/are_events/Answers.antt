use Rattle.std.proofs.Common.{rules}
use Rattle.std.proofs.iter.runs.Made.{chains}
use Rattle.laws.specs.Chains.{all_by}
use Rattle.desk.specs.Morning.{events_right}
use Rattle.desk.proofs.mornings.are_events.Goals as goal

pub returns : goal.returns
unfolding events_right
returns c = all_by _ _ _ (λ e x l. search (rules, chains)) (λ e. search (rules, chains))
