-- Every byte of the word stands there, or one doesn't.
use Rattle.std.proofs.Common.{rules}
use Rattle.std.proofs.iter.runs.Made.{chains}
use Rattle.laws.specs.Chains.{all_by}
use Rattle.gridmap.specs.Text.{is_word}
use Rattle.gridmap.proofs.header.is_word.Goals as goal

pub returns : goal.returns
unfolding is_word
returns c = all_by _ _ _ (λ e x l. search (rules, chains)) (λ e. search (rules, chains))
