-- What a search of a range finds is the definition's.
use Rattle.std.proofs.Common.{rules}
use Rattle.std.proofs.iter.runs.Sources.{ranges}
use Rattle.laws.specs.Chains.{find_by}
use Rattle.dealing.specs.Board.{first_marked}
use Rattle.dealing.proofs.board.first_marked.Goals as goal

pub returns : goal.returns
unfolding first_marked
returns c = find_by _ _ _ (λ e x l. search (rules, ranges)) (λ i e. search (rules, ranges))
