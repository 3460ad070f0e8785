-- The halving ends at the first cell that isn't before the one looked for.
use Rattle.std.proofs.Common.{rules}
use Rattle.std.proofs.lemmas.List.Sorted.{IsPartitionPoint-from_clause}
use Rattle.gridmap.specs.Laws.{map_with}
use Rattle.gridmap.specs.RowLaws.{before, halves, half_is}
use Rattle.gridmap.proofs.states.States.state_of.Goals as goal

pub returns : goal.returns
returns c =
    let s = c.args.self.now in
    let m = map_with s.grid in
    let point = IsPartitionPoint-from_clause (before m s.grid.small s.spots.now s.placed c.args.spot) s.spots.now c.partition_point.result c.partition_point.ensures.partitioned (halves m s.grid.small s.spots.now s.placed c.args.spot) (λ a r f h. search rules) in
    half_is m s.grid.small s.spots.now s.placed c.args.spot c.requires c.partition_point.result point c.partition_point.ensures.bound
