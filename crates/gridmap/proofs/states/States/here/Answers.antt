-- The list holds the row and the column of the state's cell.
use Rattle.std.proofs.Common.{arith}
use Rattle.gridmap.specs.Laws.{map_with}
use Rattle.gridmap.specs.RowLaws.{here_row, here_column}
use Rattle.gridmap.proofs.states.States.here.Goals as goal

pub overflow_add-result : goal.overflow_add-result
overflow_add-result c = let s = c.args.self.now in omega (arith, c.from.ensures, here_row (map_with s.grid) s.grid.small s.spots.now s.placed c.args.j c.requires)

pub overflow_add-result-2 : goal.overflow_add-result-2
overflow_add-result-2 c = let s = c.args.self.now in omega (arith, c.from-2.ensures, here_column (map_with s.grid) s.grid.small s.spots.now s.placed c.args.j c.requires)

pub returns : goal.returns
returns c =
    let s = c.args.self.now in
    record {
      row = rw c.from.ensures (here_row (map_with s.grid) s.grid.small s.spots.now s.placed c.args.j c.requires);
      column = rw c.from-2.ensures (here_column (map_with s.grid) s.grid.small s.spots.now s.placed c.args.j c.requires);
    }
