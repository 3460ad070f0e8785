-- A state's cell is on the map.
use Rattle.std.proofs.Common.{sym}
use Rattle.std.proofs.lemmas.Option.{cond_some}
use Rattle.std.specs.Prelude.{ltb}
use borrow.Author.Tests.{ltb-true}
use Rattle.gridmap.specs.Map.{cell_of, state_count}
use Rattle.gridmap.specs.Laws.{map_with}
use Rattle.gridmap.specs.CellLaws.{cell_in}
use Rattle.gridmap.proofs.spot_of.Goals as goal

pub spot_at-requires : goal.spot_at-requires
spot_at-requires c =
    let m = map_with c.in_ok-grid.grid in
    let found = cond_some (ltb c.args.state (state_count m)) (cell_of m c.args.state) c.in_ok-place.place (sym c.in_ok-place.ensures) in
    rw (← found.1) (cell_in m c.args.state (ltb-true c.args.state (state_count m) found.0))
