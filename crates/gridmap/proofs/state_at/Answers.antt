-- A state is one of 256 at most.
use Rattle.std.proofs.Common.{sym, ◌∙◌, arith}
use Rattle.gridmap.specs.Laws.{map_with}
use Rattle.gridmap.specs.CellLaws.{place_in, state_in}
use Rattle.gridmap.proofs.Maps.{few, known}
use Rattle.gridmap.proofs.state_at.Goals as goal

pub overflow_cast-result : goal.overflow_cast-result
overflow_cast-result c =
    let grid = c.in_ok-grid.grid in
    let m = map_with grid in
    let inside = place_in m c.args.row c.args.column c.if-row-grid.false (omega arith) in
    let state = state_in m c.place_of-place.result (rw c.place_of-place.ensures.0 inside) (sym c.is_open_at.ensures ∙ c.if-not-is_open_at.false) in
    omega (arith, c.count_before.ensures.0, state, few c.args.text grid (known c.args.text grid c.checked.result c.in_ok-grid.ensures.value c.checked.ensures))
