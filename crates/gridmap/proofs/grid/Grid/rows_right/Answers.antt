-- Every place is right where every row is.
use Rattle.std.proofs.Common.{◌≡◌, ◌+◌, length, eq-eqb, arith, rules}
use Rattle.gridmap.specs.Chains.{all_run}
use Rattle.gridmap.specs.Map.{places, rows_right}
use Rattle.gridmap.specs.Laws.{map_with, row_right}
use Rattle.gridmap.specs.CellLaws.{rows_split}
use Rattle.gridmap.proofs.grid.Grid.rows_right.Goals as goal

pub returns-then-self-places : goal.returns-then-self-places
unfolding rows_right
returns-then-self-places c =
    let m = map_with c.args.self.now in
    let (q, from, given) = c.all.ensures.runs in
    let rows = all_run c.args.self.now.height q from (row_right m) (λ a b f h. search rules) c.all.result given in
    let long : length m.text ≡ m.rows + places m = omega (arith, c.if-self-places.true, c.places.ensures.0) in
    rw (eq-eqb (length m.text) (m.rows + places m) long, rows_split m) rows
