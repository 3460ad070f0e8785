-- The passage ends on the map at an open cell, whose state it is.
use Rattle.std.proofs.Common.{◌∙◌, ap, arith, ◌%◌}
use Rattle.gridmap.specs.Passages.{row_to, column_to}
use Rattle.gridmap.specs.Laws.{map_with}
use Rattle.gridmap.specs.NeighbourLaws.{Free}
use Rattle.gridmap.specs.RowLaws.{held_length, end_at, end_open, end_is}
use Rattle.gridmap.proofs.states.States.leads_to.Goals as goal
use Rattle.gridmap.proofs.states.States.leads_to.Goals.{After-column_to-u}

-- the end's row and column, which lie on the map
its_end : (c : After-column_to-u) → Free (map_with c.args.self.now.grid) c.row_to-v.result c.column_to-u.result
its_end c =
    end_at (map_with c.args.self.now.grid) c.args.j c.requires.1
    _ (c.row_to-v.ensures ∙ ap (row_to (c.args.j % 8)) c.here-y.ensures.row.0) _ (c.column_to-u.ensures ∙ ap (column_to (c.args.j % 8)) c.here-y.ensures.column.0)

pub overflow_sub-v : goal.overflow_sub-v
overflow_sub-v c = (its_end (goal.at.overflow_sub-v c).After-column_to-u).top

pub overflow_cast-v : goal.overflow_cast-v
overflow_cast-v c = omega (arith, its_end (goal.at.overflow_cast-v c).After-column_to-u, c.args.self.now.grid.small)

pub overflow_sub-u : goal.overflow_sub-u
overflow_sub-u c = (its_end (goal.at.overflow_sub-u c).After-column_to-u).left

pub overflow_cast-u : goal.overflow_cast-u
overflow_cast-u c = omega (arith, its_end (goal.at.overflow_cast-u c).After-column_to-u, c.args.self.now.grid.small)

pub state_of-requires : goal.state_of-requires
state_of-requires c =
    end_open (map_with c.args.self.now.grid) c.args.j c.requires.1
    _ (c.row_to-v.ensures ∙ ap (row_to (c.args.j % 8)) c.here-y.ensures.row.0) _ (c.column_to-u.ensures ∙ ap (column_to (c.args.j % 8)) c.here-y.ensures.column.0)

pub returns : goal.returns
returns c =
    let s = c.args.self.now in
    let e = end_is (map_with s.grid) c.args.j c.requires.1
    _ (c.row_to-v.ensures ∙ ap (row_to (c.args.j % 8)) c.here-y.ensures.row.0) _ (c.column_to-u.ensures ∙ ap (column_to (c.args.j % 8)) c.here-y.ensures.column.0)
    c.state_of.result c.state_of.ensures in
    (e.0, omega (arith, e.1, held_length (map_with s.grid) s.spots.now s.placed))
