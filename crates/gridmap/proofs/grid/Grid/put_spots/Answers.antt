-- An open place puts its spot behind those that stand there, which are as many as are open.
use Rattle.std.proofs.Common.{◌≡◌, sym, ◌∙◌, ap, ◌+◌, ◌<◌, zero-mul, arith}
use Rattle.gridmap.specs.Map.{places, open_at, place_of}
use Rattle.gridmap.specs.Laws.{map_with, spot_at}
use Rattle.gridmap.specs.CellLaws.{place_in, place_row, place_column}
use Rattle.gridmap.specs.WritingLaws.{spots_zero, spots_skip, spots_room, spots_more, spots_end}
use Rattle.gridmap.proofs.grid.Grid.put_spots.Goals as goal
use Rattle.gridmap.proofs.grid.Grid.put_spots.Goals.{After-is_open_at, then-is_open_at, else-is_open_at}

-- the place of this row and column is on the map
inside : (c : After-is_open_at) → place_of (map_with c.args.self.now) c.loop-row.row c.loop-column.column < places (map_with c.args.self.now)
inside c = place_in (map_with c.args.self.now) c.loop-row.row c.loop-column.column c.loop-row-test.true c.loop-column-test.true

-- what was asked of it
asked : (c : After-is_open_at) → open_at (map_with c.args.self.now) (place_of (map_with c.args.self.now) c.loop-row.row c.loop-column.column) ≡ c.is_open_at.result
asked c = ap (open_at (map_with c.args.self.now)) (sym c.place_of.ensures.0) ∙ sym c.is_open_at.ensures

pub loop-row-init : goal.loop-row-init
loop-row-init c = rw zero-mul (spots_zero (map_with c.args.self.now) _ c.requires)

pub bounds-spots-next : goal.bounds-spots-next
bounds-spots-next c =
    let b = (goal.at.bounds-spots-next c).After-is_open_at in
    spots_room (map_with c.args.self.now) _ c.requires _ _ _ c.loop-column.invariant (omega (arith, inside b)) (inside b) (asked b ∙ c.if-is_open_at.true)

pub loop-column-preserved : goal.loop-column-preserved
loop-column-preserved c =
    let m = map_with c.args.self.now in
    let b = (goal.at.loop-column-preserved c).After-is_open_at in
    let p = place_of m c.loop-row.row c.loop-column.column in
    let next : p + 1 ≡ place_of m c.loop-row.row (c.loop-column.column + 1) = omega arith in
    let here : spot_at m p ≡ record { row = c.loop-row.row; column = c.loop-column.column } =
    rw (place_row m c.loop-row.row c.loop-column.column c.loop-column-test.true, place_column m c.loop-row.row c.loop-column.column c.loop-column-test.true) in
    let more = rw (here, next) at (spots_more m _ c.requires _ _ _ c.loop-column.invariant (omega (arith, inside b)) (inside b)) in
    let skip = rw next at (spots_skip m _ c.requires _ _ _ c.loop-column.invariant (omega (arith, inside b))) in
    elim c.if-is_open_at.branch [
      | then-is_open_at w ↦ rw (w.spots-is, w.next-is) (more (asked b ∙ w.if-is_open_at.true))
      | else-is_open_at w ↦ rw (w.spots-is, w.next-is) (skip (asked b ∙ w.if-is_open_at.false))
    ]

pub returns : goal.returns
returns c =
    let m = map_with c.args.self.now in
    let end : c.loop-row.row ≡ m.height = omega arith in
    spots_end m _ c.requires _ _ _ c.loop-row.invariant (rw end (omega arith)) (rw end (omega arith))
