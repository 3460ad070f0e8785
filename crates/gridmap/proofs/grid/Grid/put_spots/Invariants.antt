-- The loops keep that the spots of the open places before this one stand at the front.
use Rattle.std.proofs.Common.{◌+◌, ◌*◌}
use Rattle.laws.specs.Gather.{gathered}
use Rattle.laws.specs.Put.{Put}
use Rattle.gridmap.specs.Laws.{map_with, spot_piece}
use Rattle.gridmap.proofs.grid.Grid.put_spots.Given as goal

abbrev pub invariant-loop-row : goal.invariant-loop-row
invariant-loop-row l = Put 0 (gathered (spot_piece (map_with l.self)) (l.row * (l.self.width + 1))) l.fn.spots l.spots l.next

abbrev pub invariant-loop-column : goal.invariant-loop-column
invariant-loop-column l = Put 0 (gathered (spot_piece (map_with l.self)) (l.row * (l.self.width + 1) + l.column)) l.fn.spots l.spots l.next
