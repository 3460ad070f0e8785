-- Before turn i the first i numbers of the part are written.
use Rattle.std.proofs.Common.{◌≡◌, take, flat_map}
use Rattle.laws.specs.Part.{overlaid}
use Rattle.deskc.proofs.row.put.Given as goal

abbrev pub invariant-loop-i : goal.invariant-loop-i
invariant-loop-i g l = l.row ≡ overlaid 0 (flat_map g.T.Stored.places (take l.i l.part)) l.initial.row
