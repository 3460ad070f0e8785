-- The loop's invariant: `i` states were met, and going back from `s`, in front of them, comes to the path.
use Rattle.trail.specs.Seen.{seen}
use Rattle.trail.specs.Laws.{Gone}
use Rattle.trail.proofs.Trail.path_length.Given as goal

abbrev pub invariant-loop-i : goal.invariant-loop-i
invariant-loop-i l = Gone (seen l.self) l.s l.i
