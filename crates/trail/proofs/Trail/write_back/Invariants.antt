-- The loop's invariant: the states met stand at the last of the first `count` places, `s` in front of them, with `i` places left, and what is left of the states back from the goal goes on to all `count`.
use Rattle.trail.specs.Laws.{Written}
use Rattle.trail.proofs.Trail.write_back.Given as goal

abbrev pub invariant-loop-i : goal.invariant-loop-i
invariant-loop-i l = Written l.self.passages.now l.self.via.now l.self.goal l.count l.fn.part l.part l.s l.i
