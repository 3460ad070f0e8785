-- The loop's start, turn and end are the laws on `Written`; every state met is a place of the rows.
use Rattle.std.proofs.Common.{◌≡◌, arith}
use Rattle.trail.specs.Laws.{followed_inside, written_goal, written_onward, written_inside, written_more, written_end}
use Rattle.trail.proofs.Trail.write_back.Goals as goal

pub overflow_cast-part : goal.overflow_cast-part
overflow_cast-part c = let h = followed_inside _ _ _ _ c.requires.0 in omega (arith, h.1)

pub overflow_sub-part : goal.overflow_sub-part
overflow_sub-part c = (followed_inside _ _ _ _ c.requires.0).0

pub bounds-part-count : goal.bounds-part-count
bounds-part-count c = let h = followed_inside _ _ _ _ c.requires.0 in omega (arith, h.0, c.requires.1)

pub overflow_step-i : goal.overflow_step-i
overflow_step-i c = (followed_inside _ _ _ _ c.requires.0).0

pub loop-i-init : goal.loop-i-init
loop-i-init c = written_goal _ _ _ _ _ c.requires.0 c.requires.1

pub came_from-s-requires : goal.came_from-s-requires
came_from-s-requires c = written_onward _ _ _ _ _ _ _ _ c.loop-i.invariant (omega arith)

pub overflow_cast-part-in-loop-i : goal.overflow_cast-part-in-loop-i
overflow_cast-part-in-loop-i c = let h = written_inside _ _ _ _ _ _ _ _ c.loop-i.invariant (omega arith) in omega (arith, h, c.came_from-s.ensures)

pub loop-i-preserved : goal.loop-i-preserved
loop-i-preserved c = written_more _ _ _ _ _ _ _ _ c.loop-i.invariant (omega arith) _ c.came_from-s.ensures

pub returns : goal.returns
returns c = let z : c.loop-i.i ≡ 0 = omega arith in written_end _ _ _ _ _ _ _ (rw z at c.loop-i.invariant)
