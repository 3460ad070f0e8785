-- An end of a passage puts its three numbers behind those that stand there, for which there is room.
use Rattle.std.proofs.Common.{sym, ◌∙◌, arith}
use Rattle.gridmap.specs.Laws.{map_with}
use Rattle.gridmap.specs.RowLaws.{held_length}
use Rattle.gridmap.specs.WritingLaws.{puts_zero, puts_skip, puts_room, puts_more, puts_end}
use Rattle.gridmap.proofs.states.States.put_passages.Goals as goal
use Rattle.gridmap.proofs.states.States.put_passages.Goals.{then-is_passage, else-is_passage}

pub loop-j-init : goal.loop-j-init
loop-j-init c = puts_zero _ _ c.requires

pub slice_bounds-copy_from_slice-end : goal.slice_bounds-copy_from_slice-end
slice_bounds-copy_from_slice-end c =
    let s = c.args.self.now in
    let many = held_length (map_with s.grid) s.spots.now s.placed in
    puts_room (map_with s.grid) _ c.requires c.loop-j.j _ _ c.loop-j.invariant (omega arith) (omega arith) (sym c.is_passage.ensures ∙ c.if-is_passage.true)

pub loop-j-preserved : goal.loop-j-preserved
loop-j-preserved c =
    let s = c.args.self.now in
    let many = held_length (map_with s.grid) s.spots.now s.placed in
    let more = puts_more (map_with s.grid) _ c.requires c.loop-j.j _ _ c.loop-j.invariant (omega arith) (omega arith) in
    let skip = puts_skip (map_with s.grid) _ c.requires c.loop-j.j _ _ c.loop-j.invariant (omega arith) in
    elim c.if-is_passage.branch [
      | then-is_passage w ↦ rw (w.passages-is, w.next-is) (more (sym c.is_passage.ensures ∙ w.if-is_passage.true) _ _ w.leads_to.ensures.0 w.cost_to.ensures _ w.copy_from_slice.ensures.after)
      | else-is_passage w ↦ rw (w.passages-is, w.next-is) (skip (sym c.is_passage.ensures ∙ w.if-is_passage.false))
    ]

pub returns : goal.returns
returns c =
    let s = c.args.self.now in
    let many = held_length (map_with s.grid) s.spots.now s.placed in
    puts_end (map_with s.grid) _ c.requires c.loop-j.j _ _ c.loop-j.invariant (omega (arith, many)) (omega (arith, many))
