-- What was read so far is a head's beginning; each step that fails makes the head wrong.
use Rattle.std.proofs.Common.{arith, refl}
use Rattle.gridmap.specs.HeadLaws.{no_type, no_height, second_place, no_width_word, third_place, no_width, fourth_place, no_map, head_is, map_is, small_head}
use Rattle.gridmap.proofs.header.head_of.Goals as goal

pub returns-in_err-at : goal.returns-in_err-at
returns-in_err-at c = rw c.from_residual.ensures (no_type _ c.in_err-at.ensures)

pub returns-in_err-height : goal.returns-in_err-height
returns-in_err-height c = rw c.from_residual-in_err-height.ensures (no_height _ _ c.in_ok-at.ensures c.in_err-height.ensures)

pub after_word-requires-2 : goal.after_word-requires-2
after_word-requires-2 c = (omega (arith, second_place _ _ c.in_ok-at.ensures _ _ c.in_ok-height.ensures), omega arith)

pub returns-in_err-at-2 : goal.returns-in_err-at-2
returns-in_err-at-2 c = rw c.from_residual-in_err-at-2.ensures (no_width_word _ _ c.in_ok-at.ensures _ _ c.in_ok-height.ensures c.in_err-at-2.ensures)

pub size_at-requires-2 : goal.size_at-requires-2
size_at-requires-2 c = omega (arith, third_place _ _ c.in_ok-at.ensures _ _ c.in_ok-height.ensures _ c.in_ok-at-2.ensures)

pub returns-in_err-width : goal.returns-in_err-width
returns-in_err-width c =
    rw c.from_residual-in_err-width.ensures (no_width _ _ c.in_ok-at.ensures _ _ c.in_ok-height.ensures _ c.in_ok-at-2.ensures c.in_err-width.ensures)

pub after_word-requires-3 : goal.after_word-requires-3
after_word-requires-3 c =
    (omega (arith, fourth_place _ _ c.in_ok-at.ensures _ _ c.in_ok-height.ensures _ c.in_ok-at-2.ensures _ _ c.in_ok-width.ensures), omega arith)

pub returns-in_err-rows : goal.returns-in_err-rows
returns-in_err-rows c =
    rw c.from_residual-in_err-rows.ensures
    (no_map _ _ c.in_ok-at.ensures _ _ c.in_ok-height.ensures _ c.in_ok-at-2.ensures _ _ c.in_ok-width.ensures c.in_err-rows.ensures)

pub invariant_of-result : goal.invariant_of-result
invariant_of-result c =
    let right = head_is _ _ c.in_ok-at.ensures _ _ c.in_ok-height.ensures _ c.in_ok-at-2.ensures _ _ c.in_ok-width.ensures _ c.in_ok-rows.ensures in
    record { small = small_head _ right _ (map_is _ _ c.in_ok-at.ensures _ _ c.in_ok-height.ensures _ c.in_ok-at-2.ensures _ _ c.in_ok-width.ensures _ c.in_ok-rows.ensures) }

pub returns : goal.returns
returns c = (
  refl,
  map_is _ _ c.in_ok-at.ensures _ _ c.in_ok-height.ensures _ c.in_ok-at-2.ensures _ _ c.in_ok-width.ensures _ c.in_ok-rows.ensures,
  head_is _ _ c.in_ok-at.ensures _ _ c.in_ok-height.ensures _ c.in_ok-at-2.ensures _ _ c.in_ok-width.ensures _ c.in_ok-rows.ensures,
)
