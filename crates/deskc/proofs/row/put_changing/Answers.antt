-- The phase and the five parts, each laid over what was lent of the row, are what a call can change.
use Rattle.std.proofs.Common.{rules, flat_map}
use Rattle.deskc.specs.Row.{key_halves}
use Rattle.deskc.specs.StoredLaws.{one, put_front}
use Rattle.deskc.specs.Laws.{changed_parts}
use Rattle.deskc.proofs.row.put_changing.Goals as goal

pub returns : goal.returns
returns c =
    let m = c.args.m.now in
    changed_parts _ m c.requires (search rules) _ _ _ _ _ _ (search rules) (put_front 7 _ _ (flat_map one m.mark) c.put.ensures) (put_front 263 _ _ (flat_map one m.label) c.put-2.ensures)
    (put_front 519 _ _ (flat_map one m.via) c.put-3.ensures) (put_front 775 _ _ (flat_map one m.held) c.put-4.ensures) (put_front 807 _ _ (flat_map key_halves m.key) c.put-5.ensures)
