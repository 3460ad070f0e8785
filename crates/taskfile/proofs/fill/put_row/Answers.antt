-- One estimate more each turn, as `filled_front` says; at the end all places are filled.
use Rattle.std.proofs.Common.{◌+◌, ◌*◌, refl, length, arith}
use Rattle.laws.specs.Fill.{filled_zero, filled_front, filled_whole}
use Rattle.taskfile.specs.Bytes.{long}
use Rattle.taskfile.proofs.fill.put_row.Goals as goal

pub loop-c-init : goal.loop-c-init
loop-c-init c = filled_zero (λ k. long c.args.file.now (c.args.at + 6 + 4 * k)) 0 _

pub loop-c-preserved : goal.loop-c-preserved
loop-c-preserved c = filled_front (λ k. long c.args.file.now (c.args.at + 6 + 4 * k)) _ _ c.loop-c.c c.loop-c.invariant (omega arith) _ c.long.ensures

pub returns : goal.returns
returns c =
    filled_whole (λ k. long c.args.file.now (c.args.at + 6 + 4 * k)) (length c.args.row.now) c.args.row.now c.loop-c.row c.loop-c.c c.loop-c.invariant (omega arith) (omega arith) refl
