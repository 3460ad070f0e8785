-- Four bytes more each turn, as `puts_more` says.
use Rattle.std.proofs.Common.{refl, arith, get_or}
use Rattle.taskfile.specs.Bytes.{bytes_of}
use Rattle.taskfile.specs.PutLaws.{puts_zero, puts_more}
use Rattle.taskfile.specs.WritingLaws.{bytes_length}
use Rattle.taskfile.proofs.put.Cursor.put_estimates.Goals as goal

pub loop-estimate-init : goal.loop-estimate-init
loop-estimate-init c = puts_zero (λ i. bytes_of 4 (get_or c.args.row.now i 0)) 4 (λ i. bytes_length 4 _) _

pub loop-estimate-preserved : goal.loop-estimate-preserved
loop-estimate-preserved c =
    puts_more (λ i. bytes_of 4 (get_or c.args.row.now i 0)) 4 (λ i. bytes_length 4 _) c.args.self.now c.loop-estimate.self _ c.loop-estimate.estimate-index 4 c.loop-estimate.invariant (omega arith) refl
    c.put.ensures
