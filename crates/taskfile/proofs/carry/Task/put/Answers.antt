-- `put`: the records of each kind stand behind those of the kind before, in the buffer that was lent.
use Rattle.std.proofs.Common.{rules, arith, ap, sym}
use Rattle.taskfile.specs.declared.put.Cursor.{Cursor}
use Rattle.taskfile.specs.PutLaws.{file_put}
use Rattle.taskfile.proofs.carry.Task.put.Goals as goal

pub returns-clause-buffer_after : goal.returns-clause-buffer_after
returns-clause-buffer_after c =
    let t = c.args.self.now in
    let e = file_put t.head t.passages.now t.estimates.now t.calls.now _ _ _ _ _ (omega arith) c.put_head.ensures.after c.put_passages.ensures.after c.put_rows.ensures.after c.put_calls.ensures.after in
    let now = ap (λ (s : Cursor). s.buffer.now) e in
    let name = sym (ap (λ (s : Cursor). s.buffer.ghost_name) e) in
    search rules
