-- `put` writes the low bytes over the part that is as long as they are.
use Rattle.std.proofs.Common.{◌∙◌, ◌+◌, ◌-◌, rules, arith}
use Rattle.taskfile.specs.Bytes.{bytes_of}
use Rattle.taskfile.specs.BytesLaws.{bytes_from}
use Rattle.taskfile.specs.FillLaws.{put_part}
use Rattle.taskfile.specs.WritingLaws.{bytes_length}
use Rattle.taskfile.proofs.put.Cursor.put.Goals as goal

pub returns : goal.returns
returns g c =
    let width = g.row.WIDTH in
    let s = c.args.self.now in
    let e = bytes_from width c.args.x c.requires.0 in
    let part = put_part s.at (s.at + width - s.at) s.buffer.now _ (bytes_of width c.args.x)
    (c.copy_from_slice.ensures.after ∙ rw c.to_le_bytes.ensures e) (omega (arith, bytes_length width c.args.x)) in
    record { after = rw (part, bytes_length width c.args.x); at = search rules; len = search rules }
