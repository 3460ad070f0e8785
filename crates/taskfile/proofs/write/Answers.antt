-- `write`: a refusal leaves the buffer; past it the file fits, and is put to the front.
use Rattle.std.proofs.Common.{sym, arith, ◌∙◌}
use Rattle.std.proofs.lemmas.Result.{err_from_is_err_and}
use Rattle.taskfile.specs.WritingLaws.{file_length, write_refused, write_allowed, write_written}
use Rattle.taskfile.proofs.write.Goals as goal

pub returns-in_err-writable : goal.returns-in_err-writable
returns-in_err-writable c =
    let p = err_from_is_err_and c.from_residual.result c.from_residual.ensures.1 in
    let e = write_refused c.args.head c.args.passages.now c.args.estimates.now c.args.calls.now c.args.buffer.now
    c.in_err-writable.field-0.0 (sym c.in_err-writable.was ∙ c.writable.ensures) in
    record { value = rw (p.1, p.2, e); buffer_after = rw e }

pub put-requires : goal.put-requires
put-requires c =
    let w = write_allowed c.args.head c.args.passages.now c.args.estimates.now c.args.calls.now c.args.buffer.now
    (sym c.in_ok-writable.was ∙ c.writable.ensures) in
    (omega (arith, w.roomy, file_length c.args.head c.args.passages.now c.args.estimates.now c.args.calls.now), omega (arith, w.right.square))

pub returns : goal.returns
returns c =
    let w = write_allowed c.args.head c.args.passages.now c.args.estimates.now c.args.calls.now c.args.buffer.now
    (sym c.in_ok-writable.was ∙ c.writable.ensures) in
    let e = write_written c.args.head c.args.passages.now c.args.estimates.now c.args.calls.now c.args.buffer.now w in
    record { value = rw (e, c.put.ensures.value); buffer_after = rw e c.put.ensures.buffer_after }
