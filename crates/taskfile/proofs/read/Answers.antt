-- `read`: each fault leaves the slices; past them the counts fill the file, so that all that is read and written is there.
use Rattle.std.proofs.Common.{length, sym, ◌∙◌, arith}
use Rattle.std.proofs.lemmas.Result.{err_from_is_err_and}
use Rattle.taskfile.specs.Laws.{read_long, read_fault, read_short, read_all, roomy, scanned_is}
use Rattle.taskfile.proofs.read.Goals as goal

pub returns-then-file-gt-MOST_BYTES : goal.returns-then-file-gt-MOST_BYTES
returns-then-file-gt-MOST_BYTES c =
    let e = read_long c.args.file.now c.args.passages.now c.args.estimates.now c.args.calls.now c.if-file-gt-MOST_BYTES.true in
    record { value = rw e; passages_after = rw e; estimates_after = rw e; calls_after = rw e }

pub returns-in_err-scan : goal.returns-in_err-scan
returns-in_err-scan c =
    let p = err_from_is_err_and c.from_residual.result c.from_residual.ensures.1 in
    let e = read_fault c.args.file.now c.args.passages.now c.args.estimates.now c.args.calls.now
    c.if-file-gt-MOST_BYTES.false c.in_err-scan.field-0.0 (sym c.in_err-scan.was ∙ c.scan.ensures) in
    record { value = rw (p.1, p.2, e); passages_after = rw e; estimates_after = rw e; calls_after = rw e }

pub invariant_of-whole : goal.invariant_of-whole
invariant_of-whole c =
    let f = scanned_is c.args.file.now c.in_ok-scan.scan (sym c.in_ok-scan.was ∙ c.scan.ensures) in
    record { few = f.few; small = f.small; inside = omega (arith, f.filled) }

pub returns-then-not-roomy : goal.returns-then-not-roomy
returns-then-not-roomy c =
    let e = read_short c.args.file.now c.args.passages.now c.args.estimates.now c.args.calls.now
    c.if-file-gt-MOST_BYTES.false c.in_ok-scan.scan (sym c.in_ok-scan.was ∙ c.scan.ensures) (sym c.if-not-roomy.ensures) in
    record { value = rw e; passages_after = rw e; estimates_after = rw e; calls_after = rw e }

pub put_passages-requires : goal.put_passages-requires
put_passages-requires c =
    (roomy c.in_ok-scan.scan (length c.args.passages.now) (length c.args.estimates.now) (length c.args.calls.now) (sym c.if-not-roomy.ensures)).passages_in

pub put_rows-requires : goal.put_rows-requires
put_rows-requires c =
    (roomy c.in_ok-scan.scan (length c.args.passages.now) (length c.args.estimates.now) (length c.args.calls.now) (sym c.if-not-roomy.ensures)).estimates_in

pub put_calls-requires : goal.put_calls-requires
put_calls-requires c =
    (roomy c.in_ok-scan.scan (length c.args.passages.now) (length c.args.estimates.now) (length c.args.calls.now) (sym c.if-not-roomy.ensures)).calls_in

pub returns : goal.returns
returns c =
    let e = read_all c.args.file.now c.args.passages.now c.args.estimates.now c.args.calls.now
    c.if-file-gt-MOST_BYTES.false c.in_ok-scan.scan (sym c.in_ok-scan.was ∙ c.scan.ensures) (sym c.if-not-roomy.ensures) in
    record {
      value = rw (e, c.contents.ensures);
      passages_after = rw e c.put_passages.ensures;
      estimates_after = rw e c.put_rows.ensures;
      calls_after = rw e c.put_calls.ensures;
    }
