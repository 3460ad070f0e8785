-- The kinds of record by their names, and their numbers.
use Rattle.std.specs.Prelude.{ℕ, cond, eqb, Result, Ok, Err}
use Rattle.taskfile.specs.declared.layout.RecordKind.{RecordKind}
use Rattle.taskfile.specs.declared.layout.RecordKind.TheVariants.{Head, Passage, Row, Call}
use Rattle.taskfile.specs.declared.faults.FaultKind.{FaultKind}
use Rattle.taskfile.specs.declared.faults.FaultKind.TheVariants.{OutOfOrder}
use Rattle.taskfile.specs.Records.{head_kind, passage_kind, row_kind, call_kind}

abbrev pub kind_number : RecordKind → ℕ
kind_number Head = head_kind
kind_number Passage = passage_kind
kind_number Row = row_kind
kind_number Call = call_kind

-- 22 "unknown kind"
abbrev pub kind_of : ℕ → Result RecordKind FaultKind
kind_of number =
    cond (eqb number head_kind) (Ok Head)
    (cond (eqb number passage_kind) (Ok Passage)
    (cond (eqb number row_kind) (Ok Row)
    (cond (eqb number call_kind) (Ok Call) (Err OutOfOrder))))
