-- What a file comes to, beside its text: its calls are run, or it is "a file fault", or "a refused opening". Each has a number, 0, 1 and 2.
use Rattle.std.specs.Prelude.{List, ℕ, ◌*◌, take, Result, Ok, Err}
use Rattle.desk.specs.Reply.{when, refusal}
use Rattle.taskfile.specs.declared.Contents.{Contents}
use Rattle.taskfile.specs.declared.faults.Fault.{Fault}
use Rattle.taskfile.specs.Contents.{FileReading}
use Rattle.report.specs.declared.status.Ending.{Ending}
use Rattle.report.specs.declared.status.Ending.TheVariants.{Run, FileFault, OpeningRefused}
use Rattle.report.specs.Text.{opening_read, reading}

abbrev pub outcome_ending : FileReading → Result Contents Fault → Ending
outcome_ending r (Ok c) = when refusal (opening_read c (take (3 * c.passages) r.passages) (take (c.n * c.n) r.estimates)).reply (λ _. OpeningRefused) Run
outcome_ending r (Err fault) = FileFault

unfoldable pub ending_of : List ℕ → Ending
ending_of file = let r = reading file in outcome_ending r r.outcome

-- the number of each
abbrev pub status_with : Ending → ℕ
status_with Run = 0
status_with FileFault = 1
status_with OpeningRefused = 2

unfoldable pub status_of : List ℕ → ℕ
status_of file = status_with (ending_of file)
