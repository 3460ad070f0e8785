-- What is printed for a whole file: a line for each call, or only the fault, or only the refused opening.
use Rattle.std.specs.Prelude.{List, [], ◌∷◌, ◌++◌, ℕ, ◌*◌, length, replicate, take, leb, Result, Ok, Err}
use Rattle.laws.specs.Truth.{provided}
use Rattle.laws.specs.Part.{overlaid}
use Rattle.checks.specs.Opening.{task}
use Rattle.desk.specs.declared.Machine.{Machine}
use Rattle.desk.specs.Reply.{when, refusal}
use Rattle.desk.specs.Opening.{opening_of}
use Rattle.desk.specs.declared.Answer.{Answer}
use Rattle.desk.specs.declared.Event.{Event}
use Rattle.desk.specs.Calls.{worker_of, answers}
use Rattle.desk.specs.Morning.{events_of}
use Rattle.taskfile.specs.declared.Contents.{Contents}
use Rattle.taskfile.specs.declared.faults.Fault.{Fault}
use Rattle.taskfile.specs.Faults.{fault_number}
use Rattle.taskfile.specs.Contents.{FileReading, read_of}
use Rattle.report.specs.Line.{line, spoken}

-- "prints a line per call": what is said of each answer, one after the other
unfoldable pub conversation : List ℕ → List ℕ → List Event → List Answer → List ℕ
conversation passages estimates [] given = []
conversation passages estimates (e ∷ es) [] = []
conversation passages estimates (e ∷ es) (a ∷ given) = spoken passages estimates (worker_of e) a ++ conversation passages estimates es given

unfoldable pub session : List ℕ → List ℕ → Machine → List Event → List ℕ
session passages estimates m events = conversation passages estimates events (answers passages estimates m events)

-- the opening of a task that was read
abbrev pub opening_read : Contents → List ℕ → List ℕ → Answer
opening_read c passages estimates = opening_of (task c.n c.k c.start c.goal c.pull c.excess passages estimates)

-- "a refused opening only `opening`, number"
unfoldable pub task_text : Contents → List ℕ → List ℕ → List ℕ → List ℕ
task_text c passages estimates events =
    let a = opening_read c passages estimates in
    when refusal a.reply (λ number. line "opening" (number ∷ [])) (session passages estimates a.machine (events_of events))

-- "A file fault prints only `file`, number, offset"
abbrev pub outcome_text : FileReading → Result Contents Fault → List ℕ
outcome_text r (Ok c) = task_text c (take (3 * c.passages) r.passages) (take (c.n * c.n) r.estimates) (take c.calls r.calls)
outcome_text r (Err fault) = line "file" (fault_number fault.kind ∷ fault.at ∷ [])

-- a file read into slices that are long enough for every file: 512 passages, 64 × 64 estimates, and 11,008 calls. A file of 65,536 bytes holds 10,918 calls at most: 16 bytes are its head, 10 or more its rows, 6 each call
abbrev pub reading : List ℕ → FileReading
reading file = read_of file (replicate 1536 0) (replicate 4096 0) (replicate 11008 0)

unfoldable pub printed : List ℕ → List ℕ
printed file = let r = reading file in outcome_text r r.outcome

-- the places that a buffer must have, 9 × 65,536. No text takes more than 558,592: 50 for each of 11,008 calls (a word of 7 letters, two numbers of 20 digits, two blanks and the line's end), and 8,192 for a path line, which is printed once
abbrev pub room : ℕ
room = 589824

-- how many bytes are written, and the buffer: the text at its front, the rest as it was; nothing where it has too few places
unfoldable pub report_length : List ℕ → List ℕ → ℕ
report_length file out = provided (leb room (length out)) 0 (length (printed file))

unfoldable pub report_buffer : List ℕ → List ℕ → List ℕ
report_buffer file out = provided (leb room (length out)) out (overlaid 0 (printed file) out)
