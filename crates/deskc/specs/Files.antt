-- Task files for C, order 6: what is read and what is written, as numbers and lent rows.
use Rattle.std.specs.Prelude.{List, [], ◌∷◌, ℕ, ◌+◌, ◌*◌, length, leb, Result, Ok, Err}
use Rattle.laws.specs.Truth.{provided}
use Rattle.laws.specs.Part.{overlaid}
use Rattle.taskfile.specs.declared.Contents.{Contents}
use Rattle.taskfile.specs.declared.Head.{Head}
use Rattle.taskfile.specs.declared.faults.Fault.{Fault}
use Rattle.taskfile.specs.declared.faults.FaultKind.TheVariants.{ShortSlice}
use Rattle.taskfile.specs.declared.faults.Unwritable.{Unwritable}
use Rattle.taskfile.specs.Faults.{fault_number, unwritable_number}
use Rattle.taskfile.specs.Contents.{read_of}

-- 0 where the file was read; else the fault's number times 2^32, plus the offset
abbrev pub fault_code : Fault → ℕ
fault_code fault = fault_number fault.kind * 4294967296 + fault.at

abbrev pub read_code : Result Contents Fault → ℕ
read_code (Ok held) = 0
read_code (Err fault) = fault_code fault

-- the file's length; or the refusal's number times 2^32
abbrev pub filed_code : Result ℕ Unwritable → ℕ
filed_code (Ok many) = many
filed_code (Err refusal) = unwritable_number refusal * 4294967296

-- the task's six numbers, as a file's head carries them
abbrev pub head_of : ℕ → ℕ → ℕ → ℕ → ℕ → ℕ → Head
head_of n k start goal pull excess = record { n = n; k = k; start = start; goal = goal; pull = pull; excess = excess }

-- the head's six numbers, and how many passages and events were read, at the front of a row; a fault writes nothing
abbrev pub numbers_of : Contents → List ℕ
numbers_of held = held.n ∷ held.k ∷ held.start ∷ held.goal ∷ held.pull ∷ held.excess ∷ held.passages ∷ held.calls ∷ []

abbrev pub numbers_after : Result Contents Fault → List ℕ → List ℕ
numbers_after (Ok held) numbers = overlaid 0 (numbers_of held) numbers
numbers_after (Err fault) numbers = numbers

-- what is returned, and what the four rows then hold
pub record FileRow : Type 0 where
  pub code : ℕ
  pub numbers : List ℕ
  pub passages : List ℕ
  pub estimates : List ℕ
  pub events : List ℕ

-- before all else 27, "a lent slice too short", where the row has fewer than eight places for the numbers
unfoldable pub file_row : List ℕ → List ℕ → List ℕ → List ℕ → List ℕ → FileRow
file_row file numbers passages estimates events =
    let r = read_of file passages estimates events in
    provided (leb 8 (length numbers)) (record { code = fault_code (record { kind = ShortSlice; at = 0 }); numbers = numbers; passages = passages; estimates = estimates; events = events })
    (record { code = read_code r.outcome; numbers = numbers_after r.outcome numbers; passages = r.passages; estimates = r.estimates; events = r.calls })
