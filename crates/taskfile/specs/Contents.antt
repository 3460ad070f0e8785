-- What a file without fault holds, and what reading it replies and leaves in the three lent slices.
use Rattle.std.specs.Prelude.{Bool, ◌&&◌, List, [], ◌∷◌, ℕ, ◌+◌, ◌*◌, length, leb, Result, Ok, Err}
use Rattle.laws.specs.Truth.{provided}
use Rattle.laws.specs.Part.{overlaid}
use Rattle.laws.specs.Fill.{made}
use Rattle.laws.specs.Gather.{gathered}
use Rattle.taskfile.specs.declared.Contents.{Contents}
use Rattle.taskfile.specs.declared.Scan.{Scan}
use Rattle.taskfile.specs.declared.faults.Fault.{Fault}
use Rattle.taskfile.specs.declared.faults.FaultKind.TheVariants.{TooLarge, ShortSlice}
use Rattle.taskfile.specs.Bytes.{byte, number_at, word, long}
use Rattle.taskfile.specs.Records.{worker_width, event_of, most_bytes, passage_place, row_place, call_place}
use Rattle.taskfile.specs.Scan.{scanned}

-- the passages: from, to, cost
unfoldable pub file_passages : List ℕ → ℕ → List ℕ
file_passages file many = gathered (λ i. word file (passage_place i + 4) ∷ word file (passage_place i + 6) ∷ long file (passage_place i + 8) ∷ []) many

-- row by row the n estimates of each
unfoldable pub file_estimates : List ℕ → ℕ → ℕ → List ℕ
file_estimates file passages n = gathered (λ r. made (λ c. long file (row_place passages n r + 6 + 4 * c)) n) n

-- the calls, each as one number
unfoldable pub file_calls : List ℕ → ℕ → ℕ → ℕ → List ℕ
file_calls file passages n many = made (λ i. event_of (byte file (call_place passages n i + 4)) (number_at worker_width file (call_place passages n i + 5))) many

-- the head's six numbers, n as it was scanned, and how many passages and calls there are
abbrev pub contents : List ℕ → Scan → Contents
contents file s = record {
  n = s.n;
  k = word file 6;
  start = word file 8;
  goal = word file 10;
  pull = word file 12;
  excess = word file 14;
  passages = s.passages;
  calls = s.calls;
}

-- what is replied, and what the slices then hold
pub record FileReading : Type 0 where
  pub outcome : Result Contents Fault
  pub passages : List ℕ
  pub estimates : List ℕ
  pub calls : List ℕ

-- "A fault writes nothing"
abbrev pub file_fault : Fault → List ℕ → List ℕ → List ℕ → FileReading
file_fault fault passages estimates calls = record { outcome = Err fault; passages = passages; estimates = estimates; calls = calls }

-- "places past what is read stay"
abbrev pub file_read : List ℕ → Scan → List ℕ → List ℕ → List ℕ → FileReading
file_read file s passages estimates calls = record {
  outcome = Ok (contents file s);
  passages = overlaid 0 (file_passages file s.passages) passages;
  estimates = overlaid 0 (file_estimates file s.passages s.n) estimates;
  calls = overlaid 0 (file_calls file s.passages s.n s.calls) calls;
}

-- 27 "a lent slice too short for the passages, estimates or calls read"; here that none is
unfoldable pub roomy_for : Scan → ℕ → ℕ → ℕ → Bool
roomy_for s passages estimates calls = leb (3 * s.passages) passages && (leb (s.n * s.n) estimates && leb s.calls calls)

-- the scan's fault; else 27 "after all others (offset 0)", and what was read
abbrev pub reading_of : Result Scan Fault → List ℕ → List ℕ → List ℕ → List ℕ → FileReading
reading_of (Err fault) file passages estimates calls = file_fault fault passages estimates calls
reading_of (Ok s) file passages estimates calls =
    provided (roomy_for s (length passages) (length estimates) (length calls)) (file_fault (record { kind = ShortSlice; at = 0 }) passages estimates calls)
    (file_read file s passages estimates calls)

-- "A file over 65,536 bytes is 23 at 65,536 before all else."
unfoldable pub read_of : List ℕ → List ℕ → List ℕ → List ℕ → FileReading
read_of file passages estimates calls =
    provided (leb (length file) most_bytes) (file_fault (record { kind = TooLarge; at = 65536 }) passages estimates calls)
    (reading_of (scanned file) file passages estimates calls)
