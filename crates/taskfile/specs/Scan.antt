-- The records of a file, one after the other: where each is right, and the fault where one isn't.
use Rattle.std.specs.Prelude.{Bool, ◌&&◌, cond, List, ℕ, ◌+◌, ◌-◌, length, ltb, leb, eqb, Result, Ok, Err}
use Rattle.laws.specs.Truth.{provided}
use Rattle.laws.specs.Fold.{fold}
use Rattle.taskfile.specs.declared.Scan.{Scan}
use Rattle.taskfile.specs.declared.faults.Fault.{Fault}
use Rattle.taskfile.specs.declared.faults.FaultKind.{FaultKind}
use Rattle.taskfile.specs.declared.faults.FaultKind.TheVariants.{CutShort, OutOfOrder, TooLarge}
use Rattle.taskfile.specs.Bytes.{byte, word}
use Rattle.taskfile.specs.Records.{kind_place, payload_place, head_kind, head_length, passage_kind, passage_length, row_kind, row_length, call_kind, call_length, most_states, most_passages}

-- "two-byte payload length first, two-byte kind, payload"
abbrev pub payload_length : List ℕ → ℕ → ℕ
payload_length file at = word file at

abbrev pub kind : List ℕ → ℕ → ℕ
kind file at = word file (at + kind_place)

-- a scan at its next record: the head's n, 0 before the head; how many passages, rows and calls there were
abbrev pub begun : Scan
begun = record { at = 0; n = 0; passages = 0; rows = 0; calls = 0 }

-- "the head and all rows are there"
abbrev pub complete : Scan → Bool
complete s = leb 1 s.n && eqb s.rows s.n

-- "Kind 1, once, first: n, k, start, goal, W, E, two bytes each"; 23 "n not 1 to 64"
unfoldable pub head_at : List ℕ → Scan → Result Scan FaultKind
head_at file s =
    provided (eqb s.n 0 && eqb (payload_length file s.at) head_length) (Err OutOfOrder)
    (provided (leb 1 (word file (s.at + 4)) && leb (word file (s.at + 4)) most_states) (Err TooLarge)
    (Ok (record s { at = s.at + (payload_place + head_length); n = word file (s.at + 4) })))

-- "Kind 2: from, to (two bytes each), cost (four)", before any row; 23 "a 513th passage"
unfoldable pub passage_at : List ℕ → Scan → Result Scan FaultKind
passage_at file s =
    provided (leb 1 s.n && (eqb s.rows 0 && eqb (payload_length file s.at) passage_length)) (Err OutOfOrder)
    (provided (ltb s.passages most_passages) (Err TooLarge)
    (Ok (record s { at = s.at + (payload_place + passage_length); passages = s.passages + 1 })))

-- "Kind 3: row number (two), then n estimates of four bytes; rows 0 to n − 1 in order"
unfoldable pub row_at : List ℕ → Scan → Result Scan FaultKind
row_at file s =
    provided (ltb s.rows s.n && (eqb (payload_length file s.at) (row_length s.n) && eqb (word file (s.at + 4)) s.rows)) (Err OutOfOrder)
    (Ok (record s { at = s.at + (payload_place + row_length s.n); rows = s.rows + 1 }))

-- "Kind 4: call (one byte, 0 Take, 1 Bring), worker (one byte)", after the last row
unfoldable pub call_at : List ℕ → Scan → Result Scan FaultKind
call_at file s =
    provided (complete s && (eqb (payload_length file s.at) call_length && leb (byte file (s.at + 4)) 1)) (Err OutOfOrder)
    (Ok (record s { at = s.at + (payload_place + call_length); calls = s.calls + 1 }))

-- 22 "unknown kind"
unfoldable pub record_at : List ℕ → Scan → Result Scan FaultKind
record_at file s =
    cond (eqb (kind file s.at) head_kind) (head_at file s)
    (cond (eqb (kind file s.at) passage_kind) (passage_at file s)
    (cond (eqb (kind file s.at) row_kind) (row_at file s)
    (cond (eqb (kind file s.at) call_kind) (call_at file s)
    (Err OutOfOrder))))

-- one record more. 21 "fewer bytes left than length and kind take, or than the length then asks for"
unfoldable pub advance : List ℕ → Scan → Result Scan FaultKind
advance file s =
    provided (leb 4 (length file - s.at)) (Err CutShort)
    (provided (leb (payload_length file s.at) (length file - s.at - 4)) (Err CutShort)
    (record_at file s))

-- a record's fault lies at its first byte
abbrev pub located : ℕ → Result Scan FaultKind → Result Scan Fault
located at (Ok s) = Ok s
located at (Err fault) = Err (record { kind = fault; at = at })

-- on to the next record, as long as there is one; a fault ends the scan
abbrev pub continued : List ℕ → Result Scan Fault → Result Scan Fault
continued file (Err fault) = Err fault
continued file (Ok s) = cond (leb (length file) s.at) (Ok s) (located s.at (advance file s))

-- the file's end. 21 "or the file ends before the head and all rows are there (offset: file length)"
abbrev pub ended : Result Scan Fault → Result Scan Fault
ended (Err fault) = Err fault
ended (Ok s) = provided (complete s) (Err (record { kind = CutShort; at = s.at })) (Ok s)

-- record after record: each takes four bytes at least, so that there are no more than the file has bytes
unfoldable pub scanned : List ℕ → Result Scan Fault
scanned file = ended (fold (λ _ r. continued file r) (Ok begun) (length file))
