-- Order 6, "Write the task file too": "Write a task and a list of events as a task file into a lent buffer; the bytes after it stay."
use Rattle.std.specs.Prelude.{Bool, ◌&&◌, List, ◌++◌, ℕ, ◌+◌, ◌*◌, ◌/◌, ◌%◌, length, get_or, ltb, leb, eqb, Result, Ok, Err}
use Rattle.laws.specs.Truth.{provided}
use Rattle.laws.specs.All.{all}
use Rattle.laws.specs.Part.{overlaid}
use Rattle.laws.specs.Gather.{gathered}
use Rattle.taskfile.specs.declared.Head.{Head}
use Rattle.taskfile.specs.declared.faults.Unwritable.{Unwritable}
use Rattle.taskfile.specs.declared.faults.Unwritable.TheVariants.{Uncarried, FileTooLarge, ShortBuffer}
use Rattle.taskfile.specs.Bytes.{bytes_of, beyond}
use Rattle.taskfile.specs.Records.{head_kind, passage_kind, row_kind, call_kind, worker_width, call_of, worker_of, most_states, most_passages, most_bytes}

-- a number fits so many bytes
abbrev pub within : ℕ → ℕ → Bool
within width x = ltb x (beyond width)

-- 24, as long as nothing of it applies: not "n not 1 to 64, passage slice not a multiple of 3 or above 512 passages, estimate slice not n × n"
unfoldable pub sizes_carried : ℕ → ℕ → ℕ → Bool
sizes_carried n passages estimates =
    (leb 1 n && leb n most_states) && ((eqb (passages % 3) 0 && leb (passages / 3) most_passages) && eqb estimates (n * n))

-- nor "a field above its bytes": n is at most 64; costs and estimates are numbers of 32 bits, which four bytes hold
unfoldable pub head_carried : Head → Bool
head_carried t = within 2 t.k && (within 2 t.start && (within 2 t.goal && (within 2 t.pull && within 2 t.excess)))

unfoldable pub ends_carried : List ℕ → Bool
ends_carried passages = all (λ i. within 2 (get_or passages (3 * i) 0) && within 2 (get_or passages (3 * i + 1) 0)) (length passages / 3)

-- nor "an event neither Take nor Bring"
unfoldable pub calls_carried : List ℕ → Bool
calls_carried calls = all (λ i. leb (call_of (get_or calls i 0)) 1 && within worker_width (worker_of (get_or calls i 0))) (length calls)

unfoldable pub carried : Head → List ℕ → List ℕ → List ℕ → Bool
carried t passages estimates calls = sizes_carried t.n (length passages) (length estimates) && (head_carried t && (ends_carried passages && calls_carried calls))

-- "two-byte payload length first, two-byte kind, payload"
abbrev pub record_of : ℕ → List ℕ → List ℕ
record_of kind payload = bytes_of 2 (length payload) ++ (bytes_of 2 kind ++ payload)

-- "n, k, start, goal, W, E, two bytes each"
unfoldable pub head_record : Head → List ℕ
head_record t = record_of head_kind (bytes_of 2 t.n ++ (bytes_of 2 t.k ++ (bytes_of 2 t.start ++ (bytes_of 2 t.goal ++ (bytes_of 2 t.pull ++ bytes_of 2 t.excess)))))

-- "from, to (two bytes each), cost (four)"
unfoldable pub passage_record : List ℕ → ℕ → List ℕ
passage_record passages i = record_of passage_kind (bytes_of 2 (get_or passages (3 * i) 0) ++ (bytes_of 2 (get_or passages (3 * i + 1) 0) ++ bytes_of 4 (get_or passages (3 * i + 2) 0)))

-- "row number (two), then n estimates of four bytes"
unfoldable pub row_record : List ℕ → ℕ → ℕ → List ℕ
row_record estimates n r = record_of row_kind (bytes_of 2 r ++ gathered (λ c. bytes_of 4 (get_or estimates (r * n + c) 0)) n)

-- "call (one byte, 0 Take, 1 Bring), worker (one byte)"
unfoldable pub call_record : List ℕ → ℕ → List ℕ
call_record calls i = record_of call_kind (bytes_of 1 (call_of (get_or calls i 0)) ++ bytes_of worker_width (worker_of (get_or calls i 0)))

-- the head, then the passages, then "rows 0 to n − 1 in order", then the calls
unfoldable pub file_of : Head → List ℕ → List ℕ → List ℕ → List ℕ
file_of t passages estimates calls =
    head_record t ++ (gathered (passage_record passages) (length passages / 3) ++ (gathered (row_record estimates t.n) t.n ++ gathered (call_record calls) (length calls)))

-- what is replied, the file's length where it was written, and what the buffer then holds
pub record FileWriting : Type 0 where
  pub reply : Result ℕ Unwritable
  pub buffer : List ℕ

abbrev pub unwritten : Unwritable → List ℕ → FileWriting
unwritten refusal buffer = record { reply = Err refusal; buffer = buffer }

-- "Refusals, in order: 24 …, 25 a file above 65,536 bytes, 26 buffer too short."
unfoldable pub write_of : Head → List ℕ → List ℕ → List ℕ → List ℕ → FileWriting
write_of t passages estimates calls buffer =
    let file = file_of t passages estimates calls in
    provided (carried t passages estimates calls) (unwritten Uncarried buffer)
    (provided (leb (length file) most_bytes) (unwritten FileTooLarge buffer)
    (provided (leb (length file) (length buffer)) (unwritten ShortBuffer buffer)
    (record { reply = Ok (length file); buffer = overlaid 0 file buffer })))
