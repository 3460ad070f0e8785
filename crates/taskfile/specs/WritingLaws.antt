-- Laws about what is written: how long numbers, records and the file are, a number from two narrower ones, and writing case by case.
-- Assumes nothing.
use Rattle.std.specs.Prelude.{◌≡◌, refl, Bool, true, false, ◌&&◌, List, ◌++◌, ℕ, zero, suc, ◌+◌, ◌*◌, ◌/◌, ◌≤◌, length, get_or, leb, Result, Ok, Err}
use Rattle.std.proofs.Common.{ap, ◌∙◌, mul-le-mul_left, arith, length-append}
use borrow.Author.Tests.{leb-true, le-leb}
use Rattle.laws.specs.Truth.{provided}
use Rattle.laws.specs.Part.{overlaid}
use Rattle.laws.specs.Gather.{gathered, gathered_even}
use Rattle.taskfile.specs.declared.Head.{Head}
use Rattle.taskfile.specs.declared.faults.Unwritable.{Unwritable}
use Rattle.taskfile.specs.declared.faults.Unwritable.TheVariants.{Uncarried, FileTooLarge, ShortBuffer}
use Rattle.taskfile.specs.Bytes.{bytes_of, beyond}
use Rattle.taskfile.specs.Records.{payload_place, head_kind, head_length, passage_kind, passage_length, row_kind, row_length, call_kind, worker_width, call_length, call_of, worker_of, most_bytes, call_place}
use Rattle.taskfile.specs.Writing.{within, carried, record_of, head_record, passage_record, row_record, call_record, file_of, unwritten, write_of}
use Rattle.taskfile.specs.CarriedLaws.{Carried, is_carried, carried_is}

-- the first numbers that one byte and two bytes can't hold
pub beyond_byte : beyond 1 ≡ 256
unfolding beyond
beyond_byte = refl

pub beyond_word : beyond 2 ≡ 65536
unfolding beyond
beyond_word = refl

-- a number of so many bytes takes so many
pub bytes_length : (width x : ℕ) → length (bytes_of width x) ≡ width
unfolding bytes_of
bytes_length zero x = refl
bytes_length (suc width) x = ap suc (bytes_length width (x / 256))

-- a record is its length and kind, then its payload
pub record_length : (kind : ℕ) (payload : List ℕ) → length (record_of kind payload) ≡ payload_place + length payload
record_length kind payload =
    length-append (bytes_of 2 (length payload)) (bytes_of 2 kind ++ payload) ∙ omega (arith, bytes_length 2 (length payload), length-append (bytes_of 2 kind) payload, bytes_length 2 kind)

-- a row's estimates, from a place of the table on
abbrev pub estimate_bytes : List ℕ → ℕ → ℕ → List ℕ
estimate_bytes estimates from c = bytes_of 4 (get_or estimates (from + c) 0)

-- the estimates of a row that stands alone
abbrev pub row_bytes : List ℕ → List ℕ
row_bytes row = gathered (λ c. bytes_of 4 (get_or row c 0)) (length row)

-- the four payloads by their fields
abbrev pub head_payload : Head → List ℕ
head_payload t = bytes_of 2 t.n ++ (bytes_of 2 t.k ++ (bytes_of 2 t.start ++ (bytes_of 2 t.goal ++ (bytes_of 2 t.pull ++ bytes_of 2 t.excess))))

abbrev pub passage_payload : ℕ → ℕ → ℕ → List ℕ
passage_payload from to cost = bytes_of 2 from ++ (bytes_of 2 to ++ bytes_of 4 cost)

abbrev pub row_payload : List ℕ → ℕ → ℕ → List ℕ
row_payload estimates n r = bytes_of 2 r ++ gathered (estimate_bytes estimates (r * n)) n

abbrev pub call_payload : ℕ → List ℕ
call_payload event = bytes_of 1 (call_of event) ++ bytes_of worker_width (worker_of event)

-- and their lengths
pub head_payload_lem : (t : Head) → head_length ≡ length (head_payload t)
unfolding bytes_of
head_payload_lem t = refl

pub passage_payload_lem : (from to cost : ℕ) → passage_length ≡ length (passage_payload from to cost)
unfolding bytes_of
passage_payload_lem from to cost = refl

pub row_payload_lem : (estimates : List ℕ) (n r : ℕ) → row_length n ≡ length (row_payload estimates n r)
row_payload_lem estimates n r =
    omega (arith, length-append (bytes_of 2 r) (gathered (estimate_bytes estimates (r * n)) n), bytes_length 2 r, gathered_even (estimate_bytes estimates (r * n)) 4 (λ c. bytes_length 4 (get_or estimates (r * n + c) 0)) n)

pub call_payload_lem : (event : ℕ) → call_length ≡ length (call_payload event)
unfolding bytes_of
call_payload_lem event = refl

-- so the lengths of the four records
as_long : (kind long : ℕ) (payload : List ℕ) → long ≡ length payload → length (record_of kind payload) ≡ payload_place + long
as_long kind long payload e = record_length kind payload ∙ omega (arith, e)

pub head_length_lem : (t : Head) → length (head_record t) ≡ payload_place + head_length
unfolding head_record
head_length_lem t = as_long head_kind head_length (head_payload t) (head_payload_lem t)

pub passage_length_lem : (passages : List ℕ) (i : ℕ) → length (passage_record passages i) ≡ payload_place + passage_length
unfolding passage_record
passage_length_lem passages i = as_long passage_kind passage_length (passage_payload (get_or passages (3 * i) 0) (get_or passages (3 * i + 1) 0) (get_or passages (3 * i + 2) 0)) (passage_payload_lem _ _ _)

pub row_length_lem : (estimates : List ℕ) (n r : ℕ) → length (row_record estimates n r) ≡ payload_place + row_length n
unfolding row_record
row_length_lem estimates n r = as_long row_kind (row_length n) (row_payload estimates n r) (row_payload_lem estimates n r)

pub call_length_lem : (calls : List ℕ) (i : ℕ) → length (call_record calls i) ≡ payload_place + call_length
unfolding call_record
call_length_lem calls i = as_long call_kind call_length (call_payload (get_or calls i 0)) (call_payload_lem (get_or calls i 0))

-- the file ends where a further call would begin
pub file_length : (t : Head) (passages estimates calls : List ℕ) → length (file_of t passages estimates calls) ≡ call_place (length passages / 3) t.n (length calls)
unfolding file_of
file_length t passages estimates calls =
    let n = t.n in
    rw (length-append, length-append, length-append, head_length_lem t, gathered_even (passage_record passages) (payload_place + passage_length) (passage_length_lem passages) (length passages / 3), gathered_even (row_record estimates n) (payload_place + row_length n) (row_length_lem estimates n) n, gathered_even (call_record calls) (payload_place + call_length) (call_length_lem calls) (length calls))
    (omega arith)

-- a file is no shorter than it has passages, states or calls
module _ (passages n calls : ℕ) where
  pub passages_counted : passages ≤ call_place passages n calls
  passages_counted = omega arith

  pub states_counted : n ≤ call_place passages n calls
  states_counted = let one : 1 ≤ payload_place + row_length n = omega arith in omega (arith, mul-le-mul_left n one)

  pub calls_counted : calls ≤ call_place passages n calls
  calls_counted = omega arith

-- one event that a file carries
abbrev pub call_carried : ℕ → Bool
call_carried event = leb (call_of event) 1 && within worker_width (worker_of event)

-- the first refusal, if there is one: by what is right, and of a task and events for a buffer of so many places
abbrev pub first_refusal : Bool → Bool → Bool → Result (Unit {0}) Unwritable
first_refusal right small fits = provided right (Err Uncarried) (provided small (Err FileTooLarge) (provided fits (Err ShortBuffer) (Ok tt)))

unfoldable pub writable : Head → List ℕ → List ℕ → List ℕ → ℕ → Result (Unit {0}) Unwritable
writable t passages estimates calls room =
    let file = file_of t passages estimates calls in
    first_refusal (carried t passages estimates calls) (leb (length file) most_bytes) (leb (length file) room)

-- a task and events that a file carries, and a buffer that has room for it
pub record Writable (t : Head) (passages estimates calls : List ℕ) (room : ℕ) : Type 0 where
  pub right : Carried t passages estimates calls
  pub small : length (file_of t passages estimates calls) ≤ most_bytes
  pub roomy : length (file_of t passages estimates calls) ≤ room

module _ (t : Head) (passages estimates calls buffer : List ℕ) where
  -- a refusal is what is replied; and where there is none, nothing stands against it
  pub write_refused : (refusal : Unwritable) → Err refusal ≡ writable t passages estimates calls (length buffer) → write_of t passages estimates calls buffer ≡ unwritten refusal buffer
  unfolding write_of writable
  write_refused refusal e = go (carried t passages estimates calls) (leb (length file) most_bytes) (leb (length file) (length buffer)) e
    where
      file : List ℕ
      file = file_of t passages estimates calls

      go : (right small fits : Bool) → Err refusal ≡ first_refusal right small fits
          → provided right (unwritten Uncarried buffer) (provided small (unwritten FileTooLarge buffer) (provided fits (unwritten ShortBuffer buffer) (record { reply = Ok (length file); buffer = overlaid 0 file buffer }))) ≡ unwritten refusal buffer
      go false small fits e = cc
      go true false fits e = cc
      go true true false e = cc
      go true true true e = cc

  pub write_allowed : Ok tt ≡ writable t passages estimates calls (length buffer) → Writable t passages estimates calls (length buffer)
  unfolding writable
  write_allowed e = go (carried t passages estimates calls) (leb (length file) most_bytes) (leb (length file) (length buffer)) refl refl refl e
    where
      file : List ℕ
      file = file_of t passages estimates calls

      go : (right small fits : Bool) → carried t passages estimates calls ≡ right → leb (length file) most_bytes ≡ small → leb (length file) (length buffer) ≡ fits
          → Ok tt ≡ first_refusal right small fits → Writable t passages estimates calls (length buffer)
      go false small fits p q r e = cc
      go true false fits p q r e = cc
      go true true false p q r e = cc
      go true true true p q r e = record { right = is_carried t passages estimates calls p; small = leb-true _ _ q; roomy = leb-true _ _ r }

  pub write_written : Writable t passages estimates calls (length buffer)
      → write_of t passages estimates calls buffer ≡ record { reply = Ok (length (file_of t passages estimates calls)); buffer = overlaid 0 (file_of t passages estimates calls) buffer }
  unfolding write_of
  write_written c = rw (carried_is t passages estimates calls c.right, le-leb _ _ c.small, le-leb _ _ c.roomy)
