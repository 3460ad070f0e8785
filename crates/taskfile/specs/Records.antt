-- What reader and writer share: each kind of record, how long its payload is, and where the records of a file begin.
use Rattle.std.specs.Prelude.{ℕ, ◌+◌, ◌*◌, ◌/◌, ◌%◌}

-- "two-byte payload length first, two-byte kind, payload"
abbrev pub kind_place : ℕ
kind_place = 2

abbrev pub payload_place : ℕ
payload_place = 4

-- "Kind 1, once, first: n, k, start, goal, W, E, two bytes each"
abbrev pub head_kind : ℕ
head_kind = 1

abbrev pub head_length : ℕ
head_length = 12

-- "Kind 2: from, to (two bytes each), cost (four)"
abbrev pub passage_kind : ℕ
passage_kind = 2

abbrev pub passage_length : ℕ
passage_length = 8

-- "Kind 3: row number (two), then n estimates of four bytes; rows 0 to n − 1 in order"
abbrev pub row_kind : ℕ
row_kind = 3

abbrev pub row_length : ℕ → ℕ
row_length n = 2 + 4 * n

-- "Kind 4: call (one byte, 0 Take, 1 Bring), worker (one byte)"
abbrev pub call_kind : ℕ
call_kind = 4

abbrev pub worker_width : ℕ
worker_width = 1

abbrev pub call_length : ℕ
call_length = 1 + worker_width

-- a call as one number: 65,536 × call + worker
abbrev pub event_of : ℕ → ℕ → ℕ
event_of call worker = 65536 * call + worker

abbrev pub call_of : ℕ → ℕ
call_of event = event / 65536

abbrev pub worker_of : ℕ → ℕ
worker_of event = event % 65536

-- "n not 1 to 64", "a 513th passage", "a file over 65,536 bytes"
abbrev pub most_states : ℕ
most_states = 64

abbrev pub most_passages : ℕ
most_passages = 512

abbrev pub most_bytes : ℕ
most_bytes = 65536

-- the first byte of passage i, of row r and of call i, in a file with this many passages and states
abbrev pub passage_place : ℕ → ℕ
passage_place i = payload_place + head_length + (payload_place + passage_length) * i

abbrev pub row_place : ℕ → ℕ → ℕ → ℕ
row_place passages n r = passage_place passages + r * (payload_place + row_length n)

abbrev pub call_place : ℕ → ℕ → ℕ → ℕ
call_place passages n i = row_place passages n n + (payload_place + call_length) * i
