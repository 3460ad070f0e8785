-- What pieces written at a cursor one behind the other come to: the fields of a record, the records of a file.
-- Assumes nothing.
use Rattle.std.specs.Prelude.{◌≡◌, List, ◌++◌, ℕ, zero, suc, ◌+◌, ◌*◌, ◌/◌, ◌≤◌, ◌<◌, length, get_or, take, drop}
use Rattle.std.proofs.Math.Path.{refl}
use Rattle.std.proofs.Common.{ap, ◌∙◌, append_assoc, suc-mul, arith, length-append, length-drop, length-take-le}
use Rattle.std.proofs.lemmas.List.{get_or-take, get_or-drop}
use Rattle.laws.specs.Gather.{gathered, gathered_zero, gathered_more, gathered_even}
use Rattle.taskfile.specs.declared.Head.{Head}
use Rattle.taskfile.specs.declared.put.Cursor.{Cursor}
use Rattle.taskfile.specs.Bytes.{bytes_of}
use Rattle.taskfile.specs.Cursors.{written, Puts}
use Rattle.taskfile.specs.CursorLaws.{written_none, written_more}
use Rattle.taskfile.specs.Records.{payload_place, head_kind, head_length, passage_kind, passage_length, row_kind, row_length, call_kind, call_length, worker_width, call_of, worker_of}
use Rattle.taskfile.specs.Writing.{record_of, head_record, passage_record, row_record, call_record, file_of}
use Rattle.taskfile.specs.ChunkLaws.{triple, from_is, to_is, cost_is}
use Rattle.taskfile.specs.Laws.{row_width}
use Rattle.taskfile.specs.WritingLaws.{bytes_length, estimate_bytes, row_bytes, call_payload, head_length_lem, passage_length_lem, row_length_lem}

-- a payload's length and kind
pub front_put : (payload kind number : ℕ) (c c₁ c₂ : Cursor) → c.at + 4 ≤ length c.buffer.now → number ≡ kind → c₁ ≡ written c (bytes_of 2 payload) → c₂ ≡ written c₁ (bytes_of 2 number)
    → c₂ ≡ written c (bytes_of 2 payload ++ bytes_of 2 kind)
front_put payload kind number c c₁ c₂ room e e₁ e₂ = written_more 2 (bytes_of 2 payload) (bytes_of 2 kind) c c₁ c₂ (bytes_length 2 payload) (omega arith) e₁ (rw e at e₂)

-- the head
pub head_put : (t : Head) (c c₀ c₁ c₂ c₃ c₄ c₅ c₆ : Cursor) → c.at + 16 ≤ length c.buffer.now
    → c₀ ≡ written c (bytes_of 2 head_length ++ bytes_of 2 head_kind)
    → c₁ ≡ written c₀ (bytes_of 2 t.n)
    → c₂ ≡ written c₁ (bytes_of 2 t.k)
    → c₃ ≡ written c₂ (bytes_of 2 t.start)
    → c₄ ≡ written c₃ (bytes_of 2 t.goal)
    → c₅ ≡ written c₄ (bytes_of 2 t.pull)
    → c₆ ≡ written c₅ (bytes_of 2 t.excess)
    → c₆ ≡ written c (head_record t)
unfolding head_record bytes_of
head_put t c c₀ c₁ c₂ c₃ c₄ c₅ c₆ room e₀ e₁ e₂ e₃ e₄ e₅ e₆ =
    let f₀ = bytes_of 2 head_length ++ bytes_of 2 head_kind in
    let f₁ = f₀ ++ bytes_of 2 t.n in
    let f₂ = f₁ ++ bytes_of 2 t.k in
    let f₃ = f₂ ++ bytes_of 2 t.start in
    let f₄ = f₃ ++ bytes_of 2 t.goal in
    let f₅ = f₄ ++ bytes_of 2 t.pull in
    let s₁ = written_more 4 f₀ (bytes_of 2 t.n) c c₀ c₁ refl (omega arith) e₀ e₁ in
    let s₂ = written_more 6 f₁ (bytes_of 2 t.k) c c₁ c₂ refl (omega arith) s₁ e₂ in
    let s₃ = written_more 8 f₂ (bytes_of 2 t.start) c c₂ c₃ refl (omega arith) s₂ e₃ in
    let s₄ = written_more 10 f₃ (bytes_of 2 t.goal) c c₃ c₄ refl (omega arith) s₃ e₄ in
    let s₅ = written_more 12 f₄ (bytes_of 2 t.pull) c c₄ c₅ refl (omega arith) s₄ e₅ in
    written_more 14 f₅ (bytes_of 2 t.excess) c c₅ c₆ refl (omega arith) s₅ e₆

-- a passage
pub passage_put : (passage : List ℕ) (c c₀ c₁ c₂ c₃ : Cursor) → c.at + 12 ≤ length c.buffer.now
    → c₀ ≡ written c (bytes_of 2 passage_length ++ bytes_of 2 passage_kind)
    → c₁ ≡ written c₀ (bytes_of 2 (get_or passage 0 0))
    → c₂ ≡ written c₁ (bytes_of 2 (get_or passage 1 0))
    → c₃ ≡ written c₂ (bytes_of 4 (get_or passage 2 0))
    → c₃ ≡ written c (passage_record passage 0)
unfolding passage_record bytes_of
passage_put passage c c₀ c₁ c₂ c₃ room e₀ e₁ e₂ e₃ =
    let from = bytes_of 2 (get_or passage 0 0) in
    let to = bytes_of 2 (get_or passage 1 0) in
    let f₀ = bytes_of 2 passage_length ++ bytes_of 2 passage_kind in
    let s₁ = written_more 4 f₀ from c c₀ c₁ refl (omega arith) e₀ e₁ in
    let s₂ = written_more 6 (f₀ ++ from) to c c₁ c₂ refl (omega arith) s₁ e₂ in
    written_more 8 ((f₀ ++ from) ++ to) (bytes_of 4 (get_or passage 2 0)) c c₂ c₃ refl (omega arith) s₂ e₃

pub passage_same : (passages : List ℕ) (many i : ℕ) → i < many → passage_record (triple passages many i) 0 ≡ passage_record passages i
unfolding passage_record
passage_same passages many i l = rw (from_is passages many i l, to_is passages many i l, cost_is passages many i l)

-- a row: its number, then its estimates
pub row_put : (r size : ℕ) (row : List ℕ) (c c₀ c₁ c₂ : Cursor) → c.at + 6 ≤ length c.buffer.now → size ≡ row_length (length row)
    → c₀ ≡ written c (bytes_of 2 size ++ bytes_of 2 row_kind)
    → c₁ ≡ written c₀ (bytes_of 2 r)
    → c₂ ≡ written c₁ (row_bytes row)
    → c₂ ≡ written c (record_of row_kind (bytes_of 2 r ++ row_bytes row))
unfolding bytes_of
row_put r size row c c₀ c₁ c₂ room e e₀ e₁ e₂ =
    let payload = bytes_of 2 r ++ row_bytes row in
    let long : size ≡ length payload = e ∙ omega (arith, gathered_even (λ c. bytes_of 4 (get_or row c 0)) 4 (λ i. refl) (length row)) in
    let f₀ = bytes_of 2 (length payload) ++ bytes_of 2 row_kind in
    let s₁ = written_more 4 f₀ (bytes_of 2 r) c c₀ c₁ refl (omega arith) (rw long at e₀) e₁ in
    written_more 6 (f₀ ++ bytes_of 2 r) (row_bytes row) c c₁ c₂ refl (omega arith) s₁ e₂

-- pieces that are the same below n
gathered_alike : (f g : ℕ → List ℕ) (n : ℕ) → ((i : ℕ) → i < n → f i ≡ g i) → gathered f n ≡ gathered g n
unfolding gathered
gathered_alike f g zero h = refl
gathered_alike f g (suc n) h = rw (gathered_alike f g n (λ i l. h i (omega arith)), h n (omega arith))

-- and row r of a table, of the part that holds it
pub row_same : (estimates : List ℕ) (n r : ℕ) → r * n + n ≤ length estimates → record_of row_kind (bytes_of 2 r ++ row_bytes (take n (drop (r * n) estimates))) ≡ row_record estimates n r
unfolding row_record
row_same estimates n r within =
    let long : length (take n (drop (r * n) estimates)) ≡ n = length-take-le n (drop (r * n) estimates) (omega (arith, length-drop (r * n) estimates)) in
    let same : row_bytes (take n (drop (r * n) estimates)) ≡ gathered (estimate_bytes estimates (r * n)) n =
    rw long (gathered_alike _ _ n (λ c l. ap (bytes_of 4) (get_or-take n (drop (r * n) estimates) c 0 l ∙ get_or-drop (r * n) estimates c 0))) in
    ap (λ (xs : List ℕ). record_of row_kind (bytes_of 2 r ++ xs)) same

-- a call
pub call_put : (event : ℕ) (c c₀ c₁ c₂ : Cursor) → c.at + (payload_place + call_length) ≤ length c.buffer.now
    → c₀ ≡ written c (bytes_of 2 call_length ++ bytes_of 2 call_kind)
    → c₁ ≡ written c₀ (bytes_of 1 (call_of event))
    → c₂ ≡ written c₁ (bytes_of worker_width (worker_of event))
    → c₂ ≡ written c (record_of call_kind (call_payload event))
unfolding bytes_of
call_put event c c₀ c₁ c₂ room e₀ e₁ e₂ =
    let f₀ = bytes_of 2 call_length ++ bytes_of 2 call_kind in
    let call = bytes_of 1 (call_of event) in
    let s₁ = written_more 4 f₀ call c c₀ c₁ refl (omega arith) e₀ e₁ in
    written_more 5 (f₀ ++ call) (bytes_of worker_width (worker_of event)) c c₁ c₂ refl (omega arith) s₁ e₂

-- pieces that are w long each, one behind the other
abbrev pub PutsAll : (ℕ → List ℕ) → ℕ → Cursor → Cursor → ℕ → Type 0
PutsAll f w c c' i = Puts (gathered f i) (i * w) c c'

module _ (f : ℕ → List ℕ) (w : ℕ) (each : (i : ℕ) → length (f i) ≡ w) (c : Cursor) where
  pub puts_zero : PutsAll f w c c 0
  puts_zero = record { after = rw (gathered_zero f) (written_none c); at = omega arith; len = refl }

  pub puts_more : (c₁ c₂ : Cursor) (i long : ℕ) → PutsAll f w c c₁ i → c.at + (i * w + w) ≤ length c.buffer.now → long ≡ w → Puts (f i) long c₁ c₂ → PutsAll f w c c₂ (i + 1)
  puts_more c₁ c₂ i long s room e p =
      record {
        after = rw (gathered_more f i) (written_more (i * w) (gathered f i) (f i) c c₁ c₂ (gathered_even f w each i) (omega arith) s.after p.after);
        at = omega (arith, s.at, p.at, suc-mul i w);
        len = p.len ∙ s.len;
      }

-- the whole file
pub file_put : (t : Head) (passages estimates calls : List ℕ) (c c₁ c₂ c₃ c₄ : Cursor) → c.at + (16 + 12 * (length passages / 3) + t.n * (6 + 4 * t.n)) ≤ length c.buffer.now
    → c₁ ≡ written c (head_record t)
    → c₂ ≡ written c₁ (gathered (passage_record passages) (length passages / 3))
    → c₃ ≡ written c₂ (gathered (row_record estimates t.n) t.n)
    → c₄ ≡ written c₃ (gathered (call_record calls) (length calls))
    → c₄ ≡ written c (file_of t passages estimates calls)
unfolding file_of
file_put t passages estimates calls c c₁ c₂ c₃ c₄ room e₁ e₂ e₃ e₄ =
    let many = length passages / 3 in
    let n = t.n in
    let head = head_record t in
    let firsts = gathered (passage_record passages) many in
    let rows = gathered (row_record estimates n) n in
    let first = gathered_even (passage_record passages) 12 (passage_length_lem passages) many in
    let next = gathered_even (row_record estimates n) (6 + 4 * n) (λ r. row_length_lem estimates n r ∙ row_width n) n in
    let s₂ = written_more 16 head firsts c c₁ c₂ (head_length_lem t) (omega arith) e₁ e₂ in
    let s₃ = written_more (16 + 12 * many) (head ++ firsts) rows c c₂ c₃ (omega (arith, length-append head firsts, head_length_lem t, first)) (omega arith) s₂ e₃ in
    let s₄ = written_more (16 + 12 * many + n * (6 + 4 * n)) ((head ++ firsts) ++ rows) (gathered (call_record calls) (length calls)) c c₃ c₄
    (omega (arith, length-append (head ++ firsts) rows, length-append head firsts, head_length_lem t, first, next)) (omega arith) s₃ e₄ in
    s₄ ∙ ap (written c) (simp append_assoc)
