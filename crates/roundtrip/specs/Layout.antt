-- The file that the writer makes, record by record: each record's numbers, and where it stands.
-- Assumes nothing.
use Rattle.std.specs.Prelude.{◌≡◌, refl, List, [], ◌∷◌, ◌++◌, ℕ, ◌+◌, ◌*◌, ◌/◌, ◌<◌, length, get_or}
use Rattle.std.proofs.Common.{arith}
use Rattle.laws.specs.Gather.{gathered, gathered_even}
use Rattle.taskfile.specs.declared.Head.{Head}
use Rattle.taskfile.specs.Bytes.{bytes_of}
use Rattle.taskfile.specs.Records.{payload_place, head_kind, head_length, passage_kind, passage_length, row_kind, row_length, call_kind, call_length, worker_width, call_of, worker_of, passage_place, row_place, call_place}
use Rattle.taskfile.specs.Writing.{head_record, passage_record, row_record, call_record, file_of}
use Rattle.taskfile.specs.WritingLaws.{estimate_bytes, row_payload_lem, head_length_lem, passage_length_lem, row_length_lem, call_length_lem}
use Rattle.roundtrip.specs.Standing.{Stands, stands_left, stands_right, stands_both, stands_piece, stands_gathered}
use Rattle.roundtrip.specs.Fields.{bytes_in}

-- the numbers of each kind of record, with their widths; a row's estimates follow them
abbrev pub head_fields : Head → List (ℕ × ℕ)
head_fields t = (2, head_length) ∷ (2, head_kind) ∷ (2, t.n) ∷ (2, t.k) ∷ (2, t.start) ∷ (2, t.goal) ∷ (2, t.pull) ∷ (2, t.excess) ∷ []

abbrev pub passage_fields : List ℕ → ℕ → List (ℕ × ℕ)
passage_fields passages i = (2, passage_length) ∷ (2, passage_kind) ∷ (2, get_or passages (3 * i) 0) ∷ (2, get_or passages (3 * i + 1) 0) ∷ (4, get_or passages (3 * i + 2) 0) ∷ []

abbrev pub row_fields : ℕ → ℕ → List (ℕ × ℕ)
row_fields n r = (2, row_length n) ∷ (2, row_kind) ∷ (2, r) ∷ []

abbrev pub call_fields : List ℕ → ℕ → List (ℕ × ℕ)
call_fields calls i = (2, call_length) ∷ (2, call_kind) ∷ (1, call_of (get_or calls i 0)) ∷ (worker_width, worker_of (get_or calls i 0)) ∷ []

-- the records are those numbers' bytes
pub head_bytes : (t : Head) → head_record t ≡ bytes_in (head_fields t)
unfolding head_record bytes_in bytes_of
head_bytes t = refl

pub passage_bytes : (passages : List ℕ) (i : ℕ) → passage_record passages i ≡ bytes_in (passage_fields passages i)
unfolding passage_record bytes_in bytes_of
passage_bytes passages i = refl

pub row_bytes : (estimates : List ℕ) (n r : ℕ) → row_record estimates n r ≡ bytes_in (row_fields n r) ++ gathered (estimate_bytes estimates (r * n)) n
unfolding row_record bytes_in bytes_of
row_bytes estimates n r = rw (← row_payload_lem estimates n r)

pub row_front : (n r : ℕ) → length (bytes_in (row_fields n r)) ≡ 6
unfolding bytes_in bytes_of
row_front n r = refl

pub call_bytes : (calls : List ℕ) (i : ℕ) → call_record calls i ≡ bytes_in (call_fields calls i)
unfolding call_record bytes_in bytes_of
call_bytes calls i = refl

-- the first byte of each record, counted in records of its kind, and that of each estimate
passage_place_lem : (i : ℕ) → passage_place 0 + i * (payload_place + passage_length) ≡ passage_place i
passage_place_lem i = omega arith

call_place_lem : (m n i : ℕ) → row_place m n n + i * (payload_place + call_length) ≡ call_place m n i
call_place_lem m n i = omega arith

pub estimate_place : (m n r c : ℕ) → row_place m n r + 6 + c * 4 ≡ row_place m n r + 6 + 4 * c
estimate_place m n r c = omega arith

-- where the records of a file stand
pub record Parts (file : List ℕ) (t : Head) (passages estimates calls : List ℕ) : Type 0 where
  pub head : Stands (head_record t) file 0
  pub passage : (i : ℕ) → i < length passages / 3 → Stands (passage_record passages i) file (passage_place i)
  pub row : (r : ℕ) → r < t.n → Stands (row_record estimates t.n r) file (row_place (length passages / 3) t.n r)
  pub call : (i : ℕ) → i < length calls → Stands (call_record calls i) file (call_place (length passages / 3) t.n i)

module _ (t : Head) (passages estimates calls : List ℕ) where
  -- the seams between the four kinds
  passages_end : passage_place 0 + length (gathered (passage_record passages) (length passages / 3)) ≡ passage_place (length passages / 3)
  passages_end = omega (arith, gathered_even (passage_record passages) _ (passage_length_lem passages) (length passages / 3))

  rows_end : passage_place (length passages / 3) + length (gathered (row_record estimates t.n) t.n) ≡ row_place (length passages / 3) t.n t.n
  rows_end = omega (arith, gathered_even (row_record estimates t.n) _ (row_length_lem estimates t.n) t.n)

  module _ (file : List ℕ) where
    pub parts_of : Stands (file_of t passages estimates calls) file 0 → Parts file t passages estimates calls
    unfolding file_of
    parts_of s =
        let s₁ = rw (head_length_lem t) at (stands_right (head_record t) _ s) in
        let s₂ = rw passages_end at (stands_right (gathered (passage_record passages) (length passages / 3)) _ s₁) in
        let s₃ = rw rows_end at (stands_right (gathered (row_record estimates t.n) t.n) _ s₂) in
        record {
          head = stands_left (head_record t) _ s;
          passage = λ i h. rw (passage_place_lem i) at (stands_piece (passage_record passages) _ (passage_length_lem passages) _ i (stands_left _ _ s₁) h);
          row = λ r h. stands_piece (row_record estimates t.n) _ (row_length_lem estimates t.n) _ r (stands_left _ _ s₂) h;
          call = λ i h. rw (call_place_lem (length passages / 3) t.n i) at (stands_piece (call_record calls) _ (call_length_lem calls) _ i s₃ h);
        }

    pub of_parts : Parts file t passages estimates calls → Stands (file_of t passages estimates calls) file 0
    unfolding file_of
    of_parts p =
        stands_both (head_record t) _ p.head (rw (head_length_lem t)
        (stands_both (gathered (passage_record passages) (length passages / 3)) _
        (stands_gathered (passage_record passages) _ (passage_length_lem passages) _ (λ i h. rw (passage_place_lem i) (p.passage i h)))
        (rw passages_end (stands_both (gathered (row_record estimates t.n) t.n) _ (stands_gathered (row_record estimates t.n) _ (row_length_lem estimates t.n) _ p.row)
        (rw rows_end (stands_gathered (call_record calls) _ (call_length_lem calls) _ (λ i h. rw (call_place_lem (length passages / 3) t.n i) (p.call i h))))))))
