-- What a file says, number by number: the file that the writer makes says its task and events, and a file that says them is that file.
-- Assumes nothing.
use Rattle.std.specs.Prelude.{◌≡◌, List, ℕ, ◌+◌, ◌*◌, ◌/◌, ◌<◌, length, get_or}
use native.Mathlib.Omega.{arith}
use Rattle.taskfile.specs.declared.Head.{Head}
use Rattle.taskfile.specs.Bytes.{long, beyond}
use Rattle.taskfile.specs.Records.{passage_place, row_place, call_place}
use Rattle.taskfile.specs.Writing.{file_of}
use Rattle.taskfile.specs.CarriedLaws.{Carried}
use Rattle.taskfile.specs.WritingLaws.{bytes_length, estimate_bytes}
use Rattle.roundtrip.specs.BothWays.{Octets, Long}
use Rattle.roundtrip.specs.Standing.{Stands, stands_left, stands_right, stands_both, stands_piece, stands_gathered}
use Rattle.roundtrip.specs.Fields.{number_says, number_stands, bytes_in, Says, numbers_say, numbers_stand}
use Rattle.roundtrip.specs.Layout.{head_fields, passage_fields, row_fields, call_fields, head_bytes, passage_bytes, row_bytes, row_front, call_bytes, estimate_place, parts_of, of_parts}

-- a file says a task and events: so many passages and calls
pub record Told (file : List ℕ) (t : Head) (passages estimates calls : List ℕ) (many more : ℕ) : Type 0 where
  pub head : Says (head_fields t) file 0 0
  pub passage : (i : ℕ) → i < many → Says (passage_fields passages i) file (passage_place i) 0
  pub row : (r : ℕ) → r < t.n → Says (row_fields t.n r) file (row_place many t.n r) 0
  pub estimate : (r c : ℕ) → r < t.n → c < t.n → long file (row_place many t.n r + 6 + 4 * c) ≡ get_or estimates (r * t.n + c) 0
  pub call : (i : ℕ) → i < more → Says (call_fields calls i) file (call_place many t.n i) 0

module _ (file : List ℕ) (t : Head) (passages estimates calls : List ℕ) where
  pub written_told : Carried t passages estimates calls → Long passages → Long estimates → Stands (file_of t passages estimates calls) file 0
      → Told file t passages estimates calls (length passages / 3) (length calls)
  unfolding beyond
  written_told carried costs-fit estimates-fit s =
      let p = parts_of t passages estimates calls file s in
      record {
        head =
            let (k, start, goal, pull, excess) = carried.head in
            numbers_say file 0 _ (omega arith, (omega arith, (omega (arith, carried.small), (k, (start, (goal, (pull, (excess, tt)))))))) (rw (head_bytes t) at p.head);
        passage = λ i l. numbers_say file _ _ (omega arith, (omega arith, ((carried.ends i l).0, ((carried.ends i l).1, (costs-fit (3 * i + 2), tt))))) (rw (passage_bytes passages i) at (p.passage i l));
        row = λ r l. numbers_say file _ _ (omega (arith, carried.small), (omega arith, (omega (arith, carried.small), tt))) (stands_left _ _ (rw (row_bytes estimates t.n r) at (p.row r l)));
        estimate = λ r c l h.
            let s = rw (row_front t.n r) at (stands_right (bytes_in (row_fields t.n r)) _ (rw (row_bytes estimates t.n r) at (p.row r l))) in
            number_says 4 _ (estimates-fit (r * t.n + c)) (rw (estimate_place (length passages / 3) t.n r c) at (stands_piece (estimate_bytes estimates (r * t.n)) 4 (λ c. bytes_length 4 _) t.n c s h));
        call = λ i l. numbers_say file _ _ (omega arith, (omega arith, (omega (arith, carried.call i l), ((carried.call i l).1, tt)))) (rw (call_bytes calls i) at (p.call i l));
      }

  pub told_written : Octets file → Told file t passages estimates calls (length passages / 3) (length calls) → Stands (file_of t passages estimates calls) file 0
  told_written o told =
      of_parts t passages estimates calls file (record {
        head = rw (head_bytes t) (numbers_stand file 0 _ o told.head);
        passage = λ i l. rw (passage_bytes passages i) (numbers_stand file _ _ o (told.passage i l));
        row = λ r l.
            rw (row_bytes estimates t.n r)
            (stands_both (bytes_in (row_fields t.n r)) _ (numbers_stand file _ _ o (told.row r l))
            (rw (row_front t.n r) (stands_gathered (estimate_bytes estimates (r * t.n)) 4 (λ c. bytes_length 4 _) t.n
            (λ c h.
            rw (estimate_place (length passages / 3) t.n r c, ← told.estimate r c l h) (number_stands 4 file _ o)))));
        call = λ i l. rw (call_bytes calls i) (numbers_stand file _ _ o (told.call i l));
      })
