-- The scan of a file whose records are in place, and what a scan that ended well has seen: the two are the same.
-- Assumes nothing.
use Rattle.std.specs.Prelude.{◌≡◌, List, ℕ, zero, suc, ◌+◌, ◌-◌, ◌≤◌, ◌<◌, length, Ok}
use Rattle.std.proofs.Math.Path.{refl, sym}
use Rattle.std.proofs.Common.{◌∙◌, add-one, arith}
use borrow.Author.Tests.{eq-eqb, le-leb, lt-ltb}
use Rattle.laws.specs.Truth.{and_both}
use Rattle.taskfile.specs.declared.Scan.{Scan}
use Rattle.taskfile.specs.Bytes.{byte, word}
use Rattle.taskfile.specs.Records.{payload_place, head_kind, head_length, passage_kind, passage_length, row_kind, row_length, call_kind, call_length, most_states, most_passages, passage_place, row_place, call_place}
use Rattle.taskfile.specs.Scan.{payload_length, kind, head_at, passage_at, row_at, call_at, record_at, advance, scanned}
use Rattle.taskfile.specs.Laws.{Reached, reached_begun, reached_more, scan_whole}
use Rattle.taskfile.specs.FillLaws.{part_inside}

-- a record with so long a payload and of this kind begins here
abbrev pub Begins : List ℕ → ℕ → ℕ → ℕ → Type 0
Begins file at size which = (payload_length file at ≡ size) × (kind file at ≡ which)

-- so many records of each kind are in place
pub record Laid (file : List ℕ) (n passages rows calls : ℕ) : Type 0 where
  pub head : 1 ≤ n → Begins file 0 head_length head_kind × (word file 4 ≡ n)
  pub passage : (i : ℕ) → i < passages → Begins file (passage_place i) passage_length passage_kind
  pub row : (r : ℕ) → r < rows → Begins file (row_place passages n r) (row_length n) row_kind × (word file (row_place passages n r + 4) ≡ r)
  pub call : (i : ℕ) → i < calls → Begins file (call_place passages n i) call_length call_kind × (byte file (call_place passages n i + 4) ≤ 1)

-- a file of n rows and so many passages and calls, all in place, and nothing behind them
pub record Whole (file : List ℕ) (n passages calls : ℕ) : Type 0 where
  pub some : 1 ≤ n
  pub small : n ≤ most_states
  pub few : passages ≤ most_passages
  pub filled : call_place passages n calls ≡ length file
  pub laid : Laid file n passages n calls

-- a scan with so many records behind it
abbrev pub counted : ℕ → ℕ → ℕ → ℕ → ℕ → Scan
counted at n passages rows calls = record { at = at; n = n; passages = passages; rows = rows; calls = calls }

-- one record more of each kind
module _ (file : List ℕ) (at n passages rows calls : ℕ) (whole : at + 4 + payload_length file at ≤ length file) where
  advance_record : advance file (counted at n passages rows calls) ≡ record_at file (counted at n passages rows calls)
  unfolding advance
  advance_record = rw (le-leb 4 (length file - at) (omega arith), le-leb (payload_length file at) (length file - at - 4) (omega arith))

  head_read : Begins file at head_length head_kind → n ≡ 0 → 1 ≤ word file (at + 4) → word file (at + 4) ≤ most_states
      → advance file (counted at n passages rows calls) ≡ Ok (counted (at + (payload_place + head_length)) (word file (at + 4)) passages rows calls)
  unfolding record_at head_at
  head_read b z l h = advance_record ∙ rw (b.1, b.0, eq-eqb n 0 z, le-leb 1 (word file (at + 4)) l, le-leb (word file (at + 4)) most_states h)

  passage_read : Begins file at passage_length passage_kind → 1 ≤ n → rows ≡ 0 → passages < most_passages
      → advance file (counted at n passages rows calls) ≡ Ok (counted (at + (payload_place + passage_length)) n (passages + 1) rows calls)
  unfolding record_at passage_at
  passage_read b some z few = advance_record ∙ rw (b.1, b.0, le-leb 1 n some, eq-eqb rows 0 z, lt-ltb passages most_passages few)

  row_read : Begins file at (row_length n) row_kind → word file (at + 4) ≡ rows → rows < n
      → advance file (counted at n passages rows calls) ≡ Ok (counted (at + (payload_place + row_length n)) n passages (rows + 1) calls)
  unfolding record_at row_at
  row_read b e l = advance_record ∙ rw (b.1, b.0, lt-ltb rows n l, eq-eqb (row_length n) (row_length n) refl, eq-eqb (word file (at + 4)) rows e)

  call_read : Begins file at call_length call_kind → byte file (at + 4) ≤ 1 → 1 ≤ n → rows ≡ n
      → advance file (counted at n passages rows calls) ≡ Ok (counted (at + (payload_place + call_length)) n passages rows (calls + 1))
  unfolding record_at call_at
  call_read b l some e = advance_record ∙ rw (b.1, b.0, le-leb 1 n some, eq-eqb rows n e, le-leb (byte file (at + 4)) 1 l)

-- records of one kind, one after the other
turns : (file : List ℕ) (f : ℕ → Scan) (count : ℕ) → Reached file (f 0) → ((i : ℕ) → i < count → ((f i).at < length file) × (advance file (f i) ≡ Ok (f (suc i)))) → Reached file (f count)
turns file f zero r step = r
turns file f (suc count) r step =
    let here = step count (omega arith) in
    reached_more file (f count) (turns file f count r (λ i l. step i (omega arith))) here.0 (f (suc count)) (sym here.1)

-- the scan goes over all of them
module _ (file : List ℕ) (n m c : ℕ) (whole : Whole file n m c) where
  after_head : Reached file (counted (passage_place 0) n 0 0 0)
  after_head =
      let (b, e) = whole.laid.head whole.some in
      reached_more file _ (reached_begun file) (omega (arith, whole.filled)) _ (sym (head_read file 0 0 0 0 0 (omega (arith, b.0)) b refl (rw e whole.some) (rw e whole.small) ∙ rw e))

  after_passages : Reached file (counted (passage_place m) n m 0 0)
  after_passages =
      turns file (λ i. counted (passage_place i) n i 0 0) m after_head (λ i l.
      let b = whole.laid.passage i l in
      let next : passage_place i + (payload_place + passage_length) ≡ passage_place (suc i) = omega arith in
      (omega (arith, whole.filled), passage_read file (passage_place i) n i 0 0 (omega (arith, b.0)) b whole.some refl (omega arith) ∙ rw (next, add-one i)))

  after_rows : Reached file (counted (row_place m n n) n m n 0)
  after_rows =
      let first : row_place m n 0 ≡ passage_place m = omega arith in
      turns file (λ r. counted (row_place m n r) n m r 0) n (rw first after_passages) (λ r l.
      let (b, e) = whole.laid.row r l in
      let next : row_place m n r + (payload_place + row_length n) ≡ row_place m n (suc r) = omega arith in
      let within = part_inside r n (payload_place + row_length n) l in
      (omega (arith, within, whole.filled), row_read file (row_place m n r) n m r 0 (omega (arith, b.0, within)) b e l ∙ rw (next, add-one r)))

  after_calls : Reached file (counted (call_place m n c) n m n c)
  after_calls =
      let first : call_place m n 0 ≡ row_place m n n = omega arith in
      turns file (λ i. counted (call_place m n i) n m n i) c (rw first after_rows) (λ i l.
      let (b, e) = whole.laid.call i l in
      let next : call_place m n i + (payload_place + call_length) ≡ call_place m n (suc i) = omega arith in
      (omega (arith, whole.filled), call_read file (call_place m n i) n m n i (omega (arith, b.0)) b e whole.some refl ∙ rw (next, add-one i)))

  pub whole_scanned : Ok (counted (call_place m n c) n m n c) ≡ scanned file
  whole_scanned = scan_whole file _ after_calls (omega (arith, whole.filled)) (and_both (le-leb 1 n whole.some) (eq-eqb n n refl))
