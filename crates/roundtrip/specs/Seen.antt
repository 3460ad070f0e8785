-- What a scan has seen so far is in place, so a scan that ended well leaves a whole file.
-- Assumes nothing.
use Rattle.std.specs.Prelude.{◌≡◌, ◌&&◌, List, ℕ, ◌+◌, ◌-◌, ◌<◌, length, ltb, Result, Ok, IfOk}
use Rattle.std.proofs.Common.{arith}
use Rattle.std.proofs.Math.Dec.{leb, eqb}
use borrow.Author.Tests.{leb-true, ltb-true, eqb-true}
use Rattle.laws.specs.Truth.{and_left, and_right, cond_cases}
use Rattle.laws.specs.Least.{below_more}
use Rattle.taskfile.specs.declared.Scan.{Scan}
use Rattle.taskfile.specs.declared.faults.FaultKind.{FaultKind}
use Rattle.taskfile.specs.Bytes.{byte, word}
use Rattle.taskfile.specs.Records.{head_kind, head_length, passage_kind, passage_length, row_kind, row_length, call_kind, call_length, most_states, most_passages, passage_place, row_place, call_place}
use Rattle.taskfile.specs.Scan.{payload_length, kind, begun, complete, head_at, passage_at, row_at, call_at, record_at, advance, scanned}
use Rattle.taskfile.specs.Laws.{Placed, passed, scan_kept, scanned_is}
use Rattle.roundtrip.specs.Scanning.{Laid, Whole}

-- what a scan has counted is in place, and there is no call before the last row
record Seen (file : List ℕ) (s : Scan) : Type 0 where
  laid : Laid file s.n s.passages s.rows s.calls
  early : s.rows < s.n → s.calls ≡ 0

seen_begun : (file : List ℕ) → Seen file begun
seen_begun file = record {
  laid = record { head = λ l. absurd (omega arith); passage = λ i l. absurd (omega arith); row = λ r l. absurd (omega arith); call = λ i l. absurd (omega arith) };
  early = λ l. absurd (omega arith);
}

module _ (file : List ℕ) (s : Scan) (p : Placed file s) (q : Seen file s) where
  seen_head : kind file s.at ≡ head_kind → IfOk (head_at file s) (Seen file)
  unfolding head_at
  seen_head k =
      passed (Seen file) (eqb s.n 0 && eqb (payload_length file s.at) head_length) _ _
      (λ t. passed (Seen file) (leb 1 (word file (s.at + 4)) && leb (word file (s.at + 4)) most_states) _ _
      (λ u.
      let ((start, none), (unread, uncalled)) = p.headless (eqb-true s.n 0 (and_left _ _ t)) in
      let size = eqb-true (payload_length file s.at) head_length (and_right (eqb s.n 0) _ t) in
      record {
        laid = record {
          head = λ l. ((rw start at size, rw start at k), rw start);
          passage = λ i l. absurd (omega arith);
          row = λ r l. absurd (omega arith);
          call = λ i l. absurd (omega arith);
        };
        early = λ l. uncalled;
      }))

  seen_passage : kind file s.at ≡ passage_kind → IfOk (passage_at file s) (Seen file)
  unfolding passage_at
  seen_passage k =
      passed (Seen file) (leb 1 s.n && (eqb s.rows 0 && eqb (payload_length file s.at) passage_length)) _ _
      (λ t. passed (Seen file) (ltb s.passages most_passages) _ _
      (λ u.
      let some = leb-true 1 s.n (and_left _ _ t) in
      let rest = and_right (leb 1 s.n) _ t in
      let unread = eqb-true s.rows 0 (and_left _ _ rest) in
      let size = eqb-true (payload_length file s.at) passage_length (and_right (eqb s.rows 0) _ rest) in
      let uncalled = q.early (omega arith) in
      let place : s.at ≡ passage_place s.passages = omega (arith, rw unread at (p.place some)) in
      record {
        laid = record {
          head = q.laid.head;
          passage = λ i l. below_more s.passages q.laid.passage (rw place at size, rw place at k) i (omega arith);
          row = λ r l. absurd (omega arith);
          call = λ i l. absurd (omega arith);
        };
        early = q.early;
      }))

  seen_row : kind file s.at ≡ row_kind → IfOk (row_at file s) (Seen file)
  unfolding row_at
  seen_row k =
      passed (Seen file) (ltb s.rows s.n && (eqb (payload_length file s.at) (row_length s.n) && eqb (word file (s.at + 4)) s.rows)) _ _
      (λ t.
      let fewer = ltb-true s.rows s.n (and_left _ _ t) in
      let rest = and_right (ltb s.rows s.n) _ t in
      let size = eqb-true (payload_length file s.at) (row_length s.n) (and_left _ _ rest) in
      let number = eqb-true (word file (s.at + 4)) s.rows (and_right (eqb (payload_length file s.at) (row_length s.n)) _ rest) in
      let uncalled = q.early fewer in
      let place : s.at ≡ row_place s.passages s.n s.rows = omega (arith, p.place (omega arith)) in
      record {
        laid = record {
          head = q.laid.head;
          passage = q.laid.passage;
          row = λ r l. below_more s.rows q.laid.row ((rw place at size, rw place at k), rw place at number) r (omega arith);
          call = λ i l. absurd (omega arith);
        };
        early = λ l. uncalled;
      })

  seen_call : kind file s.at ≡ call_kind → IfOk (call_at file s) (Seen file)
  unfolding call_at
  seen_call k =
      passed (Seen file) (complete s && (eqb (payload_length file s.at) call_length && leb (byte file (s.at + 4)) 1)) _ _
      (λ t.
      let whole = and_left (complete s) _ t in
      let rest = and_right (complete s) _ t in
      let some = leb-true 1 s.n (and_left _ _ whole) in
      let full = eqb-true s.rows s.n (and_right (leb 1 s.n) _ whole) in
      let size = eqb-true (payload_length file s.at) call_length (and_left _ _ rest) in
      let sort = leb-true (byte file (s.at + 4)) 1 (and_right (eqb (payload_length file s.at) call_length) _ rest) in
      let place : s.at ≡ call_place s.passages s.n s.calls = rw full at (p.place some) in
      record {
        laid = record {
          head = q.laid.head;
          passage = q.laid.passage;
          row = q.laid.row;
          call = λ i l. below_more s.calls q.laid.call ((rw place at size, rw place at k), rw place at sort) i (omega arith);
        };
        early = λ l. absurd (omega arith);
      })

  seen_advance : IfOk (advance file s) (Seen file)
  unfolding advance record_at
  seen_advance =
      let P = λ (r : Result Scan FaultKind). IfOk r (Seen file) in
      passed (Seen file) (leb 4 (length file - s.at)) _ _
      (λ _. passed (Seen file) (leb (payload_length file s.at) (length file - s.at - 4)) _ _
      (λ _. cond_cases P (eqb (kind file s.at) head_kind) _ _ (λ k. seen_head (eqb-true _ _ k))
      (λ _. cond_cases P (eqb (kind file s.at) passage_kind) _ _ (λ k. seen_passage (eqb-true _ _ k))
      (λ _. cond_cases P (eqb (kind file s.at) row_kind) _ _ (λ k. seen_row (eqb-true _ _ k))
      (λ _. cond_cases P (eqb (kind file s.at) call_kind) _ _ (λ k. seen_call (eqb-true _ _ k)) (λ _. tt))))))

pub scanned_whole : (file : List ℕ) (s : Scan) → Ok s ≡ scanned file → Whole file s.n s.passages s.calls
scanned_whole file s e =
    let seen = scan_kept file (Seen file) (seen_begun file) (seen_advance file) s e in
    let ended = scanned_is file s e in
    let full = eqb-true s.rows s.n (and_right (leb 1 s.n) _ ended.whole) in
    record { some = leb-true 1 s.n (and_left _ _ ended.whole); small = ended.small; few = ended.few; filled = ended.filled; laid = rw full at seen.laid }
