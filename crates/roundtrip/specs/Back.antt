-- Read back: a file that says a task and events is scanned without fault, and what is read from it is that task and those events.
-- Assumes nothing.
use Rattle.std.specs.Prelude.{◌≡◌, refl, List, ℕ, ◌+◌, ◌/◌, ◌<◌, length, get_or, Ok}
use Rattle.std.proofs.Common.{sym, ◌∙◌, add-zero, arith}
use Rattle.taskfile.specs.declared.Head.{Head}
use Rattle.taskfile.specs.declared.Scan.{Scan}
use Rattle.taskfile.specs.Bytes.{byte, number_at}
use Rattle.taskfile.specs.BytesLaws.{byte_is}
use Rattle.taskfile.specs.Records.{worker_width, event_of, passage_place, row_place, call_place}
use Rattle.taskfile.specs.Scan.{scanned}
use Rattle.taskfile.specs.Contents.{contents, file_passages, file_estimates, file_calls}
use Rattle.taskfile.specs.CarriedLaws.{Carried}
use Rattle.roundtrip.specs.BothWays.{head_of}
use Rattle.roundtrip.specs.Standing.{stands_same}
use Rattle.roundtrip.specs.Told.{Told}
use Rattle.roundtrip.specs.Scanning.{Laid, Whole, counted, whole_scanned}
use Rattle.roundtrip.specs.Slices.{passages_length, passages_stand, estimates_length, estimates_stand, calls_length, calls_stand}

-- a scan of the file ends well, and what it finds is this task and these events
pub record Found (file : List ℕ) (t : Head) (passages estimates calls : List ℕ) : Type 0 where
  pub scan : Scan
  pub ends : Ok scan ≡ scanned file
  pub many : scan.passages ≡ length passages / 3
  pub more : scan.calls ≡ length calls
  pub head : t ≡ head_of (contents file scan)
  pub passages_are : passages ≡ file_passages file scan.passages
  pub estimates_are : estimates ≡ file_estimates file scan.passages scan.n
  pub calls_are : calls ≡ file_calls file scan.passages scan.n scan.calls

module _ (file : List ℕ) (t : Head) (passages estimates calls : List ℕ) (carried : Carried t passages estimates calls)
    (told : Told file t passages estimates calls (length passages / 3) (length calls)) where
  told_laid : Laid file t.n (length passages / 3) t.n (length calls)
  told_laid =
      record {
        head = λ l. ((told.head.0, told.head.1.0), told.head.1.1.0);
        passage = λ i l. (rw (add-zero (passage_place i)) at (told.passage i l).0, (told.passage i l).1.0);
        row = λ r l. ((rw (add-zero (row_place (length passages / 3) t.n r)) at (told.row r l).0, (told.row r l).1.0), (told.row r l).1.1.0);
        call = λ i l.
            let place = call_place (length passages / 3) t.n i in
            ((rw (add-zero place) at (told.call i l).0, (told.call i l).1.0), omega (arith, (told.call i l).1.1.0, byte_is file (place + 4), carried.call i l));
      }

  told_whole : call_place (length passages / 3) t.n (length calls) ≡ length file → Whole file t.n (length passages / 3) (length calls)
  told_whole e = record { some = carried.some; small = carried.small; few = carried.few; filled = e; laid = told_laid }

  told_event : (i : ℕ) → i < length calls → get_or calls i 0 ≡ event_of (byte file (call_place (length passages / 3) t.n i + 4)) (number_at worker_width file (call_place (length passages / 3) t.n i + 5))
  told_event i l =
      let place = call_place (length passages / 3) t.n i in
      omega (arith, (told.call i l).1.1.0, (told.call i l).1.1.1.0, byte_is file (place + 4))

  pub told_found : call_place (length passages / 3) t.n (length calls) ≡ length file → Found file t passages estimates calls
  told_found e =
      let (n, (k, (start, (goal, (pull, (excess, end)))))) = told.head.1.1 in
      record {
        scan = counted (call_place (length passages / 3) t.n (length calls)) t.n (length passages / 3) t.n (length calls);
        ends = whole_scanned file t.n (length passages / 3) (length calls) (told_whole e);
        many = refl;
        more = refl;
        head = rw (k, start, goal, pull, excess);
        passages_are =
            sym (stands_same (passages_stand file _ passages (λ i l. let (from, (to, (cost, end))) = (told.passage i l).1.1 in (sym from, sym to, sym cost)))
            (passages_length file _ ∙ sym carried.thirds));
        estimates_are = sym (stands_same (estimates_stand file _ t.n estimates (λ r c l h. sym (told.estimate r c l h))) (estimates_length file _ t.n ∙ sym carried.square));
        calls_are = sym (stands_same (calls_stand file _ t.n _ calls told_event) (calls_length file _ t.n _));
      }
