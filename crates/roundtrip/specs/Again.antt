-- Written again: what is read from a whole file is carried, and the file that the writer makes of it is that file.
-- Assumes nothing.
use Rattle.std.specs.Prelude.{◌≡◌, refl, List, ℕ, ◌+◌, ◌/◌, ◌<◌, length, get_or}
use Rattle.std.proofs.Common.{sym, ◌∙◌, add-zero, arith}
use Rattle.taskfile.specs.declared.Scan.{Scan}
use Rattle.taskfile.specs.Bytes.{byte, number_at, beyond}
use Rattle.taskfile.specs.BytesLaws.{byte_is}
use Rattle.taskfile.specs.Records.{worker_width, call_of, worker_of, event_of, passage_place, row_place, call_place}
use Rattle.taskfile.specs.Contents.{contents, file_passages, file_estimates, file_calls}
use Rattle.taskfile.specs.Writing.{file_of}
use Rattle.taskfile.specs.CarriedLaws.{Carried}
use Rattle.taskfile.specs.WritingLaws.{file_length}
use Rattle.roundtrip.specs.BothWays.{Octets, head_of}
use Rattle.roundtrip.specs.Standing.{stands_own, stands_same}
use Rattle.roundtrip.specs.Fields.{number_within}
use Rattle.roundtrip.specs.Told.{Told, told_written}
use Rattle.roundtrip.specs.Scanning.{Whole}
use Rattle.roundtrip.specs.Slices.{passages_length, passages_hold, estimates_length, estimates_hold, calls_length, calls_hold}

-- a call and a worker are found again in the event that they make
event_again : (call worker : ℕ) → worker < beyond worker_width → (call_of (event_of call worker) ≡ call) × (worker_of (event_of call worker) ≡ worker)
unfolding beyond
event_again call worker l = (omega arith, omega arith)

module _ (file : List ℕ) (s : Scan) (octets : Octets file) (whole : Whole file s.n s.passages s.calls) where
  thirds : length (file_passages file s.passages) / 3 ≡ s.passages
  thirds = omega (arith, passages_length file s.passages)

  event_is : (i : ℕ) → i < s.calls → let place = call_place s.passages s.n i in let event = get_or (file_calls file s.passages s.n s.calls) i 0 in
      (call_of event ≡ byte file (place + 4)) × (worker_of event ≡ number_at worker_width file (place + 5))
  event_is i l =
      let place = call_place s.passages s.n i in
      rw (calls_hold file s.passages s.n s.calls _ (stands_own _) i l)
      (event_again (byte file (place + 4)) (number_at worker_width file (place + 5)) (number_within worker_width file (place + 5) octets))

  pub read_carried : Carried (head_of (contents file s)) (file_passages file s.passages) (file_estimates file s.passages s.n) (file_calls file s.passages s.n s.calls)
  read_carried =
      record {
        some = whole.some;
        small = whole.small;
        thirds = omega (arith, passages_length file s.passages);
        few = rw thirds whole.few;
        square = estimates_length file s.passages s.n;
        head = (number_within 2 file 6 octets, number_within 2 file 8 octets, number_within 2 file 10 octets, number_within 2 file 12 octets, number_within 2 file 14 octets);
        ends = λ i l.
            let (from, to, cost) = passages_hold file s.passages _ (stands_own _) i (rw thirds at l) in
            (rw from (number_within 2 file _ octets), rw to (number_within 2 file _ octets));
        call = λ i l.
            let k : i < s.calls = rw (calls_length file s.passages s.n s.calls) at l in
            let (call, worker) = event_is i k in
            (rw call (whole.laid.call i k).1, rw worker (number_within worker_width file _ octets));
      }

  read_told : Told file (head_of (contents file s)) (file_passages file s.passages) (file_estimates file s.passages s.n) (file_calls file s.passages s.n s.calls) s.passages s.calls
  read_told =
      record {
        head = let ((size, sort), n) = whole.laid.head whole.some in (size, (sort, (n, (refl, (refl, (refl, (refl, (refl, tt))))))));
        passage = λ i l.
            let (size, sort) = whole.laid.passage i l in
            let (from, to, cost) = passages_hold file s.passages _ (stands_own _) i l in
            (rw (add-zero (passage_place i)) size, (sort, (sym from, (sym to, (sym cost, tt)))));
        row = λ r l. let ((size, sort), number) = whole.laid.row r l in (rw (add-zero (row_place s.passages s.n r)) size, (sort, (number, tt)));
        estimate = λ r c l h. sym (estimates_hold file s.passages s.n _ (stands_own _) r c l h);
        call = λ i l.
            let place = call_place s.passages s.n i in
            let ((size, sort), low) = whole.laid.call i l in
            let (call, worker) = event_is i l in
            (rw (add-zero place) size, (sort, (byte_is file (place + 4) ∙ sym call, (sym worker, tt))));
      }

  pub read_written : file_of (head_of (contents file s)) (file_passages file s.passages) (file_estimates file s.passages s.n) (file_calls file s.passages s.n s.calls) ≡ file
  read_written =
      stands_same (told_written file _ _ _ _ octets (rw (thirds, calls_length file s.passages s.n s.calls) read_told))
      (file_length _ _ _ _ ∙ rw (thirds, calls_length file s.passages s.n s.calls) whole.filled)
