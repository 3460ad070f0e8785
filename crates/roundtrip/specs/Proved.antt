-- Order 6's promise, proved.
-- Assumes nothing.
use Rattle.std.specs.Prelude.{◌≡◌, true, List, ℕ, ◌*◌, ◌/◌, ◌≤◌, length, take, Ok}
use Rattle.std.proofs.Common.{sym, ◌∙◌, arith, le-leb}
use Rattle.std.proofs.Math.Path.{ap}
use Rattle.laws.specs.Truth.{and_both}
use Rattle.laws.specs.Part.{overlaid}
use Rattle.laws.specs.Fill.{overlaid_front}
use Rattle.taskfile.specs.declared.Head.{Head}
use Rattle.taskfile.specs.declared.Contents.{Contents}
use Rattle.taskfile.specs.Records.{most_bytes}
use Rattle.taskfile.specs.Contents.{contents, file_passages, file_estimates, file_calls, roomy_for, read_of}
use Rattle.taskfile.specs.Writing.{file_of, write_of}
use Rattle.taskfile.specs.Laws.{read_all}
use Rattle.taskfile.specs.CarriedLaws.{Carried}
use Rattle.taskfile.specs.WritingLaws.{file_length, write_written}
use Rattle.roundtrip.specs.BothWays.{Octets, Long, contents_of, head_of, BothWays}
use Rattle.roundtrip.specs.Standing.{stands_own}
use Rattle.roundtrip.specs.Told.{written_told}
use Rattle.roundtrip.specs.Back.{Found, told_found}
use Rattle.roundtrip.specs.Seen.{scanned_whole}
use Rattle.roundtrip.specs.Slices.{passages_length, estimates_length, calls_length}
use Rattle.roundtrip.specs.Again.{read_carried, read_written}
use Rattle.roundtrip.specs.Replies.{wrote, Reading, reading}

-- the scan of the file that was written finds the task and events
found : (t : Head) (passages estimates calls : List ℕ) → Carried t passages estimates calls → Long passages → Long estimates
    → Found (file_of t passages estimates calls) t passages estimates calls
found t passages estimates calls kept costs-fit estimates-fit =
    let file = file_of t passages estimates calls in
    told_found file t passages estimates calls kept (written_told file t passages estimates calls kept costs-fit estimates-fit (stands_own file)) (sym (file_length t passages estimates calls))

-- so reading it puts them to the slices
module _ (t : Head) (passages estimates calls p e c : List ℕ) (kept : Carried t passages estimates calls) (file : List ℕ) (f : Found file t passages estimates calls) where
  roomy : length passages ≤ length p → length estimates ≤ length e → length calls ≤ length c → roomy_for f.scan (length p) (length e) (length c) ≡ true
  unfolding roomy_for
  roomy for-passages for-estimates for-calls =
      and_both (le-leb _ (length p) (omega (arith, f.many, kept.thirds)))
      (and_both (le-leb _ (length e) (omega (arith, kept.square, ap (λ (t : Head). t.n * t.n) f.head))) (le-leb _ (length c) (omega (arith, f.more))))

  found_read : length file ≤ most_bytes → length passages ≤ length p → length estimates ≤ length e → length calls ≤ length c
      → read_of file p e c ≡ record {
        outcome = Ok (contents_of t (length passages / 3) (length calls));
        passages = overlaid 0 passages p;
        estimates = overlaid 0 estimates e;
        calls = overlaid 0 calls c;
      }
  found_read short for-passages for-estimates for-calls =
      let held : contents file f.scan ≡ contents_of t (length passages / 3) (length calls) = rw (f.head, ← f.many, ← f.more) in
      read_all file p e c short f.scan f.ends (roomy for-passages for-estimates for-calls)
      ∙ λ i. record { outcome = Ok (held i); passages = overlaid 0 (sym f.passages_are i) p; estimates = overlaid 0 (sym f.estimates_are i) e; calls = overlaid 0 (sym f.calls_are i) c }

-- what was read stands at the slices' fronts, and writing it makes the file again
module _ (file p e c : List ℕ) (held : Contents) (r : Reading file p e c held) where
  fronts : read_of file p e c ≡ record {
    outcome = Ok held;
    passages = overlaid 0 (file_passages file held.passages) p;
    estimates = overlaid 0 (file_estimates file held.passages held.n) e;
    calls = overlaid 0 (file_calls file held.passages held.n held.calls) c;
  }
  fronts = rw r.holds (read_all file p e c r.short r.scan r.ends r.roomy)

  written_again : Octets file → (buffer : List ℕ) → length file ≤ length buffer
      → write_of (head_of held) (file_passages file held.passages) (file_estimates file held.passages held.n) (file_calls file held.passages held.n held.calls) buffer ≡ record {
        reply = Ok (length file);
        buffer = overlaid 0 file buffer;
      }
  written_again octets buffer room =
      let whole = scanned_whole file r.scan r.ends in
      let same = read_written file r.scan octets whole in
      rw r.holds (write_written _ _ _ _ buffer (record { right = read_carried file r.scan octets whole; small = rw same r.short; roomy = rw same room }) ∙ rw same)

-- two tasks and lists of events that are found in one file are the same
found_apart : (file : List ℕ) (t u : Head) (passages estimates calls passages' estimates' calls' : List ℕ) → Found file t passages estimates calls → Found file u passages' estimates' calls'
    → (t ≡ u) × (passages ≡ passages') × (estimates ≡ estimates') × (calls ≡ calls')
found_apart file t u passages estimates calls passages' estimates' calls' f g =
    let same : f.scan ≡ g.scan = cc in (
      f.head ∙ (rw same) ∙ sym g.head,
      f.passages_are ∙ (rw same) ∙ sym g.passages_are,
      f.estimates_are ∙ (rw same) ∙ sym g.estimates_are,
      f.calls_are ∙ (rw same) ∙ sym g.calls_are,
    )

front_again : (xs l : List ℕ) (k : ℕ) → length xs ≡ k → take k (overlaid 0 xs l) ≡ xs
front_again xs l k e = rw (← e) (overlaid_front xs l)

pub both_ways : BothWays
both_ways = record {
  reads_written = λ t passages estimates calls buffer many p e c costs-fit estimates-fit written for-passages for-estimates for-calls.
      let r = wrote t passages estimates calls buffer many written in
      rw r.front (found_read t passages estimates calls p e c r.fits.right _ (found t passages estimates calls r.fits.right costs-fit estimates-fit) r.fits.small for-passages for-estimates for-calls);
  writes_read = λ file p e c buffer held octets read room.
      let r = reading file p e c held read in
      let n = held.n in
      let m = held.passages in
      rw (
        fronts file p e c held r,
        front_again (file_passages file m) p (3 * m) (passages_length file m),
        front_again (file_estimates file m n) e (n * n) (estimates_length file m n),
        front_again (file_calls file m n held.calls) c held.calls (calls_length file m n held.calls),
      ) (written_again file p e c held r octets buffer room);
  apart = λ t u passages estimates calls passages' estimates' calls' buffer buffer' many costs-fit estimates-fit costs-fit' estimates-fit' written written' files.
      let r = wrote t passages estimates calls buffer many written in
      let r' = wrote u passages' estimates' calls' buffer' many written' in
      let same = sym r.front ∙ files ∙ r'.front in
      found_apart _ t u passages estimates calls passages' estimates' calls' (rw same at (found t passages estimates calls r.fits.right costs-fit estimates-fit)) (found u passages' estimates' calls' r'.fits.right costs-fit' estimates-fit');
}
