-- What it says of a task and a buffer that the writer replied Ok, and of a file that the reader replied Ok.
-- Assumes nothing.
use Rattle.std.specs.Prelude.{◌≡◌, refl, true, List, ℕ, ◌≤◌, length, take, leb, Result, Ok, Err}
use Rattle.std.proofs.Common.{leb-true}
use Rattle.laws.specs.Truth.{provided_held}
use Rattle.laws.specs.Fill.{overlaid_front}
use Rattle.taskfile.specs.declared.Head.{Head}
use Rattle.taskfile.specs.declared.Contents.{Contents}
use Rattle.taskfile.specs.declared.Scan.{Scan}
use Rattle.taskfile.specs.declared.faults.Fault.{Fault}
use Rattle.taskfile.specs.Records.{most_bytes}
use Rattle.taskfile.specs.Scan.{scanned}
use Rattle.taskfile.specs.Contents.{FileReading, contents, roomy_for, reading_of, read_of}
use Rattle.taskfile.specs.Writing.{FileWriting, carried, file_of, write_of}
use Rattle.taskfile.specs.CarriedLaws.{is_carried}
use Rattle.taskfile.specs.WritingLaws.{Writable, write_written}

abbrev RepliedOk : ℕ → FileWriting → Type 0
RepliedOk many w = w.reply ≡ Ok many

abbrev Held : Contents → FileReading → Type 0
Held held r = r.outcome ≡ Ok held

-- the writer wrote: nothing stood against it, and the file is at the buffer's front
pub record Wrote (t : Head) (passages estimates calls buffer : List ℕ) (many : ℕ) : Type 0 where
  pub fits : Writable t passages estimates calls (length buffer)
  pub front : take many (write_of t passages estimates calls buffer).buffer ≡ file_of t passages estimates calls

pub wrote : (t : Head) (passages estimates calls buffer : List ℕ) (many : ℕ) → (write_of t passages estimates calls buffer).reply ≡ Ok many → Wrote t passages estimates calls buffer many
unfolding write_of
wrote t passages estimates calls buffer many e =
    let file = file_of t passages estimates calls in
    let (p, e₁) = provided_held (RepliedOk many) (carried t passages estimates calls) _ _ (λ q. cc) e in
    let (q, e₂) = provided_held (RepliedOk many) (leb (length file) most_bytes) _ _ (λ q. cc) e₁ in
    let (r, e₃) = provided_held (RepliedOk many) (leb (length file) (length buffer)) _ _ (λ q. cc) e₂ in
    let fits : Writable t passages estimates calls (length buffer) = record { right = is_carried t passages estimates calls p; small = leb-true (length file) most_bytes q; roomy = leb-true (length file) (length buffer) r } in
    let all : length file ≡ many = cc in
    record { fits = fits; front = rw (write_written t passages estimates calls buffer fits, ← all) (overlaid_front file buffer) }

-- the reader read: the file is short, a scan of it ended well, the slices are roomy, and this is what it holds
pub record Reading (file passages estimates calls : List ℕ) (held : Contents) : Type 0 where
  pub short : length file ≤ most_bytes
  pub scan : Scan
  pub ends : Ok scan ≡ scanned file
  pub roomy : roomy_for scan (length passages) (length estimates) (length calls) ≡ true
  pub holds : held ≡ contents file scan

pub reading : (file passages estimates calls : List ℕ) (held : Contents) → (read_of file passages estimates calls).outcome ≡ Ok held → Reading file passages estimates calls held
unfolding read_of
reading file passages estimates calls held e =
    let (p, e₁) = provided_held (Held held) (leb (length file) most_bytes) _ _ (λ q. cc) e in
    go (leb-true (length file) most_bytes p) (scanned file) refl e₁
  where
    go : length file ≤ most_bytes → (r : Result Scan Fault) → r ≡ scanned file → Held held (reading_of r file passages estimates calls) → Reading file passages estimates calls held
    go short (Err fault) q e = cc
    go short (Ok s) q e =
        let (r, e₂) = provided_held (Held held) (roomy_for s (length passages) (length estimates) (length calls)) _ _ (λ q. cc) e in
        record { short = short; scan = s; ends = q; roomy = r; holds = cc }
