-- Order 6's promise: "Reading what was written gives the same task and events, and writing what was read without fault gives the same bytes."
use Rattle.std.specs.Prelude.{◌≡◌, List, ℕ, ◌*◌, ◌/◌, ◌≤◌, ◌<◌, length, get_or, take, Ok}
use Rattle.laws.specs.Part.{overlaid}
use Rattle.taskfile.specs.declared.Head.{Head}
use Rattle.taskfile.specs.declared.Contents.{Contents}
use Rattle.taskfile.specs.Bytes.{byte}
use Rattle.taskfile.specs.Contents.{read_of}
use Rattle.taskfile.specs.Writing.{write_of}

-- a file's bytes are numbers of 8 bits, a slice's costs and estimates numbers of 32
abbrev pub Octets : List ℕ → Type 0
Octets file = (i : ℕ) → byte file i < 256

abbrev pub Long : List ℕ → Type 0
Long slice = (i : ℕ) → get_or slice i 0 < 4294967296

-- a task's six numbers as the reader hands them back, with so many passages and calls
abbrev pub contents_of : Head → ℕ → ℕ → Contents
contents_of t passages calls = record {
  n = t.n;
  k = t.k;
  start = t.start;
  goal = t.goal;
  pull = t.pull;
  excess = t.excess;
  passages = passages;
  calls = calls;
}

abbrev pub head_of : Contents → Head
head_of held = record {
  n = held.n;
  k = held.k;
  start = held.start;
  goal = held.goal;
  pull = held.pull;
  excess = held.excess;
}

pub record BothWays : Type 0 where
  -- a task and events were written to a buffer, with so long a file: the reader, given those bytes and slices with room, hands back the same six numbers and puts the same passages, estimates and events to the slices' fronts, whatever the buffer held behind the file
  pub reads_written : (t : Head) (passages estimates calls buffer : List ℕ) (many : ℕ) (p e c : List ℕ) → Long passages → Long estimates
      → (write_of t passages estimates calls buffer).reply ≡ Ok many → length passages ≤ length p → length estimates ≤ length e → length calls ≤ length c
      → read_of (take many (write_of t passages estimates calls buffer).buffer) p e c ≡ record {
        outcome = Ok (contents_of t (length passages / 3) (length calls));
        passages = overlaid 0 passages p;
        estimates = overlaid 0 estimates e;
        calls = overlaid 0 calls c;
      }
  -- a file was read without fault: the writer, given what was read and a buffer with room, puts the same bytes to the buffer's front and replies with the file's length
  pub writes_read : (file p e c buffer : List ℕ) (held : Contents) → Octets file → (read_of file p e c).outcome ≡ Ok held → length file ≤ length buffer
      → let r = read_of file p e c in
      write_of (head_of held) (take (3 * held.passages) r.passages) (take (held.n * held.n) r.estimates) (take held.calls r.calls) buffer ≡ record {
        reply = Ok (length file);
        buffer = overlaid 0 file buffer;
      }
  -- two tasks or lists of events that give the same file are the same
  pub apart : (t u : Head) (passages estimates calls passages' estimates' calls' buffer buffer' : List ℕ) (many : ℕ) → Long passages → Long estimates → Long passages' → Long estimates'
      → (write_of t passages estimates calls buffer).reply ≡ Ok many → (write_of u passages' estimates' calls' buffer').reply ≡ Ok many
      → take many (write_of t passages estimates calls buffer).buffer ≡ take many (write_of u passages' estimates' calls' buffer').buffer
      → (t ≡ u) × (passages ≡ passages') × (estimates ≡ estimates') × (calls ≡ calls')
