-- A buffer and the place in it that is written next: how they are left once so many bytes were written.
use Rattle.std.specs.Prelude.{◌≡◌, List, ℕ, ◌+◌, length}
use Rattle.laws.specs.Part.{overlaid}
use Rattle.taskfile.specs.declared.put.Cursor.{Cursor}

abbrev pub written : Cursor → List ℕ → Cursor
written c bytes = record c { buffer = record (c.buffer) { now = overlaid c.at bytes c.buffer.now }; at = c.at + length bytes }

-- so many bytes are put there, which leaves the buffer as long as it was
pub record Puts (bytes : List ℕ) (long : ℕ) (c c' : Cursor) : Type 0 where
  pub after : c' ≡ written c bytes
  pub at : c'.at ≡ c.at + long
  pub len : length c'.buffer.now ≡ length c.buffer.now
