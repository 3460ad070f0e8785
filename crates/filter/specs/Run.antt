-- What a run of `deskrun` comes to, as far as the lent buffers show it. Which bytes the system gives or takes no contract can say.
use Rattle.std.specs.Prelude.{◌≡◌, ◌⊎◌, List, ℕ, ◌≤◌, length, take}
use Rattle.report.specs.Text.{report_buffer}
use Rattle.report.specs.Status.{status_of}

-- the statuses that are no file's: the input could not be read to its end, the text could not be written, nobody read any more
abbrev pub cannot_read : ℕ
cannot_read = 3

abbrev pub cannot_write : ℕ
cannot_write = 4

abbrev pub pipe_closed : ℕ
pipe_closed = 141

-- a file was reported on: the text is the file's, and so is the status, unless the writing failed or nobody read any more
abbrev pub Answered : ℕ → List ℕ → List ℕ → List ℕ → Type 0
Answered status file text₀ text = (text ≡ report_buffer file text₀) × ((status ≡ status_of file) ⊎ ((status ≡ cannot_write) ⊎ (status ≡ pipe_closed)))

-- what was read lies at the front of its buffer, and was reported on
pub record Reported (status : ℕ) (buffer text₀ text : List ℕ) : Type 0 where
  pub got : ℕ
  pub inside : got ≤ length buffer
  pub answered : Answered status (take got buffer) text₀ text

-- the input could not be read to its end, and nothing was reported; or it could
abbrev pub Ran : ℕ → List ℕ → List ℕ → List ℕ → Type 0
Ran status buffer text₀ text = ((status ≡ cannot_read) × (text ≡ text₀)) ⊎ Reported status buffer text₀ text
