-- "Fits (8)": the task and the machine go together.
use Rattle.std.specs.Prelude.{Bool, ◌&&◌, is_ok, List, ℕ}
use Rattle.checks.specs.Opening.{early_fault}
use Rattle.checks.specs.Fits.{phase_right, marks_right, labels_right, keys_right, workers_right, held_once}
use Rattle.desk.specs.declared.Machine.{Machine}
use Rattle.desk.specs.Machine.{task_of}

-- "marks of states below n 0 to 3, phase 0 to 2; labels of states below n at most 255,000,000; each worker below k holds nothing or an out state; each out
-- state is held by exactly one worker below k": what a call can change
unfoldable pub rows_fit : ℕ → ℕ → ℕ → List ℕ → List ℕ → List ℕ → Bool
rows_fit n k phase mark label held =
    phase_right phase
    && (marks_right mark n
    && (labels_right label n
    && (workers_right mark held n k
    && held_once mark held n k)))

-- "conditions 1 to 4 hold of the machine's numbers and the lent slices": what no call changes
abbrev pub task_fits : Machine → List ℕ → List ℕ → Bool
task_fits m passages estimates = is_ok (early_fault (task_of m passages estimates))

-- order 8: "8 also where the stored key of a state below n isn't that"
abbrev pub keys_fit : Machine → List ℕ → Bool
keys_fit m estimates = keys_right m.mark m.label m.key estimates m.n m.goal m.pull

-- both: where they hold of a machine, they hold of every machine that calls make of it, so that several calls look once
abbrev pub is_sound : Machine → List ℕ → List ℕ → Bool
is_sound m passages estimates = task_fits m passages estimates && keys_fit m estimates

unfoldable pub fits : Machine → List ℕ → List ℕ → List ℕ → Bool
fits m held passages estimates = is_sound m passages estimates && rows_fit m.n m.k m.phase m.mark m.label held
