-- "The machine": its fields, each written by a setter of its own, and what the other definitions read off it.
-- A field more changes this file, the two whole machines of Opening, and the row for C.
use Rattle.std.specs.Prelude.{List, ℕ, get_or, set}
use Rattle.rule.specs.Task.{estimate}
use Rattle.rule.specs.Rule.{key_of}
use Rattle.checks.specs.Opening.{Task, task}
use Rattle.dealing.specs.Board.{Board, board}
use Rattle.trail.specs.Trail.{Trail, trail}
use Rattle.desk.specs.declared.Machine.{Machine}

-- the machine of m's task with this phase and these rows
abbrev rebuilt : Machine → ℕ → List ℕ → List ℕ → List ℕ → List ℕ → List ℕ → Machine
rebuilt m phase mark label via held key =
    record { n = m.n; k = m.k; start = m.start; goal = m.goal; pull = m.pull; excess = m.excess; phase = phase; mark = mark; label = label; via = via; held = held; key = key }

-- one thing set: the phase; a state's mark, label, passage number or key; what the workers hold
abbrev pub with_phase : Machine → ℕ → Machine
with_phase m p = rebuilt m p m.mark m.label m.via m.held m.key

abbrev pub with_mark : Machine → ℕ → ℕ → Machine
with_mark m s k = rebuilt m m.phase (set m.mark s k) m.label m.via m.held m.key

abbrev pub with_label : Machine → ℕ → ℕ → Machine
with_label m s l = rebuilt m m.phase m.mark (set m.label s l) m.via m.held m.key

abbrev pub with_via : Machine → ℕ → ℕ → Machine
with_via m s i = rebuilt m m.phase m.mark m.label (set m.via s i) m.held m.key

abbrev pub with_key : Machine → ℕ → ℕ → Machine
with_key m s x = rebuilt m m.phase m.mark m.label m.via m.held (set m.key s x)

abbrev pub with_hands : Machine → List ℕ → Machine
with_hands m held = rebuilt m m.phase m.mark m.label m.via held m.key

-- what the workers hold: read off the machine here, and given to the steps, to "Fits" and to the refusals as a row of its own
abbrev pub hands_of : Machine → List ℕ
hands_of m = m.held

-- the state that a worker holds, or `none`
abbrev pub held_by : List ℕ → ℕ → ℕ
held_by held w = get_or held w 0

abbrev pub mark_of : Machine → ℕ → ℕ
mark_of m s = get_or m.mark s 0

abbrev pub label_of : Machine → ℕ → ℕ
label_of m s = get_or m.label s 0

-- the key of s with this label, by the machine's goal and W and the lent table
abbrev pub key_for : Machine → List ℕ → ℕ → ℕ → ℕ
key_for m estimates s label = key_of label m.pull (estimate estimates m.n s m.goal)

-- the machine's numbers with the two lent slices, as a task
abbrev pub task_of : Machine → List ℕ → List ℕ → Task
task_of m passages estimates = task m.n m.k m.start m.goal m.pull m.excess passages estimates

-- what the rule of Take compares
abbrev pub board_of : Machine → List ℕ → Board
board_of m estimates = board m.n m.excess estimates m.mark m.label

-- what path reading goes back over
abbrev pub trail_of : Machine → List ℕ → Trail
trail_of m passages = trail m.n m.start m.goal passages m.label m.via
