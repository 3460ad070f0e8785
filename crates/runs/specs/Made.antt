-- Machines and tasks made up for single sentences: a base each, in which a row changes one thing.
use Rattle.std.specs.Prelude.{List, [], ◌∷◌, ◌++◌, ℕ, replicate, get_or, set, take as front}
use Rattle.laws.specs.Part.{overlaid}
use Rattle.laws.specs.Fill.{made as listed}
use Rattle.rule.specs.Task.{estimate}
use Rattle.rule.specs.Marks.{none}
use Rattle.rule.specs.Rule.{stored_key}
use Rattle.checks.specs.Opening.{Task, task}
use Rattle.desk.specs.declared.Machine.{Machine}
use Rattle.desk.specs.declared.Reply.{Reply}
use Rattle.desk.specs.declared.Answer.{Answer}
use Rattle.desk.specs.declared.Counted.{Counted}
use Rattle.desk.specs.Machine.{with_phase, with_mark, with_hands, hands_of}
use Rattle.desk.specs.Opening.{opened_machine}
use Rattle.desk.specs.declared.Event.{Event}
use Rattle.desk.specs.Calls.{call}
use Rattle.desk.specs.Limited.{limited_of}
use Rattle.runs.specs.Tasks.{passages, zeros, task_a}

-- the keys that a task's numbers make of a row of marks and one of labels; 0 past n
abbrev pub keys_of : Task → List ℕ → List ℕ → List ℕ
keys_of t mark label =
    overlaid 0 (listed (λ s. stored_key (get_or mark s 0) (get_or label s 0) t.pull (estimate t.estimates t.n s t.goal)) t.n) (replicate 256 0)

-- a machine of a task with this phase, these first marks, labels, passage numbers and held states, and the keys that go with them; for the rest as opening leaves it
abbrev pub made : Task → ℕ → List ℕ → List ℕ → List ℕ → List ℕ → Machine
made t phase marks labels vias held =
    let m = opened_machine t in
    record {
      n = m.n;
      k = m.k;
      start = m.start;
      goal = m.goal;
      pull = m.pull;
      excess = m.excess;
      phase = phase;
      mark = overlaid 0 marks m.mark;
      label = overlaid 0 labels m.label;
      via = overlaid 0 vias m.via;
      held = overlaid 0 held m.held;
      key = keys_of t (overlaid 0 marks m.mark) (overlaid 0 labels m.label);
    }

-- task A after T0 B0 T0: 0 is finished; 1 is out with label 2, by passage 0, in worker 0's hands; 2 is open with label 5, by passage 1. Also with another task's numbers.
abbrev pub midway_in : Task → Machine
midway_in t = made t 0 (3 ∷ 2 ∷ 1 ∷ []) (0 ∷ 2 ∷ 5 ∷ []) (none ∷ 0 ∷ 1 ∷ []) (1 ∷ [])

abbrev pub midway : Machine
midway = midway_in task_a

-- task A after run A1: the goal is open with label 6, and the path goes by passages 0, 2, 3 and 5. Also with another task's numbers.
abbrev pub arrived_in : Task → Machine
arrived_in t = made t 1 (3 ∷ 3 ∷ 3 ∷ 3 ∷ 1 ∷ []) (0 ∷ 2 ∷ 3 ∷ 5 ∷ 6 ∷ []) (none ∷ 0 ∷ 2 ∷ 3 ∷ 5 ∷ []) []

abbrev pub arrived : Machine
arrived = arrived_in task_a

-- a machine that doesn't fit: state 4 has mark 4
abbrev pub unfit : Machine
unfit = with_mark midway 4 4

-- the machine with a state in a worker's hands
abbrev pub with_held : Machine → ℕ → ℕ → Machine
with_held m worker s = with_hands m (set (hands_of m) worker s)

-- the machine with phase 1, and with state 1 in the hands of worker 2 of 2
abbrev pub over : Machine → Machine
over m = with_held (with_phase m 1) 2 1

-- a call on task A
abbrev pub called : Machine → Event → Answer
called m e = call passages zeros m e

-- a limited Take on task A, by this worker and with this limit; and what one hands back
abbrev pub limited_by : Machine → ℕ → ℕ → Counted
limited_by m worker limit = limited_of m passages zeros worker limit

abbrev pub counted : Machine → Reply → ℕ → Counted
counted m reply comparisons = record { answer = record { machine = m; reply = reply }; comparisons = comparisons }

-- task A's passages, but the cost of the last, 3→4, is another
abbrev pub last_costs : ℕ → List ℕ
last_costs cost = front 17 passages ++ (cost ∷ [])

-- a task of one state, without passages
abbrev pub single : ℕ → ℕ → ℕ → Task
single k pull excess = task 1 k 0 0 pull excess [] (0 ∷ [])

-- a task of two states with one passage, and h(0,1)
abbrev pub pair : ℕ → ℕ → ℕ → ℕ → Task
pair from to cost estimate = task 2 1 0 1 100 100 (from ∷ to ∷ cost ∷ []) (0 ∷ estimate ∷ 0 ∷ 0 ∷ [])

-- a task of three states with passages 0→1 of cost 5 and 1→2 of this cost; the last three numbers are h(0,0), h(0,1) and h(0,2)
abbrev pub triple : ℕ → ℕ → ℕ → ℕ → ℕ → ℕ → ℕ → Task
triple k start pull cost self middle far = task 3 k start 2 pull 100 (0 ∷ 1 ∷ 5 ∷ 1 ∷ 2 ∷ cost ∷ []) (self ∷ middle ∷ far ∷ replicate 6 0)
