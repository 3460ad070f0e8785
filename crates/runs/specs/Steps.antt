-- "The machine" and "The rule of a step": sentences on what a call hands back, which state is dealt or waited for, and which labels are set.
use Rattle.std.specs.Prelude.{◌≡◌, refl, List, [], ◌∷◌, ℕ, replicate, get_or}
use Rattle.rule.specs.Marks.{none}
use Rattle.checks.specs.Opening.{Task, task}
use Rattle.desk.specs.declared.Machine.{Machine}
use Rattle.desk.specs.declared.Reply.{Reply}
use Rattle.desk.specs.declared.Reply.TheVariants.{Took, Brought, Found, NoPath, Wait}
use Rattle.desk.specs.Machine.{with_phase, mark_of, label_of}
use Rattle.desk.specs.Reply.{answer, value_of}
use Rattle.desk.specs.Path.{path_of}
use Rattle.desk.specs.declared.Event.{Event}
use Rattle.desk.specs.declared.Event.TheVariants.{Take as take, Bring as bring}
use Rattle.desk.specs.Calls.{call}
use Rattle.desk.specs.Morning.{events_of}
use Rattle.runs.specs.Definitions.{definitions}
use Rattle.runs.specs.Tasks.{passages, zeros, h, task_with, task_a, task_c, opened, run, end}
use Rattle.runs.specs.Made.{made, midway, arrived, called}

-- all that a machine holds: the numbers of its task with the phase, and its rows
abbrev parts : Machine → List (List ℕ)
parts m = (m.n ∷ m.k ∷ m.start ∷ m.goal ∷ m.pull ∷ m.excess ∷ m.phase ∷ []) ∷ m.mark ∷ m.label ∷ m.via ∷ m.held ∷ m.key ∷ []

-- five states, three workers, goal 4, E 100: what worker 0's Take is told where W is this, the states have these marks and labels, and the workers hold these states
abbrev told : ℕ → List ℕ → List ℕ → List ℕ → List ℕ → Reply
told pull estimates marks labels held =
    let t = task 5 3 0 4 pull 100 [] estimates in
    (call [] estimates (made t 0 marks labels [] held) (take 0)).reply

-- six states, each with passage number 7: worker 0 brings state 0, whose label is 10, with these passages. 1 and 2 are open with labels 15 and 16, 3 is out and 4 finished with label 100, 5 is unseen.
-- What Brought counts, and then the mark, the label and the passage number of state s.
abbrev brought : List ℕ → ℕ → List ℕ
brought lent s =
    let t = task 6 2 0 5 100 100 lent (replicate 36 0) in
    let m = made t 0 (2 ∷ 1 ∷ 1 ∷ 2 ∷ 3 ∷ []) (10 ∷ 15 ∷ 16 ∷ 100 ∷ 100 ∷ []) (replicate 6 7) (0 ∷ 3 ∷ []) in
    let a = call lent (replicate 36 0) m (bring 0) in
    value_of a.reply ∷ mark_of a.machine s ∷ label_of a.machine s ∷ get_or a.machine.via s 0 ∷ []

-- two states, a self passage 0→0 of cost 0, and passages 0→1 of cost 5, 3 and 3; and three calls on it
abbrev parallel : Task
parallel = task 2 1 0 1 100 100 (0 ∷ 0 ∷ 0 ∷ 0 ∷ 1 ∷ 5 ∷ 0 ∷ 1 ∷ 3 ∷ 0 ∷ 1 ∷ 3 ∷ []) (replicate 4 0)

abbrev three : List Event
three = take 0 ∷ bring 0 ∷ take 0 ∷ []

pub record Steps : Type 0 where
  -- "Opening sets the start open with label 0. All other marks and labels are 0, including places past n; “no passage” and “holds nothing” are 65,535."
  pub opened_machine_lem : parts (opened (task 5 2 1 4 50 100 passages zeros)) ≡
      (5 ∷ 2 ∷ 1 ∷ 4 ∷ 50 ∷ 100 ∷ 0 ∷ []) ∷ (0 ∷ 1 ∷ replicate 254 0) ∷ replicate 256 0 ∷ replicate 256 65535 ∷ replicate 32 65535 ∷ replicate 256 0 ∷ []
  -- "opening hands back no machine to use: all numbers 0"
  pub refused_machine : parts (opened (task_with zeros 101 100)) ≡ replicate 7 0 ∷ replicate 256 0 ∷ replicate 256 0 ∷ replicate 256 0 ∷ replicate 32 0 ∷ replicate 256 0 ∷ []
  -- Take: "its mark becomes out, the worker holds it". Bring: "it becomes open with that sum and that passage. Then the held state is finished, the worker holds nothing."
  pub dealt_machine : end task_a three ≡ midway
  -- "Found with its label, phase 1"; "NoPath, phase 2"; "otherwise Wait, machine unchanged"
  pub found_machine : called (with_phase arrived 0) (take 1) ≡ answer arrived (Found 6)
  pub nopath_machine : call [] zeros (made (task_c 5 4 zeros) 0 (3 ∷ []) [] [] []) (take 0) ≡ answer (made (task_c 5 4 zeros) 2 (3 ∷ []) [] [] []) NoPath
  pub wait_machine : called midway (take 1) ≡ answer midway (Wait 1)
  -- "The key of s is 100 × label + W × h(s, goal)." 1 and 2 are open and safe; by h(goal, s) it would be 1.
  pub key_goal : told 100 (h 1 4 2 (h 2 4 1 (h 4 1 1 (h 4 2 2 zeros)))) (3 ∷ 1 ∷ 1 ∷ []) (0 ∷ 5 ∷ 5 ∷ []) [] ≡ Took 2
  -- The keys are 100 × 3 + 50 × 0 and 100 × 2 + 50 × 1; with the label for 100 × label, or with E for W, it would be 1.
  pub key_weights : told 50 (h 2 1 1 (h 2 4 1 zeros)) (3 ∷ 1 ∷ 1 ∷ []) (0 ∷ 3 ∷ 2 ∷ []) [] ≡ Took 2
  -- "the lowest number among equals"
  pub key_equals : told 100 zeros (3 ∷ 1 ∷ 1 ∷ []) (0 ∷ 5 ∷ 5 ∷ []) [] ≡ Took 1
  -- "some open state is safe: Took the one with the smallest key": of the safe ones. 1 has the smallest key of all, but depends on 0.
  pub safe_first : told 0 (h 0 2 6 (h 1 2 1 zeros)) (2 ∷ 1 ∷ 1 ∷ []) (0 ∷ 5 ∷ 6 ∷ []) (none ∷ 0 ∷ []) ≡ Took 2
  -- "the goal is open and safe: Found with its label", though 1 is safe too, with the same key
  pub goal_first : told 0 zeros (3 ∷ 1 ∷ 0 ∷ 0 ∷ 1 ∷ []) (0 ∷ 5 ∷ 0 ∷ 0 ∷ 5 ∷ []) [] ≡ Found 5
  -- "State s is independent of t when 100 × (label s − label t) ≤ E × h(t,s)": with equality, and not by h(s,t). 0 is out, 1 open.
  pub independent_equal : told 0 (h 0 1 5 zeros) (2 ∷ 1 ∷ []) (0 ∷ 5 ∷ []) (none ∷ 0 ∷ []) ≡ Took 1
  pub independent_way : told 0 (h 0 1 4 (h 1 0 9 zeros)) (2 ∷ 1 ∷ []) (0 ∷ 5 ∷ []) (none ∷ 0 ∷ []) ≡ Wait 0
  -- Order 1: "with something open, the lowest-numbered state that the smallest-key open state depends on (lowest number among equal keys)". 0 and 1 are out, 2 and 3 open; 2 depends on 1 alone, 3 on 0 and 1.
  pub wait_equals : told 0 (h 0 2 5 zeros) (2 ∷ 2 ∷ 1 ∷ 1 ∷ []) (0 ∷ 1 ∷ 5 ∷ 5 ∷ []) (none ∷ 0 ∷ 1 ∷ []) ≡ Wait 1
  pub wait_smallest : told 0 (h 0 2 5 zeros) (2 ∷ 2 ∷ 1 ∷ 1 ∷ []) (0 ∷ 1 ∷ 5 ∷ 4 ∷ []) (none ∷ 0 ∷ 1 ∷ []) ≡ Wait 0
  -- "with nothing open, the lowest-numbered out state"
  pub wait_none_open : told 0 zeros (3 ∷ 2 ∷ 2 ∷ []) (0 ∷ 5 ∷ 3 ∷ []) (none ∷ 2 ∷ 1 ∷ []) ≡ Wait 1
  -- Bring "goes through the held state's passages": not through 1→5
  pub bring_own : brought (1 ∷ 5 ∷ 5 ∷ []) 5 ≡ 0 ∷ 0 ∷ 0 ∷ 7 ∷ []
  -- "Where the far end is unseen or open, and is unseen or has a label greater than held label + cost, it becomes open with that sum and that passage": unseen; greater; equal, where the passage stays
  pub bring_unseen : brought (0 ∷ 5 ∷ 5 ∷ []) 5 ≡ 1 ∷ 1 ∷ 15 ∷ 0 ∷ []
  pub bring_greater : brought (0 ∷ 2 ∷ 5 ∷ []) 2 ≡ 1 ∷ 1 ∷ 15 ∷ 0 ∷ []
  pub bring_equal : brought (0 ∷ 1 ∷ 5 ∷ []) 1 ≡ 0 ∷ 1 ∷ 15 ∷ 7 ∷ []
  -- An out far end and a finished one keep their labels, and so does the held state at the end of a self passage.
  pub bring_out : brought (0 ∷ 3 ∷ 5 ∷ []) 3 ≡ 0 ∷ 2 ∷ 100 ∷ 7 ∷ []
  pub bring_finished : brought (0 ∷ 4 ∷ 5 ∷ []) 4 ≡ 0 ∷ 3 ∷ 100 ∷ 7 ∷ []
  pub bring_self : brought (0 ∷ 0 ∷ 0 ∷ []) 0 ≡ 0 ∷ 3 ∷ 10 ∷ 7 ∷ []
  -- "Brought with how many times a label was set or lowered": set with 15, lowered to 14 and 13, and then equal
  pub bring_times : brought (0 ∷ 5 ∷ 5 ∷ 0 ∷ 5 ∷ 4 ∷ 0 ∷ 5 ∷ 3 ∷ 0 ∷ 5 ∷ 3 ∷ []) 5 ≡ 3 ∷ 1 ∷ 13 ∷ 2 ∷ []
  -- Order 4: a blocked passage "sets no label".
  pub bring_blocked : brought (0 ∷ 5 ∷ 4294967295 ∷ []) 5 ≡ 0 ∷ 0 ∷ 0 ∷ 7 ∷ []
  -- "Self passages and parallel passages are allowed.": passage 2, the first of the cheaper ones, is the path's.
  pub parallel_run : run parallel three ≡ Took 0 ∷ Brought 2 ∷ Found 3 ∷ []
  pub parallel_passages : (end parallel three).via ≡ none ∷ 2 ∷ replicate 254 none
  pub parallel_path : (path_of (end parallel three) parallel.passages parallel.estimates (replicate 2 9) 0).buffer ≡ 0 ∷ 1 ∷ []
  -- An event is 65,536 × call + worker, with the task file's "0 Take, 1 Bring".
  pub events : events_of (0 ∷ 3 ∷ 65536 ∷ 65539 ∷ []) ≡ take 0 ∷ take 3 ∷ bring 0 ∷ bring 3 ∷ []

pub steps : Steps
unfolding definitions
steps = record {
  opened_machine_lem = refl;
  refused_machine = refl;
  dealt_machine = refl;
  found_machine = refl;
  nopath_machine = refl;
  wait_machine = refl;
  key_goal = refl;
  key_weights = refl;
  key_equals = refl;
  safe_first = refl;
  goal_first = refl;
  independent_equal = refl;
  independent_way = refl;
  wait_equals = refl;
  wait_smallest = refl;
  wait_none_open = refl;
  bring_own = refl;
  bring_unseen = refl;
  bring_greater = refl;
  bring_equal = refl;
  bring_out = refl;
  bring_finished = refl;
  bring_self = refl;
  bring_times = refl;
  bring_blocked = refl;
  parallel_run = refl;
  parallel_passages = refl;
  parallel_path = refl;
  events = refl;
}
