-- The tasks of document 01's runs, what a run of a task is, and texts as bytes.
use Rattle.std.specs.Prelude.{List, [], ◌∷◌, ◌++◌, ℕ, ◌+◌, ◌*◌, replicate, set}
use Prim.Native.Char.{code}
use Prim.Native.String.{String, [] as nothing, ◌∷◌ as ◌before◌}
use Rattle.checks.specs.Opening.{Task, task}
use Rattle.desk.specs.declared.Machine.{Machine}
use Rattle.desk.specs.declared.Reply.{Reply}
use Rattle.desk.specs.Reply.{refusal as refused_case, reply_with}
use Rattle.desk.specs.Opening.{opening_of}
use Rattle.desk.specs.declared.Event.{Event}
use Rattle.desk.specs.declared.Event.TheVariants.{Take as take, Bring as bring}
use Rattle.desk.specs.Calls.{replies, after}

-- "passages in order 0→1 cost 2, 0→2 cost 5, 1→2 cost 1, 2→3 cost 2, 1→4 cost 9, 3→4 cost 1"
abbrev pub passages : List ℕ
passages =
    0 ∷ 1 ∷ 2 ∷
    0 ∷ 2 ∷ 5 ∷
    1 ∷ 2 ∷ 1 ∷
    2 ∷ 3 ∷ 2 ∷
    1 ∷ 4 ∷ 9 ∷
    3 ∷ 4 ∷ 1 ∷ []

-- "all estimates 0"; "h(a,b) = 1 for a ≠ b"
abbrev pub zeros : List ℕ
zeros = replicate 25 0

abbrev pub ones : List ℕ
ones =
    0 ∷ 1 ∷ 1 ∷ 1 ∷ 1 ∷
    1 ∷ 0 ∷ 1 ∷ 1 ∷ 1 ∷
    1 ∷ 1 ∷ 0 ∷ 1 ∷ 1 ∷
    1 ∷ 1 ∷ 1 ∷ 0 ∷ 1 ∷
    1 ∷ 1 ∷ 1 ∷ 1 ∷ 0 ∷ []

-- estimates of five states, but h(a,b) is another
abbrev pub h : ℕ → ℕ → ℕ → List ℕ → List ℕ
h a b estimate estimates = set estimates (a * 5 + b) estimate

-- "Task A: n 5, k 2, start 0, goal 4, W = E = 100"; with other estimates and weights, the tasks made from it
abbrev pub task_with : List ℕ → ℕ → ℕ → Task
task_with estimates pull excess = task 5 2 0 4 pull excess passages estimates

abbrev pub task_a : Task
task_a = task_with zeros 100 100

abbrev pub task_b : ℕ → Task
task_b excess = task_with ones 100 excess

-- "C1 and C2 have k 1, W = E = 100, estimates 0, no passages"
abbrev pub task_c : ℕ → ℕ → List ℕ → Task
task_c n goal estimates = task n 1 0 goal 100 100 [] estimates

-- the reply of a refused call, by the number that the documents give the refusal
abbrev pub refused_by : ℕ → Reply
refused_by number = reply_with refused_case number

-- a run: the machine that opening hands back, the replies from there, and the machine last handed back
abbrev pub opened : Task → Machine
opened t = (opening_of t).machine

abbrev pub refusal : Task → Reply
refusal t = (opening_of t).reply

abbrev pub run : Task → List Event → List Reply
run t events = replies t.passages t.estimates (opened t) events

abbrev pub end : Task → List Event → Machine
end t events = after t.passages t.estimates (opened t) events

-- the calls of run A1
abbrev pub events_a : List Event
events_a = take 0 ∷ take 1 ∷ bring 0 ∷ take 0 ∷ take 1 ∷ bring 0 ∷ take 1 ∷ take 0 ∷ bring 1 ∷ take 0 ∷ take 1 ∷ bring 0 ∷ take 1 ∷ []

-- the bytes of a text of plain characters, and of lines with a line feed after each
abbrev pub bytes : String → List ℕ
bytes nothing = []
bytes (c before rest) = code c ∷ bytes rest

abbrev pub lines : List String → List ℕ
lines [] = []
lines (line ∷ rest) = bytes line ++ (10 ∷ lines rest)
