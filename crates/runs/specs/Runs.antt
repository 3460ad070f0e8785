-- "Runs to hold it against": the starred runs, one table under one claim, proved by computing the definitions that the contracts cite.
use Rattle.std.specs.Prelude.{◌≡◌, refl, true, List, [], ◌∷◌, ℕ, ◌*◌, replicate, leb}
use Rattle.checks.specs.Opening.{Task}
use Rattle.desk.specs.declared.Reply.{Reply}
use Rattle.desk.specs.declared.Reply.TheVariants.{Took, Brought, Found, NoPath, Wait, Read}
use Rattle.desk.specs.Reply.{value_of}
use Rattle.desk.specs.Path.{path_of}
use Rattle.desk.specs.declared.Event.{Event}
use Rattle.desk.specs.declared.Event.TheVariants.{Take as take, Bring as bring}
use Rattle.desk.specs.Calls.{replies}
use Rattle.report.specs.Text.{printed}
use Rattle.runs.specs.Definitions.{definitions}
use Rattle.runs.specs.Tasks.{passages, zeros, ones, h, task_with, task_a, task_b, task_c, refusal, run, end, events_a, lines, refused_by}

-- "Task A as a task file": the bytes, a record a line
abbrev file_a : List ℕ
file_a =
    -- the head (length 12, kind 1): n 5, k 2, start 0, goal 4, W 100, E 100
    12 ∷ 0 ∷ 1 ∷ 0 ∷ 5 ∷ 0 ∷ 2 ∷ 0 ∷ 0 ∷ 0 ∷ 4 ∷ 0 ∷ 100 ∷ 0 ∷ 100 ∷ 0 ∷
    -- the passages (length 8, kind 2): from, to, cost
    8 ∷ 0 ∷ 2 ∷ 0 ∷ 0 ∷ 0 ∷ 1 ∷ 0 ∷ 2 ∷ 0 ∷ 0 ∷ 0 ∷
    8 ∷ 0 ∷ 2 ∷ 0 ∷ 0 ∷ 0 ∷ 2 ∷ 0 ∷ 5 ∷ 0 ∷ 0 ∷ 0 ∷
    8 ∷ 0 ∷ 2 ∷ 0 ∷ 1 ∷ 0 ∷ 2 ∷ 0 ∷ 1 ∷ 0 ∷ 0 ∷ 0 ∷
    8 ∷ 0 ∷ 2 ∷ 0 ∷ 2 ∷ 0 ∷ 3 ∷ 0 ∷ 2 ∷ 0 ∷ 0 ∷ 0 ∷
    8 ∷ 0 ∷ 2 ∷ 0 ∷ 1 ∷ 0 ∷ 4 ∷ 0 ∷ 9 ∷ 0 ∷ 0 ∷ 0 ∷
    8 ∷ 0 ∷ 2 ∷ 0 ∷ 3 ∷ 0 ∷ 4 ∷ 0 ∷ 1 ∷ 0 ∷ 0 ∷ 0 ∷
    -- the rows (length 22, kind 3): row number, five estimates 0
    22 ∷ 0 ∷ 3 ∷ 0 ∷ 0 ∷ 0 ∷ 0 ∷ 0 ∷ 0 ∷ 0 ∷ 0 ∷ 0 ∷ 0 ∷ 0 ∷ 0 ∷ 0 ∷ 0 ∷ 0 ∷ 0 ∷ 0 ∷ 0 ∷ 0 ∷ 0 ∷ 0 ∷ 0 ∷ 0 ∷
    22 ∷ 0 ∷ 3 ∷ 0 ∷ 1 ∷ 0 ∷ 0 ∷ 0 ∷ 0 ∷ 0 ∷ 0 ∷ 0 ∷ 0 ∷ 0 ∷ 0 ∷ 0 ∷ 0 ∷ 0 ∷ 0 ∷ 0 ∷ 0 ∷ 0 ∷ 0 ∷ 0 ∷ 0 ∷ 0 ∷
    22 ∷ 0 ∷ 3 ∷ 0 ∷ 2 ∷ 0 ∷ 0 ∷ 0 ∷ 0 ∷ 0 ∷ 0 ∷ 0 ∷ 0 ∷ 0 ∷ 0 ∷ 0 ∷ 0 ∷ 0 ∷ 0 ∷ 0 ∷ 0 ∷ 0 ∷ 0 ∷ 0 ∷ 0 ∷ 0 ∷
    22 ∷ 0 ∷ 3 ∷ 0 ∷ 3 ∷ 0 ∷ 0 ∷ 0 ∷ 0 ∷ 0 ∷ 0 ∷ 0 ∷ 0 ∷ 0 ∷ 0 ∷ 0 ∷ 0 ∷ 0 ∷ 0 ∷ 0 ∷ 0 ∷ 0 ∷ 0 ∷ 0 ∷ 0 ∷ 0 ∷
    22 ∷ 0 ∷ 3 ∷ 0 ∷ 4 ∷ 0 ∷ 0 ∷ 0 ∷ 0 ∷ 0 ∷ 0 ∷ 0 ∷ 0 ∷ 0 ∷ 0 ∷ 0 ∷ 0 ∷ 0 ∷ 0 ∷ 0 ∷ 0 ∷ 0 ∷ 0 ∷ 0 ∷ 0 ∷ 0 ∷
    -- the calls (length 2, kind 4): T0 T1 B0 T0 T1 B0 T1 T0 B1 T0 T1 B0 T1
    2 ∷ 0 ∷ 4 ∷ 0 ∷ 0 ∷ 0 ∷
    2 ∷ 0 ∷ 4 ∷ 0 ∷ 0 ∷ 1 ∷
    2 ∷ 0 ∷ 4 ∷ 0 ∷ 1 ∷ 0 ∷
    2 ∷ 0 ∷ 4 ∷ 0 ∷ 0 ∷ 0 ∷
    2 ∷ 0 ∷ 4 ∷ 0 ∷ 0 ∷ 1 ∷
    2 ∷ 0 ∷ 4 ∷ 0 ∷ 1 ∷ 0 ∷
    2 ∷ 0 ∷ 4 ∷ 0 ∷ 0 ∷ 1 ∷
    2 ∷ 0 ∷ 4 ∷ 0 ∷ 0 ∷ 0 ∷
    2 ∷ 0 ∷ 4 ∷ 0 ∷ 1 ∷ 1 ∷
    2 ∷ 0 ∷ 4 ∷ 0 ∷ 0 ∷ 0 ∷
    2 ∷ 0 ∷ 4 ∷ 0 ∷ 0 ∷ 1 ∷
    2 ∷ 0 ∷ 4 ∷ 0 ∷ 1 ∷ 0 ∷
    2 ∷ 0 ∷ 4 ∷ 0 ∷ 0 ∷ 1 ∷ []

-- "`deskrun` prints in full"; order 1: "The `wait` lines of run A1 then end in 0, 1, 2 and 3."
abbrev text_a : List ℕ
text_a = lines (
    "took 0 0" ∷
    "wait 1 0" ∷
    "brought 0 2" ∷
    "took 0 1" ∷
    "wait 1 1" ∷
    "brought 0 2" ∷
    "took 1 2" ∷
    "wait 0 2" ∷
    "brought 1 1" ∷
    "took 0 3" ∷
    "wait 1 3" ∷
    "brought 0 1" ∷
    "found 1 6" ∷
    "path 0 1 2 3 4" ∷ [])

-- the calls of B1 and B2, and those that B3 goes on with
abbrev events_b : List Event
events_b = take 0 ∷ bring 0 ∷ take 0 ∷ take 1 ∷ []

abbrev more_b : List Event
more_b = bring 0 ∷ take 0 ∷ bring 1 ∷ take 0 ∷ take 1 ∷ bring 0 ∷ take 1 ∷ []

abbrev replies_b3 : List Reply
replies_b3 = replies passages ones (end (task_b 300) events_b) more_b

-- path reading on the machine that a run ends with: the reply, and the buffer's places
abbrev reading : Task → List Event → List ℕ → ℕ → Reply × List ℕ
reading t events buffer at = let r = path_of (end t events) t.passages t.estimates buffer at in (r.given.reply, r.buffer)

-- the number that the last of some replies carries
abbrev last_value : List Reply → ℕ
last_value [] = 0
last_value (r ∷ []) = value_of r
last_value (r ∷ (s ∷ rest)) = last_value (s ∷ rest)

pub record Starred : Type 0 where
  -- A1 "Task A as a task file with the calls T0 T1 B0 T0 T1 B0 T1 T0 B1 T0 T1 B0 T1; `deskrun` prints in full"
  pub A1-text : printed file_a ≡ text_a
  -- the same calls on the desk, and the path into five places
  pub A1 : run task_a events_a ≡
      Took 0 ∷ Wait 0 ∷ Brought 2 ∷ Took 1 ∷ Wait 1 ∷ Brought 2 ∷ Took 2 ∷ Wait 2 ∷ Brought 1 ∷ Took 3 ∷ Wait 3 ∷ Brought 1 ∷ Found 6 ∷ []
  pub A1-path : reading task_a events_a (replicate 5 9) 0 ≡ (Read 5, 0 ∷ 1 ∷ 2 ∷ 3 ∷ 4 ∷ [])
  -- A2 "That path from place 1 of 6 places: 5."
  pub A2 : reading task_a events_a (replicate 6 9) 1 ≡ (Read 5, 9 ∷ 0 ∷ 1 ∷ 2 ∷ 3 ∷ 4 ∷ [])
  -- A3 "From place 2: 15."
  pub A3 : reading task_a events_a (replicate 6 9) 2 ≡ (refused_by 15, replicate 6 9)
  -- B1 "Task B, E 300, T0 B0 T0 T1: the last is Took 2"; B2 "E 299: Wait."
  pub B1 : run (task_b 300) events_b ≡ Took 0 ∷ Brought 2 ∷ Took 1 ∷ Took 2 ∷ []
  pub B2 : run (task_b 299) events_b ≡ Took 0 ∷ Brought 2 ∷ Took 1 ∷ Wait 1 ∷ []
  -- B3 "E 300 continued B0 T0 B1 T0 T1 B0 T1: Brought 1, Wait, Brought 1, Took 3, Wait, Brought 1, Found 8"
  pub B3 : replies_b3 ≡ Brought 1 ∷ Wait 2 ∷ Brought 1 ∷ Took 3 ∷ Wait 3 ∷ Brought 1 ∷ Found 8 ∷ []
  -- "and 800 ≤ 300 × 6": 100 × the cost found ≤ E × the cost of the best route, which is the 6 that A1 found with no excess allowed
  pub B3-excess : leb (100 * last_value replies_b3) (300 * last_value (run task_a events_a)) ≡ true
  -- C1 "n 1, start = goal: T0 gives Found 0, path 0."
  pub C1 : run (task_c 1 0 (replicate 1 0)) (take 0 ∷ []) ≡ Found 0 ∷ []
  pub C1-path : reading (task_c 1 0 (replicate 1 0)) (take 0 ∷ []) (replicate 1 9) 0 ≡ (Read 1, 0 ∷ [])
  -- C2 "n 2, 0 to 1, T0 B0 T0 T0: Took 0, Brought 0, NoPath, then 10."
  pub C2 : run (task_c 2 1 (replicate 4 0)) (take 0 ∷ bring 0 ∷ take 0 ∷ take 0 ∷ []) ≡ Took 0 ∷ Brought 0 ∷ NoPath ∷ refused_by 10 ∷ []
  -- C3 "W 101, E 100: 3." C4 "A with h(1,2) = 1: 7." C5 "A with h(3,4) = 2: 6."
  pub C3 : refusal (task_with zeros 101 100) ≡ refused_by 3
  pub C4 : refusal (task_with (h 1 2 1 zeros) 100 100) ≡ refused_by 7
  pub C5 : refusal (task_with (h 3 4 2 zeros) 100 100) ≡ refused_by 6
  -- C6 "B0 as first call: 11."
  pub C6 : run task_a (bring 0 ∷ []) ≡ refused_by 11 ∷ []

pub starred : Starred
unfolding definitions
starred = record {
  A1-text = refl;
  A1 = refl;
  A1-path = refl;
  A2 = refl;
  A3 = refl;
  B1 = refl;
  B2 = refl;
  B3 = refl;
  B3-excess = refl;
  C1 = refl;
  C1-path = refl;
  C2 = refl;
  C3 = refl;
  C4 = refl;
  C5 = refl;
  C6 = refl;
}
