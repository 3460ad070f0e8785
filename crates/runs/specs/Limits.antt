-- Order 7, "A Take that knows when to stop": which states a limited Take tries, in which order, what it compares them with, how many comparisons it counts, and when it is Cut.
-- Beside a row stands its count on paper: the candidates in their order, a key in brackets behind a state, and the states that each candidate is compared with.
use Rattle.std.specs.Prelude.{◌≡◌, refl, List, [], ◌∷◌, map, ℕ, ◌+◌, ◌*◌}
use Rattle.rule.specs.Marks.{none}
use Rattle.checks.specs.Opening.{Task, task}
use Rattle.dealing.specs.declared.Decision.{Decision}
use Rattle.dealing.specs.declared.Decision.TheVariants.{Deal}
use Rattle.dealing.specs.Board.{board}
use Rattle.dealing.specs.Decision.{decision}
use Rattle.dealing.specs.Limited.{limited_decision}
use Rattle.desk.specs.declared.Machine.{Machine}
use Rattle.desk.specs.declared.Reply.{Reply}
use Rattle.desk.specs.declared.Reply.TheVariants.{Opened, Took, Brought, Found, NoPath, Wait, Cut}
use Rattle.desk.specs.Machine.{with_phase}
use Rattle.desk.specs.Reply.{code_of}
use Rattle.desk.specs.Limited.{limited_of}
use Rattle.desk.specs.declared.Event.{Event}
use Rattle.desk.specs.declared.Event.TheVariants.{Take as take, Bring as bring}
use Rattle.desk.specs.Calls.{call}
use Rattle.runs.specs.Definitions.{definitions}
use Rattle.runs.specs.Tasks.{zeros, ones, h, task_a, task_c, opened, refusal, end, events_a, refused_by}
use Rattle.runs.specs.Made.{made, midway, arrived, called, limited_by, counted}

-- calls on task A, each Take a limited one with this limit: the replies, each with the comparisons made
abbrev course : ℕ → Machine → List Event → List (Reply × ℕ)
course limit m [] = []
course limit m (take worker ∷ rest) = let c = limited_by m worker limit in (c.answer.reply, c.comparisons) ∷ course limit c.answer.machine rest
course limit m (bring worker ∷ rest) = let a = called m (bring worker) in (a.reply, 0) ∷ course limit a.machine rest

-- task A after T0 B0 T0 B0: 0 and 1 are finished, 2 is open with label 3, by passage 2, and the goal with label 11, by passage 4. Here 2 has this mark, and the workers hold these states.
abbrev early : ℕ → List ℕ → Machine
early mark held = made task_a 0 (3 ∷ 3 ∷ mark ∷ 0 ∷ 1 ∷ []) (0 ∷ 2 ∷ 3 ∷ 0 ∷ 11 ∷ []) (none ∷ 0 ∷ 2 ∷ none ∷ 4 ∷ []) held

-- a task of five states without passages, with four workers, goal 4 and E 100; and a machine of it
abbrev five : ℕ → List ℕ → Task
five pull estimates = task 5 4 0 4 pull 100 [] estimates

abbrev amid : ℕ → List ℕ → List ℕ → List ℕ → List ℕ → Machine
amid pull estimates marks labels held = made (five pull estimates) 0 marks labels [] held

-- where W is this, the states have these marks and labels, and the workers hold these states: what worker 0's limited Take is told with this limit, and the comparisons that it made
abbrev told : ℕ → ℕ → List ℕ → List ℕ → List ℕ → List ℕ → Reply × ℕ
told limit pull estimates marks labels held = let c = limited_of (amid pull estimates marks labels held) [] estimates 0 limit in (c.answer.reply, c.comparisons)

-- what opening says of such a task, what worker 0's Take is told, and what its limited Take is told with a limit of 9, with the comparisons made
abbrev beside : ℕ → List ℕ → List ℕ → List ℕ → List ℕ → Reply × Reply × Reply × ℕ
beside pull estimates marks labels held =
    let c = limited_of (amid pull estimates marks labels held) [] estimates 0 9 in
    (refusal (five pull estimates), (call [] estimates (amid pull estimates marks labels held) (take 0)).reply, c.answer.reply, c.comparisons)

-- one estimate from a state to each other one, and 0 from all others: check 7 lets them pass
abbrev from : ℕ → ℕ → List ℕ
from a estimate = h a a 0 (h a 0 estimate (h a 1 estimate (h a 2 estimate (h a 3 estimate (h a 4 estimate zeros)))))

-- h(a,b) = 9 for a ≠ b: of labels that are up to 9 apart none depends on another
abbrev nines : List ℕ
nines = map (λ estimate. 9 * estimate) ones

-- E is 100, 1 is open with label 5, 2 with label 3, and h(2,s) is 1: which step Take comes to with this W, and which a limited Take
abbrev decided : ℕ → Decision × Decision
decided pull = let b = board 5 100 (from 2 1) (3 ∷ 1 ∷ 1 ∷ 0 ∷ 0 ∷ []) (0 ∷ 5 ∷ 3 ∷ 0 ∷ 0 ∷ []) in (decision 4 pull b, limited_decision 4 pull b)

pub record Limits : Type 0 where
  -- "On a task that opening accepted and a machine reached from it by calls, it otherwise replies as Take does.": run A1 with limited Takes. All estimates are 0, so s depends on t where its label is greater. The counts, Take by Take:
  -- 0 alone is open: 0. Nothing is open: 0. 1 (200) comes before 2 (500), and no key is smaller: 0. 2 with 1, which is out: 1. The goal (1100) with 2 (300), then 2 with none: 1.
  -- The goal with 2, which is out, and not a second time: 1. The goal with 3 (500), then 3 with none: 1. The goal with 3, which is out: 1. The goal alone is open: 0.
  pub run_A1 : course 1 (opened task_a) events_a ≡
      (Took 0, 0) ∷ (Wait 0, 0) ∷ (Brought 2, 0) ∷ (Took 1, 0) ∷ (Wait 1, 1) ∷ (Brought 2, 0) ∷ (Took 2, 1) ∷ (Wait 2, 1) ∷ (Brought 1, 0) ∷ (Took 3, 1) ∷ (Wait 3, 1) ∷ (Brought 1, 0) ∷ (Found 6, 0) ∷ []
  -- With a limit of 0 the Takes with a count above 0 are Cut. So 2 stays open, and from then on every Take has the goal to compare with 2; B1 and the last B0 find nothing held.
  pub run_A1_cut : course 0 (opened task_a) events_a ≡
      (Took 0, 0) ∷ (Wait 0, 0) ∷ (Brought 2, 0) ∷ (Took 1, 0) ∷ (Cut 0, 0) ∷ (Brought 2, 0) ∷ (Cut 0, 0) ∷ (Cut 0, 0) ∷ (refused_by 11, 0) ∷ (Cut 0, 0) ∷ (Cut 0, 0) ∷ (refused_by 11, 0) ∷ (Cut 0, 0) ∷ []
  -- "with Take's steps and Wait": the machine that each step hands back, with a limit equal to the count. 1 (200) with none; the goal, alone; nothing is open or out; 2 with 1, which is out.
  pub took_machine : limited_by (end task_a (take 0 ∷ bring 0 ∷ [])) 0 0 ≡ counted midway (Took 1) 0
  pub found_machine : limited_by (with_phase arrived 0) 1 0 ≡ counted arrived (Found 6) 0
  pub nopath_machine : limited_of (made (task_c 5 4 zeros) 0 (3 ∷ []) [] [] []) [] zeros 0 0 ≡ counted (made (task_c 5 4 zeros) 2 (3 ∷ []) [] [] []) NoPath 0
  pub wait_machine : limited_by midway 1 1 ≡ counted midway (Wait 1) 1
  -- "it replies Cut, reports the limit and leaves the machine": the goal (1100) with 2 (300), then 2 with none, which is dealt where the limit is 1
  pub cut_machine : map (limited_by (early 1 []) 1) (0 ∷ 1 ∷ []) ≡ counted (early 1 []) (Cut 0) 0 ∷ counted (early 2 (none ∷ 2 ∷ [])) (Took 2) 1 ∷ []
  -- "With a limit smaller than that full count": 3 is out with label 0, and the others depend on it alone. The goal (1800) with 0, 1, 2 and 3; 0 (1500) with 3; 1 (1600) with 0 and 3; 2 (1700) with 0, 1 and 3: 4 + 1 + 2 + 3.
  pub cut_limits :
      map (λ limit. told limit 0 nines (1 ∷ 1 ∷ 1 ∷ 2 ∷ 1 ∷ []) (15 ∷ 16 ∷ 17 ∷ 0 ∷ 18 ∷ []) (none ∷ 3 ∷ [])) (0 ∷ 1 ∷ 9 ∷ 10 ∷ 11 ∷ []) ≡
      (Cut 0, 0) ∷ (Cut 1, 1) ∷ (Cut 9, 9) ∷ (Wait 3, 10) ∷ (Wait 3, 10) ∷ []
  -- "It tries the goal first if open": the goal (500) with 1 (200), of which it is independent, 300 ≤ 300. By key 1 would be dealt, with 0.
  pub goal_first : told 9 0 (h 1 4 3 zeros) (3 ∷ 1 ∷ 0 ∷ 0 ∷ 1 ∷ []) (0 ∷ 2 ∷ 0 ∷ 0 ∷ 5 ∷ []) [] ≡ (Found 5, 1)
  -- It isn't tried where it is out. 0 (1500) with 4; 1 (1600) with 0 and 4; 2 (1700) with 0, 1 and 4; 3 (1800) with 0, 1, 2 and 4: 1 + 2 + 3 + 4.
  pub goal_out : told 10 0 nines (1 ∷ 1 ∷ 1 ∷ 1 ∷ 2 ∷ []) (15 ∷ 16 ∷ 17 ∷ 18 ∷ 0 ∷ []) (none ∷ 4 ∷ []) ≡ (Wait 4, 10)
  -- "then the other open states by key and number". By key: 2 (300) with none. By number 1 (500) would be compared with 2 before.
  pub others_key : told 9 100 zeros (3 ∷ 1 ∷ 1 ∷ []) (0 ∷ 5 ∷ 3 ∷ []) [] ≡ (Took 2, 0)
  -- By number among equals, and until one passes; 0 is out. 1 (500) with 0, on which it depends; 2 (500) with 0, 500 ≤ 500; 3 (900) isn't tried. With 2 first it would be 1.
  pub others_number : told 9 0 (h 0 2 5 zeros) (2 ∷ 1 ∷ 1 ∷ 1 ∷ []) (0 ∷ 5 ∷ 5 ∷ 9 ∷ []) (none ∷ 0 ∷ []) ≡ (Took 2, 2)
  -- "and compares by rising number until a dependence": 3 (500) with 0, whose label is the same, and with 1, on which it depends, but not with 2. All three are out.
  pub rising : told 9 0 zeros (2 ∷ 2 ∷ 2 ∷ 1 ∷ []) (5 ∷ 2 ∷ 0 ∷ 5 ∷ []) (none ∷ 0 ∷ 1 ∷ 2 ∷ []) ≡ (Wait 1, 2)
  -- "compares a candidate only with states that are out or have a smaller key". Not an equal one: 1 (500) isn't compared with 2 (500).
  pub compared_equal : told 9 100 zeros (3 ∷ 1 ∷ 1 ∷ []) (0 ∷ 5 ∷ 5 ∷ []) [] ≡ (Took 1, 0)
  -- A larger one if it is out: 2 (500) with 1 (700).
  pub compared_out : told 9 100 zeros (3 ∷ 2 ∷ 1 ∷ []) (0 ∷ 7 ∷ 5 ∷ []) (none ∷ 1 ∷ []) ≡ (Took 2, 1)
  -- The key, and not the label. 1 has label 3 and key 300, 2 has label 2 and key 200 + 100 × 2: 1 isn't compared with 2.
  pub compared_key : told 9 100 (from 2 2) (3 ∷ 1 ∷ 1 ∷ []) (0 ∷ 3 ∷ 2 ∷ []) [] ≡ (Took 1, 0)
  -- The same with 0 out: 1 with 0, on which it depends; 2 with 0, 200 ≤ 200, and with 1, −100 ≤ 0.
  pub compared_label : told 9 100 (h 0 2 2 (from 2 2)) (2 ∷ 1 ∷ 1 ∷ []) (0 ∷ 3 ∷ 2 ∷ []) (none ∷ 0 ∷ []) ≡ (Took 2, 3)
  -- Wait names what the smallest-key open state depends on, the lowest number among equal keys: 2 (500), where the goal has 900 or 500, but the goal where it has 400. 0 and 1 are out. The goal with 0, on which it depends; 2 with 0, 500 ≤ 500, and with 1, on which it depends.
  pub wait_smallest :
      map (λ label. told 9 0 (h 0 2 5 zeros) (2 ∷ 2 ∷ 1 ∷ 0 ∷ 1 ∷ []) (0 ∷ 1 ∷ 5 ∷ 0 ∷ label ∷ []) (none ∷ 0 ∷ 1 ∷ [])) (9 ∷ 5 ∷ 4 ∷ []) ≡
      (Wait 1, 3) ∷ (Wait 1, 3) ∷ (Wait 0, 3) ∷ []
  -- With nothing open it names the lowest-numbered out state, and there is no candidate.
  pub wait_none_open : told 0 0 zeros (3 ∷ 2 ∷ 2 ∷ []) (0 ∷ 5 ∷ 3 ∷ []) (none ∷ 2 ∷ 1 ∷ []) ≡ (Wait 1, 0)
  -- "On a task that opening accepted": check 7 is broken by h(2,4) = 1, and then mended by h(2,1) = 1. 1 has label 3 and 2 label 2, both key 300, and 1 depends on 2 at first, but then 100 ≤ 100. The limited Take doesn't look: 1 with none.
  pub otherwise_took :
      map (λ estimates. beside 100 estimates (3 ∷ 1 ∷ 1 ∷ []) (0 ∷ 3 ∷ 2 ∷ []) []) (h 2 4 1 zeros ∷ from 2 1 ∷ []) ≡
      (refused_by 7, Took 2, Took 1, 0) ∷ (Opened, Took 1, Took 1, 0) ∷ []
  -- The same of h(1,4) = 2 and h(1,2) = 2: 1 has label 2, 2 has label 3, and both depend on 3, which is out with label 0. 2 depends on 1, too, at first, but then 100 ≤ 200. 2 (300) with 3; 1 (400) with 2, −100 ≤ 0, and with 3.
  pub otherwise_wait :
      map (λ estimates. beside 100 estimates (3 ∷ 1 ∷ 1 ∷ 2 ∷ []) (0 ∷ 2 ∷ 3 ∷ 0 ∷ []) (none ∷ 3 ∷ [])) (h 1 4 2 zeros ∷ from 1 2 ∷ []) ≡
      (refused_by 7, Wait 1, Wait 3, 3) ∷ (Opened, Wait 3, Wait 3, 3) ∷ []
  -- "W (pull to the goal) 0 to E": W is 100, as E, and then 200, for which a call is refused with 8, so these are the steps alone. 1 depends on 2, 200 > 100. First 2 (400) with none, before 1 (500); then 1 (500) with none, before 2 (500).
  pub otherwise_pull : map decided (100 ∷ 200 ∷ []) ≡ (Deal 2, Deal 2) ∷ (Deal 2, Deal 1) ∷ []
  -- Cut as a number is its case × 2^32 + the limit.
  pub cut_code : code_of (Cut 7) ≡ 9 * 4294967296 + 7

pub limits : Limits
unfolding definitions
limits = record {
  run_A1 = refl;
  run_A1_cut = refl;
  took_machine = refl;
  found_machine = refl;
  nopath_machine = refl;
  wait_machine = refl;
  cut_machine = refl;
  cut_limits = refl;
  goal_first = refl;
  goal_out = refl;
  others_key = refl;
  others_number = refl;
  rising = refl;
  compared_equal = refl;
  compared_out = refl;
  compared_key = refl;
  compared_label = refl;
  wait_smallest = refl;
  wait_none_open = refl;
  otherwise_took = refl;
  otherwise_wait = refl;
  otherwise_pull = refl;
  cut_code = refl;
}
