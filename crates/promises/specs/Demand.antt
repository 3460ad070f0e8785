-- Demand 3, as statements about the desk's definitions: days from an accepted opening, routes, and what is promised of them.
use Rattle.std.specs.Prelude.{◌≡◌, cond, true, ◌&&◌, ◌≢◌, List, [], ◌∷◌, map, ℕ, ◌+◌, ◌-◌, ◌*◌, ◌≤◌, ◌<◌, length, get_or, take, drop, eqb}
use Rattle.laws.specs.Part.{overlaid}
use Rattle.rule.specs.Task.{passage_count, near, far, cost, is_clear, estimate}
use Rattle.laws.specs.Count.{count}
use Rattle.laws.specs.Least.{least}
use Rattle.rule.specs.Rule.{stored_key}
use Rattle.rule.specs.Marks.{waiting, out, is_open, is_live}
use Rattle.rule.specs.declared.refusals.Refusal.{Refusal}
use Rattle.rule.specs.declared.refusals.Refusal.TheVariants.{NothingOut}
use Rattle.argument.specs.Route.{Graph, Walk, cost_of}
use Rattle.checks.specs.Opening.{Task}
use Rattle.dealing.specs.Board.{safe, key, choice, foremost}
use Rattle.dealing.specs.Limited.{full_count}
use Rattle.desk.specs.declared.Machine.{Machine}
use Rattle.desk.specs.declared.Reply.{Reply}
use Rattle.desk.specs.declared.Reply.TheVariants.{Opened, Found, NoPath, Read, Refused, Cut}
use Rattle.desk.specs.declared.Counted.{Counted}
use Rattle.desk.specs.Machine.{hands_of, mark_of, label_of, board_of}
use Rattle.desk.specs.Reply.{answer, took, when, reply_of}
use Rattle.desk.specs.Fits.{task_fits, rows_fit, fits}
use Rattle.desk.specs.Opening.{opening_of}
use Rattle.desk.specs.Take.{take_of}
use Rattle.desk.specs.Limited.{limited_of}
use Rattle.desk.specs.Path.{path_of}
use Rattle.desk.specs.Calls.{replies, after}
use Rattle.desk.specs.Morning.{events_of, Morning}
use Rattle.promises.specs.Day.{Call, reached, said, Said}

-- "a task that opening accepts"
abbrev pub Accepted : Task → Type 0
Accepted t = (opening_of t).reply ≡ Opened

-- the task's passages as a graph; order 4: a blocked passage "is no part of any route"
abbrev pub graph : Task → Graph
graph t = record { edge = λ i. (i < passage_count t.passages) × (is_clear t.passages i ≡ true); near = near t.passages; far = far t.passages; cost = cost t.passages }

-- "A route is a chain of passages from start to goal; if start is goal the chain without passages is a route of cost 0.": a list of passage numbers, and its cost
abbrev pub IsRoute : Task → List ℕ → Type 0
IsRoute t way = Walk (graph t) t.start way t.goal

abbrev pub route_cost : Task → List ℕ → ℕ
route_cost t way = cost_of (graph t) way

-- the states along a route, start first
abbrev pub along : Task → List ℕ → List ℕ
along t way = t.start ∷ map (far t.passages) way

-- how often a state is dealt in a list of replies
abbrev pub deals : ℕ → Reply → ℕ
deals s r = when took r (λ x. cond (eqb x s) 1 0) 0

unfoldable pub times_dealt : ℕ → List Reply → ℕ
times_dealt s [] = 0
times_dealt s (r ∷ rs) = deals s r + times_dealt s rs

-- "after Found the path read out is a chain of the task's passages from start to goal, its costs add up to the stated cost, and 100 × cost ≤ E × the cost of every route":
-- what path reading on the machine m replies, and leaves in a buffer that has room from the place `at` on
pub record PathRight (t : Task) (m : Machine) (c : ℕ) : Type 0 where
  pub way : List ℕ
  pub route : IsRoute t way
  pub adds : route_cost t way ≡ c
  pub short : length (along t way) ≤ t.n
  pub reads : (buffer : List ℕ) (at : ℕ) → length (along t way) ≤ length buffer - at
      → path_of m t.passages t.estimates buffer at ≡ record { given = answer m (Read (length (along t way))); buffer = overlaid at (along t way) buffer }
  pub within : (other : List ℕ) → IsRoute t other → 100 * c ≤ t.excess * route_cost t other

-- demand 3: "For a task that opening accepts and any sequence of calls (refused ones too), each given that task and the machine last handed back"
pub record Demand3 (t : Task) : Type 0 where
  -- "no junction is dealt twice"
  pub once : (day : List Call) (s : ℕ) → times_dealt s (said t day) ≤ 1
  -- after Found, whatever calls came later
  pub found : (day : List Call) (c : ℕ) → Said t day (Found c) → PathRight t (reached t day) c
  -- "NoPath only where no route exists"
  pub nopath : (day : List Call) → Said t day NoPath → (way : List ℕ) → IsRoute t way → ⊥

-- and what goes with it
pub record Kept (t : Task) : Type 0 where
  -- 8 never comes for a machine that was reached
  pub fitting : (day : List Call) → fits (reached t day) (hands_of (reached t day)) t.passages t.estimates ≡ true
  -- nor does 12
  pub moving : (day : List Call) → Said t day (Refused NothingOut) → ⊥
  -- the goal is never dealt, and the start stays at label 0
  pub aim : (day : List Call) → times_dealt t.goal (said t day) ≡ 0
  pub root : (day : List Call) → label_of (reached t day) t.start ≡ 0

-- Order 1, who a Wait is for: of every machine, whatever is lent.
-- s is the open state with the smallest key, "lowest number among equal keys"
pub record Foremost (m : Machine) (estimates : List ℕ) (s : ℕ) : Type 0 where
  pub state : s < m.n
  pub opened : mark_of m s ≡ waiting
  pub smallest : (x : ℕ) → x < m.n → mark_of m x ≡ waiting → key m.goal m.pull (board_of m estimates) s ≤ key m.goal m.pull (board_of m estimates) x
  pub lowest : (x : ℕ) → x < s → mark_of m x ≡ waiting → key m.goal m.pull (board_of m estimates) s < key m.goal m.pull (board_of m estimates) x

-- t is the lowest-numbered state that s depends on, and another than s: 100 × (label s − label t) is above E × h(t,s),
-- and at most E × h(x,s) for every other open or out state x below t
pub record HeldUp (m : Machine) (estimates : List ℕ) (s t : ℕ) : Type 0 where
  pub other : t ≢ s
  pub behind : 100 * label_of m t + m.excess * estimate estimates m.n t s < 100 * label_of m s
  pub lowest : (x : ℕ) → x < t → x ≢ s → is_live (mark_of m x) ≡ true → 100 * label_of m s ≤ 100 * label_of m x + m.excess * estimate estimates m.n x s

-- what Wait says by naming t
pub record WaitsFor (m : Machine) (estimates : List ℕ) (t : ℕ) : Type 0 where
  -- the state that it names is open or out
  pub state : t < m.n
  pub live : is_live (mark_of m t) ≡ true
  -- a Wait is never "no way through": something is out
  pub busy : (x : ℕ) × (x < m.n) × (mark_of m x ≡ out)
  -- where something is open, the smallest-key open state depends on the state named
  pub held : (x : ℕ) → x < m.n → mark_of m x ≡ waiting → (s : ℕ) × Foremost m estimates s × HeldUp m estimates s t
  -- where nothing is open, the state named is the lowest that is out
  pub quiet : ((x : ℕ) → x < m.n → mark_of m x ≢ waiting) → (mark_of m t ≡ out) × ((x : ℕ) → x < t → mark_of m x ≢ out)

-- Order 2, a whole morning in one call: "replies and last machine equal those of the calls made singly, refused ones included. The row past the last event keeps what it had."
pub record AsSingly (passages estimates : List ℕ) (m : Machine) (events row : List ℕ) (o : Morning) : Type 0 where
  pub machine : o.given.machine ≡ after passages estimates m (events_of events)
  pub replied : map reply_of (take (length events) o.row) ≡ replies passages estimates m (events_of events)
  pub behind : drop (length events) o.row ≡ drop (length events) row

-- Order 4, blocked means blocked: what path reading wrote, on whatever machine, leads from the start to the goal, from each state to the next by a passage of the task that isn't blocked.
-- The states stand in the buffer from the place `at` on, `many` of them.
pub record NoneBlocked (passages : List ℕ) (m : Machine) (buffer : List ℕ) (at many : ℕ) : Type 0 where
  pub some : 1 ≤ many
  pub room : at + many ≤ length buffer
  pub first : get_or buffer at 0 ≡ m.start
  pub last : get_or buffer (at + (many - 1)) 0 ≡ m.goal
  pub clear : (i : ℕ) → i + 1 < many
      → (p : ℕ) × (p < passage_count passages) × (is_clear passages p ≡ true) × (near passages p ≡ get_or buffer (at + i) 0) × (far passages p ≡ get_or buffer (at + i + 1) 0)

-- Order 7, a Take that knows when to stop. Of every machine, whatever is lent: "Its reply carries how many comparisons it made, equal to the count in the definition; 0 where refused. With a limit smaller than that full count it replies Cut, reports the limit and leaves the machine."
pub record CountsRight (m : Machine) (estimates : List ℕ) (limit : ℕ) (r : Counted) : Type 0 where
  pub refusing : (refusal : Refusal) → r.answer.reply ≡ Refused refusal → (r.answer.machine ≡ m) × (r.comparisons ≡ 0)
  pub cutting : (c : ℕ) → r.answer.reply ≡ Cut c → (c ≡ limit) × (r.answer.machine ≡ m) × (r.comparisons ≡ limit) × (limit < full_count m.goal m.pull (board_of m estimates))
  -- every other reply comes where the limit is enough
  pub counting : ((refusal : Refusal) → r.answer.reply ≢ Refused refusal) → ((c : ℕ) → r.answer.reply ≢ Cut c)
      → (r.comparisons ≡ full_count m.goal m.pull (board_of m estimates)) × (r.comparisons ≤ limit)
  -- the full count is at most (open states) × (open or out states − 1)
  pub most : m.goal < m.n → full_count m.goal m.pull (board_of m estimates) ≤ count (λ s. is_open (mark_of m s)) m.n * (count (λ s. is_live (mark_of m s)) m.n - 1)

-- "On a task that opening accepted and a machine reached from it by calls, it otherwise replies as Take does", and hands back the machine that Take hands back
pub record LikeTake (t : Task) : Type 0 where
  pub alike : (day : List Call) (worker limit : ℕ) → let m = reached t day in let r = (limited_of m t.passages t.estimates worker limit).answer in let a = take_of m t.passages t.estimates worker in
      ((c : ℕ) → r.reply ≢ Cut c) → (r.machine ≡ a.machine) × (r.reply ≡ a.reply)

-- Order 8, keep the key. Of every machine that fits, whatever is lent: Take, Wait's choice and limited Take ask for the keys of open states alone, and what is stored for these is their key;
-- so the state that is dealt and the open state with the smallest key are the same by the stored row as by "100 × label + W × h(s, goal)"
pub record ByStored (m : Machine) (estimates : List ℕ) : Type 0 where
  pub asked : (s : ℕ) → s < m.n → mark_of m s ≡ waiting → get_or m.key s 0 ≡ key m.goal m.pull (board_of m estimates) s
  pub deals : least (safe (board_of m estimates)) (λ s. get_or m.key s 0) m.n m.n ≡ choice m.goal m.pull (board_of m estimates)
  pub leads : least (λ s. is_open (mark_of m s)) (λ s. get_or m.key s 0) m.n m.n ≡ foremost m.goal m.pull (board_of m estimates)

-- "No reply changes on machines reached from opening by calls given the same task": each of them stores what the formula makes, "0 for unseen" and past n, and 8 comes for it where it came before keys were stored
pub record KeysKept (t : Task) : Type 0 where
  pub stored : (day : List Call) (s : ℕ) → s < t.n → let m = reached t day in get_or m.key s 0 ≡ stored_key (mark_of m s) (label_of m s) t.pull (estimate t.estimates t.n s t.goal)
  pub past : (day : List Call) (s : ℕ) → t.n ≤ s → get_or (reached t day).key s 0 ≡ 0
  pub before : (day : List Call) → let m = reached t day in
      fits m (hands_of m) t.passages t.estimates ≡ (task_fits m t.passages t.estimates && rows_fit m.n m.k m.phase m.mark m.label (hands_of m))
