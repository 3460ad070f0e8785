-- What the argument sees of a machine and of its task: numbers of states and passages, and what checks 4 to 7 of opening say of them.
use Rattle.std.specs.Prelude.{◌≡◌, ℕ, ◌+◌, ◌≤◌, ◌<◌}
use Rattle.argument.specs.Route.{Graph}

-- What is known of each state. Marks: 0 unseen, 1 open, 2 out, 3 finished, 4 lost. So a state is
--   seen when 1 ≤ mark, dealt before when 2 ≤ mark, live when 1 ≤ mark and mark ≢ 3, waiting when it is live and not out.
-- label, via: the cost of the best way found, and its last passage. Both are fixed once the state was dealt.
-- front: what a comparison reads of the state: 100 × label in the old kind of task, the floor in order 13's kind.
-- bound: what the state was dealt at: 100 × label in the old kind, b(s) in order 13's kind.
-- place: one past the last applied passage; the state's passages below it are applied. It is no less than count once the state is finished.
pub record View : Type 0 where
  pub mark : ℕ → ℕ
  pub label : ℕ → ℕ
  pub via : ℕ → ℕ
  pub front : ℕ → ℕ
  pub bound : ℕ → ℕ
  pub place : ℕ → ℕ

-- An accepted task, by what the argument needs of it: passages are between states (check 4), h(a,a) = 0 (5), h is at most a passage's cost (6),
-- h(a,c) ≤ h(a,b) + h(b,c) (7), and the excess E is 100 at least. Of numbers that are no states h says nothing.
pub record Consistent (g : Graph) (n E : ℕ) (h : ℕ → ℕ → ℕ) : Type 0 where
  pub ends : (i : ℕ) → g.edge i → (g.near i < n) × (g.far i < n)
  pub self : (a : ℕ) → a < n → h a a ≡ 0
  pub edge : (i : ℕ) → g.edge i → h (g.near i) (g.far i) ≤ g.cost i
  pub triangle : (a b c : ℕ) → a < n → b < n → c < n → h a c ≤ h a b + h b c
  pub hundred : 100 ≤ E
