-- Routes over numbered passages, in two shapes: a walk is what a document speaks of, a route is what the proofs grow at its far end.
use Rattle.std.specs.Prelude.{◌≡◌, List, [], ◌∷◌, ℕ, ◌+◌}
use Rattle.std.proofs.Common.{sym, subst, add-zero, zero-add, add_assoc}

-- the passages of a task: which numbers are passages that count (order 4: not blocked), and what each goes from, goes to and costs
pub record Graph : Type 1 where
  pub edge : ℕ → Type 0
  pub near : ℕ → ℕ
  pub far : ℕ → ℕ
  pub cost : ℕ → ℕ

-- a walk from a to b: a list of passage numbers, the first passage first, each starting where the one before it ends
abbrev pub Walk : Graph → ℕ → List ℕ → ℕ → Type 0
Walk g a [] b = a ≡ b
Walk g a (i ∷ l) b = g.edge i × (g.near i ≡ a) × Walk g (g.far i) l b

-- the cost of a walk: the sum of its passages' costs
abbrev pub cost_of : Graph → List ℕ → ℕ
cost_of g [] = 0
cost_of g (i ∷ l) = g.cost i + cost_of g l

-- a route from a to a state at a cost: no passage, at cost 0, or a route with one passage more at its far end
pub data Route (g : Graph) (a : ℕ) : ℕ → ℕ → Type 0 where
  here : Route g a a 0
  snoc : {p c : ℕ} (i : ℕ) → Route g a p c → g.edge i → g.near i ≡ p → Route g a (g.far i) (c + g.cost i)

-- a route, and a walk from where it ends, make a longer route
pub walk_on : (g : Graph) (a p c : ℕ) (l : List ℕ) (b : ℕ) → Route g a p c → Walk g p l b → Route g a b (c + cost_of g l)
walk_on g a p c [] b r e = subst (λ (k : ℕ). Route g a b k) (sym (add-zero c)) (subst (λ (x : ℕ). Route g a x c) e r)
walk_on g a p c (i ∷ l) b r w =
    let longer : Route g a (g.far i) (c + g.cost i) = snoc i r w.0 w.1 in
    subst (λ (k : ℕ). Route g a b k) (add_assoc c (g.cost i) (cost_of g l)) (walk_on g a (g.far i) (c + g.cost i) l b longer w.2)

-- every walk is a route of its cost
pub walk_route : (g : Graph) (a : ℕ) (l : List ℕ) (b : ℕ) → Walk g a l b → Route g a b (cost_of g l)
walk_route g a l b w = subst (λ (k : ℕ). Route g a b k) (zero-add (cost_of g l)) (walk_on g a a 0 l b here w)
