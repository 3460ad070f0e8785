-- The invariant of every reached machine, by its view: it holds when a search opens, every step keeps it, and what Found and NoPath say follows from it.
use Rattle.std.specs.Prelude.{◌≡◌, ◌≢◌, ℕ, ◌*◌, ◌≤◌, ◌<◌}
use Rattle.std.proofs.Common.{sym, arith}
use Rattle.std.proofs.lemmas.Bool.{lt-leb}
use Rattle.laws.specs.Count.{count_short}
use Rattle.argument.specs.Route.{Graph, Route}
use Rattle.argument.specs.View.{View, Consistent}
use Rattle.argument.specs.Front.{Frontier, Allowed, allowed_bound, nothing_live}
use Rattle.argument.specs.Moves.{frontier_moves}
use Rattle.argument.specs.Chain.{Chain, root, Chained, chained_on, fixed}
use Rattle.argument.specs.Steps.{at_or, Deal, Touch, Advance, Finish, Lose}
use Rattle.argument.specs.StepMoves.{deal_moves, touch_moves, advance_moves, finish_moves, lose_moves}
use Rattle.argument.specs.StepGrows.{deal_grows, touch_grows, advance_grows, finish_grows, lose_grows}

-- the invariant: the frontier's (S1 to S3), the chains (P), and that the goal was never dealt (S1). What each worker holds is no part of it
pub record Good (g : Graph) (n E start goal count : ℕ) (v : View) : Type 0 where
  pub frontier : Frontier g n E start count v
  pub chained : Chained g start n v
  pub aim : v.mark goal ≤ 1

-- one step of a search, from the view v to the view w; the goal is never dealt
pub data Step (g : Graph) (n E : ℕ) (h : ℕ → ℕ → ℕ) (start goal count : ℕ) (v w : View) : Type 0 where
  deal : (s b : ℕ) → s ≢ goal → Deal E h v w s b → Step g n E h start goal count v w
  touch : (q : ℕ) → Touch g start n v w q → Step g n E h start goal count v w
  advance : (p i : ℕ) → Advance g E v w p i → Step g n E h start goal count v w
  finish : (p : ℕ) → Finish count v w p → Step g n E h start goal count v w
  lose : (p : ℕ) → Lose v w p → Step g n E h start goal count v w

module _ (g : Graph) (n E : ℕ) (h : ℕ → ℕ → ℕ) (task : Consistent g n E h) (start goal count : ℕ) where
  -- every step keeps the invariant
  pub good_step : (v w : View) → Good g n E start goal count v → Step g n E h start goal count v w → Good g n E start goal count w
  good_step v w a (deal s b u d) = record {
    frontier = frontier_moves g n E start count v w a.frontier (deal_moves g n E h task start count v w a.frontier s b d);
    chained = chained_on g start n v w a.chained (deal_grows g start n v w E h s b (a.frontier.inside s d.live) d);
    aim = omega (arith, a.aim, d.other goal (λ e. u (sym e)));
  }
  good_step v w a (touch q d) = record {
    frontier = frontier_moves g n E start count v w a.frontier (touch_moves g n E start count v w a.frontier q d);
    chained = chained_on g start n v w a.chained (touch_grows g start n v w q d);
    aim = at_or q {P = λ x. v.mark x ≤ 1 → w.mark x ≤ 1} (λ l. omega (arith, d.opened l)) (λ x u l. omega (arith, d.other x u)) goal a.aim;
  }
  good_step v w a (advance p i d) = record {
    frontier = frontier_moves g n E start count v w a.frontier (advance_moves g n E start count v w a.frontier p i d);
    chained = chained_on g start n v w a.chained (advance_grows g start n v w E p i d);
    aim = omega (arith, a.aim, d.mark goal);
  }
  good_step v w a (finish p d) = record {
    frontier = frontier_moves g n E start count v w a.frontier (finish_moves g n E start count v w a.frontier p d);
    chained = chained_on g start n v w a.chained (finish_grows g start n v w count p d);
    aim = at_or p {P = λ x. v.mark x ≤ 1 → w.mark x ≤ 1} (λ l. omega arith) (λ x u l. omega (arith, d.other x u)) goal a.aim;
  }
  good_step v w a (lose p d) = record {
    frontier = frontier_moves g n E start count v w a.frontier (lose_moves g n E start count v w a.frontier a.chained.root p d);
    chained = chained_on g start n v w a.chained (lose_grows g start n v w p d);
    aim = at_or p {P = λ x. v.mark x ≤ 1 → w.mark x ≤ 1} (λ l. omega arith) (λ x u l. omega (arith, d.other x u)) goal a.aim;
  }

  -- Found: a goal that the comparison allows 100 × its label has a label within the excess of every route's cost
  pub found_cost : (v : View) → Good g n E start goal count v → (b : ℕ) → 100 * v.label goal ≤ b → Allowed E h v b goal →
      (c : ℕ) → Route g start goal c → 100 * v.label goal ≤ E * c
  found_cost v a b l k c r = omega (arith, allowed_bound g n E h task start count v a.frontier b goal c (omega (arith, a.aim)) k r)

  -- Found: a seen goal has a chain of fewer than n links, so its path has n states at most
  pub found_chain : (v : View) → Good g n E start goal count v → goal < n → 1 ≤ v.mark goal → (k : ℕ) × Chain g start v goal k × (k < n)
  found_chain v a i l =
      let (k, c, d, e) = a.chained.chain goal l in
      (k, c, omega (arith, count_short (fixed v) n goal i (lt-leb 2 (v.mark goal) (omega (arith, a.aim)))))

  -- NoPath: with nothing live no route ends at the goal, which would be finished
  pub no_path : (v : View) → Good g n E start goal count v → ((t : ℕ) → 1 ≤ v.mark t → v.mark t ≢ 3 → ⊥) → (c : ℕ) → Route g start goal c → ⊥
  no_path v a dead c r = omega (arith, a.aim, nothing_live g n E h task start count v a.frontier goal c dead r)

-- a view just opened, of either kind of task: the start alone is seen, and is open, with label and front 0; no passage is applied
pub record Fresh (n start : ℕ) (v : View) : Type 0 where
  pub inside : start < n
  pub mark : v.mark start ≡ 1
  pub other : (x : ℕ) → x ≢ start → v.mark x ≡ 0
  pub label : v.label start ≡ 0
  pub front : v.front start ≡ 0
  pub place : (x : ℕ) → v.place x ≡ 0

-- opening makes the invariant
pub good_fresh : (g : Graph) (n E start goal count : ℕ) (v : View) → ((i : ℕ) → g.edge i → i < count) → Fresh n start v → Good g n E start goal count v
good_fresh g n E start goal count v within f =
    let low : (x : ℕ) → v.mark x ≤ 1 = at_or start (omega arith) (λ x d. omega (arith, f.other x d)) in
    record {
      frontier = record {
        inside = at_or start (λ _. f.inside) (λ x d l. absurd (omega (arith, f.other x d)));
        small = λ s. omega (arith, low s);
        seen = omega arith;
        base = f.front;
        within = within;
        done = λ p i l. absurd (omega (arith, f.place p));
        full = λ p e. absurd (omega (arith, low p));
        labels = λ s c l. absurd (omega (arith, low s));
        bounds = λ s c l. absurd (omega (arith, low s));
        lost = λ s e. absurd (omega (arith, low s));
      };
      chained = record {
        root = f.label;
        seen = omega arith;
        chain = at_or start (λ _. (0, root f.label, omega arith, λ l. absurd (omega arith))) (λ x d l. absurd (omega (arith, f.other x d)));
      };
      aim = low goal;
    }
