-- What a step may do to a view so that the frontier's invariant is kept. Each of the five steps is shown to be such a move.
use Rattle.std.specs.Prelude.{◌≡◌, ◌⊎◌, ℕ, ◌+◌, ◌*◌, ◌≤◌, ◌<◌}
use Rattle.std.proofs.Common.{inl, inr, arith}
use Rattle.std.proofs.Math.Decide.{dec_le}
use Rattle.argument.specs.Route.{Graph, Route}
use Rattle.argument.specs.View.{View}
use Rattle.argument.specs.Front.{Settled, Reached, Frontier}

-- the front of x has not risen, or x is settled now
abbrev pub Lower : View → View → ℕ → Type 0
Lower v w x = (w.front x ≤ v.front x) ⊎ Settled w x

-- x was out or finished, and keeps what it was dealt at
abbrev pub SameBound : View → View → ℕ → Type 0
SameBound v w x = (2 ≤ v.mark x) × (v.mark x ≤ 3) × (w.bound x ≡ v.bound x)

-- A move from the view v to the view w.
-- inside, small, base, full, lost: what the invariant says of w state by state.
-- seen, fixed: what is seen stays seen; what is dealt before stays so and keeps its label.
-- fronts: no front of a seen state rises, but to 100 × the label of a state dealt before.
-- labels, bounds: 100 × the label of a state dealt now, and what it is dealt at, are at most E × the cost of every route to it.
-- places: an applied passage was applied, of a state that keeps what it was dealt at, or has reached its far end now.
pub record Moves (g : Graph) (n E start count : ℕ) (v w : View) : Type 0 where
  pub inside : (x : ℕ) → 1 ≤ w.mark x → x < n
  pub small : (x : ℕ) → w.mark x ≤ 4
  pub base : w.front start ≡ 0
  pub seen : (x : ℕ) → 1 ≤ v.mark x → 1 ≤ w.mark x
  pub fixed : (x : ℕ) → 2 ≤ v.mark x → (2 ≤ w.mark x) × (w.label x ≡ v.label x)
  pub fronts : (x : ℕ) → 1 ≤ v.mark x → Lower v w x
  pub labels : (x c : ℕ) → v.mark x ≤ 1 → 2 ≤ w.mark x → Route g start x c → 100 * w.label x ≤ E * c
  pub bounds : (x : ℕ) → 2 ≤ w.mark x → w.mark x ≤ 3 → SameBound v w x ⊎ ((c : ℕ) → Route g start x c → w.bound x ≤ E * c)
  pub places : (p i : ℕ) → i < w.place p → g.edge i → g.near i ≡ p → ((i < v.place p) × (w.bound p ≡ v.bound p)) ⊎ Reached E g w p i
  pub full : (p : ℕ) → w.mark p ≡ 3 → count ≤ w.place p
  pub lost : (s : ℕ) → w.mark s ≡ 4 → w.front s ≤ 100 * w.label s

module _ (g : Graph) (n E start count : ℕ) (v w : View) (f : Frontier g n E start count v) (m : Moves g n E start count v w) where
  -- what an applied passage has reached stays reached: its front only falls, or it is settled
  reached_on : (p i : ℕ) → w.bound p ≡ v.bound p → Reached E g v p i → Reached E g w p i
  reached_on p i b (s, l) = (m.seen (g.far i) s, go l (m.fronts (g.far i) s))
    where
      go : (v.front (g.far i) ≤ v.bound p + E * g.cost i) ⊎ Settled v (g.far i) → Lower v w (g.far i) →
          (w.front (g.far i) ≤ w.bound p + E * g.cost i) ⊎ Settled w (g.far i)
      go (inl a) (inl k) = inl (omega arith)
      go (inr (t, a)) (inl k) = let (d, e) = m.fixed (g.far i) t in inr (d, omega arith)
      go a (inr k) = inr k

  -- a move keeps the frontier
  pub frontier_moves : Frontier g n E start count w
  frontier_moves = record {
    inside = m.inside;
    small = m.small;
    seen = m.seen start f.seen;
    base = m.base;
    within = f.within;
    done = done;
    full = m.full;
    labels = labels;
    bounds = bounds;
    lost = m.lost;
  }
    where
      done : (p i : ℕ) → i < w.place p → g.edge i → g.near i ≡ p → Reached E g w p i
      done p i l e u = go (m.places p i l e u)
        where
          go : ((i < v.place p) × (w.bound p ≡ v.bound p)) ⊎ Reached E g w p i → Reached E g w p i
          go (inl (k, b)) = reached_on p i b (f.done p i k e u)
          go (inr r) = r

      labels : (s c : ℕ) → 2 ≤ w.mark s → Route g start s c → 100 * w.label s ≤ E * c
      labels s c k r = go (dec_le 2 (v.mark s))
        where
          go : Dec (2 ≤ v.mark s) → 100 * w.label s ≤ E * c
          go (yes a) = omega (arith, (m.fixed s a).1, f.labels s c a r)
          go (no a) = m.labels s c (omega arith) k r

      bounds : (s c : ℕ) → 2 ≤ w.mark s → w.mark s ≤ 3 → Route g start s c → w.bound s ≤ E * c
      bounds s c k l r = go (m.bounds s k l)
        where
          go : SameBound v w s ⊎ ((c : ℕ) → Route g start s c → w.bound s ≤ E * c) → w.bound s ≤ E * c
          go (inl (a, b, e)) = omega (arith, f.bounds s c a b r)
          go (inr q) = q c r
