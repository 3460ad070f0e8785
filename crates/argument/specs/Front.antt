-- The frontier: the end x of each route from the start is finished, or some live m has front m + E × h(m,x) at most E × the route's cost (lemma A).
-- So what the comparison allows is at most E × the cost of every route (lemma B), and with nothing live every state that a route reaches is finished.
use Rattle.std.specs.Prelude.{◌≡◌, ◌⊎◌, ◌≢◌, ℕ, ◌+◌, ◌*◌, ◌≤◌, ◌<◌}
use Rattle.std.proofs.Common.{inl, inr, mul-zero, mul-le-mul_left, arith}
use Rattle.std.proofs.Math.Decide.{ℕ_discrete}
use Rattle.argument.specs.Route.{Graph, Route, here, snoc}
use Rattle.argument.specs.View.{View, Consistent}

-- q is dealt before, and its front is at most 100 × its label, which is fixed
abbrev pub Settled : View → ℕ → Type 0
Settled v q = (2 ≤ v.mark q) × (v.front q ≤ 100 * v.label q)

-- passage i of p has reached its far end: that is seen, and its front is at most what p was dealt at and E × the cost, or it is settled
abbrev pub Reached : ℕ → Graph → View → ℕ → ℕ → Type 0
Reached E g v p i = (1 ≤ v.mark (g.far i)) × ((v.front (g.far i) ≤ v.bound p + E * g.cost i) ⊎ Settled v (g.far i))

-- The invariant of the frontier.
-- inside, small, within: what is seen is a state, a mark is at most 4, and a passage's number is below count.
-- seen, base: the start is not unseen (S1), and its front is 0 (S3, its last sentence).
-- done, full: each applied passage has reached its far end (S3); a finished state's passages are all applied.
-- labels: of a state dealt before, 100 × label is at most E × the cost of every route to it (S2). bounds: while it is out or finished, so is what it was dealt at.
-- lost: the front of a lost state is at most 100 × its label.
pub record Frontier (g : Graph) (n E start count : ℕ) (v : View) : Type 0 where
  pub inside : (s : ℕ) → 1 ≤ v.mark s → s < n
  pub small : (s : ℕ) → v.mark s ≤ 4
  pub seen : 1 ≤ v.mark start
  pub base : v.front start ≡ 0
  pub within : (i : ℕ) → g.edge i → i < count
  pub done : (p i : ℕ) → i < v.place p → g.edge i → g.near i ≡ p → Reached E g v p i
  pub full : (p : ℕ) → v.mark p ≡ 3 → count ≤ v.place p
  pub labels : (s c : ℕ) → 2 ≤ v.mark s → Route g start s c → 100 * v.label s ≤ E * c
  pub bounds : (s c : ℕ) → 2 ≤ v.mark s → v.mark s ≤ 3 → Route g start s c → v.bound s ≤ E * c
  pub lost : (s : ℕ) → v.mark s ≡ 4 → v.front s ≤ 100 * v.label s

-- the comparison allows b for s: b is at most the front of s, and at most front t + E × h(t,s) of every other live t. A safe s is allowed 100 × its label
abbrev pub Allowed : ℕ → (ℕ → ℕ → ℕ) → View → ℕ → ℕ → Type 0
Allowed E h v b s = (b ≤ v.front s) × ((t : ℕ) → t ≢ s → 1 ≤ v.mark t → v.mark t ≢ 3 → b ≤ v.front t + E * h t s)

-- what lemma A says of a route of cost c to x, with h in place of the rest of the route: x is finished, or some live m has front m + E × h(m,x) ≤ E × c
abbrev pub Ahead : ℕ → (ℕ → ℕ → ℕ) → View → ℕ → ℕ → Type 0
Ahead E h v x c = (v.mark x ≡ 3) ⊎ ((m : ℕ) × (1 ≤ v.mark m) × (v.mark m ≢ 3) × (v.front m + E * h m x ≤ E * c))

module _ (g : Graph) (n E : ℕ) (h : ℕ → ℕ → ℕ) (task : Consistent g n E h) (start count : ℕ) (v : View) (f : Frontier g n E start count v) where
  -- a seen state whose front is at most E × c is finished, or is itself that live state
  ahead_self : (x c : ℕ) → 1 ≤ v.mark x → v.front x ≤ E * c → Ahead E h v x c
  ahead_self x c s l = go (ℕ_discrete (v.mark x) 3)
    where
      go : Dec (v.mark x ≡ 3) → Ahead E h v x c
      go (yes d) = inl d
      go (no u) = inr (x, s, u, rw (task.self x (f.inside x s), mul-zero) (omega arith))

  -- one passage more: a live state stays ahead by checks 6 and 7; the passage of a finished state is applied, and so has reached its far end
  ahead_snoc : (p c i : ℕ) → Route g start p c → g.edge i → g.near i ≡ p → Ahead E h v p c → Ahead E h v (g.far i) (c + g.cost i)
  ahead_snoc p c i r e q (inr (m, s, l, k)) =
      let (near, far) = task.ends i e in
      let part : h m (g.far i) ≤ h m p + h p (g.far i) = task.triangle m p (g.far i) (f.inside m s) (rw q at near) far in
      inr (m, s, l, omega (arith, mul-le-mul_left E part, mul-le-mul_left E (rw q at (task.edge i e))))
  ahead_snoc p c i r e q (inl d) = go (f.done p i (omega (arith, f.full p d, f.within i e)) e q)
    where
      go : Reached E g v p i → Ahead E h v (g.far i) (c + g.cost i)
      go (s, inl l) = ahead_self (g.far i) (c + g.cost i) s (omega (arith, f.bounds p c (omega arith) (omega arith) r))
      go (s, inr (t, l)) = ahead_self (g.far i) (c + g.cost i) s (omega (arith, f.labels (g.far i) (c + g.cost i) t (snoc i r e q)))

  -- lemma A: of every route from the start, its end is finished or a live state is ahead of it
  pub frontier : (x c : ℕ) → Route g start x c → Ahead E h v x c
  frontier x c here = ahead_self start 0 f.seen (omega (arith, f.base))
  frontier x c (snoc {p} {c = d} i r e q) = ahead_snoc p d i r e q (frontier p d r)

  -- lemma B: what the comparison allows for an unfinished state is at most E × the cost of every route to it
  pub allowed_bound : (b s c : ℕ) → v.mark s ≢ 3 → Allowed E h v b s → Route g start s c → b ≤ E * c
  allowed_bound b s c u a r = go (frontier s c r)
    where
      go : Ahead E h v s c → b ≤ E * c
      go (inl e) = absurd (u e)
      go (inr (m, l, k, w)) = same (ℕ_discrete m s)
        where
          same : Dec (m ≡ s) → b ≤ E * c
          same (yes e) = omega (arith, a.0, rw e at w)
          same (no d) = omega (arith, a.1 m d l k)

  -- with nothing live, every state that a route reaches is finished
  pub nothing_live : (s c : ℕ) → ((t : ℕ) → 1 ≤ v.mark t → v.mark t ≢ 3 → ⊥) → Route g start s c → v.mark s ≡ 3
  nothing_live s c dead r = go (frontier s c r)
    where
      go : Ahead E h v s c → v.mark s ≡ 3
      go (inl e) = e
      go (inr (m, l, k, w)) = absurd (dead m l k)
