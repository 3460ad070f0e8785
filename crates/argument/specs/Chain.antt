-- Following the passages back: every seen state has a chain of passages to the start, over states dealt before, no longer than their number.
-- A chain is a route at the cost of the label, so a label is at most the chain's length times the largest cost.
use Rattle.std.specs.Prelude.{◌≡◌, refl, ◌⊎◌, ◌≢◌, Bool, true, ℕ, suc, ◌+◌, ◌*◌, ◌≤◌, ◌<◌, leb}
use Rattle.std.proofs.Common.{subst, ◌∙◌, inl, inr, arith, leb-true, le-leb}
use Rattle.std.proofs.Math.Decide.{dec_le}
use Rattle.std.proofs.lemmas.Bool.{lt-leb}
use Rattle.laws.specs.Count.{count, count_le, count_lt}
use Rattle.argument.specs.Route.{Graph, Route, here, snoc}
use Rattle.argument.specs.View.{View}

-- a chain of k links from s back to the start, whose label is 0: each link is the via of its far end, which isn't the start; it comes from a state dealt before,
-- and the far end's label is that state's label plus the cost
pub data Chain (g : Graph) (start : ℕ) (v : View) : ℕ → ℕ → Type 0 where
  root : v.label start ≡ 0 → Chain g start v start 0
  link : {s k : ℕ} (i : ℕ) → g.edge i → g.far i ≡ s → s ≢ start → v.via s ≡ i → 2 ≤ v.mark (g.near i) →
      v.label s ≡ v.label (g.near i) + g.cost i → Chain g start v (g.near i) k → Chain g start v s (suc k)

-- a chain is a route, at the cost of the label
pub chain_route : (g : Graph) (start : ℕ) (v : View) (s k : ℕ) → Chain g start v s k → Route g start s (v.label s)
chain_route g start v s k (root e) = rw e here
chain_route g start v s k (link {k = j} i e f n u m l c) =
    rw l (subst (λ (x : ℕ). Route g start x (v.label (g.near i) + g.cost i)) f (snoc i (chain_route g start v (g.near i) j c) e refl))

-- a label along a chain of k links is at most k × the largest cost
pub chain_cost : (g : Graph) (start : ℕ) (v : View) (M : ℕ) → ((i : ℕ) → g.edge i → g.cost i ≤ M) → (s k : ℕ) → Chain g start v s k → v.label s ≤ k * M
chain_cost g start v M f s k (root e) = omega arith
chain_cost g start v M f s k (link {k = j} i e q a u m l c) = omega (arith, f i e, chain_cost g start v M f (g.near i) j c)

-- x is dealt before, so that its label and its passage are fixed
abbrev pub fixed : View → ℕ → Bool
fixed v x = leb 2 (v.mark x)

-- s has a chain, no longer than the number of states dealt before, and shorter where s is one of them
abbrev pub ChainOf : Graph → ℕ → ℕ → View → ℕ → Type 0
ChainOf g start n v s = (k : ℕ) × Chain g start v s k × (k ≤ count (fixed v) n) × (2 ≤ v.mark s → k < count (fixed v) n)

-- (P), by counting in place of a list: the start is seen, with label 0, and every seen state has its chain
pub record Chained (g : Graph) (start n : ℕ) (v : View) : Type 0 where
  pub root : v.label start ≡ 0
  pub seen : 1 ≤ v.mark start
  pub chain : (s : ℕ) → 1 ≤ v.mark s → ChainOf g start n v s

-- s was seen, and keeps its label and its passage
abbrev pub Kept : View → View → ℕ → Type 0
Kept v w s = (1 ≤ v.mark s) × (w.label s ≡ v.label s) × (w.via s ≡ v.via s)

-- s, not dealt before and not the start, gets its label and its passage from a state dealt before
pub record Linked (g : Graph) (start : ℕ) (v w : View) (s : ℕ) : Type 0 where
  pub by : ℕ
  pub edge : g.edge by
  pub far : g.far by ≡ s
  pub away : s ≢ start
  pub via : w.via s ≡ by
  pub dealt : 2 ≤ v.mark (g.near by)
  pub label : w.label s ≡ v.label (g.near by) + g.cost by
  pub mark : w.mark s ≤ 1

-- What a step may do to a view so that every seen state still has its chain.
-- dealt: a state dealt before keeps its label and its passage. seen: what is seen stays seen.
-- free: another state keeps both too, or gets both from a state dealt before. below: what is dealt is a state.
pub record Grows (g : Graph) (start n : ℕ) (v w : View) : Type 0 where
  pub dealt : (x : ℕ) → 2 ≤ v.mark x → (2 ≤ w.mark x) × (w.label x ≡ v.label x) × (w.via x ≡ v.via x)
  pub seen : (x : ℕ) → 1 ≤ v.mark x → 1 ≤ w.mark x
  pub free : (s : ℕ) → 1 ≤ w.mark s → v.mark s ≤ 1 → Kept v w s ⊎ Linked g start v w s
  pub below : (s : ℕ) → v.mark s ≤ 1 → 2 ≤ w.mark s → s < n

module _ (g : Graph) (start n : ℕ) (v w : View) (c : Chained g start n v) (m : Grows g start n v w) where
  -- the start keeps label 0
  root_on : w.label start ≡ 0
  root_on = go (dec_le 2 (v.mark start))
    where
      kept : Kept v w start ⊎ Linked g start v w start → w.label start ≡ 0
      kept (inl (a, l, u)) = l ∙ c.root
      kept (inr l) = absurd (l.away refl)

      go : Dec (2 ≤ v.mark start) → w.label start ≡ 0
      go (yes a) = (m.dealt start a).1 ∙ c.root
      go (no a) = kept (m.free start (m.seen start c.seen) (omega arith))

  -- a chain from a state that keeps its label and its passage stays as it is, for it goes on over states dealt before
  chain_kept : (s k : ℕ) → w.label s ≡ v.label s → w.via s ≡ v.via s → Chain g start v s k → Chain g start w s k
  chain_kept s k b d (root e) = root root_on
  chain_kept s k b d (link {k = j} i e f a u t q r) =
      let (o, x, y) = m.dealt (g.near i) t in
      link i e f a (d ∙ u) o (omega arith) (chain_kept (g.near i) j x y r)

  -- what is dealt before stays so; so no fewer states are dealt before, and more where one is dealt
  stays : (x : ℕ) → x < n → fixed v x ≡ true → fixed w x ≡ true
  stays x l e = le-leb 2 (w.mark x) (m.dealt x (leb-true 2 (v.mark x) e)).0

  more : count (fixed v) n ≤ count (fixed w) n
  more = count_le (fixed v) (fixed w) n stays

  one_more : (s : ℕ) → v.mark s ≤ 1 → 2 ≤ w.mark s → count (fixed v) n < count (fixed w) n
  one_more s a b = count_lt (fixed v) (fixed w) n s stays (m.below s a b) (lt-leb 2 (v.mark s) (omega arith)) (le-leb 2 (w.mark s) b)

  -- such a step keeps every chain's length within the number of states dealt before
  pub chained_on : Chained g start n w
  chained_on = record { root = root_on; seen = m.seen start c.seen; chain = chain }
    where
      chain : (s : ℕ) → 1 ≤ w.mark s → ChainOf g start n w s
      chain s l = go (dec_le 2 (v.mark s))
        where
          free : v.mark s ≤ 1 → Kept v w s ⊎ Linked g start v w s → ChainOf g start n w s
          free a (inl (o, x, y)) =
              let (k, r, d, e) = c.chain s o in
              (k, chain_kept s k x y r, omega (arith, more), λ z. omega (arith, one_more s a z))
          free a (inr b) =
              let (k, r, d, e) = c.chain (g.near b.by) (omega (arith, b.dealt)) in
              let (o, x, y) = m.dealt (g.near b.by) b.dealt in (
                suc k,
                link b.by b.edge b.far b.away b.via o (omega (arith, b.label)) (chain_kept (g.near b.by) k x y r),
                omega (arith, more, e b.dealt),
                λ z. omega (arith, b.mark),
              )

          go : Dec (2 ≤ v.mark s) → ChainOf g start n w s
          go (yes a) =
              let (k, r, d, e) = c.chain s (omega arith) in
              let (o, x, y) = m.dealt s a in
              (k, chain_kept s k x y r, omega (arith, more), λ z. omega (arith, more, e a))
          go (no a) = free (omega arith) (m.free s l (omega arith))
