-- Each of the five steps is a move, so that it keeps the frontier's invariant.
use Rattle.std.specs.Prelude.{◌≡◌, ◌⊎◌, ℕ, ◌*◌, ◌≤◌, ◌<◌}
use Rattle.std.proofs.Common.{subst, inl, inr, arith}
use Rattle.std.proofs.Math.Decide.{dec_le}
use Rattle.argument.specs.Route.{Graph, Route}
use Rattle.argument.specs.View.{View, Consistent}
use Rattle.argument.specs.Front.{Reached, Frontier, allowed_bound}
use Rattle.argument.specs.Moves.{SameBound, Moves}
use Rattle.argument.specs.Steps.{at_or, Deal, Touch, Advance, Finish, Lose, touch_seen}

module _ (g : Graph) (n E : ℕ) (h : ℕ → ℕ → ℕ) (task : Consistent g n E h) (start count : ℕ) (v w : View) (f : Frontier g n E start count v) where
  -- a deal: the label, and what the state is dealt at, are at most E × the cost of every route by lemma B; no front changes
  pub deal_moves : (s b : ℕ) → Deal E h v w s b → Moves g n E start count v w
  deal_moves s b d = record {
    inside = at_or s (λ _. f.inside s d.live) (λ x u l. f.inside x (omega (arith, d.other x u)));
    small = at_or s (omega arith) (λ x u. omega (arith, d.other x u, f.small x));
    base = base start f.base;
    seen = at_or s (λ _. omega arith) (λ x u l. omega (arith, d.other x u));
    fixed = at_or s (λ _. (omega arith, d.label)) (λ x u l. (omega (arith, d.other x u), (d.other x u).label));
    fronts = at_or s (λ _. inl (omega arith)) (λ x u l. inl (omega (arith, d.other x u)));
    labels = at_or s (λ c k l r. omega (arith, bounded c r)) (λ x u c k l r. omega (arith, d.other x u));
    bounds = at_or s (λ k l. inr (λ c r. omega (arith, bounded c r))) (λ x u k l. inl (omega (arith, d.other x u)));
    places = at_or s (λ i l e k. absurd (omega arith)) (λ p u i l e k. inl (omega (arith, d.other p u)));
    full = at_or s (λ e. omega arith) (λ x u e. omega (arith, d.other x u, f.full x (omega (arith, d.other x u))));
    lost = at_or s (λ e. omega arith) (λ x u e. omega (arith, d.other x u, f.lost x (omega (arith, d.other x u))));
  }
    where
      bounded : (c : ℕ) → Route g start s c → b ≤ E * c
      bounded c r = allowed_bound g n E h task start count v f b s c d.fresh d.allowed r

      base : (x : ℕ) → v.front x ≡ 0 → w.front x ≡ 0
      base = at_or s (λ e. omega arith) (λ x u e. omega (arith, d.other x u))

module _ (g : Graph) (n E start count : ℕ) (v w : View) (f : Frontier g n E start count v) where
  -- a touch: no front rises, and nothing is dealt
  pub touch_moves : (q : ℕ) → Touch g start n v w q → Moves g n E start count v w
  touch_moves q d = record {
    inside = at_or q (λ _. d.inside) (λ x u l. f.inside x (omega (arith, d.other x u)));
    small = at_or q (small (dec_le 2 (v.mark q))) (λ x u. omega (arith, d.other x u, f.small x));
    base = base start f.seen f.base;
    seen = at_or q (touch_seen g start n v w q d) (λ x u l. omega (arith, d.other x u));
    fixed = at_or q (λ l. (omega (arith, d.kept l), (d.kept l).1)) (λ x u l. (omega (arith, d.other x u), (d.other x u).label));
    fronts = at_or q (λ l. inl (d.front l)) (λ x u l. inl (omega (arith, d.other x u)));
    labels = at_or q (λ c k l r. omega (arith, d.opened k)) (λ x u c k l r. omega (arith, d.other x u));
    bounds = at_or q (λ k l. inl (bounds k l (dec_le 2 (v.mark q)))) (λ x u k l. inl (omega (arith, d.other x u)));
    places = at_or q (λ i l e k. inl (places i l (dec_le 2 (v.mark q)))) (λ p u i l e k. inl (omega (arith, d.other p u)));
    full = at_or q (λ e. full e (dec_le 2 (v.mark q))) (λ x u e. omega (arith, d.other x u, f.full x (omega (arith, d.other x u))));
    lost = at_or q (λ e. lost e (dec_le 2 (v.mark q))) (λ x u e. omega (arith, d.other x u, f.lost x (omega (arith, d.other x u))));
  }
    where
      small : Dec (2 ≤ v.mark q) → w.mark q ≤ 4
      small (yes a) = omega (arith, d.kept a, f.small q)
      small (no a) = omega (arith, d.opened (omega arith))

      bounds : 2 ≤ w.mark q → w.mark q ≤ 3 → Dec (2 ≤ v.mark q) → SameBound v w q
      bounds k l (yes a) = omega (arith, d.kept a)
      bounds k l (no a) = omega (arith, d.opened (omega arith))

      places : (i : ℕ) → i < w.place q → Dec (2 ≤ v.mark q) → (i < v.place q) × (w.bound q ≡ v.bound q)
      places i l (yes a) = omega (arith, d.kept a)
      places i l (no a) = omega (arith, d.opened (omega arith))

      full : w.mark q ≡ 3 → Dec (2 ≤ v.mark q) → count ≤ w.place q
      full e (yes a) = omega (arith, d.kept a, f.full q (omega (arith, d.kept a)))
      full e (no a) = omega (arith, d.opened (omega arith))

      lost : w.mark q ≡ 4 → Dec (2 ≤ v.mark q) → w.front q ≤ 100 * w.label q
      lost e (yes a) = omega (arith, d.kept a, d.front (omega arith), f.lost q (omega (arith, d.kept a)))
      lost e (no a) = omega (arith, d.opened (omega arith))

      base : (x : ℕ) → 1 ≤ v.mark x → v.front x ≡ 0 → w.front x ≡ 0
      base = at_or q (λ l e. omega (arith, d.front l)) (λ x u l e. omega (arith, d.other x u))

  -- an advance: the one passage more that is applied has reached its far end
  pub advance_moves : (p i : ℕ) → Advance g E v w p i → Moves g n E start count v w
  advance_moves p i d = record {
    inside = λ x l. f.inside x (omega (arith, d.mark x));
    small = λ x. omega (arith, d.mark x, f.small x);
    base = omega (arith, d.front start, f.base);
    seen = λ x l. omega (arith, d.mark x);
    fixed = λ x l. (omega (arith, d.mark x), d.label x);
    fronts = λ x l. inl (omega (arith, d.front x));
    labels = λ x c k l r. omega (arith, d.mark x);
    bounds = λ x k l. inl (omega (arith, d.mark x, d.bound x));
    places = at_or p (λ j l e k. one_more j e k l (dec_le i j)) (λ q u j l e k. inl (omega (arith, d.other q u, d.bound q)));
    full = at_or p (λ e. omega (arith, f.full p (omega (arith, d.mark p)))) (λ x u e. omega (arith, d.other x u, f.full x (omega (arith, d.mark x))));
    lost = λ x e. omega (arith, d.front x, d.label x, f.lost x (omega (arith, d.mark x)));
  }
    where
      moved : (j : ℕ) → Reached E g v p j → Reached E g w p j
      moved j (s, inl l) = (omega (arith, d.mark (g.far j)), inl (omega (arith, d.front (g.far j), d.bound p)))
      moved j (s, inr l) = (omega (arith, d.mark (g.far j)), inr (omega (arith, d.mark (g.far j), d.front (g.far j), d.label (g.far j))))

      one_more : (j : ℕ) → g.edge j → g.near j ≡ p → j < w.place p → Dec (i ≤ j) → ((j < v.place p) × (w.bound p ≡ v.bound p)) ⊎ Reached E g w p j
      one_more j e k l (yes a) = inr (moved j (subst (λ (j : ℕ). g.edge j → g.near j ≡ p → Reached E g v p j) (omega arith) d.reached e k))
      one_more j e k l (no a) = inl (omega (arith, d.bound p))

  -- a finish: every passage was applied
  pub finish_moves : (p : ℕ) → Finish count v w p → Moves g n E start count v w
  finish_moves p d = record {
    inside = at_or p (λ _. f.inside p (omega arith)) (λ x u l. f.inside x (omega (arith, d.other x u)));
    small = at_or p (omega arith) (λ x u. omega (arith, d.other x u, f.small x));
    base = at_or p {P = λ x. v.front x ≡ 0 → w.front x ≡ 0} (λ e. omega arith) (λ x u e. omega (arith, d.other x u)) start f.base;
    seen = at_or p (λ _. omega arith) (λ x u l. omega (arith, d.other x u));
    fixed = at_or p (λ _. omega arith) (λ x u l. omega (arith, d.other x u));
    fronts = at_or p (λ _. inl (omega arith)) (λ x u l. inl (omega (arith, d.other x u)));
    labels = at_or p (λ c k l r. omega arith) (λ x u c k l r. omega (arith, d.other x u));
    bounds = at_or p (λ k l. inl (omega arith)) (λ x u k l. inl (omega (arith, d.other x u)));
    places = at_or p (λ i l e k. inl (omega arith)) (λ q u i l e k. inl (omega (arith, d.other q u)));
    full = at_or p (λ e. omega arith) (λ x u e. omega (arith, d.other x u, f.full x (omega (arith, d.other x u))));
    lost = at_or p (λ e. omega arith) (λ x u e. omega (arith, d.other x u, f.lost x (omega (arith, d.other x u))));
  }

  -- a lose: the front may rise, to 100 × the label of a state dealt before; the start's label is 0, and so is its front
  pub lose_moves : v.label start ≡ 0 → (p : ℕ) → Lose v w p → Moves g n E start count v w
  lose_moves z p d = record {
    inside = at_or p (λ _. f.inside p (omega arith)) (λ x u l. f.inside x (omega (arith, d.other x u)));
    small = at_or p (omega arith) (λ x u. omega (arith, d.other x u, f.small x));
    base = at_or p {P = λ x. v.front x ≡ 0 → v.label x ≡ 0 → w.front x ≡ 0} (λ e k. omega arith) (λ x u e k. omega (arith, d.other x u)) start f.base z;
    seen = at_or p (λ _. omega arith) (λ x u l. omega (arith, d.other x u));
    fixed = at_or p (λ _. omega arith) (λ x u l. omega (arith, d.other x u));
    fronts = at_or p (λ _. inr (omega arith)) (λ x u l. inl (omega (arith, d.other x u)));
    labels = at_or p (λ c k l r. omega arith) (λ x u c k l r. omega (arith, d.other x u));
    bounds = at_or p (λ k l. absurd (omega arith)) (λ x u k l. inl (omega (arith, d.other x u)));
    places = at_or p (λ i l e k. absurd (omega arith)) (λ q u i l e k. inl (omega (arith, d.other q u)));
    full = at_or p (λ e. omega arith) (λ x u e. omega (arith, d.other x u, f.full x (omega (arith, d.other x u))));
    lost = at_or p (λ e. omega arith) (λ x u e. omega (arith, d.other x u, f.lost x (omega (arith, d.other x u))));
  }
