-- Who holds what, over functions: each worker below k holds nothing or an out state, and each out state is held by exactly one of them.
use Rattle.std.specs.Prelude.{◌≡◌, ◌⊎◌, ◌≢◌, ◌↔◌, false, ℕ, suc, ◌≤◌, ◌<◌, eqb}
use Rattle.std.proofs.Common.{sym, ap, ◌∙◌, inl, inr, arith, eq-eqb, ne_eqb}
use Rattle.laws.specs.Count.{count, count_eq, count_none, count_suc, count_only}
use Rattle.argument.specs.Steps.{at_or}

-- `none` is the number of no state
pub record Holding (n k none : ℕ) (hold mark : ℕ → ℕ) : Type 0 where
  pub room : n ≤ none
  pub inside : (s : ℕ) → mark s ≡ 2 → s < n
  pub own : (w : ℕ) → w < k → (hold w ≡ none) ⊎ ((hold w < n) × (mark (hold w) ≡ 2))
  pub once : (s : ℕ) → mark s ≡ 2 → count (λ w. eqb (hold w) s) k ≡ 1

module _ (n k none : ℕ) (hold mark hold' mark' : ℕ → ℕ) (a : Holding n k none hold mark) (w s : ℕ) (l : w < k) (others : (x : ℕ) → x ≢ w → hold' x ≡ hold x) where
  -- the worker w, who holds nothing, is given s
  pub holding_take : hold w ≡ none → s < n → mark s ≢ 2 → hold' w ≡ s → mark' s ≡ 2 → ((x : ℕ) → x ≢ s → mark' x ≡ mark x) → Holding n k none hold' mark'
  holding_take free i u h m f = record {
    room = a.room;
    inside = at_or s (λ _. i) (λ x d e. a.inside x (sym (f x d) ∙ e));
    own = at_or w (λ _. inr (rw h (i, m))) (λ x d j. own x d (a.own x j));
    once = at_or s (λ _. mine) (λ x d e. theirs x d (sym (f x d) ∙ e));
  }
    where
      own : (x : ℕ) → x ≢ w → (hold x ≡ none) ⊎ ((hold x < n) × (mark (hold x) ≡ 2)) → (hold' x ≡ none) ⊎ ((hold' x < n) × (mark' (hold' x) ≡ 2))
      own x d (inl e) = inl (others x d ∙ e)
      own x d (inr (j, e)) = inr (rw (others x d) (j, f (hold x) (λ q. u (sym (ap mark q) ∙ e)) ∙ e))

      -- nobody held s
      nobody : (x : ℕ) → x < k → eqb (hold x) s ≡ false
      nobody x j = go (a.own x j)
        where
          go : (hold x ≡ none) ⊎ ((hold x < n) × (mark (hold x) ≡ 2)) → eqb (hold x) s ≡ false
          go (inl e) = ne_eqb (hold x) s (λ q. omega (arith, a.room))
          go (inr (b, e)) = ne_eqb (hold x) s (λ q. u (sym (ap mark q) ∙ e))

      mine : count (λ x. eqb (hold' x) s) k ≡ 1
      mine =
          count_suc (λ x. eqb (hold x) s) (λ x. eqb (hold' x) s) k w l (nobody w l) (eq-eqb (hold' w) s h) (λ x j d. ap (λ y. eqb y s) (sym (others x d)))
          ∙ ap suc (count_none (λ x. eqb (hold x) s) k nobody)

      theirs : (x : ℕ) → x ≢ s → mark x ≡ 2 → count (λ y. eqb (hold' y) x) k ≡ 1
      theirs x d e =
          count_eq (λ y. eqb (hold' y) x) (λ y. eqb (hold y) x) k (λ y j. at_or w {P = λ y. eqb (hold' y) x ≡ eqb (hold y) x}
          (ne_eqb (hold' w) x (λ q. d (sym q ∙ h)) ∙ sym (ne_eqb (hold w) x (λ q. omega (arith, a.room, a.inside x e)))) (λ y c. ap (λ z. eqb z x) (others y c)) y)
          ∙ a.once x e

  -- the worker w gives s back
  pub holding_give : hold w ≡ s → mark s ≡ 2 → hold' w ≡ none → mark' s ≢ 2 → ((x : ℕ) → x ≢ s → mark' x ≡ mark x) → Holding n k none hold' mark'
  holding_give h m free u f = record {
    room = a.room;
    inside = at_or s (λ e. absurd (u e)) (λ x d e. a.inside x (sym (f x d) ∙ e));
    own = at_or w (λ _. inl free) (λ x d j. own x d j (a.own x j));
    once = at_or s (λ e. absurd (u e)) (λ x d e. theirs x d (sym (f x d) ∙ e));
  }
    where
      own : (x : ℕ) → x ≢ w → x < k → (hold x ≡ none) ⊎ ((hold x < n) × (mark (hold x) ≡ 2)) → (hold' x ≡ none) ⊎ ((hold' x < n) × (mark' (hold' x) ≡ 2))
      own x d j (inl e) = inl (others x d ∙ e)
      own x d j (inr (b, e)) =
          inr (rw (others x d) (b, f (hold x) (λ q. d (count_only (λ y. eqb (hold y) s) k x w (a.once s m) j l (eq-eqb (hold x) s q) (eq-eqb (hold w) s h))) ∙ e))

      theirs : (x : ℕ) → x ≢ s → mark x ≡ 2 → count (λ y. eqb (hold' y) x) k ≡ 1
      theirs x d e =
          count_eq (λ y. eqb (hold' y) x) (λ y. eqb (hold y) x) k (λ y j. at_or w {P = λ y. eqb (hold' y) x ≡ eqb (hold y) x}
          (ne_eqb (hold' w) x (λ q. omega (arith, a.room, a.inside x e)) ∙ sym (ne_eqb (hold w) x (λ q. d (sym q ∙ h)))) (λ y c. ap (λ z. eqb z x) (others y c)) y)
          ∙ a.once x e

-- nothing is dealt or given back
pub holding_same : (n k none : ℕ) (hold mark mark' : ℕ → ℕ) → Holding n k none hold mark → ((x : ℕ) → (mark' x ≡ 2) ↔ (mark x ≡ 2)) → Holding n k none hold mark'
holding_same n k none hold mark mark' a f = record { room = a.room; inside = λ s e. a.inside s ((f s).0 e); own = λ w l. go w (a.own w l); once = λ s e. a.once s ((f s).0 e) }
  where
    go : (w : ℕ) → (hold w ≡ none) ⊎ ((hold w < n) × (mark (hold w) ≡ 2)) → (hold w ≡ none) ⊎ ((hold w < n) × (mark' (hold w) ≡ 2))
    go w (inl e) = inl e
    go w (inr (b, e)) = inr (b, (f (hold w)).1 e)
