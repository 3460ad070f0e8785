-- Each of the five steps grows the view, so that every seen state still has its chain.
use Rattle.std.proofs.Common.{inl, arith}
use Rattle.std.specs.Prelude.{ℕ, ◌<◌}
use Rattle.argument.specs.Route.{Graph}
use Rattle.argument.specs.View.{View}
use Rattle.argument.specs.Chain.{Grows}
use Rattle.argument.specs.Steps.{at_or, Deal, Touch, Advance, Finish, Lose, touch_seen}

module _ (g : Graph) (start n : ℕ) (v w : View) where
  -- a deal: at most one more state is dealt before, and no label and no passage changes
  pub deal_grows : (E : ℕ) (h : ℕ → ℕ → ℕ) (s b : ℕ) → s < n → Deal E h v w s b → Grows g start n v w
  deal_grows E h s b i d = record {
    dealt = at_or s (λ _. omega arith) (λ x u l. omega (arith, d.other x u));
    seen = at_or s (λ _. omega arith) (λ x u l. omega (arith, d.other x u));
    free = at_or s (λ _ _. inl (omega arith)) (λ x u l k. inl (omega (arith, d.other x u)));
    below = at_or s (λ _ _. i) (λ x u k l. absurd (omega (arith, d.other x u)));
  }

  -- a touch: the far end keeps its label and its passage, or gets both from a state dealt before
  pub touch_grows : (q : ℕ) → Touch g start n v w q → Grows g start n v w
  touch_grows q d = record {
    dealt = at_or q (λ l. omega (arith, d.kept l)) (λ x u l. omega (arith, d.other x u));
    seen = at_or q (touch_seen g start n v w q d) (λ x u l. omega (arith, d.other x u));
    free = at_or q (λ _ k. d.link k) (λ x u l k. inl (omega (arith, d.other x u)));
    below = at_or q (λ _ _. d.inside) (λ x u k l. absurd (omega (arith, d.other x u)));
  }

  -- an advance: only a place changes
  pub advance_grows : (E p i : ℕ) → Advance g E v w p i → Grows g start n v w
  advance_grows E p i d = record {
    dealt = λ x l. omega (arith, d.mark x, d.label x, d.via x);
    seen = λ x l. omega (arith, d.mark x);
    free = λ x l k. inl (omega (arith, d.mark x, d.label x, d.via x));
    below = λ x k l. absurd (omega (arith, d.mark x));
  }

  -- a finish: no label and no passage changes, and nothing is dealt
  pub finish_grows : (count p : ℕ) → Finish count v w p → Grows g start n v w
  finish_grows count p d = record {
    dealt = at_or p (λ _. omega arith) (λ x u l. omega (arith, d.other x u));
    seen = at_or p (λ _. omega arith) (λ x u l. omega (arith, d.other x u));
    free = at_or p (λ _ _. inl (omega arith)) (λ x u l k. inl (omega (arith, d.other x u)));
    below = at_or p (λ k l. absurd (omega arith)) (λ x u k l. absurd (omega (arith, d.other x u)));
  }

  -- a lose: the same, for a lost state stays dealt before
  pub lose_grows : (p : ℕ) → Lose v w p → Grows g start n v w
  lose_grows p d = record {
    dealt = at_or p (λ _. omega arith) (λ x u l. omega (arith, d.other x u));
    seen = at_or p (λ _. omega arith) (λ x u l. omega (arith, d.other x u));
    free = at_or p (λ _ _. inl (omega arith)) (λ x u l k. inl (omega (arith, d.other x u)));
    below = at_or p (λ k l. absurd (omega arith)) (λ x u k l. absurd (omega (arith, d.other x u)));
  }
