-- Places below n, and none, as the code has them (`Option`) and as the definitions do (n where there is none).
use Rattle.std.specs.Prelude.{◌≡◌, refl, Bool, true, false, cond, Option, Some, None, ◌⊎◌, ℕ, ◌+◌, ◌≤◌, ◌<◌, ltb}
use Rattle.std.proofs.Common.{arith, inl, inr}
use borrow.Author.Tests.{lt-ltb, le-ltb, ltb-true, ltb-false}
use Rattle.laws.specs.Chains.{below}
use Rattle.laws.specs.Least.{Best, best_skip, best_lost, best_won}

-- an answer, by what it is
pub below_some : (n x i : ℕ) → i ≡ x → i < n → Some i ≡ below n x
below_some n x i e l = rw (← e, lt-ltb i n l)

pub below_none : (n x : ℕ) → n ≡ x → None ≡ below n x
below_none n x e = rw (le-ltb x n (omega arith))

-- and what it says
pub some_says : (n x i : ℕ) → Some i ≡ below n x → (i ≡ x) × (x < n)
some_says n x i e = go (ltb x n) refl e
  where
    go : (v : Bool) → ltb x n ≡ v → Some i ≡ cond v (Some x) None → (i ≡ x) × (x < n)
    go true q r = (cc, ltb-true x n q)
    go false q r = let z : ◌≡◌ {A = ℕ} 0 1 = cc in absurd (omega arith)

pub none_says : (n x : ℕ) → None ≡ below n x → n ≤ x
none_says n x e = go (ltb x n) refl e
  where
    go : (v : Bool) → ltb x n ≡ v → None ≡ cond v (Some x) None → n ≤ x
    go true q r = let z : ◌≡◌ {A = ℕ} 0 1 = cc in absurd (omega arith)
    go false q r = ltb-false x n q

-- One that leads so far, with its key beside it: its place, n where none leads, and its key.
abbrev pub leads_at : ℕ → Option (ℕ × ℕ) → ℕ
leads_at n None = n
leads_at n (Some p) = p.0

abbrev pub leads_by : Option (ℕ × ℕ) → ℕ
leads_by None = 0
leads_by (Some p) = p.1

-- one with this key goes before it
abbrev pub wins : ℕ → Option (ℕ × ℕ) → Bool
wins key None = true
wins key (Some p) = ltb key p.1

-- what a loop that looks for the least knows at i
pub record Leader (p : ℕ → Bool) (key : ℕ → ℕ) (n i : ℕ) (leader : Option (ℕ × ℕ)) : Type 0 where
  pub best : Best p key n i (leads_at n leader) (leads_by leader)
  pub inside : (x : ℕ × ℕ) → leader ≡ Some x → x.0 < n

module _ (p : ℕ → Bool) (key : ℕ → ℕ) (n : ℕ) where
  pub leader_none : (i : ℕ) → Best p key n i n 0 → Leader p key n i None
  leader_none i b = record { best = b; inside = λ x e. let z : ◌≡◌ {A = ℕ} 0 1 = cc in absurd (omega arith) }

  module _ (i : ℕ) (leader : Option (ℕ × ℕ)) (w : Leader p key n i leader) where
    -- i fails
    pub leader_skip : p i ≡ false → Leader p key n (i + 1) leader
    leader_skip e = record { best = best_skip p key n i _ _ w.best e; inside = w.inside }

    -- i can't win
    pub leader_lost : wins (key i) leader ≡ false → Leader p key n (i + 1) leader
    leader_lost e = record { best = go leader w e; inside = w.inside }
      where
        go : (l : Option (ℕ × ℕ)) → Leader p key n i l → wins (key i) l ≡ false → Best p key n (i + 1) (leads_at n l) (leads_by l)
        go None v q = let z : ◌≡◌ {A = ℕ} 0 1 = cc in absurd (omega arith)
        go (Some x) v q = best_lost p key n i _ _ v.best (λ r. omega (arith, v.inside x refl)) (ltb-false (key i) x.1 q)

    -- i leads from now on
    pub leader_won : i < n → p i ≡ true → wins (key i) leader ≡ true → Leader p key n (i + 1) (Some (i, key i))
    leader_won l y e = record { best = best_won p key n i _ _ w.best y (go leader w e); inside = λ x q. let r : i ≡ x.0 = cc in omega arith }
      where
        go : (l : Option (ℕ × ℕ)) → Leader p key n i l → wins (key i) l ≡ true → (leads_at n l ≡ n) ⊎ ((leads_at n l ≡ n → ⊥) × (key i < leads_by l))
        go None v q = inl refl
        go (Some x) v q = inr (λ r. omega (arith, v.inside x refl), ltb-true (key i) x.1 q)
