-- The largest of the values at the numbers below n.
-- Assumes nothing.
use Rattle.std.specs.Prelude.{◌≡◌, Bool, true, false, cond, ℕ, zero, suc, ◌+◌, ◌≤◌, ◌<◌, max, ltb}
use Rattle.std.proofs.Math.Path.{refl}
use Rattle.std.proofs.Math.Decide.{ℕ_discrete}
use Rattle.std.proofs.Common.{add-one, arith}
use Rattle.laws.specs.Fold.{fold}
use borrow.Author.Tests.{ltb-true, ltb-false, lt-ltb, le-ltb}

-- the largest of f 0, f 1, .. f (n - 1); 0 where there is none
unfoldable pub largest : (ℕ → ℕ) → ℕ → ℕ
largest f zero = 0
largest f (suc i) = cond (ltb (largest f i) (f i)) (f i) (largest f i)

-- steps of a loop that keeps the largest so far
module _ (f : ℕ → ℕ) where
  pub largest_zero : 0 ≡ largest f 0
  unfolding largest
  largest_zero = refl

  module _ (i most : ℕ) (e : most ≡ largest f i) where
    pub largest_up : most < f i → f i ≡ largest f (i + 1)
    unfolding largest
    largest_up l = rw (add-one i, ← e, lt-ltb most (f i) l)

    pub largest_kept : f i ≤ most → most ≡ largest f (i + 1)
    unfolding largest
    largest_kept l = rw (add-one i, ← e, le-ltb most (f i) l)

    pub largest_end : (n : ℕ) → i ≤ n → n ≤ i → most ≡ largest f n
    largest_end n l g = let q : i ≡ n = omega arith in rw q at e

-- no value is above it
pub largest_at : (f : ℕ → ℕ) (n i : ℕ) → i < n → f i ≤ largest f n
unfolding largest
largest_at f zero i l = absurd (omega arith)
largest_at f (suc n) i l = go (λ k. largest_at f n i k) (ℕ_discrete i n) (ltb (largest f n) (f n)) refl
  where
    go : (i < n → f i ≤ largest f n) → Dec (i ≡ n) → (b : Bool) → ltb (largest f n) (f n) ≡ b → f i ≤ cond b (f n) (largest f n)
    go ih (yes q) true e = rw q (omega arith)
    go ih (yes q) false e = rw q (ltb-false (largest f n) (f n) e)
    go ih (no d) true e = omega (arith, ih (omega arith), ltb-true (largest f n) (f n) e)
    go ih (no d) false e = ih (omega arith)

-- a fold that keeps the larger of two comes to it
pub largest_folded : (f : ℕ → ℕ) (n : ℕ) → fold (λ i most. max most (f i)) 0 n ≡ largest f n
unfolding fold largest
largest_folded f zero = refl
largest_folded f (suc n) = rw (largest_folded f n) (larger (largest f n) (f n) (ltb (largest f n) (f n)) refl)
  where
    larger : (a b : ℕ) (c : Bool) → ltb a b ≡ c → max a b ≡ cond c b a
    larger a b true e = omega (arith, ltb-true a b e)
    larger a b false e = omega (arith, ltb-false a b e)
