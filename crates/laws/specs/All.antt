-- A check: every number below n passes a test.
-- Assumes nothing.
use Rattle.std.specs.Prelude.{◌≡◌, Bool, true, false, ◌&&◌}
use Rattle.std.proofs.Math.Path.{refl}
use Rattle.std.proofs.Common.{sym, le_of_suc-le-suc, not-suc-le-zero, eq-or-lt_of_le, add-one, arith}
use Rattle.std.proofs.Math.Logic.{⊎_elim}
use Prim.Native.Nat.{ℕ, zero, suc, ◌+◌, ◌≤◌, ◌<◌}
use Rattle.laws.specs.Truth.{and_left, and_right, and_both, and_false, and_true}

-- every number below n passes p
unfoldable pub all : (ℕ → Bool) → ℕ → Bool
all p zero = true
all p (suc i) = all p i && p i

module _ (p : ℕ → Bool) where
  pub all_zero : all p 0 ≡ true
  unfolding all
  all_zero = refl

  pub all_more : (i : ℕ) → all p i ≡ true → p i ≡ true → all p (i + 1) ≡ true
  unfolding all
  all_more i e h = rw (add-one, e, h)

  -- one that fails settles it
  pub all_stop : (i n : ℕ) → p i ≡ false → i < n → false ≡ all p n
  unfolding all
  all_stop i zero h l = absurd (not-suc-le-zero l)
  all_stop i (suc n) h l =
      ⊎_elim (λ q. rw (← q, h) (sym (and_false (all p i)))) (λ lt. rw (← all_stop i n h lt)) (eq-or-lt_of_le (le_of_suc-le-suc l))

  pub all_end : (i n : ℕ) → all p i ≡ true → i ≤ n → n ≤ i → true ≡ all p n
  all_end i n e l g = let q : i ≡ n = omega arith in sym (rw q at e)

  -- a loop that goes on to the end and keeps what it has seen so far
  pub all_kept : (i : ℕ) (b : Bool) → b ≡ all p i → p i ≡ true → b ≡ all p (i + 1)
  unfolding all
  all_kept i b e h = rw (add-one, h, ← e) (sym (and_true b))

  pub all_lost : (i : ℕ) → p i ≡ false → false ≡ all p (i + 1)
  unfolding all
  all_lost i h = rw (add-one, h) (sym (and_false (all p i)))

  pub all_whole : (i n : ℕ) (b : Bool) → b ≡ all p i → i ≤ n → n ≤ i → b ≡ all p n
  all_whole i n b e l g = let q : i ≡ n = omega arith in rw q at e

  -- what a caller has of a check that passed
  pub all_at : (n i : ℕ) → all p n ≡ true → i < n → p i ≡ true
  unfolding all
  all_at zero i e l = absurd (not-suc-le-zero l)
  all_at (suc n) i e l =
      ⊎_elim (λ q. rw q (and_right (all p n) (p n) e)) (λ lt. all_at n i (and_left (all p n) (p n) e) lt) (eq-or-lt_of_le (le_of_suc-le-suc l))

  -- and what makes one pass
  pub all_of : (n : ℕ) → ((x : ℕ) → x < n → p x ≡ true) → all p n ≡ true
  unfolding all
  all_of zero f = refl
  all_of (suc n) f = and_both (all_of n (λ x l. f x (omega arith))) (f n (omega arith))

-- tests that agree below n make the same check
pub all_same : (p q : ℕ → Bool) (n : ℕ) → ((x : ℕ) → x < n → p x ≡ q x) → all p n ≡ all q n
unfolding all
all_same p q zero f = refl
all_same p q (suc n) f = rw (all_same p q n (λ x l. f x (omega arith)), f n (omega arith))
