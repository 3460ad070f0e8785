-- A loop that changes a state, going over the numbers below n from 0 upwards.
-- Assumes nothing.
use Rattle.std.specs.Prelude.{◌≡◌, refl, ℕ, zero, suc, ◌+◌, ◌≤◌, ◌<◌}
use Rattle.std.proofs.Common.{ap, ◌∙◌, ⊎_elim, le_of_suc-le-suc, eq-or-lt_of_le, add-one, arith}

-- a, then f 0 of it, then f 1 of that, and so on to f (n - 1)
unfoldable pub fold : {S : Type 0} → (ℕ → S → S) → S → ℕ → S
fold f a zero = a
fold f a (suc i) = f i (fold f a i)

pub fold_zero : {S : Type 0} (f : ℕ → S → S) (a : S) → fold f a 0 ≡ a
unfolding fold
fold_zero f a = refl

pub fold_more : {S : Type 0} (f : ℕ → S → S) (a : S) (i : ℕ) → fold f a (i + 1) ≡ f i (fold f a i)
unfolding fold
fold_more f a i = rw add-one

-- what no turn changes is at the end as it was at the start
pub fold_keeps : {S T : Type 0} (f : ℕ → S → S) (g : S → T) → ((i : ℕ) (s : S) → g (f i s) ≡ g s) → (a : S) (n : ℕ) → g (fold f a n) ≡ g a
unfolding fold
fold_keeps f g h a zero = refl
fold_keeps f g h a (suc n) = h n (fold f a n) ∙ fold_keeps f g h a n

-- what holds at the start and stays through each turn holds at the end
pub fold_stays : {S : Type 0} (f : ℕ → S → S) (P : S → Type 0) (a : S) (n : ℕ) → ((i : ℕ) (s : S) → i < n → P s → P (f i s)) → P a → P (fold f a n)
unfolding fold
fold_stays f P a zero h p = p
fold_stays f P a (suc n) h p = h n (fold f a n) (omega arith) (fold_stays f P a n (λ i s l. h i s (omega arith)) p)

-- a state that no turn changes any more is the last one
pub fold_still : {S : Type 0} (f : ℕ → S → S) (a : S) (i n : ℕ) → i ≤ n → ((j : ℕ) → f j (fold f a i) ≡ fold f a i) → fold f a n ≡ fold f a i
unfolding fold
fold_still f a i zero l h = let q : i ≡ 0 = omega arith in rw q
fold_still f a i (suc n) l h =
    ⊎_elim (λ q. rw q) (λ k. ap (f n) (fold_still f a i n (le_of_suc-le-suc k) h) ∙ h n) (eq-or-lt_of_le l)
