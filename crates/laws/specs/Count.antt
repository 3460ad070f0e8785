-- A count: how many numbers below n pass a test.
-- Assumes nothing.
use Rattle.std.specs.Prelude.{◌≡◌, ◌≢◌, Bool, true, false, not, ◌&&◌, eqb}
use Rattle.std.proofs.Math.Path.{refl}
use Rattle.std.proofs.Common.{sym, ap, ◌∙◌, add-one, eq-eqb, ne_eqb}
use Prim.Native.Nat.{ℕ, zero, suc, ◌+◌, ◌≤◌, ◌<◌}
use Rattle.std.proofs.Math.Decide.{ℕ_discrete, dec_lt}
use native.Mathlib.Omega.{arith}
use Rattle.laws.specs.Truth.{and_both, and_false, and_true}

-- 1 where a test passes
abbrev pub one : Bool → ℕ
one true = 1
one false = 0

-- how many numbers below n pass p
unfoldable pub count : (ℕ → Bool) → ℕ → ℕ
count p zero = 0
count p (suc i) = one (p i) + count p i

-- one turn of a loop that counts
module _ (p : ℕ → Bool) where
  pub count_zero : count p 0 ≡ 0
  unfolding count
  count_zero = refl

  pub count_yes : (i : ℕ) → p i ≡ true → count p (i + 1) ≡ count p i + 1
  unfolding count
  count_yes i h = rw (add-one i, h) (omega arith)

  pub count_no : (i : ℕ) → p i ≡ false → count p (i + 1) ≡ count p i
  unfolding count
  count_no i h = rw (add-one i, h) (omega arith)

pub one_le : (a b : Bool) → (a ≡ true → b ≡ true) → one a ≤ one b
one_le false b f = omega arith
one_le true b f = rw (f refl) (omega arith)

pub one_max : (a : Bool) → one a ≤ 1
one_max false = omega arith
one_max true = omega arith

-- at most n; no fewer where more pass; more where one more passes; fewer than n where one fails
pub count_max : (p : ℕ → Bool) (n : ℕ) → count p n ≤ n
unfolding count
count_max p zero = omega arith
count_max p (suc n) = omega (arith, count_max p n, one_max (p n))

pub count_le : (p q : ℕ → Bool) (n : ℕ) → ((x : ℕ) → x < n → p x ≡ true → q x ≡ true) → count p n ≤ count q n
unfolding count
count_le p q zero f = omega arith
count_le p q (suc n) f = omega (arith, count_le p q n (λ x l. f x (omega arith)), one_le (p n) (q n) (f n (omega arith)))

pub count_lt : (p q : ℕ → Bool) (n s : ℕ) → ((x : ℕ) → x < n → p x ≡ true → q x ≡ true) → s < n → p s ≡ false → q s ≡ true → count p n < count q n
unfolding count
count_lt p q zero s f l a b = omega arith
count_lt p q (suc n) s f l a b = go (λ k. count_lt p q n s (λ x l. f x (omega arith)) k a b) (ℕ_discrete s n)
  where
    go : (s < n → count p n < count q n) → Dec (s ≡ n) → count p (suc n) < count q (suc n)
    go ih (yes e) = rw (rw e at a, rw e at b) (omega (arith, count_le p q n (λ x l. f x (omega arith))))
    go ih (no d) = omega (arith, ih (omega arith), one_le (p n) (q n) (f n (omega arith)))

pub count_short : (p : ℕ → Bool) (n s : ℕ) → s < n → p s ≡ false → count p n < n
count_short p n s l a = omega (arith, count_lt p (λ _. true) n s (λ x l e. refl) l a refl, count_max (λ _. true) n)

pub count_eq : (p q : ℕ → Bool) (n : ℕ) → ((x : ℕ) → x < n → p x ≡ q x) → count p n ≡ count q n
count_eq p q n f = omega (arith, count_le p q n (λ x l e. sym (f x l) ∙ e), count_le q p n (λ x l e. f x l ∙ e))

pub count_none : (p : ℕ → Bool) (n : ℕ) → ((x : ℕ) → x < n → p x ≡ false) → count p n ≡ 0
unfolding count
count_none p zero f = refl
count_none p (suc n) f = rw (f n (omega arith)) (omega (arith, count_none p n (λ x l. f x (omega arith))))

-- of the numbers that pass c and q, where q passes just below k: as many as pass c below k
pub count_upto : (c q : ℕ → Bool) (k n : ℕ) → k ≤ n → ((x : ℕ) → x < k → q x ≡ true) → ((x : ℕ) → k ≤ x → x < n → q x ≡ false) → count (λ x. c x && q x) n ≡ count c k
unfolding count
count_upto c q k zero l f g = let e : k ≡ 0 = omega arith in rw e
count_upto c q k (suc n) l f g = go (λ m. count_upto c q k n m f (λ x a b. g x a (omega arith))) (ℕ_discrete k (suc n))
  where
    go : (k ≤ n → count (λ x. c x && q x) n ≡ count c k) → Dec (k ≡ suc n) → count (λ x. c x && q x) (suc n) ≡ count c k
    go ih (yes e) = rw e (count_eq (λ x. c x && q x) c (suc n) (λ x m. rw (f x (omega arith)) (and_true (c x))))
    go ih (no z) = rw (g n (omega arith) (omega arith), and_false (c n)) (omega (arith, ih (omega arith)))

-- one more passes, and nothing else changed
pub count_suc : (p q : ℕ → Bool) (n i : ℕ) → i < n → p i ≡ false → q i ≡ true → ((x : ℕ) → x < n → x ≢ i → p x ≡ q x) → count q n ≡ suc (count p n)
unfolding count
count_suc p q zero i l a b f = absurd (omega arith)
count_suc p q (suc n) i l a b f = go (λ k. count_suc p q n i k a b (λ x l. f x (omega arith))) (ℕ_discrete i n)
  where
    go : (i < n → count q n ≡ suc (count p n)) → Dec (i ≡ n) → count q (suc n) ≡ suc (count p (suc n))
    go ih (yes e) = rw (rw e at a, rw e at b) (omega (arith, count_eq p q n (λ x l. f x (omega arith) (omega arith))))
    go ih (no d) = rw (f n (omega arith) (λ q. d (sym q))) (omega (arith, ih (omega arith)))

-- one alone passes: two that pass are the same
pub count_only : (p : ℕ → Bool) (n i j : ℕ) → count p n ≡ 1 → i < n → j < n → p i ≡ true → p j ≡ true → i ≡ j
count_only p n i j e l k a b = go (ℕ_discrete i j)
  where
    r : ℕ → Bool
    r x = p x && not (eqb x i)

    q : ℕ → Bool
    q x = r x && not (eqb x j)

    at_i : r i ≡ false
    at_i = rw (a, eq-eqb i i refl)

    at_j : q j ≡ false
    at_j = rw (eq-eqb j j refl) (and_false (r j))

    keep : (c d : Bool) → d ≡ true → c && d ≡ c
    keep true d f = f
    keep false d f = refl

    one_less : count p n ≡ suc (count r n)
    one_less = count_suc r p n i l at_i a (λ x m d. keep (p x) (not (eqb x i)) (ap not (ne_eqb x i d)))

    go : Dec (i ≡ j) → i ≡ j
    go (yes z) = z
    go (no z) = absurd (omega (arith, one_less, count_suc q r n j k at_j (and_both b (ap not (ne_eqb j i (λ y. z (sym y))))) (λ x m d. keep (r x) (not (eqb x j)) (ap not (ne_eqb x j d)))))

-- the numbers that pass, by how many pass before them: no fewer before a later one, more past one that passes; and each is found by that
module _ (p : ℕ → Bool) where
  pub count_rises : (i n : ℕ) → i ≤ n → count p i ≤ count p n
  unfolding count
  count_rises i zero l = let e : i ≡ 0 = omega arith in rw e (omega arith)
  count_rises i (suc n) l = go (λ k. count_rises i n k) (ℕ_discrete i (suc n))
    where
      go : (i ≤ n → count p i ≤ count p n) → Dec (i ≡ suc n) → count p i ≤ count p (suc n)
      go ih (yes e) = rw e (omega arith)
      go ih (no d) = omega (arith, ih (omega arith))

  pub count_before : (i n : ℕ) → i < n → p i ≡ true → count p i < count p n
  count_before i n l e = omega (arith, count_yes p i e, count_rises (i + 1) n (omega arith))

  pub count_find : (n s : ℕ) → s < count p n → (j : ℕ) × (j < n) × (p j ≡ true) × (count p j ≡ s)
  unfolding count
  count_find zero s l = absurd (omega arith)
  count_find (suc n) s l = go (λ k. count_find n s k) (p n) refl (dec_lt s (count p n))
    where
      Found : ℕ → Type 0
      Found m = (j : ℕ) × (j < m) × (p j ≡ true) × (count p j ≡ s)

      go : (s < count p n → Found n) → (b : Bool) → p n ≡ b → Dec (s < count p n) → Found (suc n)
      go ih b e (yes k) = let (j, m, h, c) = ih k in (j, omega arith, h, c)
      go ih true e (no k) = (n, omega arith, e, omega (arith, rw e at l))
      go ih false e (no k) = absurd (k (omega (arith, rw e at l)))
