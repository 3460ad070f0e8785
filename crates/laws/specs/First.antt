-- A search: the first number below n that passes a test.
-- Assumes nothing.
use Rattle.std.specs.Prelude.{◌≡◌, Bool, true, false, cond, ◌⊎◌, ltb}
use Rattle.std.proofs.Math.Path.{refl}
use Rattle.std.proofs.Common.{sym, ap, ◌∙◌, true≢false, inl, inr, le_of_suc-le-suc, not-suc-le-zero, eq-or-lt_of_le, le_refl, lt_irrefl, add-one}
use Rattle.std.proofs.Math.Logic.{⊎_elim}
use Prim.Native.Nat.{ℕ, zero, suc, ◌+◌, ◌≤◌, ◌<◌}
use Rattle.std.proofs.Math.Decide.{dec_le}
use native.Mathlib.Omega.{arith}
use borrow.Author.Tests.{lt-ltb, le-ltb, ltb-true, ltb-false}

-- one more number: what was found stays; else it is i, or none below i + 1
abbrev pub first_step : (ℕ → Bool) → ℕ → ℕ → ℕ
first_step p i r = cond (ltb r i) r (cond (p i) i (suc i))

-- the first number below n that passes p, or n
unfoldable pub first : (ℕ → Bool) → ℕ → ℕ
first p zero = 0
first p (suc i) = first_step p i (first p i)

-- some number below n passes p
abbrev pub any : (ℕ → Bool) → ℕ → Bool
any p n = ltb (first p n) n

module _ (p : ℕ → Bool) where
  pub first_zero : first p 0 ≡ 0
  unfolding first
  first_zero = refl

  -- none below i, and i fails: none below i + 1
  pub first_more : (i : ℕ) → first p i ≡ i → p i ≡ false → first p (i + 1) ≡ i + 1
  unfolding first
  first_more i e h = rw (add-one, e, le-ltb i i (le_refl i), h)

  first_hit : (i : ℕ) → first p i ≡ i → p i ≡ true → first p (suc i) ≡ i
  unfolding first
  first_hit i e h = rw (e, le-ltb i i (le_refl i), h)

  first_keep : (i r : ℕ) → first p i ≡ r → r < i → first p (suc i) ≡ r
  unfolding first
  first_keep i r e l = rw (e, lt-ltb r i l)

  -- none below i, and i passes: i is the first of any larger bound
  pub first_found : (i n : ℕ) → first p i ≡ i → p i ≡ true → i < n → first p n ≡ i
  first_found i zero e h l = absurd (not-suc-le-zero l)
  first_found i (suc n) e h l =
      ⊎_elim (λ q. rw (← q) (first_hit i e h)) (λ lt. first_keep n i (first_found i n e h lt) lt) (eq-or-lt_of_le (le_of_suc-le-suc l))

  -- the same, and the end of the search, the way round that a loop's result has them
  pub first_at : (i n : ℕ) → first p i ≡ i → p i ≡ true → i < n → i ≡ first p n
  first_at i n e h l = sym (first_found i n e h l)

  pub first_end : (i n : ℕ) → first p i ≡ i → i ≤ n → n ≤ i → n ≡ first p n
  first_end i n e l g = let q : i ≡ n = omega arith in sym (rw q at e)

  -- one more number, by cases: found before, found now, or not found
  first_cases : (i : ℕ) → (first p i ≡ i) ⊎ (first p i < i) → (b : Bool) → p i ≡ b
      → ((first p i < i) × (first p (suc i) ≡ first p i)) ⊎ (((first p i ≡ i) × ((b ≡ true) × (first p (suc i) ≡ i))) ⊎ ((first p i ≡ i) × ((b ≡ false) × (first p (suc i) ≡ suc i))))
  first_cases i (inr l) b h = inl (l, first_keep i (first p i) refl l)
  first_cases i (inl e) true h = inr (inl (e, (refl, first_hit i e h)))
  first_cases i (inl e) false h = inr (inr (e, (refl, (sym (ap (first p) (add-one i)) ∙ first_more i e h ∙ add-one i))))

  pub first_le : (n : ℕ) → first p n ≤ n
  unfolding first
  first_le zero = omega arith
  first_le (suc n) =
      let h = first_le n in
      ⊎_elim (λ w. rw w.1 (omega arith))
      (λ v. ⊎_elim (λ w. rw w.1.1 (omega arith)) (λ w. rw w.1.1 (omega arith)) v)
      (first_cases n (eq-or-lt_of_le h) (p n) refl)

  -- what was found passes
  pub first_passes : (n : ℕ) → first p n < n → p (first p n) ≡ true
  first_passes zero l = absurd (not-suc-le-zero l)
  first_passes (suc n) l =
      ⊎_elim (λ w. rw w.1 (first_passes n w.0))
      (λ v. ⊎_elim (λ w. rw w.1.1 w.1.0) (λ w. absurd (lt_irrefl (suc n) (rw w.1.1 at l))) v)
      (first_cases n (eq-or-lt_of_le (first_le n)) (p n) refl)

  -- nothing before it does
  pub first_before : (n k : ℕ) → k < first p n → p k ≡ false
  unfolding first
  first_before zero k l = absurd (not-suc-le-zero l)
  first_before (suc n) k l =
      ⊎_elim (λ w. first_before n k (rw w.1 at l))
      (λ v. ⊎_elim (λ w. first_before n k (rw w.0 (rw w.1.1 at l)))
      (λ w. ⊎_elim (λ q. rw q w.1.0) (λ lt. first_before n k (rw w.0 lt)) (eq-or-lt_of_le (le_of_suc-le-suc (rw w.1.1 at l))))
      v)
      (first_cases n (eq-or-lt_of_le (first_le n)) (p n) refl)

  -- none below i: the first isn't below i
  pub first_from : (i n : ℕ) → first p i ≡ i → i ≤ n → i ≤ first p n
  first_from i n e l = go (dec_le i (first p n))
    where
      go : Dec (i ≤ first p n) → i ≤ first p n
      go (yes g) = g
      go (no z) = absurd (true≢false (sym (first_passes n (omega arith)) ∙ first_before i (first p n) (omega (arith, e))))

  -- where nothing passes, nothing is found
  pub first_none : (n : ℕ) → ((x : ℕ) → x < n → p x ≡ false) → first p n ≡ n
  first_none n f = ⊎_elim (λ q. q) (λ l. absurd (true≢false (sym (first_passes n l) ∙ f (first p n) l))) (eq-or-lt_of_le (first_le n))

  -- whether any passes, by what it says of every number
  pub any_none : (n : ℕ) → any p n ≡ false → (x : ℕ) → x < n → p x ≡ false
  any_none n e x l = first_before n x (omega (arith, ltb-false (first p n) n e))

  pub any_some : (n : ℕ) → any p n ≡ true → (x : ℕ) × (x < n) × (p x ≡ true)
  any_some n e = let l = ltb-true (first p n) n e in (first p n, l, first_passes n l)

  pub any_not : (n : ℕ) → ((x : ℕ) → x < n → p x ≡ false) → any p n ≡ false
  any_not n f = le-ltb (first p n) n (omega (arith, first_none n f))

  pub any_of : (n x : ℕ) → x < n → p x ≡ true → any p n ≡ true
  any_of n x l e = go (any p n) refl
    where
      go : (b : Bool) → any p n ≡ b → any p n ≡ true
      go true q = q
      go false q = absurd (true≢false (sym e ∙ any_none n q x l))

-- two tests that agree below n have the same first
pub first_same : (p q : ℕ → Bool) (n : ℕ) → ((x : ℕ) → x < n → p x ≡ q x) → first p n ≡ first q n
unfolding first
first_same p q zero f = refl
first_same p q (suc n) f = rw (first_same p q n (λ x l. f x (omega arith)), f n (omega arith))
