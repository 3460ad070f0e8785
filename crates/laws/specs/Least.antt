-- A choice: the number below n that passes a test with the smallest key, the lowest number among equals.
-- Assumes nothing.
use Rattle.std.specs.Prelude.{◌≡◌, Bool, cond, ◌⊎◌, ltb, eqb}
use Rattle.std.proofs.Math.Path.{refl, sym}
use Rattle.std.proofs.Common.{◌∙◌, true≢false, inr, ⊎_elim, le_of_suc-le-suc, not-suc-le-zero, eq-or-lt_of_le, add-one}
use Rattle.std.proofs.Math.Bool.{true, false}
use Rattle.std.proofs.Math.Logic.{inl}
use Prim.Native.Nat.{ℕ, zero, suc, ◌+◌, ◌≤◌, ◌<◌}
use Rattle.std.proofs.Math.Decide.{ℕ_discrete, dec_le, dec_lt}
use native.Mathlib.Omega.{arith}
use borrow.Author.Tests.{lt-ltb, le-ltb, eq-eqb, ne_eqb, eqb-false, ltb-true, ltb-false}

-- what holds of the numbers below i, and of i, holds of the numbers up to i
pub below_more : {P : ℕ → Type 0} (i : ℕ) → ((x : ℕ) → x < i → P x) → P i → (x : ℕ) → x < suc i → P x
below_more {P} i f a x l = ⊎_elim (λ q. rw q a) (λ k. f x k) (eq-or-lt_of_le (le_of_suc-le-suc l))

-- one more number: i wins where it passes, and nothing was chosen before or its key is smaller
abbrev pub least_step : (ℕ → Bool) → (ℕ → ℕ) → ℕ → ℕ → ℕ → ℕ
least_step p key none i b = cond (p i) (cond (eqb b none) i (cond (ltb (key i) (key b)) i b)) b

-- the number below n that passes p with the smallest key, the lowest among equals; or none
unfoldable pub least : (ℕ → Bool) → (ℕ → ℕ) → ℕ → ℕ → ℕ
least p key none zero = none
least p key none (suc i) = least_step p key none i (least p key none i)

-- what a loop that looks for the least knows at i: b is the least so far, and k its key
pub record Best (p : ℕ → Bool) (key : ℕ → ℕ) (none i b k : ℕ) : Type 0 where
  pub at : b ≡ least p key none i
  pub known : (b ≡ none → ⊥) → k ≡ key b

module _ (p : ℕ → Bool) (key : ℕ → ℕ) (none : ℕ) where
  pub best_zero : (k : ℕ) → Best p key none 0 none k
  unfolding least
  best_zero k = record { at = refl; known = λ h. absurd (h refl) }

  pub best_end : (i n b k : ℕ) → Best p key none i b k → i ≤ n → n ≤ i → b ≡ least p key none n
  best_end i n b k c l g = let q : i ≡ n = omega arith in rw q at c.at

  module _ (i b k : ℕ) (c : Best p key none i b k) where
    -- i fails
    pub best_skip : p i ≡ false → Best p key none (i + 1) b k
    unfolding least
    best_skip h = record { at = rw (add-one, h) c.at; known = c.known }

    -- i can't win, whether it passes or not
    least_lost : (b ≡ none → ⊥) → k ≤ key i → (t : Bool) → p i ≡ t → b ≡ least p key none (i + 1)
    unfolding least
    least_lost z l false h = rw (add-one, h) c.at
    least_lost z l true h = rw (add-one, h, ← c.at, ne_eqb b none z, le-ltb (key i) (key b) (rw (← c.known z) l))

    pub best_lost : (b ≡ none → ⊥) → k ≤ key i → Best p key none (i + 1) b k
    best_lost z l = record { at = least_lost z l (p i) refl; known = c.known }

    -- i passes, and nothing was chosen before or its key is smaller
    least_won : p i ≡ true → (b ≡ none) ⊎ ((b ≡ none → ⊥) × (key i < k)) → i ≡ least p key none (i + 1)
    unfolding least
    least_won h (inl z) = rw (add-one, h, ← c.at, eq-eqb b none z)
    least_won h (inr z) = rw (add-one, h, ← c.at, ne_eqb b none z.0, lt-ltb (key i) (key b) (rw (← c.known z.0) z.1))

    pub best_won : p i ≡ true → (b ≡ none) ⊎ ((b ≡ none → ⊥) × (key i < k)) → Best p key none (i + 1) i (key i)
    best_won h w = record { at = least_won h w; known = λ _. refl }

  -- what was chosen passes
  step_passes : (i b : ℕ) (t : Bool) → p i ≡ t → ((b ≡ none → ⊥) → p b ≡ true) → (least_step p key none i b ≡ none → ⊥) → p (least_step p key none i b) ≡ true
  step_passes i b false e h n = rw e (h (rw e at n))
  step_passes i b true e h n = rw e (go (eqb b none) refl (ltb (key i) (key b)) refl)
    where
      go : (u : Bool) → eqb b none ≡ u → (v : Bool) → ltb (key i) (key b) ≡ v → p (cond (eqb b none) i (cond (ltb (key i) (key b)) i b)) ≡ true
      go true eu v ev = rw eu e
      go false eu true ev = rw (eu, ev) e
      go false eu false ev = rw (eu, ev) (h (eqb-false b none eu))

  pub least_passes : (n : ℕ) → (least p key none n ≡ none → ⊥) → p (least p key none n) ≡ true
  unfolding least
  least_passes zero h = absurd (h refl)
  least_passes (suc i) h = step_passes i (least p key none i) (p i) refl (least_passes i) h

  -- b is none, and nothing below n passes; or b passes, and no key of a number that passes is smaller than its key
  abbrev pub IsLeast : ℕ → ℕ → Type 0
  IsLeast n b = ((b ≡ none) × ((x : ℕ) → x < n → p x ≡ false)) ⊎ ((b < n) × (p b ≡ true) × ((x : ℕ) → x < n → p x ≡ true → key b ≤ key x))

  step_is : (i b : ℕ) → i < none → IsLeast i b → (t : Bool) → p i ≡ t → IsLeast (suc i) (least_step p key none i b)
  step_is i b l (inl (e, f)) false q = rw q (inl (e, below_more i f q))
  step_is i b l (inl (e, f)) true q =
      rw (q, eq-eqb b none e) (inr (omega arith, q, below_more {P = λ x. p x ≡ true → key i ≤ key x} i (λ x k y. absurd (true≢false (sym y ∙ f x k))) (λ y. omega arith)))
  step_is i b l (inr (k, y, f)) false q = rw q (inr (omega arith, y, below_more {P = λ x. p x ≡ true → key b ≤ key x} i f (λ z. absurd (true≢false (sym z ∙ q)))))
  step_is i b l (inr (k, y, f)) true q = rw (q, ne_eqb b none (λ z. omega arith)) (go (ltb (key i) (key b)) refl)
    where
      go : (c : Bool) → ltb (key i) (key b) ≡ c → IsLeast (suc i) (cond c i b)
      go true e = let less = ltb-true (key i) (key b) e in
          inr (omega arith, q, below_more {P = λ x. p x ≡ true → key i ≤ key x} i (λ x j z. omega (arith, f x j z)) (λ z. omega arith))
      go false e = inr (omega arith, y, below_more {P = λ x. p x ≡ true → key b ≤ key x} i f (λ z. ltb-false (key i) (key b) e))

  pub least_is : (n : ℕ) → n ≤ none → IsLeast n (least p key none n)
  unfolding least
  least_is zero l = inl (refl, λ x k. absurd (not-suc-le-zero k))
  least_is (suc i) l = step_is i (least p key none i) l (least_is i (omega arith)) (p i) refl

  -- what was chosen is below n; where nothing below n was chosen, none passes
  pub least_below : (n : ℕ) → n ≤ none → (least p key none n ≡ none → ⊥) → least p key none n < n
  least_below n l z = ⊎_elim (λ w. absurd (z w.0)) (λ w. w.0) (least_is n l)

  pub least_nothing : (n : ℕ) → n ≤ none → n ≤ least p key none n → (x : ℕ) → x < n → p x ≡ false
  least_nothing n l e = ⊎_elim (λ w. w.1) (λ w. absurd (omega (arith, w.0))) (least_is n l)

  -- what is least is the lowest of its key: a lower number that passes has a larger key
  lowest_step : (i b : ℕ) → i < none → IsLeast i b → ((b ≡ none → ⊥) → (x : ℕ) → x < b → p x ≡ true → key b < key x) → (t : Bool) → p i ≡ t
      → (x : ℕ) → x < least_step p key none i b → p x ≡ true → (least_step p key none i b ≡ none → ⊥) → key (least_step p key none i b) < key x
  lowest_step i b l g h false q x k y n = rw q (h (rw q at n) x (rw q at k) y)
  lowest_step i b l (inl (e, f)) h true q x k y n = absurd (true≢false (sym y ∙ f x (rw (q, eq-eqb b none e) at k)))
  lowest_step i b l (inr (m, z, f)) h true q x k y n = rw (q, ne_eqb b none away) (go (ltb (key i) (key b)) refl (rw (q, ne_eqb b none away) at k))
    where
      away : b ≡ none → ⊥
      away e = omega arith

      go : (c : Bool) → ltb (key i) (key b) ≡ c → x < cond c i b → key (cond c i b) < key x
      go true e j = omega (arith, ltb-true (key i) (key b) e, f x j y)
      go false e j = h away x j y

  pub least_lowest : (n : ℕ) → n ≤ none → (least p key none n ≡ none → ⊥) → (x : ℕ) → x < least p key none n → p x ≡ true → key (least p key none n) < key x
  unfolding least
  least_lowest zero l n x k y = absurd (n refl)
  least_lowest (suc i) l n x k y =
      lowest_step i (least p key none i) l (least_is i (omega arith)) (least_lowest i (omega arith)) (p i) refl x k y n

  -- where nothing below n passes, nothing is chosen
  pub least_none : (n : ℕ) → n ≤ none → ((x : ℕ) → x < n → p x ≡ false) → least p key none n ≡ none
  least_none n l f = ⊎_elim (λ w. w.0) (λ w. absurd (true≢false (sym w.1 ∙ f (least p key none n) w.0))) (least_is n l)

  -- no key of what passes is smaller than that of what was chosen
  pub least_smallest : (n x : ℕ) → n ≤ none → x < n → p x ≡ true → key (least p key none n) ≤ key x
  least_smallest n x l k y = ⊎_elim (λ w. absurd (true≢false (sym y ∙ w.1 x k))) (λ w. w.2 x k y) (least_is n l)

  -- numbers that fail leave it as it was
  pub least_stays : (i n : ℕ) → i ≤ n → ((x : ℕ) → i ≤ x → x < n → p x ≡ false) → least p key none n ≡ least p key none i
  unfolding least
  least_stays i zero l f = let q : i ≡ 0 = omega arith in rw q
  least_stays i (suc n) l f = go (λ m. least_stays i n m (λ x a b. f x a (omega arith))) (ℕ_discrete i (suc n))
    where
      go : (i ≤ n → least p key none n ≡ least p key none i) → Dec (i ≡ suc n) → least p key none (suc n) ≡ least p key none i
      go ih (yes e) = rw e
      go ih (no z) = rw (f n (omega arith) (omega arith)) (ih (omega arith))

  -- a loop may start at i where nothing before i passes, and end at i where nothing between i and n does
  pub best_from : (i k : ℕ) → ((x : ℕ) → x < i → p x ≡ false) → Best p key none i none k
  unfolding least
  best_from i k f = record { at = sym (least_stays 0 i (omega arith) (λ x a b. f x b)); known = λ h. absurd (h refl) }

  pub best_past : (i n b k : ℕ) → Best p key none i b k → ((x : ℕ) → i ≤ x → x < n → p x ≡ false) → ((x : ℕ) → n ≤ x → x < i → p x ≡ false) → b ≡ least p key none n
  best_past i n b k c f g = go (dec_le i n)
    where
      go : Dec (i ≤ n) → b ≡ least p key none n
      go (yes l) = c.at ∙ sym (least_stays i n l f)
      go (no z) = c.at ∙ least_stays n i (omega arith) g

module _ (key : ℕ → ℕ) where
  -- the order by key and number: t's key is larger than s's, or the same and its number larger
  abbrev pub After : ℕ → ℕ → Type 0
  After s t = (key s < key t) ⊎ ((key s ≡ key t) × (s < t))

  pub after_on : (s t u : ℕ) → After s t → After t u → After s u
  after_on s t u (inl a) (inl c) = inl (omega arith)
  after_on s t u (inl a) (inr c) = inl (omega arith)
  after_on s t u (inr a) (inl c) = inl (omega arith)
  after_on s t u (inr a) (inr c) = inr (omega arith, omega arith)

  pub after_not : (s : ℕ) → After s s → ⊥
  after_not s (inl a) = omega arith
  after_not s (inr a) = omega arith

-- what is least comes before all others that pass; and what does so is least
module _ (p : ℕ → Bool) (key : ℕ → ℕ) (none n : ℕ) (l : n ≤ none) where
  pub least_after : (least p key none n ≡ none → ⊥) → (x : ℕ) → x < n → p x ≡ true → (x ≡ least p key none n → ⊥) → After key (least p key none n) x
  least_after z x k y d = go (dec_lt (key (least p key none n)) (key x)) (dec_lt x (least p key none n))
    where
      go : Dec (key (least p key none n) < key x) → Dec (x < least p key none n) → After key (least p key none n) x
      go (yes a) _ = inl a
      go (no a) (yes c) = absurd (a (least_lowest p key none n l z x c y))
      go (no a) (no c) = inr (omega (arith, least_smallest p key none n x l k y), omega (arith, d))

  pub least_only : (b : ℕ) → b < n → p b ≡ true → ((x : ℕ) → x < n → p x ≡ true → (x ≡ b → ⊥) → After key b x) → least p key none n ≡ b
  least_only b k y f = go (ℕ_discrete (least p key none n) b)
    where
      some : least p key none n ≡ none → ⊥
      some e = true≢false (sym y ∙ least_nothing p key none n l (omega arith) b k)

      go : Dec (least p key none n ≡ b) → least p key none n ≡ b
      go (yes e) = e
      go (no d) =
          absurd (after_not key b (after_on key b (least p key none n) b
          (f (least p key none n) (least_below p key none n l some) (least_passes p key none n some) d)
          (least_after some b k y (λ e. d (sym e)))))

-- two tests that agree below n, with keys that agree where they pass, have the same least
pub least_same : (p q : ℕ → Bool) (key key' : ℕ → ℕ) (none n : ℕ) → n ≤ none → ((x : ℕ) → x < n → p x ≡ q x) → ((x : ℕ) → x < n → q x ≡ true → key x ≡ key' x)
    → least p key none n ≡ least q key' none n
least_same p q key key' none n l f g = go (ℕ_discrete (least q key' none n) none)
  where
    b : ℕ
    b = least q key' none n

    go : Dec (b ≡ none) → least p key none n ≡ b
    go (yes e) = least_none p key none n l (λ x k. f x k ∙ least_nothing q key' none n l (omega arith) x k) ∙ sym e
    go (no z) = least_only p key none n l b low (f b low ∙ passes) (λ x k y d. turn x k (sym (f x k) ∙ y) (least_after q key' none n l z x k (sym (f x k) ∙ y) d))
      where
        low : b < n
        low = least_below q key' none n l z

        passes : q b ≡ true
        passes = least_passes q key' none n z

        turn : (x : ℕ) → x < n → q x ≡ true → After key' b x → After key b x
        turn x k y (inl a) = inl (omega (arith, g x k y, g b low passes))
        turn x k y (inr a) = inr (omega (arith, g x k y, g b low passes), omega arith)
