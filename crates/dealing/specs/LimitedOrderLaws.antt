-- The order in which a limited Take tries the open states other than the goal. Each next one comes after the last, so that the trying ends.
use Rattle.std.specs.Prelude.{◌≡◌, Bool, true, false, cond, ◌&&◌, not, List, [], ◌∷◌, ◌⊎◌, eqb}
use Rattle.std.proofs.Math.Path.{refl}
use Rattle.std.proofs.Common.{sym, ap, ◌∙◌, arith}
use Rattle.std.proofs.Math.Logic.{inl, inr, ⊎_elim}
use Prim.Native.Nat.{ℕ, zero, suc, ◌+◌, ◌≤◌, ◌<◌}
use borrow.Author.Tests.{eq-eqb, ne_eqb, eqb-true, eqb-false, not-true}
use Rattle.laws.specs.Truth.{and_left, and_right, and_both, and_false, or_either, or_second}
use Rattle.laws.specs.Count.{count, count_lt, count_short}
use Rattle.laws.specs.Least.{least_is, After, after_on, after_not}
use Rattle.rule.specs.Marks.{is_open}
use Rattle.dealing.specs.Board.{Board, mark_at, key}
use Rattle.dealing.specs.Limited.{Trial, stops_at, comparisons, follows, next, others, tried}
use Rattle.dealing.specs.LimitedRowLaws.{after_says, after_of}

-- s is an open state other than the goal
pub record Other (goal : ℕ) (b : Board) (s : ℕ) : Type 0 where
  pub below : s < b.n
  pub waits : is_open (mark_at b s) ≡ true
  pub apart : s ≡ goal → ⊥

module _ (goal pull : ℕ) (b : Board) where
  -- trying the others from s on, until one passes
  unfoldable pub onward : ℕ → Trial
  onward s = tried goal pull b (others goal pull b b.n s)

  -- `follows`, by what it says of the keys
  pub follows_says : (s t : ℕ) → (s ≡ b.n → ⊥) → follows goal pull b s t ≡ true → After (key goal pull b) s t
  unfolding follows
  follows_says s t z e = ⊎_elim (λ q. absurd (z (eqb-true s b.n q))) (λ q. after_says (key goal pull b s) (key goal pull b t) s t q) (or_either (eqb s b.n) _ e)

  pub follows_of : (s t : ℕ) → After (key goal pull b) s t → follows goal pull b s t ≡ true
  unfolding follows
  follows_of s t a = or_second (eqb s b.n) _ (after_of (key goal pull b s) (key goal pull b t) s t a)

  follows_self : (s : ℕ) → (s ≡ b.n → ⊥) → follows goal pull b s s ≡ false
  follows_self s z = go (follows goal pull b s s) refl
    where
      go : (v : Bool) → follows goal pull b s s ≡ v → follows goal pull b s s ≡ false
      go true e = absurd (after_not (key goal pull b) s (follows_says s s z e))
      go false e = e

  -- after n come all
  pub follows_all : (t : ℕ) → follows goal pull b b.n t ≡ true
  unfolding follows
  follows_all t = rw (eq-eqb b.n b.n refl)

  -- t is one of the others and comes after s
  abbrev pub comes : ℕ → ℕ → Bool
  comes s t = is_open (mark_at b t) && (not (eqb t goal) && follows goal pull b s t)

  pub comes_of : (s t : ℕ) → Other goal b t → follows goal pull b s t ≡ true → comes s t ≡ true
  comes_of s t o e = and_both o.waits (and_both (ap not (ne_eqb t goal o.apart)) e)

  pub comes_other : (s t : ℕ) → t < b.n → comes s t ≡ true → Other goal b t
  comes_other s t l e = record {
    below = l;
    waits = and_left _ _ e;
    apart = eqb-false t goal (not-true _ (and_left (not (eqb t goal)) _ (and_right (is_open (mark_at b t)) _ e)));
  }

  comes_follows : (s t : ℕ) → comes s t ≡ true → follows goal pull b s t ≡ true
  comes_follows s t e = and_right (not (eqb t goal)) _ (and_right (is_open (mark_at b t)) _ e)

  -- the next is one of the others and comes after s; or there is none
  next_is : (s : ℕ) → (next goal pull b s ≡ b.n) ⊎ (Other goal b (next goal pull b s) × (follows goal pull b s (next goal pull b s) ≡ true))
  unfolding next
  next_is s = ⊎_elim (λ w. inl w.0) (λ w. inr (comes_other s _ w.0 w.1, comes_follows s _ w.1)) (least_is (comes s) (key goal pull b) b.n b.n (omega arith))

  pub next_on : (s : ℕ) → (next goal pull b s ≡ b.n) ⊎ Other goal b (next goal pull b s)
  next_on s = ⊎_elim (λ e. inl e) (λ w. inr w.0) (next_is s)

  pub next_low : (s : ℕ) → next goal pull b s ≤ b.n
  next_low s = ⊎_elim (λ e. omega arith) (λ o. omega (arith, o.below)) (next_on s)

  -- s doesn't come after itself, and what comes after t comes after whatever t comes after
  pub away : (s : ℕ) → Other goal b s → s ≡ b.n → ⊥
  away s o e = omega (arith, o.below)

  pub comes_self : (s : ℕ) → Other goal b s → comes s s ≡ false
  comes_self s o = rw (follows_self s (away s o), and_false (not (eqb s goal))) (and_false (is_open (mark_at b s)))

  comes_fewer : (s t : ℕ) → Other goal b s → Other goal b t → follows goal pull b s t ≡ true → count (comes t) b.n < count (comes s) b.n
  comes_fewer s t o u e =
      count_lt (comes t) (comes s) b.n t
      (λ x l q. comes_of s x (comes_other t x l q) (follows_of s x (after_on (key goal pull b) s t x (follows_says s t (away s o) e) (follows_says t x (away t u) (comes_follows t x q)))))
      u.below (comes_self t u) (comes_of s t u e)

  -- how many are tried from s on at most: s itself, and those that come after it
  unfoldable pub rank : ℕ → ℕ
  rank s = cond (eqb s b.n) 0 (suc (count (comes s) b.n))

  pub rank_none : (s : ℕ) → s ≡ b.n → rank s ≡ 0
  unfolding rank
  rank_none s e = rw (eq-eqb s b.n e)

  pub rank_some : (s : ℕ) → Other goal b s → rank s ≡ suc (count (comes s) b.n)
  unfolding rank
  rank_some s o = rw (ne_eqb s b.n (away s o))

  -- fewer from the next on
  pub rank_next : (s : ℕ) → Other goal b s → rank (next goal pull b s) < rank s
  rank_next s o =
      ⊎_elim (λ e. omega (arith, rank_some s o, rank_none (next goal pull b s) e))
      (λ w. omega (arith, rank_some s o, rank_some (next goal pull b s) w.0, comes_fewer s (next goal pull b s) o w.0 w.1)) (next_is s)

  -- no more than there are states
  rank_few : (s : ℕ) → (s ≡ b.n) ⊎ Other goal b s → rank s ≤ b.n
  rank_few s (inl e) = omega (arith, rank_none s e)
  rank_few s (inr o) = omega (arith, rank_some s o, count_short (comes s) b.n s o.below (comes_self s o))

  -- so there are enough turns to try all of the others from s on
  pub others_none : (more s : ℕ) → s ≡ b.n → others goal pull b more s ≡ []
  unfolding others
  others_none zero s e = refl
  others_none (suc more) s e = rw (eq-eqb s b.n e)

  pub others_some : (more s : ℕ) → Other goal b s → others goal pull b (suc more) s ≡ s ∷ others goal pull b more (next goal pull b s)
  unfolding others
  others_some more s o = rw (ne_eqb s b.n (away s o))

  others_same : (i j s : ℕ) → (s ≡ b.n) ⊎ Other goal b s → rank s ≤ i → rank s ≤ j → others goal pull b i s ≡ others goal pull b j s
  others_same zero j s w l m = ⊎_elim (λ e. others_none zero s e ∙ sym (others_none j s e)) (λ o. absurd (omega (arith, rank_some s o))) w
  others_same (suc i) zero s w l m = ⊎_elim (λ e. others_none (suc i) s e ∙ sym (others_none zero s e)) (λ o. absurd (omega (arith, rank_some s o))) w
  others_same (suc i) (suc j) s w l m =
      ⊎_elim (λ e. others_none (suc i) s e ∙ sym (others_none (suc j) s e))
      (λ o. others_some i s o ∙ ap (λ (r : List ℕ). s ∷ r) (others_same i j (next goal pull b s) (next_on s) (omega (arith, rank_next s o)) (omega (arith, rank_next s o))) ∙ sym (others_some j s o))
      w

  pub onward_none : (s : ℕ) → s ≡ b.n → onward s ≡ record { chosen = b.n; made = 0 }
  unfolding onward tried
  onward_none s e = rw (others_none b.n s e)

  module _ (s : ℕ) (o : Other goal b s) where
    onward_list : others goal pull b b.n s ≡ s ∷ others goal pull b b.n (next goal pull b s)
    onward_list = go b.n refl
      where
        go : (k : ℕ) → b.n ≡ k → others goal pull b b.n s ≡ s ∷ others goal pull b b.n (next goal pull b s)
        go zero e = absurd (omega (arith, o.below))
        go (suc k) e =
            ap (λ (i : ℕ). others goal pull b i s) e ∙ others_some k s o
            ∙ ap (λ (r : List ℕ). s ∷ r) (others_same k b.n (next goal pull b s) (next_on s) (omega (arith, rank_next s o, rank_few s (inr o))) (rank_few (next goal pull b s) (next_on s)))

    -- s passes, or the next is tried
    pub onward_passed : stops_at goal pull b s ≡ b.n → onward s ≡ record { chosen = s; made = comparisons goal pull b s }
    unfolding onward tried
    onward_passed e = rw (onward_list, eq-eqb (stops_at goal pull b s) b.n e)

    pub onward_held : (stops_at goal pull b s ≡ b.n → ⊥)
        → onward s ≡ record { chosen = (onward (next goal pull b s)).chosen; made = comparisons goal pull b s + (onward (next goal pull b s)).made }
    unfolding onward tried
    onward_held z = rw (onward_list, ne_eqb (stops_at goal pull b s) b.n z)
