-- Order 7: a limited Take "otherwise replies as Take does", on a task that opening accepted. A state whose key isn't smaller never holds a candidate back, so leaving it out of the test changes no answer;
-- and the first candidate that passes is the safe state with the smallest key, the lowest number among equals.
use Rattle.std.specs.Prelude.{◌≡◌, Bool, ◌&&◌, ◌||◌, ◌⊎◌, ℕ, zero, suc, ◌+◌, ◌*◌, ◌≤◌, ◌<◌}
use Rattle.std.proofs.Math.Path.{refl}
use Rattle.std.proofs.Common.{sym, ap, ◌∙◌, true≢false, inl, inr, ⊎_elim, arith}
use Rattle.std.proofs.Math.Bool.{true, false, cond, not}
use Rattle.std.proofs.Math.Nat.{mul-le-mul_left, mul-le-mul_right}
use Rattle.std.proofs.Math.Decide.{ℕ_discrete}
use borrow.Author.Tests.{eq-eqb, ne_eqb, eqb-true, ltb-false}
use Rattle.std.proofs.Math.Dec.{ltb}
use Rattle.laws.specs.Truth.{and_left, and_right, and_both, and_false, or_either, or_second, never_true}
use Rattle.laws.specs.First.{first_same}
use Rattle.laws.specs.Least.{least, least_nothing, least_none, After, least_after, least_only, least_same}
use Rattle.rule.specs.Marks.{out, is_open, is_out}
use Rattle.dealing.specs.Board.{Board, mark_at, label_at, h, depends_on, first_dependence, safe, key, choice, foremost, any_open, first_marked}
use Rattle.dealing.specs.Decision.{waited_for, decision}
use Rattle.dealing.specs.Laws.{depends_apart, depends_live, depends_behind, foremost_in, foremost_any}
use Rattle.dealing.specs.Limited.{Trial, compared, stops_at, passes, next, candidates, tried, stopped_by, limited_decision}
use Rattle.dealing.specs.LimitedOrderLaws.{Other, onward, follows_of, follows_all, comes, comes_of, comes_other, next_on, away, rank, rank_some, rank_next, onward_none, onward_passed, onward_held}
use Rattle.dealing.specs.LimitedLaws.{tried_chosen}

-- the candidates, "by key and number": which of them is chosen. None of it asks anything of the task.
module _ (goal pull : ℕ) (b : Board) where
  -- what passes is open, and its test stops at no state
  module _ (s : ℕ) where
    passes_of : is_open (mark_at b s) ≡ true → stops_at goal pull b s ≡ b.n → passes goal pull b s ≡ true
    unfolding passes
    passes_of o e = and_both o (eq-eqb (stops_at goal pull b s) b.n e)

    passes_open : passes goal pull b s ≡ true → is_open (mark_at b s) ≡ true
    unfolding passes
    passes_open y = and_left (is_open (mark_at b s)) _ y

    passes_end : passes goal pull b s ≡ true → stops_at goal pull b s ≡ b.n
    unfolding passes
    passes_end y = eqb-true (stops_at goal pull b s) b.n (and_right (is_open (mark_at b s)) _ y)

  -- the one that passes with the smallest key, the lowest number among equals; or n
  abbrev best : ℕ
  best = least (passes goal pull b) (key goal pull b) b.n b.n

  -- all that pass are candidates after s
  abbrev AllLater : ℕ → Type 0
  AllLater s = (t : ℕ) → t < b.n → passes goal pull b t ≡ true → comes goal pull b s t ≡ true

  -- then none passes where no candidate comes after s
  module _ (s : ℕ) (f : AllLater s) where
    next_none : next goal pull b s ≡ b.n → (t : ℕ) → t < b.n → comes goal pull b s t ≡ false
    unfolding next
    next_none e = least_nothing (comes goal pull b s) (key goal pull b) b.n b.n (omega arith) (omega arith)

    best_none : next goal pull b s ≡ b.n → (onward goal pull b (next goal pull b s)).chosen ≡ best
    best_none e =
        ap (λ (t : Trial). t.chosen) (onward_none goal pull b (next goal pull b s) e)
        ∙ sym (least_none (passes goal pull b) (key goal pull b) b.n b.n (omega arith) (λ t l. never_true _ (λ y. true≢false (sym (f t l y) ∙ next_none e t l))))

    -- else the next is the best if it passes; and if it doesn't, all that pass come after it too
    module _ (o : Other goal b (next goal pull b s)) where
      next_before : (t : ℕ) → t < b.n → passes goal pull b t ≡ true → (t ≡ next goal pull b s → ⊥) → After (key goal pull b) (next goal pull b s) t
      unfolding next
      next_before t l y = least_after (comes goal pull b s) (key goal pull b) b.n b.n (omega arith) (away goal pull b (next goal pull b s) o) t l (f t l y)

      best_next : stops_at goal pull b (next goal pull b s) ≡ b.n → next goal pull b s ≡ best
      best_next e =
          sym (least_only (passes goal pull b) (key goal pull b) b.n b.n (omega arith) (next goal pull b s) o.below (passes_of (next goal pull b s) o.waits e) next_before)

      all_later : (stops_at goal pull b (next goal pull b s) ≡ b.n → ⊥) → AllLater (next goal pull b s)
      all_later d t l y =
          comes_of goal pull b (next goal pull b s) t (comes_other goal pull b s t l (f t l y))
          (follows_of goal pull b (next goal pull b s) t (next_before t l y (λ q. d (rw q at (passes_end t y)))))

      best_from : (AllLater (next goal pull b s) → (onward goal pull b (next goal pull b (next goal pull b s))).chosen ≡ best) → Dec (stops_at goal pull b (next goal pull b s) ≡ b.n)
          → (onward goal pull b (next goal pull b s)).chosen ≡ best
      best_from rest (yes e) = ap (λ (t : Trial). t.chosen) (onward_passed goal pull b (next goal pull b s) o e) ∙ best_next e
      best_from rest (no d) = ap (λ (t : Trial). t.chosen) (onward_held goal pull b (next goal pull b s) o d) ∙ rest (all_later d)

  -- so the best is chosen, whatever s is
  best_chosen : (more s : ℕ) → rank goal pull b (next goal pull b s) ≤ more → AllLater s → (onward goal pull b (next goal pull b s)).chosen ≡ best
  best_chosen zero s l f = ⊎_elim (best_none s f) (λ o. absurd (omega (arith, rank_some goal pull b (next goal pull b s) o))) (next_on goal pull b s)
  best_chosen (suc more) s l f =
      ⊎_elim (best_none s f)
      (λ o. best_from s f o (best_chosen more (next goal pull b s) (omega (arith, rank_next goal pull b (next goal pull b s) o))) (ℕ_discrete _ b.n))
      (next_on goal pull b s)

  -- of all candidates, where the goal doesn't pass
  chosen_best : passes goal pull b goal ≡ false → (tried goal pull b (candidates goal pull b)).chosen ≡ best
  chosen_best e = tried_chosen goal pull b e (is_open (mark_at b goal)) refl ∙ best_chosen (rank goal pull b (next goal pull b b.n)) b.n (omega arith) later
    where
      later : AllLater b.n
      later t l y = comes_of goal pull b b.n t (record { below = l; waits = passes_open t y; apart = λ q. true≢false (sym (rw q at y) ∙ e) }) (follows_all goal pull b t)

-- the task, as opening accepts it: the goal is a state, W is "0 to E", and no "h(a,c) above h(a,b) + h(b,c)"
module _ (goal pull : ℕ) (b : Board) (inside : goal < b.n) (modest : pull ≤ b.excess)
    (check7 : (a c e : ℕ) → a < b.n → c < b.n → e < b.n → h b a e ≤ h b a c + h b c e) where
  -- source 002's theorem 2: s is independent of a state whose key isn't smaller
  key_apart : (s t : ℕ) → s < b.n → t < b.n → key goal pull b s ≤ key goal pull b t → 100 * label_at b s ≤ 100 * label_at b t + b.excess * h b t s
  unfolding key
  key_apart s t l i k = omega (arith, mul-le-mul_left pull (check7 t s goal i l inside), mul-le-mul_right (h b t s) modest)

  -- so a state on which s depends is compared with it
  depends_compared : (s t : ℕ) → s < b.n → t < b.n → depends_on b s t ≡ true → compared goal pull b s t ≡ true
  unfolding compared
  depends_compared s t l i d = and_both (ap not (ne_eqb t s (depends_apart b s t d))) (go (or_either (is_open (mark_at b t)) (is_out (mark_at b t)) (depends_live b s t d)) (ltb (key goal pull b t) (key goal pull b s)) refl)
    where
      go : (is_open (mark_at b t) ≡ true) ⊎ (is_out (mark_at b t) ≡ true) → (c : Bool) → ltb (key goal pull b t) (key goal pull b s) ≡ c
          → (is_out (mark_at b t) || (is_open (mark_at b t) && c)) ≡ true
      go (inr o) c e = rw o
      go (inl o) true e = or_second (is_out (mark_at b t)) _ (and_both o refl)
      go (inl o) false e = absurd (omega (arith, key_apart s t l i (ltb-false (key goal pull b t) (key goal pull b s) e), depends_behind b s t d))

  -- the test stops where Take's does, so the same states pass, the same one is chosen, and Wait carries the same
  stops_same : (s : ℕ) → s < b.n → stops_at goal pull b s ≡ first_dependence b s
  unfolding stops_at first_dependence
  stops_same s l = first_same _ (depends_on b s) b.n (λ t i. go t i (depends_on b s t) refl)
    where
      go : (t : ℕ) → t < b.n → (d : Bool) → depends_on b s t ≡ d → (compared goal pull b s t && d) ≡ d
      go t i true d = and_both (depends_compared s t l i d) refl
      go t i false d = and_false (compared goal pull b s t)

  passes_same : (s : ℕ) → s < b.n → passes goal pull b s ≡ safe b s
  unfolding passes safe
  passes_same s l = rw (stops_same s l)

  chosen_same : safe b goal ≡ false → (tried goal pull b (candidates goal pull b)).chosen ≡ choice goal pull b
  unfolding choice
  chosen_same e = chosen_best goal pull b (passes_same goal inside ∙ e) ∙ least_same (passes goal pull b) (safe b) _ _ b.n b.n (omega arith) passes_same (λ _ _ _. refl)

  stopped_same : stopped_by goal pull b ≡ waited_for goal pull b
  unfolding stopped_by waited_for
  stopped_same = go (any_open b) refl
    where
      go : (o : Bool) → any_open b ≡ o
          → cond o (stops_at goal pull b (foremost goal pull b)) (first_marked b.mark b.n out) ≡ cond o (first_dependence b (foremost goal pull b)) (first_marked b.mark b.n out)
      go true o = stops_same (foremost goal pull b) (foremost_in goal pull b (foremost_any goal pull b o))
      go false o = refl

  -- "it otherwise replies as Take does"
  pub as_take : limited_decision goal pull b ≡ decision goal pull b
  unfolding limited_decision decision
  as_take = go (safe b goal) refl
    where
      go : (y : Bool) → safe b goal ≡ y → limited_decision goal pull b ≡ decision goal pull b
      go true e = rw (passes_same goal inside, e)
      go false e = rw (passes_same goal inside, chosen_same e, stopped_same)
