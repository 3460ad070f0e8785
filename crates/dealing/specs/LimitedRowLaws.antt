-- What the functions of the limited Take come to over rows, marks and keys: the row of keys, the test of one candidate, the next candidate. With the laws that their loops use.
use Rattle.std.specs.Prelude.{◌≡◌, refl, Bool, cond, ◌&&◌, ◌||◌, not, Option, Some, None, List, ◌⊎◌, ℕ, ◌+◌, ◌≤◌, ◌<◌, ltb, eqb, get_or}
use Rattle.std.proofs.Math.Path.{sym}
use Rattle.std.proofs.Common.{◌∙◌, inl, inr, ⊎_elim, arith}
use Rattle.std.proofs.Math.Bool.{true, false}
use Rattle.std.proofs.Math.Dec.{leb}
use borrow.Author.Tests.{eq-eqb, ne_eqb, eqb-true, ltb-true, lt-ltb, le-ltb, le-leb, lt-leb}
use Rattle.laws.specs.Truth.{and_left, and_right, and_both, and_false, and_true, or_either, or_second}
use Rattle.laws.specs.First.{first, first_zero, first_more, first_found, first_end, first_from}
use Rattle.laws.specs.Count.{count, count_zero, count_yes, count_no, count_eq, count_upto, count_rises}
use Rattle.laws.specs.Least.{least}
use Rattle.rule.specs.Marks.{waiting, is_open, is_out}
use Rattle.rule.specs.Rule.{independent}
use Rattle.laws.specs.Chains.{below}
use Rattle.dealing.specs.declared.limits.Test.{Test}
use Rattle.dealing.specs.Board.{Board, label_at, h}

-- a state with this mark and key is compared with a candidate that has keyS
abbrev pub is_rival : ℕ → ℕ → ℕ → Bool
is_rival mark key keyS = is_out mark || (is_open mark && ltb key keyS)

unfoldable pub rivals : List ℕ → List ℕ → ℕ → ℕ → Bool
rivals mark row s t = is_rival (get_or mark t 0) (get_or row t 0) (get_or row s 0)

-- s isn't independent of t
unfoldable pub holds_off : Board → ℕ → ℕ → Bool
holds_off b s t = not (independent (label_at b s) (label_at b t) b.excess (h b t s))

-- t with keyT comes after the last one that was tried, by key and number; after none come all
abbrev pub comes_after : Option (ℕ × ℕ) → ℕ → ℕ → Bool
comes_after None t keyT = true
comes_after (Some last) t keyT = ltb last.1 keyT || (eqb last.1 keyT && ltb last.0 t)

-- t is open, isn't the goal and comes after the last one; and the first of these by key and number, or n
unfoldable pub comes_on : List ℕ → List ℕ → ℕ → Option (ℕ × ℕ) → ℕ → Bool
comes_on mark row goal last t = is_open (get_or mark t 0) && (not (eqb t goal) && comes_after last t (get_or row t 0))

unfoldable pub next_in : List ℕ → List ℕ → ℕ → ℕ → Option (ℕ × ℕ) → ℕ
next_in mark row n goal last = least (comes_on mark row goal last) (λ t. get_or row t 0) n n

-- a state with its key; none where it is no state
abbrev pub standing : List ℕ → ℕ → ℕ → Option (ℕ × ℕ)
standing row n s = cond (ltb s n) (Some (s, get_or row s 0)) None

-- a test that compares with the numbers below n which pass c, and stops at one that passes d too, with what is left of a limit
module _ (c d : ℕ → Bool) (n : ℕ) where
  unfoldable pub stop_of : ℕ
  stop_of = first (λ t. c t && d t) n

  unfoldable pub made_of : ℕ
  made_of = count (λ t. c t && leb t stop_of) n

  unfoldable pub test_of : ℕ → Option Test
  test_of left = cond (ltb left made_of) None (Some (record { stop = below n stop_of; made = made_of }))

-- where the test of the foremost open state stopped: the goal's at `held`, or that of the first other, which stands beside where it stopped; with neither there, out
abbrev pub front_stop : ℕ × ℕ → Option ℕ → Option ((ℕ × ℕ) × ℕ) → ℕ → ℕ
front_stop goal None None out = out
front_stop goal (Some held) None out = held
front_stop goal None (Some other) out = other.1
front_stop goal (Some held) (Some other) out = cond (comes_after (Some goal) other.0.0 other.0.1) held other.1

-- what the loop of a test knows at i: it hasn't stopped below i, and has compared with all that it compares with
pub record Testing (c d : ℕ → Bool) (left i made : ℕ) : Type 0 where
  pub none : first (λ t. c t && d t) i ≡ i
  pub counted : made ≡ count c i
  pub within : made ≤ left

pub testing_zero : (c d : ℕ → Bool) (left : ℕ) → Testing c d left 0 0
testing_zero c d left = record { none = first_zero _; counted = sym (count_zero c); within = omega arith }

module _ (c d : ℕ → Bool) (left i made : ℕ) (w : Testing c d left i made) where
  -- i isn't compared
  pub testing_skip : c i ≡ false → Testing c d left (i + 1) made
  testing_skip e = record { none = first_more _ i w.none (rw e); counted = w.counted ∙ sym (count_no c i e); within = w.within }

  -- i is compared, and holds nothing off
  pub testing_more : (made ≡ left → ⊥) → c i ≡ true → d i ≡ false → Testing c d left (i + 1) (made + 1)
  testing_more z e f = record {
    none = first_more _ i w.none (rw (e, f));
    counted = omega (arith, w.counted, count_yes c i e);
    within = omega (arith, w.within);
  }

  module _ (n : ℕ) where
    -- i would be compared, and nothing is left of the limit
    pub testing_cut : made ≡ left → c i ≡ true → i < n → None ≡ test_of c d n left
    unfolding stop_of made_of test_of
    testing_cut z e l = rw (lt-ltb left (made_of c d n) (omega (arith, z, w.counted, count_yes c i e, least)))
      where
        least : count c (i + 1) ≤ made_of c d n
        least =
            rw (count_eq c (λ t. c t && leb t (stop_of c d n)) (i + 1) (λ x m. sym (rw (le-leb x (stop_of c d n) (omega (arith, first_from _ i n w.none (omega arith)))) (and_true (c x)))))
            (count_rises (λ t. c t && leb t (stop_of c d n)) (i + 1) n (omega arith))

    -- i is compared, and the candidate depends on it
    pub testing_stop : (made ≡ left → ⊥) → c i ≡ true → d i ≡ true → i < n → Some (record { stop = Some i; made = made + 1 }) ≡ test_of c d n left
    unfolding stop_of made_of test_of
    testing_stop z e f l = rw (at, all, le-ltb left (made + 1) (omega (arith, w.within)), lt-ltb i n l)
      where
        at : stop_of c d n ≡ i
        at = first_found _ i n w.none (rw (e, f)) l

        all : count (λ t. c t && leb t i) n ≡ made + 1
        all = count_upto c (λ t. leb t i) (i + 1) n (omega arith) (λ x m. le-leb x i (omega arith)) (λ x m k. lt-leb x i (omega arith)) ∙ omega (arith, w.counted, count_yes c i e)

    -- it went to the end
    pub testing_end : i ≤ n → n ≤ i → Some (record { stop = None; made = made }) ≡ test_of c d n left
    unfolding stop_of made_of test_of
    testing_end l g = rw (at, all, le-ltb left made w.within, le-ltb n n (omega arith))
      where
        at : stop_of c d n ≡ n
        at = sym (first_end _ i n w.none l g)

        all : count (λ t. c t && leb t n) n ≡ made
        all = count_upto c (λ t. leb t n) n n (omega arith) (λ x m. le-leb x n (omega arith)) (λ x m k. absurd (omega arith)) ∙ (let q : i ≡ n = omega arith in rw (← q) (sym w.counted))

-- the order by key and number, by what it says of the keys
module _ (keyS keyT s t : ℕ) where
  pub after_says : (ltb keyS keyT || (eqb keyS keyT && ltb s t)) ≡ true → (keyS < keyT) ⊎ ((keyS ≡ keyT) × (s < t))
  after_says e =
      ⊎_elim (λ r. inl (ltb-true keyS keyT r))
      (λ r. inr (eqb-true keyS keyT (and_left _ _ r), ltb-true s t (and_right (eqb keyS keyT) _ r)))
      (or_either (ltb keyS keyT) _ e)

  pub after_of : (keyS < keyT) ⊎ ((keyS ≡ keyT) × (s < t)) → (ltb keyS keyT || (eqb keyS keyT && ltb s t)) ≡ true
  after_of (inl a) = rw (lt-ltb keyS keyT a)
  after_of (inr a) = or_second (ltb keyS keyT) _ (and_both (eq-eqb keyS keyT a.0) (lt-ltb s t a.1))

-- what comes by key and number after what comes after the last one comes after that too
pub after_through : (last : Option (ℕ × ℕ)) (u keyU t keyT : ℕ) → comes_after last u keyU ≡ true → comes_after (Some (u, keyU)) t keyT ≡ true → comes_after last t keyT ≡ true
after_through None u keyU t keyT d e = refl
after_through (Some last) u keyU t keyT d e = after_of last.1 keyT last.0 t (on (after_says last.1 keyU last.0 u d) (after_says keyU keyT u t e))
  where
    on : (last.1 < keyU) ⊎ ((last.1 ≡ keyU) × (last.0 < u)) → (keyU < keyT) ⊎ ((keyU ≡ keyT) × (u < t)) → (last.1 < keyT) ⊎ ((last.1 ≡ keyT) × (last.0 < t))
    on (inl a) (inl c) = inl (omega arith)
    on (inl a) (inr c) = inl (omega arith)
    on (inr a) (inl c) = inl (omega arith)
    on (inr a) (inr c) = inr (omega arith, omega arith)

-- whether t comes on, by the tests of the loop that looks for a lead
module _ (mark row : List ℕ) (goal : ℕ) (last : Option (ℕ × ℕ)) (t : ℕ) where
  pub comes_shut : (get_or mark t 0 ≡ waiting → ⊥) → comes_on mark row goal last t ≡ false
  unfolding comes_on
  comes_shut z = rw (ne_eqb (get_or mark t 0) waiting z)

  pub comes_goal : t ≡ goal → comes_on mark row goal last t ≡ false
  unfolding comes_on
  comes_goal e = rw (eq-eqb t goal e) (and_false (is_open (get_or mark t 0)))

  pub comes_late : comes_after last t (get_or row t 0) ≡ false → comes_on mark row goal last t ≡ false
  unfolding comes_on
  comes_late q = rw (q, and_false (not (eqb t goal))) (and_false (is_open (get_or mark t 0)))

  pub comes_next : get_or mark t 0 ≡ waiting → (t ≡ goal → ⊥) → comes_after last t (get_or row t 0) ≡ true → comes_on mark row goal last t ≡ true
  unfolding comes_on
  comes_next o z q = rw (eq-eqb (get_or mark t 0) waiting o, ne_eqb t goal z, q)

-- whether s is compared with t, by the test of the loop
pub rivals_by : (mark row : List ℕ) (s t : ℕ) (r : Bool) → r ≡ is_rival (get_or mark t 0) (get_or row t 0) (get_or row s 0) → rivals mark row s t ≡ r
unfolding rivals
rivals_by mark row s t r e = sym e
