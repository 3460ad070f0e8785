-- The largest end settles the ends, and the costs are settled one by one.
use Rattle.std.specs.Prelude.{◌≡◌, Bool, true, false, cond, ◌&&◌, ◌||◌, not, ℕ, zero, suc, List, ltb, leb, eqb}
use Rattle.std.proofs.Common.{rules, refl, max, sym, ap, ◌∙◌, arith, ne_eqb}
use borrow.Author.Tests.{ltb-true, ltb-false, lt-ltb, le-ltb}
use Rattle.laws.specs.All.{all, all_zero, all_same}
use Rattle.laws.specs.Truth.{and_false}
use Rattle.laws.specs.LargestLaws.{largest, largest_folded}
use Rattle.laws.specs.Ranges.{fold_over, every_over}
use Rattle.rule.specs.Task.{passage_count, near, far, cost, blocked, is_clear}
use Rattle.checks.specs.Opening.{passage_right, passages_right}
use Rattle.checks.proofs.opening.span_right.Goals as goal

-- the larger of two is below n where both are
larger : (a b n : ℕ) (c x y : Bool) → ltb a b ≡ c → ltb a n ≡ x → ltb b n ≡ y → ltb (cond c b a) n ≡ (x && y)
larger a b n true true y e p q = q
larger a b n true false true e p q = absurd (omega (arith, ltb-true a b e, ltb-false a n p, ltb-true b n q))
larger a b n true false false e p q = q
larger a b n false true true e p q = p
larger a b n false true false e p q = absurd (omega (arith, ltb-false a b e, ltb-true a n p, ltb-false b n q))
larger a b n false false y e p q = p

first_end : (a n : ℕ) (c : Bool) → ltb 0 a ≡ c → ltb (cond c a 0) n ≡ ltb a n
first_end a n true e = refl
first_end a n false e = ap (λ k. ltb k n) (let none = ltb-false 0 a e in omega arith)

-- the largest is, where all are
ends_from : (f : ℕ → ℕ) (n m : ℕ) → ltb (largest f (suc m)) n ≡ all (λ i. ltb (f i) n) (suc m)
unfolding all largest
ends_from f n zero = first_end (f 0) n _ refl
ends_from f n (suc m) = larger (largest f (suc m)) (f (suc m)) n _ _ _ refl refl refl ∙ ap (λ b. b && ltb (f (suc m)) n) (ends_from f n m)

ends_by : (f : ℕ → ℕ) (n m : ℕ) → (eqb m 0 || ltb (largest f m) n) ≡ all (λ i. ltb (f i) n) m
ends_by f n zero = sym (all_zero _)
ends_by f n (suc m) = rw (ne_eqb (suc m) 0 (λ e. absurd (omega (arith, e)))) (ends_from f n m)

swap : (a b c d : Bool) → ((a && b) && (c && d)) ≡ ((a && c) && (b && d))
swap true b true d = refl
swap true b false d = and_false b
swap false b c d = refl

both : (p q : ℕ → Bool) (m : ℕ) → (all p m && all q m) ≡ all (λ i. p i && q i) m
unfolding all
both p q zero = refl
both p q (suc m) = rw (← both p q m) (swap (all p m) (p m) (all q m) (q m))

two_ends : (a b n : ℕ) (x y : Bool) → ltb a n ≡ x → ltb b n ≡ y → ltb (max a b) n ≡ (x && y)
two_ends a b n true true p q = lt-ltb (max a b) n (omega (arith, ltb-true a n p, ltb-true b n q))
two_ends a b n true false p q = le-ltb (max a b) n (omega (arith, ltb-false b n q))
two_ends a b n false y p q = le-ltb (max a b) n (omega (arith, ltb-false a n p))

module _ (passages : List ℕ) (n : ℕ) where
  abbrev end_at : ℕ → ℕ
  end_at i = max (near passages i) (far passages i)

  abbrev cost_right : ℕ → Bool
  cost_right i = eqb (cost passages i) blocked || leb (cost passages i) 1000000

  twice : (b : Bool) → b ≡ not (not b)
  twice true = refl
  twice false = refl

  one : (i : ℕ) → (ltb (end_at i) n && cost_right i) ≡ passage_right passages n i
  unfolding is_clear
  one i = rw (two_ends (near passages i) (far passages i) n _ _ refl refl, ← twice (eqb (cost passages i) blocked)) refl

pub returns : goal.returns
unfolding passages_right
returns c =
    let p = c.args.passages.now in
    let n = c.args.n in
    let m = passage_count p in
    let end : c.fold-end.result ≡ largest (end_at p n) m =
    fold_over _ _ (λ i most. max most (end_at p n i)) (λ b x r f h. search rules) 0 _ refl _ c.fold-end.ensures.runs ∙ largest_folded (end_at p n) m in
    let costs : c.fold-costs.result ≡ all (cost_right p n) m = every_over _ _ (cost_right p n) (λ b x r f h. search rules) _ refl _ c.fold-costs.ensures.runs in
    rw (end, costs) (ap (λ b. b && all (cost_right p n) m) (ends_by (end_at p n) n m) ∙ both _ _ m ∙ all_same _ _ m (λ i l. one p n i))
