-- What a chain over the numbers below n comes to, from the clause `runs` of its last call and from what its closure computes. An answer
-- cites the law for the method, with that clause, and shows what one call of the closure comes to.
-- Assumes nothing.
use Rattle.std.specs.Prelude.{◌≡◌, refl, Bool, true, false, ◌&&◌, List, [], ◌∷◌, ℕ, zero, suc, ◌+◌, ◌<◌, ◌≤◌, length, get_or, take, Option, Some, None, IfSome, IsSomeAnd, IsTrue}
use Rattle.std.specs.Bool.{MatchBool}
use Rattle.std.specs.List.{fold as fold_list, FoldsTo}
use Rattle.std.specs.Option.{option_map, unwrap_or}
use Rattle.std.specs.Iterator.{Yields, ActsAs, ActsAsOnTwo, CallableWhile, CallableInFold, FoldTurn}
use Rattle.std.specs.Fn.{Takes}
use Rattle.std.specs.Iterator.Runs.{Run, SomeRun, WholeRun, AllItemsGive, AnyItemGives, CallKeepsClosure}
use Rattle.std.specs.declared.ops.Range.{Range}
use Rattle.std.proofs.Common.{sym, ap, subst, ◌∙◌, add-one, take_all, arith}
use Rattle.std.proofs.iter.Yields.{nat_range_steps}
use Rattle.std.proofs.iter.runs.Sources.{range_runs}
use Rattle.std.proofs.lemmas.List.Sums.{fold_more as fold_list_more}
use denote.Param.Members.{Mut, Called}
use Rattle.laws.specs.All.{all, all_of, all_stop}
use Rattle.laws.specs.Fold.{fold}

same_option : {A : Type 0} (o : Option A) → option_map (λ y. y) o ≡ o
same_option None = refl
same_option (Some x) = refl

-- the item at place k of a run from 0 is k, and a whole run has n of them
module _ (s : Range ℕ) (zero_first : s.start ≡ 0) (q : Run nat_range_steps) (from : q.from ≡ s) where
  starts : q.from.start ≡ 0
  starts = ap (λ (r : Range ℕ). r.start) from ∙ zero_first

  ends : q.from.end ≡ s.end
  ends = ap (λ (r : Range ℕ). r.end) from

  at_place : (k : ℕ) → k < q.len → q.at k ≡ Some k
  at_place k l = sym (same_option (q.at k)) ∙ (range_runs q q.seen).3 k l ∙ ap Some (let e : q.from.start + k ≡ k = omega (arith, starts) in e)

  few : q.len ≤ s.end
  few = omega (arith, (range_runs q q.seen).0, ends)

  all_came : q.whole ≡ true → q.len ≡ s.end
  all_came w = omega (arith, (range_runs q q.seen).1 w, starts, ends)

  item_at : (k : ℕ) → k < q.len → get_or q.items k 0 ≡ k
  item_at k l = ap (λ (o : Option ℕ). unwrap_or o 0) (sym (q.reads k 0 l) ∙ same_option (q.at k) ∙ at_place k l)

-- an item that is still to come is below n
module _ (s : Range ℕ) where
  end_stays : (xs : List ℕ) (s t : Range ℕ) → Yields nat_range_steps s xs t → t.end ≡ s.end
  end_stays [] s t y = sym (ap (λ (r : Range ℕ). r.end) y)
  end_stays (x ∷ xs) s t y = end_stays xs y.0 t y.2 ∙ y.1.0

  below_end : (xs : List ℕ) (t : Range ℕ) (x : ℕ) (u : Range ℕ) → Yields nat_range_steps s xs t → nat_range_steps t (Some x) u → x < s.end
  below_end xs t x u y step = omega (arith, end_stays xs s t y, step.1.0, step.1.1)

-- `(0..n).all(..)`
module _ {F : Type 0} (g : Mut F (ℕ × Unit {0}) Bool) (f : F) (p : ℕ → Bool) (acts : ActsAs g f p) (s : Range ℕ) (zero_first : s.start ≡ 0) where
  keeps : CallKeepsClosure g f
  keeps a r f' c = (acts a.0 r f' c).0

  pub all_over : (r : Bool) → SomeRun nat_range_steps s (λ q. MatchBool r (IsTrue q.whole × AllItemsGive q g f true) (AnyItemGives q g f false)) → r ≡ all p s.end
  all_over true (q, from, (whole, gives)) =
      sym (all_of p s.end (λ x l. sym (acts x true f (subst (λ o. IfSome o (λ x. Called g f (x, tt) true f)) (at_place s zero_first q from x (omega (arith, all_came s zero_first q from whole))) (gives keeps x))).1))
  all_over false (q, from, gives) =
      let (k, l, c) = gives keeps in
      all_stop p k s.end (sym (acts k false f (subst (λ o. IsSomeAnd o (λ x. Called g f (x, tt) false f)) (at_place s zero_first q from k l) c)).1) (omega (arith, few s zero_first q from))

  -- a call may be made of each number below n
  pub all_callable : ((x : ℕ) → x < s.end → Takes g f (x, tt)) → CallableWhile nat_range_steps g true s f
  all_callable takes = record { at = λ xs t q x u y c step. subst (λ f. Takes g f (x, tt)) (sym (same xs q c)) (takes x (below_end s xs t x u y step)) }
    where
      same : (xs : List ℕ) (q : F) → FoldsTo (λ p x q. Called g p (x, tt) true q) f xs q → q ≡ f
      same [] q c = sym c
      same (x ∷ xs) q c = same xs q (subst (λ v. FoldsTo (λ p x q. Called g p (x, tt) true q) v xs q) (acts x true c.0 c.1).0 c.2)

-- `(0..n).fold(..)`
module _ {F B : Type 0} (g : Mut F (B × (ℕ × Unit {0})) B) (f : F) (h : ℕ → B → B) (acts : ActsAsOnTwo g f (λ b i. h i b)) (init : B) (s : Range ℕ) (zero_first : s.start ≡ 0) where
  goes : (xs : List ℕ) (i : ℕ) → i ≤ length xs → ((k : ℕ) → k < i → get_or xs k 0 ≡ k) → fold_list (λ b i. h i b) init (take i xs) ≡ fold h init i
  unfolding fold
  goes xs zero l is = refl
  goes xs (suc i) l is = rw (← goes xs i (omega arith) (λ k m. is k (omega arith)), ← add-one i) (fold_list_more (λ b i. h i b) init xs i 0 (omega arith) ∙ ap (λ k. h k (fold_list (λ b i. h i b) init (take i xs))) (is i (omega arith)))

  pub fold_over : (r : B) → WholeRun nat_range_steps s (λ q. (h : B → ℕ → B) → ActsAsOnTwo g f h → r ≡ fold_list h init q.items) → r ≡ fold h init s.end
  fold_over r (q, from, whole, is) =
      let n : q.len ≡ s.end = all_came s zero_first q from whole in
      is (λ b i. h i b) acts
      ∙ ap (fold_list (λ b i. h i b) init) (sym (take_all s.end q.items (omega (arith, q.long))))
      ∙ goes q.items s.end (omega (arith, q.long)) (λ k l. item_at s zero_first q from k (omega arith))

  pub fold_callable : ((b : B) (x : ℕ) → x < s.end → Takes g f (b, (x, tt))) → CallableInFold nat_range_steps g s f init
  fold_callable takes = record { at = λ xs t q x u y c step. subst (λ f. Takes g f (q.1, (x, tt))) (sym (same xs init q c)) (takes q.1 x (below_end s xs t x u y step)) }
    where
      same : (xs : List ℕ) (b : B) (q : F × B) → FoldsTo {P = F × B} (FoldTurn g) (f, b) xs q → q.0 ≡ f
      same [] b q c = sym (ap (λ (p : F × B). p.0) c)
      same (x ∷ xs) b q c = same xs c.0.1 q (subst (λ (f : F). FoldsTo {P = F × B} (FoldTurn g) (f, c.0.1) xs q) (acts b x c.0.1 c.0.0 c.1).0 c.2)

-- `(0..n).fold(true, ..)`, a check that goes on to the end
module _ {F : Type 0} (g : Mut F (Bool × (ℕ × Unit {0})) Bool) (f : F) (p : ℕ → Bool) (acts : ActsAsOnTwo g f (λ right i. right && p i)) (s : Range ℕ) (zero_first : s.start ≡ 0) where
  every : (i : ℕ) → fold (λ i right. right && p i) true i ≡ all p i
  unfolding fold all
  every zero = refl
  every (suc i) = rw (every i)

  pub every_over : (r : Bool) → WholeRun nat_range_steps s (λ q. (h : Bool → ℕ → Bool) → ActsAsOnTwo g f h → r ≡ fold_list h true q.items) → r ≡ all p s.end
  every_over r w = fold_over g f (λ i right. right && p i) acts true s zero_first r w ∙ every s.end
