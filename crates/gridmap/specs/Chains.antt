-- From what a chain of iterators over the numbers below n comes to, what a definition says of them: a check, a count, the first that passes a test, or n, and the one that so many pass before.
-- Assumes nothing.
use Rattle.std.specs.Prelude.{◌≡◌, refl, Bool, true, false, ◌&&◌, cond, [], ◌∷◌, length, get_or, Option, Some, None, IfSome, IsSomeAnd, MatchOption, IsTrue, option_map, unwrap_or, ltb}
use Rattle.std.proofs.Common.{sym, ap, ◌∙◌, add-one, arith, ext_get_or}
use Prim.Native.Nat.{ℕ, zero, suc, ◌+◌, ◌≤◌, ◌<◌}
use borrow.Author.Tests.{lt-ltb, le-ltb, ltb-false}
use Rattle.std.specs.declared.ops.Range.{Range}
use Rattle.std.specs.List.{filter}
use Rattle.std.specs.Bool.{MatchBool}
use denote.Param.Members.{Mut, Called}
use Rattle.std.specs.Iterator.Runs.{Run, ItemsCountUp, AllItemsGive, AnyItemGives}
use Rattle.std.proofs.iter.Yields.{nat_range_steps}
use Rattle.std.proofs.iter.runs.Sources.{range_runs}
use Rattle.std.proofs.lemmas.List.Elements.{filter-append}
use Rattle.std.proofs.lemmas.Option.{same_Some}
use Rattle.laws.specs.Truth.{same_truth}
use Rattle.laws.specs.All.{all, all_at, all_of, all_stop}
use Rattle.laws.specs.First.{first, first_le}
use Rattle.laws.specs.Count.{count, count_rises, count_find}
use Rattle.laws.specs.Gather.{gathered, picked, picked_length, picked_at}
use Rattle.laws.specs.Fill.{made, made_length, made_at}
use Rattle.laws.specs.Chains.{below}

-- a check of one number more, and of tests that agree
pub all_next : (p : ℕ → Bool) (n : ℕ) → all p (n + 1) ≡ (all p n && p n)
unfolding all
all_next p n = rw (add-one n)

pub all_same : (p q : ℕ → Bool) (n : ℕ) → ((i : ℕ) → i < n → p i ≡ q i) → all p n ≡ all q n
all_same p q n f = same_truth (all p n) (all q n) (λ e. all_of q n (λ i l. sym (f i l) ∙ all_at p n i e l)) (λ e. all_of p n (λ i l. f i l ∙ all_at q n i e l))

-- `(0..n).find(..).unwrap_or(n)`
pub find_or : (p : ℕ → Bool) (n : ℕ) (r : Option ℕ) → r ≡ below n (first p n) → unwrap_or r n ≡ first p n
find_or p n r e = rw e (go (ltb (first p n) n) refl)
  where
    go : (b : Bool) → ltb (first p n) n ≡ b → unwrap_or (cond b (Some (first p n)) None) n ≡ first p n
    go true q = refl
    go false q = omega (arith, first_le p n, ltb-false (first p n) n q)

-- those of the numbers below n that pass
filter_made : (p : ℕ → Bool) (n : ℕ) → filter p (made (λ i. i) n) ≡ picked p n
unfolding made picked gathered
filter_made p zero = refl
filter_made p (suc i) = filter-append p (made (λ i. i) i) (i ∷ []) ∙ rw (filter_made p i)

-- each of them stands where it stands among those below a larger bound
picked_same : (p : ℕ → Bool) (k n s : ℕ) → k ≤ n → s < count p k → get_or (picked p k) s 0 ≡ get_or (picked p n) s 0
picked_same p k n s l h =
    let (j, b, e, c) = count_find p k s h in
    ap (λ s. get_or (picked p k) s 0) (sym c) ∙ picked_at p k j b e ∙ sym (picked_at p n j (omega arith) e) ∙ ap (λ s. get_or (picked p n) s 0) c

some_and : {A : Type 0} (P : A → Type 0) (o : Option A) → IsSomeAnd o P → IfSome o P
some_and P None h = absurd h
some_and P (Some x) h = h

-- a run over the numbers below n: how many they are, and the one at each place
module _ (n : ℕ) (q : Run nat_range_steps) (from : q.from ≡ record { start = 0; end = n }) where
  up : ItemsCountUp q q.from.start q.from.end
  up = range_runs q q.seen

  few : q.len ≤ n
  few = omega (arith, up.0, ap (λ (s : Range ℕ). s.start) from, ap (λ (s : Range ℕ). s.end) from)

  long : q.whole ≡ true → q.len ≡ n
  long whole = omega (arith, up.1 whole, ap (λ (s : Range ℕ). s.start) from, ap (λ (s : Range ℕ). s.end) from)

  at : (k : ℕ) → k < q.len → option_map (λ y. y) (q.at k) ≡ Some k
  at k l = let start : q.from.start + k ≡ k = omega (arith, ap (λ (s : Range ℕ). s.start) from) in up.3 k l ∙ ap Some start

  numbers : q.items ≡ made (λ i. i) q.len
  numbers =
      ext_get_or 0 q.items (made (λ i. i) q.len) (sym q.long ∙ sym (made_length (λ i. i) q.len))
      (λ k l. let h : k < q.len = omega (arith, q.long) in same_Some _ _ (sym (q.reads k 0 h) ∙ at k h) ∙ sym (made_at (λ i. i) q.len k 0 h))

  -- `(0..n).filter(..)`: k is what the filter gave
  module _ (p : ℕ → Bool) {S : Type 0} {steps : S → Option ℕ → S → Type 0} (k : Run steps) (passed : k.items ≡ filter p q.items) (ended : q.whole ≡ k.whole) where
    items : k.items ≡ picked p q.len
    items = passed ∙ ap (filter p) numbers ∙ filter_made p q.len

    many : k.len ≡ count p q.len
    many = k.long ∙ ap length items ∙ picked_length p q.len

    all_many : k.whole ≡ true → k.len ≡ count p n
    all_many whole = many ∙ ap (count p) (long (ended ∙ whole))

    -- and `.count()` of it
    pub count_by : (r : ℕ) → k.whole ≡ true → r ≡ k.len → r ≡ count p n
    count_by r whole e = e ∙ all_many whole

    -- and `.nth(s)`
    pub nth_by : (s : ℕ) (r : Option ℕ) → MatchOption r (IsTrue k.whole × (k.len ≤ s)) (λ x. (k.len ≡ s + 1) × (k.at s ≡ Some x)) → r ≡ cond (ltb s (count p n)) (Some (get_or (picked p n) s 0)) None
    nth_by s None h = rw (le-ltb s (count p n) (omega (arith, all_many h.0, h.1)))
    nth_by s (Some x) h =
        let inside : s < count p q.len = omega (arith, many, h.0) in
        let here : Some x ≡ Some (get_or k.items s 0) = rw h.1 at (k.reads s 0 (omega (arith, h.0))) in
        rw (lt-ltb s (count p n) (omega (arith, count_rises p q.len n few)))
        (here ∙ ap (λ xs. Some (get_or xs s 0)) items ∙ ap Some (picked_same p q.len n s few inside))

  -- `(0..n).all(..)`, where each call answers p of the number
  module _ {F : Type 0} {g : Mut F (ℕ × Unit {0}) Bool} {f : F} (p : ℕ → Bool) (each : (a : ℕ × Unit {0}) (b : Bool) (f' : F) → Called g f a b f' → (f' ≡ f) × (b ≡ p a.0)) where
    answered : (o : Option ℕ) (k : ℕ) (b : Bool) → option_map (λ y. y) o ≡ Some k → IfSome o (λ x. Called g f (x, tt) b f) → p k ≡ b
    answered None k b e h = cc
    answered (Some x) k b e h = let same : x ≡ k = cc in rw (← same) (sym (each (x, tt) b f h).1)

    pub all_run : (r : Bool) → MatchBool r (IsTrue q.whole × AllItemsGive q g f true) (AnyItemGives q g f false) → r ≡ all p n
    all_run true h =
        let whole : q.whole ≡ true = h.0 in
        let given = h.1 (λ a b f' c. (each a b f' c).0) in
        sym (all_of p n (λ k l. answered (q.at k) k true (at k (omega (arith, long whole))) (given k)))
    all_run false h =
        let (k, l, given) = h (λ a b f' c. (each a b f' c).0) in
        all_stop p k n (answered (q.at k) k false (at k l) (some_and _ (q.at k) given)) (omega (arith, few))
