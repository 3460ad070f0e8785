-- From what a chain of iterators over the numbers below n comes to, what a definition of this folder says of them. An answer cites the law
-- for the method, and finds the chain's own facts by `search (rules, ranges)`.
-- Assumes nothing.
use Rattle.std.specs.Prelude.{◌≡◌, refl, Bool, true, false, ◌&&◌, cond, Option, Some, None, List, ℕ, zero, suc, ◌<◌, ◌≤◌, ltb, length, get_or, take, fold}
use Rattle.std.proofs.Common.{sym, ◌∙◌, add-one, arith}
use Rattle.std.proofs.lemmas.List.Sums.{fold_more}
use borrow.Author.Tests.{lt-ltb, le-ltb}
use Rattle.laws.specs.All.{all, all_of, all_stop}
use Rattle.laws.specs.First.{first, first_at, first_none}

-- a number where it is below n, and none where it isn't
abbrev pub below : ℕ → ℕ → Option ℕ
below n i = cond (ltb i n) (Some i) None

-- `(0..n).all(..)`
pub all_by : (p : ℕ → Bool) (n : ℕ) (r : Bool) → (r ≡ true → (x : ℕ) → x < n → p x ≡ true) → (r ≡ false → (x : ℕ) × (x < n) × (p x ≡ false)) → r ≡ all p n
all_by p n true every some = sym (all_of p n (every refl))
all_by p n false every some = let w = some refl in all_stop p w.0 n w.2 w.1

none_before : (p : ℕ → Bool) (i : ℕ) → ((x : ℕ) → x < i → p x ≡ false) → first p i ≡ i
none_before p i f = first_none p i f

-- `(0..n).find(..)`
pub find_by : (p : ℕ → Bool) (n : ℕ) (r : Option ℕ) → (r ≡ None → (x : ℕ) → x < n → p x ≡ false) → ((i : ℕ) → r ≡ Some i → (i < n) × ((p i ≡ true) × ((x : ℕ) → x < i → p x ≡ false))) → r ≡ below n (first p n)
find_by p n None none some = rw (first_none p n (none refl), le-ltb n n (omega arith))
find_by p n (Some i) none some =
    let w = some i refl in
    rw (← first_at p i n (none_before p i w.1.1) w.1.0 w.0, lt-ltb i n w.0)

-- `xs[..n].iter().fold(true, ..)`, which goes on to the end
module _ {X : Type 0} (p : X → Bool) (d : X) (xs : List X) where
  folded : (i : ℕ) → i ≤ length xs → fold (λ right x. right && p x) true (take i xs) ≡ all (λ i. p (get_or xs i d)) i
  unfolding all
  folded zero l = refl
  folded (suc i) l = rw (← folded i (omega arith), ← add-one i) (fold_more (λ right x. right && p x) true xs i d (omega arith))

  pub fold_by : (n : ℕ) (r : Bool) → n ≤ length xs → r ≡ fold (λ right x. right && p x) true (take n xs) → r ≡ all (λ i. p (get_or xs i d)) n
  fold_by n r l e = e ∙ folded n l
