-- A buffer written piece by piece, front to back: where the next piece goes.
-- Assumes nothing.
use Rattle.std.specs.Prelude.{◌≡◌, refl, Bool, true, false, List, [], ◌∷◌, ◌++◌, ℕ, ◌+◌, ◌≤◌, ◌<◌, length, set}
use Rattle.std.proofs.Common.{ap, ◌∙◌, arith, length-append}
use Rattle.laws.specs.Part.{overlaid}
use Rattle.laws.specs.Fill.{overlaid_none, overlaid_one, overlaid_length, overlaid_next}
use Rattle.laws.specs.Count.{count, count_max, count_before, count_rises}
use Rattle.laws.specs.Gather.{gathered, gathered_zero, gathered_more, gathered_same, picked, picked_length}

-- xs stands in the buffer from `at` on, and the next place is r
pub record Put {X : Type 0} (at : ℕ) (xs l₀ l : List X) (r : ℕ) : Type 0 where
  pub done : l ≡ overlaid at xs l₀
  pub next : r ≡ at + length xs

-- one piece after another
pub put_next : {X : Type 0} (at p r : ℕ) (xs ys l₀ l₁ l₂ : List X) → Put at xs l₀ l₁ p → Put p ys l₁ l₂ r → at + length xs ≤ length l₀ → Put at (xs ++ ys) l₀ l₂ r
put_next at p r xs ys l₀ l₁ l₂ a b h =
    record { done = b.done ∙ overlaid_next at p l₀ l₁ xs ys a.done a.next (omega arith); next = omega (arith, length-append xs ys) }

-- no piece
pub put_none : {X : Type 0} (at : ℕ) (l : List X) → Put at [] l l at
put_none at l = record { done = overlaid_none at l; next = omega arith }

-- a piece that there is room for leaves the buffer as long as it was
pub put_length : {X : Type 0} (at r : ℕ) (xs l₀ l : List X) → Put at xs l₀ l r → at + length xs ≤ length l₀ → length l ≡ length l₀
put_length at r xs l₀ l p h = ap length p.done ∙ overlaid_length at l₀ xs h

-- three pieces
pub put_three : {X : Type 0} (at p q r : ℕ) (xs ys zs l₀ l₁ l₂ l₃ : List X) → Put at xs l₀ l₁ p → Put p ys l₁ l₂ q → Put q zs l₂ l₃ r
    → at + length xs + length ys ≤ length l₀ → Put at (xs ++ (ys ++ zs)) l₀ l₃ r
put_three at p q r xs ys zs l₀ l₁ l₂ l₃ a b c h =
    let room : at + length xs ≤ length l₀ = omega arith in
    put_next at p r xs (ys ++ zs) l₀ l₁ l₃ a (put_next p q r ys zs l₁ l₂ l₃ b c (omega (arith, a.next, put_length at p xs l₀ l₁ a room))) room

-- one place stored
pub put_one : {X : Type 0} (at : ℕ) (v : X) (l : List X) → at < length l → Put at (v ∷ []) l (set l at v) (at + 1)
put_one at v l h = record { done = overlaid_one at l v h; next = refl }

-- one piece more of a gathered list, or an empty one
module _ {X : Type 0} (f : ℕ → List X) where
  pub put_started : (at : ℕ) (l : List X) → Put at (gathered f 0) l l at
  put_started at l = rw (gathered_zero f) (put_none at l)

  pub put_piece : (at i p r : ℕ) (l₀ l₁ l₂ : List X) → Put at (gathered f i) l₀ l₁ p → Put p (f i) l₁ l₂ r → at + length (gathered f i) ≤ length l₀ → Put at (gathered f (i + 1)) l₀ l₂ r
  put_piece at i p r l₀ l₁ l₂ a b h = rw (gathered_more f i) (put_next at p r (gathered f i) (f i) l₀ l₁ l₂ a b h)

  pub put_skip : (at i r : ℕ) (l₀ l : List X) → f i ≡ [] → Put at (gathered f i) l₀ l r → Put at (gathered f (i + 1)) l₀ l r
  put_skip at i r l₀ l e a = rw (gathered_same f i e) a

-- the numbers below n that pass a test, put to the front of a buffer that has room for them
module _ (p : ℕ → Bool) (n : ℕ) (l₀ : List ℕ) (room : count p n ≤ length l₀) where
  pub picks_zero : Put 0 (picked p 0) l₀ l₀ 0
  unfolding picked
  picks_zero = put_started _ 0 l₀

  module _ (i r : ℕ) (l : List ℕ) (w : Put 0 (picked p i) l₀ l r) (low : i ≤ n) where
    pub picks_length : length l ≡ length l₀
    picks_length = put_length 0 r (picked p i) l₀ l w (omega (arith, picked_length p i, count_rises p i n low))

    pub picks_few : r ≤ i
    picks_few = omega (arith, w.next, picked_length p i, count_max p i)

    pub picks_room : i < n → p i ≡ true → r < length l
    picks_room k e = omega (arith, w.next, picked_length p i, count_before p i n k e, picks_length)

    pub picks_more : i < n → p i ≡ true → Put 0 (picked p (i + 1)) l₀ (set l r i) (r + 1)
    unfolding picked
    picks_more k e = put_piece _ 0 i r (r + 1) l₀ l (set l r i) w (rw e (put_one r i l (picks_room k e))) (omega (arith, picked_length p i, count_rises p i n low))

    pub picks_skip : p i ≡ false → Put 0 (picked p (i + 1)) l₀ l r
    unfolding picked
    picks_skip e = put_skip _ 0 i r l₀ l (rw e) w

    pub picks_end : n ≤ i → l ≡ overlaid 0 (picked p n) l₀
    picks_end g = let q : i ≡ n = omega arith in rw q at w.done
