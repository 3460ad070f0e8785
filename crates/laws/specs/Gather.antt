-- A list gathered from pieces, the piece of 0, then the piece of 1, and so on; and the numbers that pass a test, gathered so: what stands where.
-- Assumes nothing.
use Rattle.std.specs.Prelude.{◌≡◌, Bool, true, false, List, [], ◌∷◌, ◌++◌, eqb}
use Rattle.std.proofs.Math.Path.{refl}
use Rattle.std.proofs.Common.{◌∙◌, append-nil, suc-mul, add-one, get_or-append-add, eq-eqb, ne_eqb}
use Rattle.std.proofs.Math.Bool.{cond}
use Prim.Native.Nat.{ℕ, zero, suc, ◌+◌, ◌*◌, ◌≤◌, ◌<◌}
use Rattle.std.proofs.Math.Decide.{ℕ_discrete}
use native.Mathlib.Omega.{arith}
use Rattle.std.proofs.Math.ListN.{length, get_or, length-append, get_or-append}
use Rattle.laws.specs.Count.{one, count, count_find, count_before}
use Rattle.laws.specs.First.{first, first_none, first_found}

-- the pieces of the numbers below n, in their order
unfoldable pub gathered : {X : Type 0} → (ℕ → List X) → ℕ → List X
gathered f zero = []
gathered f (suc i) = gathered f i ++ f i

module _ {X : Type 0} (f : ℕ → List X) where
  pub gathered_zero : gathered f 0 ≡ []
  unfolding gathered
  gathered_zero = refl

  pub gathered_more : (i : ℕ) → gathered f (i + 1) ≡ gathered f i ++ f i
  unfolding gathered
  gathered_more i = rw (add-one i)

  -- a number whose piece is empty adds nothing
  pub gathered_same : (i : ℕ) → f i ≡ [] → gathered f (i + 1) ≡ gathered f i
  gathered_same i e = gathered_more i ∙ rw e (append-nil (gathered f i))

-- where each piece stands: behind the pieces before it
module _ {X : Type 0} (f : ℕ → List X) where
  pub gathered_room : (n j : ℕ) → j < n → length (gathered f j) + length (f j) ≤ length (gathered f n)
  unfolding gathered
  gathered_room zero j l = absurd (omega arith)
  gathered_room (suc n) j l = go (λ k. gathered_room n j k) (ℕ_discrete j n)
    where
      go : (j < n → length (gathered f j) + length (f j) ≤ length (gathered f n)) → Dec (j ≡ n) → length (gathered f j) + length (f j) ≤ length (gathered f (suc n))
      go ih (yes e) = rw e (omega (arith, length-append (gathered f n) (f n)))
      go ih (no d) = omega (arith, ih (omega arith), length-append (gathered f n) (f n))

  pub gathered_at : (n j k : ℕ) (d : X) → j < n → k < length (f j) → get_or (gathered f n) (length (gathered f j) + k) d ≡ get_or (f j) k d
  unfolding gathered
  gathered_at zero j k d l h = absurd (omega arith)
  gathered_at (suc n) j k d l h = go (λ q. gathered_at n j k d q h) (ℕ_discrete j n)
    where
      go : (j < n → get_or (gathered f n) (length (gathered f j) + k) d ≡ get_or (f j) k d) → Dec (j ≡ n) → get_or (gathered f (suc n)) (length (gathered f j) + k) d ≡ get_or (f j) k d
      go ih (yes e) = rw e (get_or-append-add (gathered f n) (f n) k d)
      go ih (no q) = get_or-append (gathered f n) (f n) d (length (gathered f j) + k) (omega (arith, gathered_room n j (omega arith))) ∙ ih (omega arith)

-- pieces that are w long each
pub gathered_even : {X : Type 0} (f : ℕ → List X) (w : ℕ) → ((i : ℕ) → length (f i) ≡ w) → (n : ℕ) → length (gathered f n) ≡ n * w
unfolding gathered
gathered_even f w each zero = omega arith
gathered_even f w each (suc i) = rw (length-append, gathered_even f w each i, each i, suc-mul)

-- pieces that are empty or w long: by how many of them come before
module _ {X : Type 0} (f : ℕ → List X) (q : ℕ → Bool) (w : ℕ) (long : (j : ℕ) → length (f j) ≡ w * one (q j)) where
  pub gathered_length : (n : ℕ) → length (gathered f n) ≡ w * count q n
  unfolding gathered count
  gathered_length zero = omega arith
  gathered_length (suc n) = length-append (gathered f n) (f n) ∙ omega (arith, gathered_length n, long n)

  pub gathered_piece : (n j k : ℕ) (d : X) → j < n → q j ≡ true → k < w → get_or (gathered f n) (w * count q j + k) d ≡ get_or (f j) k d
  gathered_piece n j k d l e h = rw (← gathered_length j) (gathered_at f n j k d l (omega (arith, rw e at (long j))))

-- the numbers below n that pass a test, in their order
unfoldable pub picked : (ℕ → Bool) → ℕ → List ℕ
picked p n = gathered (λ i. cond (p i) (i ∷ []) []) n

module _ (p : ℕ → Bool) where
  piece_length : (i : ℕ) (b : Bool) → length (cond b (i ∷ []) []) ≡ one b
  piece_length i true = refl
  piece_length i false = refl

  pub picked_length : (n : ℕ) → length (picked p n) ≡ count p n
  unfolding picked gathered count
  picked_length zero = refl
  picked_length (suc i) = length-append (picked p i) (cond (p i) (i ∷ []) []) ∙ omega (arith, picked_length i, piece_length i (p i))

  -- the place of a number that passes is how many pass before it
  pub picked_at : (n i : ℕ) → i < n → p i ≡ true → get_or (picked p n) (count p i) 0 ≡ i
  unfolding picked
  picked_at n i l e =
      let place : count p i ≡ 1 * count p i + 0 = omega arith in
      let piece : get_or (cond (p i) (i ∷ []) []) 0 0 ≡ i = rw e in
      rw place (gathered_piece (λ i. cond (p i) (i ∷ []) []) p 1 (λ j. piece_length j (p j) ∙ omega arith) n i 0 0 l e (omega arith) ∙ piece)

  -- what stands at a place passes, is below n, and so many pass before it
  pub picked_passes : (n s : ℕ) → s < count p n → p (get_or (picked p n) s 0) ≡ true
  picked_passes n s l = let (j, b, e, c) = count_find p n s l in rw (← c, picked_at n j b e) e

  pub picked_below : (n s : ℕ) → s < count p n → get_or (picked p n) s 0 < n
  picked_below n s l = let (j, b, e, c) = count_find p n s l in rw (← c, picked_at n j b e) b

  pub picked_count : (n s : ℕ) → s < count p n → count p (get_or (picked p n) s 0) ≡ s
  picked_count n s l = let (j, b, e, c) = count_find p n s l in rw (← c, picked_at n j b e)

  -- so a search for a number that passes finds its place
  pub picked_first : (n i : ℕ) → i < n → p i ≡ true → first (λ s. eqb (get_or (picked p n) s 0) i) (length (picked p n)) ≡ count p i
  picked_first n i l e =
      let k = count_before p i n l e in
      let none : (s : ℕ) → s < count p i → eqb (get_or (picked p n) s 0) i ≡ false = λ s q. ne_eqb (get_or (picked p n) s 0) i (λ z. omega (arith, rw z at (picked_count n s (omega arith)))) in
      first_found _ (count p i) (length (picked p n)) (first_none _ (count p i) none) (eq-eqb _ _ (picked_at n i l e)) (omega (arith, picked_length n))
