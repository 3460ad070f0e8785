-- A list stands in another from a place on: what that says of joined, gathered and made lists, in both directions.
-- Assumes nothing.
use Rattle.std.specs.Prelude.{◌≡◌, List, [], ◌∷◌, ◌++◌, length, get_or}
use Rattle.std.proofs.Common.{sym, ◌∙◌, add-zero, zero-add, add_assoc, eq-or-lt_of_le, le_of_suc-le-suc, arith, length-append, get_or-append-add, ext_get_or}
use Rattle.std.proofs.Math.Logic.{⊎_elim}
use Prim.Native.Nat.{ℕ, zero, suc, ◌+◌, ◌*◌, ◌<◌}
use Rattle.std.proofs.Math.ListN.{get_or-append}
use Rattle.laws.specs.Fill.{made, made_length, made_at}
use Rattle.laws.specs.Gather.{gathered, gathered_even}

-- what xs holds, l holds from `at` on
pub record Stands (xs l : List ℕ) (at : ℕ) : Type 0 where
  pub each : (i : ℕ) → i < length xs → get_or l (at + i) 0 ≡ get_or xs i 0

-- every list stands in itself, and what stands at the front of a list as long is that list
pub stands_own : (l : List ℕ) → Stands l l 0
stands_own l = record { each = λ i h. rw zero-add }

pub stands_same : {xs l : List ℕ} → Stands xs l 0 → length xs ≡ length l → xs ≡ l
stands_same {xs} {l} s e = ext_get_or 0 xs l e (λ i h. sym (rw zero-add at (s.each i h)))

-- nothing; and one element, then the others
pub stands_none : {l : List ℕ} {at : ℕ} → Stands [] l at
stands_none = record { each = λ i h. absurd (omega arith) }

module _ {x : ℕ} {xs l : List ℕ} {at : ℕ} where
  pub stands_head : Stands (x ∷ xs) l at → get_or l at 0 ≡ x
  stands_head s = rw add-zero at (s.each 0 (omega arith))

  pub stands_tail : Stands (x ∷ xs) l at → Stands xs l (at + 1)
  stands_tail s = record { each = λ i h. let q : at + 1 + i ≡ at + suc i = omega arith in rw q (s.each (suc i) (omega arith)) }

  pub stands_cons : get_or l at 0 ≡ x → Stands xs l (at + 1) → Stands (x ∷ xs) l at
  stands_cons e s = record { each = go }
    where
      go : (i : ℕ) → i < suc (length xs) → get_or l (at + i) 0 ≡ get_or (x ∷ xs) i 0
      go zero h = rw add-zero e
      go (suc i) h = let q : at + suc i ≡ at + 1 + i = omega arith in rw q (s.each i (omega arith))

-- one list, then another
module _ {l : List ℕ} where
  pub stands_left : (xs ys : List ℕ) {at : ℕ} → Stands (xs ++ ys) l at → Stands xs l at
  stands_left xs ys s = record { each = λ i h. s.each i (omega (arith, length-append xs ys)) ∙ get_or-append xs ys 0 i h }

  pub stands_right : (xs ys : List ℕ) {at : ℕ} → Stands (xs ++ ys) l at → Stands ys l (at + length xs)
  stands_right xs ys {at} s =
      record { each = λ i h. rw (add_assoc at (length xs) i) (s.each (length xs + i) (omega (arith, length-append xs ys)) ∙ get_or-append-add xs ys i 0) }

  pub stands_both : (xs ys : List ℕ) {at : ℕ} → Stands xs l at → Stands ys l (at + length xs) → Stands (xs ++ ys) l at
  stands_both [] ys s t = rw add-zero at t
  stands_both (x ∷ xs) ys {at} s t =
      let q : at + suc (length xs) ≡ at + 1 + length xs = omega arith in
      stands_cons (stands_head s) (stands_both xs ys (stands_tail s) (rw q at t))

-- pieces that are w long each
module _ (f : ℕ → List ℕ) (w : ℕ) (long : (i : ℕ) → length (f i) ≡ w) {l : List ℕ} {at : ℕ} where
  pub stands_piece : (n i : ℕ) → Stands (gathered f n) l at → i < n → Stands (f i) l (at + i * w)
  unfolding gathered
  stands_piece zero i s h = absurd (omega arith)
  stands_piece (suc n) i s h =
      ⊎_elim (λ q. rw q (rw (gathered_even f w long n) at (stands_right (gathered f n) (f n) s)))
      (λ k. stands_piece n i (stands_left (gathered f n) (f n) s) k) (eq-or-lt_of_le (le_of_suc-le-suc h))

  pub stands_gathered : (n : ℕ) → ((i : ℕ) → i < n → Stands (f i) l (at + i * w)) → Stands (gathered f n) l at
  unfolding gathered
  stands_gathered zero s = stands_none
  stands_gathered (suc n) s = stands_both (gathered f n) (f n) (stands_gathered n (λ i h. s i (omega arith))) (rw (gathered_even f w long n) (s n (omega arith)))

-- elements one by one
module _ (f : ℕ → ℕ) (n : ℕ) {l : List ℕ} {at : ℕ} where
  pub stands_element : Stands (made f n) l at → (i : ℕ) → i < n → get_or l (at + i) 0 ≡ f i
  stands_element s i h = s.each i (omega (arith, made_length f n)) ∙ made_at f n i 0 h

  pub stands_made : ((i : ℕ) → i < n → get_or l (at + i) 0 ≡ f i) → Stands (made f n) l at
  stands_made e = record { each = λ i h. let k : i < n = omega (arith, made_length f n) in e i k ∙ sym (made_at f n i 0 k) }
