-- Steps of loops over these definitions: pieces of text written one after another to a buffer.
-- Assumes nothing.
use Rattle.std.specs.Prelude.{◌≡◌, [], ◌∷◌, ◌++◌, List, length, get_or, take}
use Rattle.std.proofs.Common.{sym, ap, ◌∙◌, take_all, take-suc, lt-ltb, le-ltb}
use Prim.Native.Nat.{ℕ, zero, suc, ◌+◌, ◌-◌, ◌/◌, ◌%◌, ◌≤◌, ◌<◌}
use native.Mathlib.Omega.{arith}
use Rattle.std.proofs.Math.Path.{refl}
use Rattle.laws.specs.Put.{Put, put_next, put_none, put_length, put_three}
use Rattle.laws.specs.Fill.{made, Filled, filled_end}
use Rattle.laws.specs.Ascii.{ascii}
use Rattle.report.specs.Decimal.{glyph, decimal_in, decimal}
use Rattle.report.specs.Line.{numbers}
use Rattle.report.specs.LineLaws.{decimal_most, decimal_le}

-- a word, written byte by byte
made_word : (word : List ℕ) (i : ℕ) → i ≤ length word → made (λ k. get_or word k 0) i ≡ take i word
unfolding made
made_word word zero h = refl
made_word word (suc i) h = ap (λ (l : List ℕ). l ++ (get_or word i 0 ∷ [])) (made_word word i (omega arith)) ∙ sym (take-suc word i 0 h)

pub word_end : (at i : ℕ) (word l₀ l : List ℕ) → Filled (λ k. get_or word k 0) at l₀ l i → i ≤ length word → length word ≤ i → Put at word l₀ l (at + length word)
word_end at i word l₀ l w a b =
    record { done = rw (made_word word (length word) (omega arith), take_all (length word) word (omega arith)) at (filled_end (λ k. get_or word k 0) at (length word) l₀ l i w a b); next = refl }

-- a number takes so many places at most
pub digits_room : (most n : ℕ) {at r : ℕ} {l₀ l : List ℕ} → Put at (decimal_in most n) l₀ l r → r ≤ at + most
digits_room most n p = omega (arith, p.next, decimal_most most n)

-- its digits, put one after another: none, one alone, or one behind the others
module _ (at n : ℕ) (l₀ : List ℕ) where
  pub digits_none : (most : ℕ) → most ≡ 0 → Put at (decimal_in most n) l₀ l₀ at
  unfolding decimal_in
  digits_none most e = rw e (put_none at l₀)

  pub digits_one : (most r : ℕ) (l : List ℕ) → (most ≡ 0 → ⊥) → n < 10 → Put at (glyph n ∷ []) l₀ l r → Put at (decimal_in most n) l₀ l r
  unfolding decimal_in
  digits_one zero r l z h p = absurd (z refl)
  digits_one (suc more) r l z h p = rw (lt-ltb n 10 h) p

  pub digits_more : (most p r : ℕ) (l₁ l₂ : List ℕ) → (most ≡ 0 → ⊥) → 10 ≤ n → at + most ≤ length l₀
      → Put at (decimal_in (most - 1) (n / 10)) l₀ l₁ p → Put p (glyph (n % 10) ∷ []) l₁ l₂ r → Put at (decimal_in most n) l₀ l₂ r
  unfolding decimal_in
  digits_more zero p r l₁ l₂ z h room a b = absurd (z refl)
  digits_more (suc more) p r l₁ l₂ z h room a b =
      let less : suc more - 1 ≡ more = omega arith in
      rw (le-ltb n 10 h) (put_next at p r (decimal_in more (n / 10)) (glyph (n % 10) ∷ []) l₀ l₁ l₂ (rw less at a) b (omega (arith, decimal_most more (n / 10))))

-- a blank and a number
put_number : (at p r n : ℕ) (l₀ l₁ l₂ : List ℕ) → Put at (ascii " ") l₀ l₁ p → Put p (decimal n) l₁ l₂ r → at < length l₀ → Put at (ascii " " ++ decimal n) l₀ l₂ r
put_number at p r n l₀ l₁ l₂ a b h = put_next at p r (ascii " ") (decimal n) l₀ l₁ l₂ a b (omega arith)

-- a word and one number; a word and two
pub put_line1 : (at p q r s a : ℕ) (word l₀ l₁ l₂ l₃ l₄ : List ℕ) → Put at word l₀ l₁ p → Put p (ascii " ") l₁ l₂ q → Put q (decimal a) l₂ l₃ r → Put r (ascii "\n") l₃ l₄ s
    → length word ≤ 7 → at + 50 ≤ length l₀ → Put at (word ++ numbers (a ∷ [])) l₀ l₄ s × (s ≤ at + 50)
unfolding numbers
put_line1 at p q r s a word l₀ l₁ l₂ l₃ l₄ w b d e short room =
    let few : length (decimal a) ≤ 20 = decimal_le a in
    let long : length l₁ ≡ length l₀ = put_length at p word l₀ l₁ w (omega arith) in
    (put_three at p r s word (ascii " " ++ decimal a) (ascii "\n") l₀ l₁ l₃ l₄ w (put_number p q r a l₁ l₂ l₃ b d (omega arith)) e (omega arith), omega arith)

pub put_line2 : (at p q r s t u a b : ℕ) (word l₀ l₁ l₂ l₃ l₄ l₅ l₆ : List ℕ) → Put at word l₀ l₁ p → Put p (ascii " ") l₁ l₂ q → Put q (decimal a) l₂ l₃ r
    → Put r (ascii " ") l₃ l₄ s → Put s (decimal b) l₄ l₅ t → Put t (ascii "\n") l₅ l₆ u
    → length word ≤ 7 → at + 50 ≤ length l₀ → Put at (word ++ numbers (a ∷ b ∷ [])) l₀ l₆ u × (u ≤ at + 50)
unfolding numbers
put_line2 at p q r s t u a b word l₀ l₁ l₂ l₃ l₄ l₅ l₆ w x d y f e short room =
    let few : length (decimal a) ≤ 20 = decimal_le a in
    let few' : length (decimal b) ≤ 20 = decimal_le b in
    let long : length l₁ ≡ length l₀ = put_length at p word l₀ l₁ w (omega arith) in
    let one = put_number p q r a l₁ l₂ l₃ x d (omega arith) in
    let long' : length l₃ ≡ length l₁ = put_length p r (ascii " " ++ decimal a) l₁ l₃ one (omega arith) in
    let two = put_number r s t b l₃ l₄ l₅ y f (omega arith) in
    (put_three at p r u word (ascii " " ++ decimal a) (ascii " " ++ (decimal b ++ ascii "\n")) l₀ l₁ l₃ l₆ w one (put_next r t u (ascii " " ++ decimal b) (ascii "\n") l₃ l₅ l₆ two e (omega arith)) (omega arith), omega arith)
