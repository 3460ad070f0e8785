-- What a map's head comes to: the number that digits make, and how large a right head's numbers are.
use Rattle.std.specs.Prelude.{◌≡◌, refl, Bool, true, false, not, cond, List, ℕ, zero, suc, ◌+◌, ◌*◌, ◌≤◌, ◌<◌, length, leb, eqb, Some, None, is_none}
use Prim.Native.Char.{code}
use Rattle.std.proofs.Common.{sym, ap, ◌∙◌}
use Rattle.std.proofs.lemmas.Option.{cond_some}
use native.Mathlib.Omega.{arith}
use borrow.Author.Tests.{leb-true}
use Rattle.laws.specs.Truth.{and_left, and_right}
use Rattle.laws.specs.Fold.{fold, fold_more}
use Rattle.laws.specs.First.{first, first_more, first_at, first_end, first_le}
use Rattle.gridmap.specs.Small.{Small}
use Rattle.laws.specs.Ascii.{ascii}
use Rattle.gridmap.specs.Text.{byte, is_word, digit, digits, number, size, is_size, height_at, width_at, rows_at, head_right}
use Rattle.gridmap.specs.Map.{Map, map_of}
use Rattle.gridmap.specs.Laws.{word_read, size_read}

-- the largest that so many digits can make
abbrev pub most : ℕ → ℕ
most zero = 0
most (suc zero) = 9
most (suc (suc zero)) = 99
most (suc (suc (suc i))) = 999

most_more : (i : ℕ) → i < 3 → 10 * most i + 9 ≤ most (i + 1)
most_more zero l = omega arith
most_more (suc zero) l = omega arith
most_more (suc (suc zero)) l = omega arith
most_more (suc (suc (suc i))) l = omega arith

most_top : (i : ℕ) → most i ≤ 999
most_top zero = omega arith
most_top (suc zero) = omega arith
most_top (suc (suc zero)) = omega arith
most_top (suc (suc (suc i))) = omega arith

-- what a loop that reads digits knows at i: each of the i digits before stands there, and v is what they make
pub record Read (text : List ℕ) (at i v : ℕ) : Type 0 where
  pub stand : first (λ i. is_none (digit text (at + i))) i ≡ i
  pub done : v ≡ number text at i
  pub few : v ≤ most i
  pub low : v ≤ 999

module _ (text : List ℕ) (at : ℕ) where
  pub read_zero : Read text at 0 0
  unfolding number fold first
  read_zero = record { stand = refl; done = refl; few = omega arith; low = omega arith }

  pub read_more : (i v d : ℕ) → i < 3 → Read text at i v → digit text (at + i) ≡ Some d → d ≤ 9 → Read text at (i + 1) (10 * v + d)
  unfolding number
  read_more i v d l r e t =
      let few : 10 * v + d ≤ most (i + 1) = omega (arith, r.few, most_more i l) in
      record { stand = first_more _ i r.stand (rw e); done = rw (fold_more, ← r.done, e); few = few; low = omega (arith, most_top (i + 1)) }

  -- where the digits end, early or after three
  pub read_stop : (i v : ℕ) → i < 3 → Read text at i v → digit text (at + i) ≡ None → (v ≡ size text at) × (v ≤ 999)
  unfolding digits
  read_stop i v l r e = let many : i ≡ first (λ i. is_none (digit text (at + i))) 3 = first_at _ i 3 r.stand (rw e) l in (rw many at r.done, r.low)

  pub read_end : (i v : ℕ) → i ≤ 3 → 3 ≤ i → Read text at i v → (v ≡ size text at) × (v ≤ 999)
  unfolding digits
  read_end i v l g r =
      let many : i ≡ first (λ i. is_none (digit text (at + i))) 3 = let q : i ≡ 3 = omega arith in q ∙ first_end _ i 3 r.stand l g in
      (rw many at r.done, r.low)

  digits_most : digits text at ≤ 3
  unfolding digits
  digits_most = first_le _ 3

  size_most : is_size text at ≡ true → size text at ≤ 256
  unfolding is_size
  size_most e = leb-true _ _ (and_right (leb 1 (size text at)) _ (and_right (not (eqb (byte text at) (code "0"))) _ e))

-- the words between the numbers take 19, 7 and 5 bytes
pub words_take : (length (ascii "type octile\nheight ") ≡ 19) × (length (ascii "\nwidth ") ≡ 7) × (length (ascii "\nmap\n") ≡ 5)
words_take = (refl, refl, refl)

-- a word or a number that was read, or that doesn't stand there
module _ (text : List ℕ) (at : ℕ) where
  word_is : (word : List ℕ) (r : ℕ) → Some r ≡ word_read text at word → (is_word text at word ≡ true) × (at + length word ≡ r)
  word_is word r e = cond_some (is_word text at word) (at + length word) r (sym e)

  size_is : (v r : ℕ) → Some (v, r) ≡ size_read text at → (is_size text at ≡ true) × (size text at ≡ v) × (at + digits text at ≡ r)
  size_is v r e =
      let c = cond_some (is_size text at) (size text at, at + digits text at) (v, r) (sym e) in
      (c.0, ap (λ (p : ℕ × ℕ). p.0) c.1, ap (λ (p : ℕ × ℕ). p.1) c.1)

not_read : {A : Type 0} (b : Bool) (x : A) → None ≡ cond b (Some x) None → b ≡ false
not_read true x e = cc
not_read false x e = refl

-- what was read of a head, word by word, or where it stops to be right
module _ (text : List ℕ) where
  pub no_type : None ≡ word_read text 0 (ascii "type octile\nheight ") → head_right text ≡ false
  unfolding head_right
  no_type e = rw (not_read (is_word text 0 (ascii "type octile\nheight ")) 19 e)

  module _ (at₀ : ℕ) (typed : Some at₀ ≡ word_read text 0 (ascii "type octile\nheight ")) where
    first_word : is_word text 0 (ascii "type octile\nheight ") ≡ true
    first_word = (word_is text 0 _ at₀ typed).0

    pub first_place : height_at ≡ at₀
    first_place = (word_is text 0 _ at₀ typed).1

    pub no_height : None ≡ size_read text at₀ → head_right text ≡ false
    unfolding head_right
    no_height e = rw (first_word, not_read (is_size text height_at) _ (rw (← first_place) at e))

    module _ (y at₁ : ℕ) (high : Some (y, at₁) ≡ size_read text at₀) where
      height_is : (is_size text height_at ≡ true) × (size text height_at ≡ y) × (height_at + digits text height_at ≡ at₁)
      height_is = size_is text height_at y at₁ (rw (← first_place) at high)

      pub second_place : at₁ ≤ 22
      second_place = omega (arith, height_is.2, digits_most text height_at)

      pub no_width_word : None ≡ word_read text at₁ (ascii "\nwidth ") → head_right text ≡ false
      unfolding head_right
      no_width_word e = rw (first_word, height_is.0, not_read (is_word text (height_at + digits text height_at) (ascii "\nwidth ")) _ (rw (← height_is.2) at e))

      module _ (at₂ : ℕ) (worded : Some at₂ ≡ word_read text at₁ (ascii "\nwidth ")) where
        second_word : (is_word text (height_at + digits text height_at) (ascii "\nwidth ") ≡ true) × (width_at text ≡ at₂)
        unfolding width_at
        second_word = word_is text (height_at + digits text height_at) _ at₂ (rw (← height_is.2) at worded)

        pub third_place : at₂ ≤ 29
        unfolding width_at
        third_place = omega (arith, second_word.1, digits_most text height_at)

        pub no_width : None ≡ size_read text at₂ → head_right text ≡ false
        unfolding head_right
        no_width e = rw (first_word, height_is.0, second_word.0, not_read (is_size text (width_at text)) _ (rw (← second_word.1) at e))

        module _ (x at₃ : ℕ) (wide : Some (x, at₃) ≡ size_read text at₂) where
          width_is : (is_size text (width_at text) ≡ true) × (size text (width_at text) ≡ x) × (width_at text + digits text (width_at text) ≡ at₃)
          width_is = size_is text (width_at text) x at₃ (rw (← second_word.1) at wide)

          pub fourth_place : at₃ ≤ 32
          fourth_place = omega (arith, width_is.2, digits_most text (width_at text), second_word.1, third_place)

          pub no_map : None ≡ word_read text at₃ (ascii "\nmap\n") → head_right text ≡ false
          unfolding head_right
          no_map e = rw (first_word, height_is.0, second_word.0, width_is.0, not_read (is_word text (width_at text + digits text (width_at text)) (ascii "\nmap\n")) _ (rw (← width_is.2) at e))

          module _ (rows : ℕ) (mapped : Some rows ≡ word_read text at₃ (ascii "\nmap\n")) where
            third_word : (is_word text (width_at text + digits text (width_at text)) (ascii "\nmap\n") ≡ true) × (rows_at text ≡ rows)
            unfolding rows_at
            third_word = word_is text (width_at text + digits text (width_at text)) _ rows (rw (← width_is.2) at mapped)

            pub head_is : head_right text ≡ true
            unfolding head_right
            head_is = rw (first_word, height_is.0, second_word.0, width_is.0, third_word.0)

            pub map_is : record { text = text; height = y; width = x; rows = rows } ≡ map_of text
            unfolding map_of
            map_is = rw (height_is.1, width_is.1, third_word.1)

-- how large the numbers of a head that is right are
module _ (text : List ℕ) (e : head_right text ≡ true) where
  pub height_most : (map_of text).height ≤ 256
  unfolding head_right map_of
  height_most = size_most text height_at (search (and_left, and_right, e))

  pub width_most : (map_of text).width ≤ 256
  unfolding head_right map_of
  width_most = size_most text (width_at text) (search (and_left, and_right, e))

  rows_near : (map_of text).rows ≤ 37
  unfolding map_of rows_at width_at
  rows_near = omega (arith, digits_most text height_at, digits_most text (width_at text))

  pub small_head : (m : Map) → m ≡ map_of text → Small m.height m.width m.rows
  small_head m q =
      record {
        high = omega (arith, ap (λ (m : Map). m.height) q, height_most);
        wide = omega (arith, ap (λ (m : Map). m.width) q, width_most);
        near = omega (arith, ap (λ (m : Map). m.rows) q, rows_near);
      }
