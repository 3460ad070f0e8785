-- What the loops that fill the lent slices know: the pieces put so far stand one after the other, from a place on.
-- Assumes nothing.
use Rattle.std.specs.Prelude.{◌≡◌, refl, List, [], ◌∷◌, ℕ, suc, ◌+◌, ◌*◌, ◌≤◌, ◌<◌, length}
use Rattle.std.proofs.Common.{◌∙◌, suc-mul, mul-le-mul_right, arith, drop-drop}
use borrow.Rule.Slice.PartMut.{put_mid}
use Rattle.laws.specs.Part.{overlaid}
use Rattle.laws.specs.Fill.{made, made_length}
use Rattle.laws.specs.Gather.{gathered, gathered_even}
use Rattle.laws.specs.Put.{Put, put_length, put_started, put_piece}
use Rattle.taskfile.specs.Bytes.{byte, number_at, word, long}
use Rattle.taskfile.specs.Records.{worker_width, event_of, passage_place, row_place, call_place}

-- a part of a list, overwritten by a list as long
pub put_part : {X : Type 0} (at k : ℕ) (l xs ys : List X) → xs ≡ ys → length ys ≡ k → put_mid at k l xs ≡ overlaid at ys l
put_part at k l xs ys e long = rw (e, ← long, drop-drop (length ys) at l)

-- the three numbers of passage i; the n estimates of the row whose record starts at `at`, and of row r
unfoldable pub passage_in : List ℕ → ℕ → List ℕ
passage_in file i = word file (passage_place i + 4) ∷ word file (passage_place i + 6) ∷ long file (passage_place i + 8) ∷ []

abbrev pub row_from : List ℕ → ℕ → ℕ → List ℕ
row_from file at n = made (λ c. long file (at + 6 + 4 * c)) n

unfoldable pub row_in : List ℕ → ℕ → ℕ → ℕ → List ℕ
row_in file passages n r = row_from file (row_place passages n r) n

-- call i, as one number
abbrev pub call_in : List ℕ → ℕ → ℕ → ℕ → ℕ
call_in file passages n i = event_of (byte file (call_place passages n i + 4)) (number_at worker_width file (call_place passages n i + 5))

-- pieces that are w long each, put one after another to a slice from a place on, which has kept its length
pub record Stacked (f : ℕ → List ℕ) (w at : ℕ) (l₀ l : List ℕ) (i : ℕ) : Type 0 where
  pub text : Put at (gathered f i) l₀ l (at + i * w)
  pub kept : length l ≡ length l₀

module _ (f : ℕ → List ℕ) (w : ℕ) (each : (i : ℕ) → length (f i) ≡ w) (at : ℕ) (l₀ : List ℕ) where
  pub stacked_zero : Stacked f w at l₀ l₀ 0
  stacked_zero = record { text = record { done = (put_started f at l₀).done; next = omega (arith, gathered_even f w each 0) }; kept = refl }

  pub stacked_more : (l l' : List ℕ) (i p : ℕ) → Stacked f w at l₀ l i → p ≡ at + i * w → at + i * w + w ≤ length l₀ → l' ≡ overlaid p (f i) l → Stacked f w at l₀ l' (i + 1)
  stacked_more l l' i p s q room e =
      let piece : Put (at + i * w) (f i) l l' (at + i * w + w) = record { done = rw q at e; next = omega (arith, each i) } in
      record {
        text = record { done = (put_piece f at i (at + i * w) (at + i * w + w) l₀ l l' s.text piece (omega (arith, gathered_even f w each i))).done; next = omega (arith, gathered_even f w each (i + 1), suc-mul i w) };
        kept = put_length (at + i * w) (at + i * w + w) (f i) l l' piece (omega (arith, each i, s.kept)) ∙ s.kept;
      }

pub stacked_end : (f : ℕ → List ℕ) (w at : ℕ) (l₀ l : List ℕ) (i n : ℕ) → Stacked f w at l₀ l i → i ≤ n → n ≤ i → l ≡ overlaid at (gathered f n) l₀
stacked_end f w at l₀ l i n s a b = let q : i ≡ n = omega arith in rw q at s.text.done

-- passages are three numbers each
pub passage_length_lem : (file : List ℕ) (i : ℕ) → length (passage_in file i) ≡ 3
unfolding passage_in
passage_length_lem file i = refl

pub passages_zero : (file l : List ℕ) → Stacked (passage_in file) 3 0 l l 0
passages_zero file l = stacked_zero (passage_in file) 3 (passage_length_lem file) 0 l

pub passages_more : (file l₀ l l' : List ℕ) (i : ℕ) → Stacked (passage_in file) 3 0 l₀ l i → 3 * i + 3 ≤ length l₀ → l' ≡ overlaid (3 * i) (passage_in file i) l → Stacked (passage_in file) 3 0 l₀ l' (i + 1)
passages_more file l₀ l l' i s room e = stacked_more (passage_in file) 3 (passage_length_lem file) 0 l₀ l l' i (3 * i) s (omega arith) (omega arith) e

-- rows are n estimates each
module _ (file : List ℕ) (passages n : ℕ) (l₀ : List ℕ) where
  pub row_length_lem : (r : ℕ) → length (row_in file passages n r) ≡ n
  unfolding row_in
  row_length_lem r = made_length _ n

  pub rows_zero : Stacked (row_in file passages n) n 0 l₀ l₀ 0
  rows_zero = stacked_zero (row_in file passages n) n row_length_lem 0 l₀

  pub rows_more : (l l' : List ℕ) (r : ℕ) → Stacked (row_in file passages n) n 0 l₀ l r → r * n + n ≤ length l₀ → l' ≡ overlaid (r * n) (row_from file (row_place passages n r) n) l
      → Stacked (row_in file passages n) n 0 l₀ l' (r + 1)
  unfolding row_in
  rows_more l l' r s room e = stacked_more (row_in file passages n) n row_length_lem 0 l₀ l l' r (r * n) s (omega arith) (omega arith) e

-- a part of n equal ones, with its length
pub part_inside : (r n k : ℕ) → r < n → r * k + k ≤ n * k
part_inside r n k h = let s : suc r ≤ n = omega arith in rw suc-mul at (mul-le-mul_right k s)
