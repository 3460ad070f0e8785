-- Distances: gaps and octile distances as sums of differences, the distances between places, and the estimates, which are the distances of the states' cells.
use Rattle.std.specs.Prelude.{◌≡◌, List, [], ◌∷◌, ◌++◌, ℕ, zero, suc, ◌+◌, ◌*◌, ◌-◌, ◌/◌, ◌%◌, ◌≤◌, ◌<◌}
use Rattle.std.proofs.Math.Path.{sym}
use borrow.Rule.Slice.PartMut.{put_mid}
use Rattle.std.proofs.Common.{ap, ◌∙◌, drop-drop, append-nil, append_assoc, add-zero, add-suc, zero-mul, mul-le-mul_right, ext_get_or}
use native.Mathlib.Omega.{arith}
use Rattle.std.proofs.Math.ListN.{length}
use Rattle.std.proofs.Math.Arith.{digits_lt, digits_div, digits_mod}
use Rattle.laws.specs.Table.{square_row, square_column}
use Rattle.laws.specs.Part.{overlaid}
use Rattle.laws.specs.Fill.{made, made_length, made_at, overlaid_length, overlaid_next, Filled, filled_zero}
use Rattle.rule.specs.Task.{estimate}
use Rattle.gridmap.specs.Map.{Map, stride, cell_of, state_count}
use Rattle.gridmap.specs.Estimates.{gap, octile, between, estimates_of}
use Rattle.gridmap.specs.declared.Spot.{Spot}
use Rattle.gridmap.specs.CellLaws.{spots_length, spot_is}
use Rattle.gridmap.specs.Laws.{spots_of, spot_in, apart, apart_from, table_of}

-- no `max`, no `min`
pub gap_sum : (a b : ℕ) → gap a b ≡ (a - b) + (b - a)
unfolding gap
gap_sum a b = omega arith

octile_sum : (a b : ℕ) → octile a b ≡ 1000 * a + 414 * b + 586 * (b - a)
unfolding octile
octile_sum a b = omega arith

-- a gap is no larger than what neither coordinate is larger than
gap_most : (a b n : ℕ) → a ≤ n → b ≤ n → gap a b ≤ n
gap_most a b n p q = omega (arith, gap_sum a b)

-- no detour is shorter
gap_triangle : (a b c : ℕ) → gap a c ≤ gap a b + gap b c
gap_triangle a b c = omega (arith, gap_sum a b, gap_sum b c, gap_sum a c)

octile_triangle : (a b c d e f : ℕ) → a ≤ b + c → d ≤ e + f → octile a d ≤ octile b e + octile c f
octile_triangle a b c d e f h k = omega (arith, octile_sum a d, octile_sum b e, octile_sum c f)

pub between_triangle : (w a b c : ℕ) → between w a c ≤ between w a b + between w b c
unfolding between
between_triangle w a b c =
    octile_triangle (gap (a / w) (c / w)) (gap (a / w) (b / w)) (gap (b / w) (c / w)) (gap (a % w) (c % w)) (gap (a % w) (b % w)) (gap (b % w) (c % w))
    (gap_triangle (a / w) (b / w) (c / w)) (gap_triangle (a % w) (b % w) (c % w))

-- a place is no distance from itself
pub between_self : (w a : ℕ) → between w a a ≡ 0
unfolding between
between_self w a = omega (arith, octile_sum (gap (a / w) (a / w)) (gap (a % w) (a % w)), gap_sum (a / w) (a / w), gap_sum (a % w) (a % w))

-- coordinates up to 256 make no estimate that is too large
pub between_small : (w a b : ℕ) → a / w ≤ 256 → a % w ≤ 256 → b / w ≤ 256 → b % w ≤ 256 → between w a b ≤ 255000000
unfolding between
between_small w a b h i j k =
    omega (arith, octile_sum (gap (a / w) (b / w)) (gap (a % w) (b % w)), gap_most (a / w) (b / w) 256 h j, gap_most (a % w) (b % w) 256 i k)

-- estimates are the distances of the states' cells
module _ (m : Map) where
  pub estimates_length : length (estimates_of m) ≡ state_count m * state_count m
  unfolding estimates_of
  estimates_length = made_length _ (state_count m * state_count m)

  pub estimate_is : (a b : ℕ) → a < state_count m → b < state_count m → estimate (estimates_of m) (state_count m) a b ≡ between (stride m) (cell_of m a) (cell_of m b)
  unfolding estimates_of
  estimate_is a b h k =
      made_at (λ i. between (stride m) (cell_of m (i / state_count m)) (cell_of m (i % state_count m))) (state_count m * state_count m) (a * state_count m + b) 0 (digits_lt h k)
      ∙ rw (digits_div a k, digits_mod a k)

  -- those between the spots of the cells
  apart_is : (a b : ℕ) → a < state_count m → b < state_count m → apart (spot_in (spots_of m) a) (spot_in (spots_of m) b) ≡ between (stride m) (cell_of m a) (cell_of m b)
  unfolding between
  apart_is a b h k = rw (spot_is m a h, spot_is m b k)

  pub table_is : table_of (spots_of m) ≡ estimates_of m
  unfolding table_of estimates_of
  table_is =
      rw (spots_length m)
      (ext_get_or 0 _ _ (made_length _ (state_count m * state_count m) ∙ sym (made_length _ (state_count m * state_count m)))
      (λ i l.
      let k : i < state_count m * state_count m = omega (arith, made_length (λ i. apart (spot_in (spots_of m) (i / state_count m)) (spot_in (spots_of m) (i % state_count m))) (state_count m * state_count m)) in
      made_at _ (state_count m * state_count m) i 0 k ∙ apart_is (i / state_count m) (i % state_count m) (square_row (state_count m) i k) (square_column (state_count m) i k)
      ∙ sym (made_at _ (state_count m * state_count m) i 0 k)))

-- a buffer with a part that was lent and filled
pub put_part : (at : ℕ) (l xs ys : List ℕ) → ys ≡ xs → (k : ℕ) → k ≡ length xs → put_mid at k l ys ≡ overlaid at xs l
put_part at l xs ys e k q = rw (e, q, drop-drop (length xs) at l)

-- a list by its elements in two parts, and a buffer that has the first at its front when the second is written behind it
made_parts : (f g : ℕ → ℕ) (i n : ℕ) → ((j : ℕ) → j < n → g j ≡ f (i + j)) → made f i ++ made g n ≡ made f (i + n)
unfolding made
made_parts f g i zero same = rw (append-nil, add-zero)
made_parts f g i (suc n) same = rw (add-suc, ← made_parts f g i n (λ j l. same j (omega arith)), same n (omega arith)) (sym (append_assoc (made f i) (made g n) (f (i + n) ∷ [])))

filled_part : (f g : ℕ → ℕ) (i n : ℕ) (l₀ l k : List ℕ) → ((j : ℕ) → j < n → g j ≡ f (i + j)) → i + n ≤ length l₀ → Filled f 0 l₀ l i → k ≡ overlaid i (made g n) l → Filled f 0 l₀ k (i + n)
filled_part f g i n l₀ l k same room w e =
    let behind : i ≡ 0 + length (made f i) = omega (arith, made_length f i) in
    record {
      done = e ∙ rw (made_parts f g i n same) at (overlaid_next 0 i l₀ l (made f i) (made g n) w.done behind (omega arith));
      long = ap length e ∙ overlaid_length i l (made g n) (omega (arith, made_length g n, w.long)) ∙ w.long;
    }

-- what a loop that writes them, those from one cell after those from another, knows: the first i stand at the front of l, which was l₀
abbrev pub Table : List Spot → List ℕ → List ℕ → ℕ → Type 0
Table spots l₀ l i = Filled (λ i. apart (spot_in spots (i / length spots)) (spot_in spots (i % length spots))) 0 l₀ l i

module _ (spots : List Spot) (l₀ l : List ℕ) where
  pub table_zero : Table spots l₀ l₀ (0 * length spots)
  table_zero = rw zero-mul (filled_zero _ 0 l₀)

  table_next : (a : ℕ) → a < length spots → length spots * length spots ≤ length l₀ → Table spots l₀ l (a * length spots)
      → (k : List ℕ) → k ≡ overlaid (a * length spots) (made (apart_from (spot_in spots a) spots) (length spots)) l → Table spots l₀ k ((a + 1) * length spots)
  table_next a h room w k e =
      let n = length spots in
      let next : a * n + n ≡ (a + 1) * n = omega arith in
      rw next at (filled_part _ (apart_from (spot_in spots a) spots) (a * n) n l₀ l k (λ j l. rw (digits_div a l, digits_mod a l)) (omega (arith, mul-le-mul_right n h)) w e)

  pub table_more : (a : ℕ) → a < length spots → length spots * length spots ≤ length l₀ → Table spots l₀ l (a * length spots)
      → (ys : List ℕ) → ys ≡ made (apart_from (spot_in spots a) spots) (length spots) → Table spots l₀ (put_mid (a * length spots) (a * length spots + length spots - a * length spots) l ys) ((a + 1) * length spots)
  table_more a h room w ys e =
      let n = length spots in
      let long : a * n + n - a * n ≡ length (made (apart_from (spot_in spots a) spots) n) = omega (arith, made_length (apart_from (spot_in spots a) spots) n) in
      table_next a h room w _ (put_part (a * n) l (made (apart_from (spot_in spots a) spots) n) ys e (a * n + n - a * n) long)

  pub table_end : (a : ℕ) → a ≤ length spots → length spots ≤ a → Table spots l₀ l (a * length spots) → l ≡ overlaid 0 (table_of spots) l₀
  unfolding table_of
  table_end a h k w = let q : a ≡ length spots = omega arith in rw q at w.done
