-- Steps of loops over these definitions: lists written place by place, and keys by their halves.
-- Assumes nothing.
use Rattle.std.specs.Prelude.{◌≡◌, ℕ, ◌+◌, ◌*◌, ◌/◌, ◌%◌, ◌≤◌, ◌<◌, get_or}
use Rattle.std.proofs.Math.Path.{sym, ap}
use Rattle.std.proofs.Common.{◌∙◌, arith, ext_get_or}
use mathlib.Core.List.{List}
use Rattle.std.proofs.Math.ListN.{length, set}
use Rattle.laws.specs.Part.{overlaid}
use Rattle.laws.specs.Fill.{made, made_length, made_at, Filled, filled_more, filled_end}
use Rattle.deskc.specs.Row.{halves}
use Rattle.deskc.specs.Laws.{halves_low, halves_high}

-- a list made of another's places is that list
pub made_places : {X : Type 0} (l : List X) (d : X) (n : ℕ) → length l ≡ n → made (λ i. get_or l i d) n ≡ l
made_places l d n e = ext_get_or d (made (λ i. get_or l i d) n) l (made_length (λ i. get_or l i d) n ∙ sym e) (λ i h. made_at (λ i. get_or l i d) n i d (omega (arith, made_length (λ i. get_or l i d) n)))

-- a loop that wrote each place of a list wrote the list
pub filled_list : {X : Type 0} (xs : List X) (d : X) (at n : ℕ) (l₀ l : List X) (i : ℕ) → Filled (λ i. get_or xs i d) at l₀ l i → length xs ≡ n → i ≤ n → n ≤ i → l ≡ overlaid at xs l₀
filled_list {X} xs d at n l₀ l i w e a b = filled_end (λ i. get_or xs i d) at n l₀ l i w a b ∙ ap (λ (ys : List X). overlaid at ys l₀) (made_places xs d n e)

-- a loop that writes keys writes the two halves of one in a turn
pub halves_more : (xs : List ℕ) (at : ℕ) (l₀ l : List ℕ) (s : ℕ) → Filled (λ i. get_or (halves xs) i 0) at l₀ l (2 * s) → at + 2 * s + 1 < length l₀
    → (low high : ℕ) → low ≡ get_or xs s 0 % 4294967296 → high ≡ get_or xs s 0 / 4294967296 → Filled (λ i. get_or (halves xs) i 0) at l₀ (set (set l (at + 2 * s) low) (at + 2 * s + 1) high) (2 * (s + 1))
halves_more xs at l₀ l s w h low high p q =
    let f : ℕ → ℕ = λ i. get_or (halves xs) i 0 in
    let one = filled_more f at l₀ l (2 * s) w (omega arith) low (p ∙ sym (halves_low xs s)) in
    let two = filled_more f at l₀ _ (2 * s + 1) one (omega arith) high (q ∙ sym (halves_high xs s)) in
    let place : at + (2 * s + 1) ≡ at + 2 * s + 1 = omega arith in
    let next : 2 * s + 1 + 1 ≡ 2 * (s + 1) = omega arith in
    rw (place, next) at two
