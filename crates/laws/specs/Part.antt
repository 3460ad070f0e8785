-- Parts of a list: a list written over another from a place on, and a tail that was lent as `&mut s[a..]` and came back.
-- Assumes nothing.
use Rattle.std.specs.Prelude.{◌≡◌, List, ◌∷◌, ◌++◌, ℕ, ◌+◌, ◌-◌, ◌<◌, length, get_or, set, take, drop}
use Rattle.std.proofs.Common.{append-nil, append_assoc, add-one, arith, length-drop, drop_of_length-le, take_all, take-suc, drop-drop, length-take-le}
use Rattle.std.proofs.lemmas.List.{set_at}
use borrow.Rule.Slice.PartMut.{mid_of, put_mid}

-- xs from the place `at` on; places before it and after xs keep what they had
abbrev pub overlaid : {X : Type 0} → ℕ → List X → List X → List X
overlaid at xs buffer = take at buffer ++ (xs ++ drop (at + length xs) buffer)

-- a store at the last place of a front of l shortens that front by one
pub set_last : {X : Type 0} (l rest : List X) (k : ℕ) (a : X) → k < length l → set (take (k + 1) l ++ rest) k a ≡ take k l ++ (a ∷ rest)
set_last l rest k a h =
    rw (add-one k, take-suc l k a h, append_assoc) (set_at (take k l) (get_or l k a) rest a k (length-take-le k l (omega arith)))

-- what the borrow checker calls `mid_of` and `put_mid`, at a tail
pub mid_tail : {X : Type 0} (a : ℕ) (xs : List X) → mid_of a (length xs - a) xs ≡ drop a xs
mid_tail a xs = take_all (length xs - a) (drop a xs) (omega (arith, length-drop a xs))

pub put_tail : {X : Type 0} (a : ℕ) (xs ys : List X) → put_mid a (length xs - a) xs ys ≡ take a xs ++ ys
put_tail a xs ys = rw (drop_of_length-le (drop a xs) {i = length xs - a} (omega (arith, length-drop a xs)), append-nil)

-- a lent tail whose first places were written, back in its buffer
pub put_overlaid : {X : Type 0} (at : ℕ) (buffer xs : List X) → put_mid at (length buffer - at) buffer (xs ++ drop (length xs) (mid_of at (length buffer - at) buffer)) ≡ overlaid at xs buffer
put_overlaid at buffer xs = rw (put_tail, mid_tail, drop-drop (length xs) at buffer)
