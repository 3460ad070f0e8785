-- Lists mapped: what is mapped piece by piece is mapped whole.
-- Assumes nothing.
use Rattle.std.specs.Prelude.{◌≡◌, refl, List, [], ◌∷◌, ◌++◌, map}

module _ {X : Type 0} {Y : Type 0} (f : X → Y) where
  pub map_append : (xs ys : List X) → map f (xs ++ ys) ≡ map f xs ++ map f ys
  map_append [] ys = refl
  map_append (x ∷ xs) ys = rw (map_append xs ys)
