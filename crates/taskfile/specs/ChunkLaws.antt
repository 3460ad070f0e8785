-- A slice's passages as triples: what `as_chunks` gives, and the numbers of the slice.
-- Assumes nothing.
use Rattle.std.specs.Prelude.{◌≡◌, List, [], ℕ, zero, suc, ◌+◌, ◌*◌, ◌<◌, get_or, drop}
use Rattle.std.specs.Simd.{first_chunks}
use Rattle.std.proofs.Common.{◌∙◌, arith}
use Rattle.std.proofs.lemmas.List.{get_or-take, get_or-drop}

-- number j of chunk i of n numbers each
in_chunk : (n many i j : ℕ) (xs : List ℕ) → i < many → j < n → get_or (get_or (first_chunks n many xs) i []) j 0 ≡ get_or xs (i * n + j) 0
in_chunk n zero i j xs h l = absurd (omega arith)
in_chunk n (suc many) zero j xs h l = let place : 0 * n + j ≡ j = omega arith in rw place (get_or-take n xs j 0 l)
in_chunk n (suc many) (suc i) j xs h l =
    let place : n + (i * n + j) ≡ suc i * n + j = omega arith in
    in_chunk n many i j (drop n xs) (omega arith) l ∙ get_or-drop n xs (i * n + j) 0 ∙ rw place

-- of passage i
abbrev pub triple : List ℕ → ℕ → ℕ → List ℕ
triple passages many i = get_or (first_chunks 3 many passages) i []

module _ (passages : List ℕ) (many i : ℕ) (l : i < many) where
  pub from_is : get_or (triple passages many i) 0 0 ≡ get_or passages (3 * i) 0
  from_is = let place : i * 3 + 0 ≡ 3 * i = omega arith in rw place at (in_chunk 3 many i 0 passages l (omega arith))

  pub to_is : get_or (triple passages many i) 1 0 ≡ get_or passages (3 * i + 1) 0
  to_is = let place : i * 3 + 1 ≡ 3 * i + 1 = omega arith in rw place at (in_chunk 3 many i 1 passages l (omega arith))

  pub cost_is : get_or (triple passages many i) 2 0 ≡ get_or passages (3 * i + 2) 0
  cost_is = let place : i * 3 + 2 ≡ 3 * i + 2 = omega arith in rw place at (in_chunk 3 many i 2 passages l (omega arith))
