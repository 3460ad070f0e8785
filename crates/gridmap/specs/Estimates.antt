-- "Estimates are 1,000 × the larger plus 414 × the smaller of the two coordinate gaps."
use Rattle.std.specs.Prelude.{List, ℕ, ◌+◌, ◌*◌, ◌-◌, ◌/◌, ◌%◌, min, max}
use Rattle.laws.specs.Fill.{made}
use Rattle.gridmap.specs.Map.{Map, stride, cell_of, state_count}

-- how far two coordinates are apart
unfoldable pub gap : ℕ → ℕ → ℕ
gap a b = max a b - min a b

-- 1,000 × the larger plus 414 × the smaller
unfoldable pub octile : ℕ → ℕ → ℕ
octile a b = 1000 * max a b + 414 * min a b

-- the estimate between two places, of rows that are so long with their line feeds
unfoldable pub between : ℕ → ℕ → ℕ → ℕ
between stride a b = octile (gap (a / stride) (b / stride)) (gap (a % stride) (b % stride))

-- h(a,b) at a × n + b, between the cells of a and b
unfoldable pub estimates_of : Map → List ℕ
estimates_of m = made (λ i. between (stride m) (cell_of m (i / state_count m)) (cell_of m (i % state_count m))) (state_count m * state_count m)
