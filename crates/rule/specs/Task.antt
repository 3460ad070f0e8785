-- "The task and its bounds": how the numbers of the two lent slices are read.
use Rattle.std.specs.Prelude.{Bool, not, List, ℕ, ◌+◌, ◌*◌, ◌/◌, length, get_or, eqb}

-- "Passages: a lent slice of u32 numbers, three to a passage (from, to, cost), passages numbered from 0 in slice order"
abbrev pub passage_count : List ℕ → ℕ
passage_count passages = length passages / 3

abbrev pub near : List ℕ → ℕ → ℕ
near passages i = get_or passages (3 * i) 0

abbrev pub far : List ℕ → ℕ → ℕ
far passages i = get_or passages (3 * i + 1) 0

abbrev pub cost : List ℕ → ℕ → ℕ
cost passages i = get_or passages (3 * i + 2) 0

-- order 4: "cost 4,294,967,295 marks a blocked passage: it keeps its number, but is no part of any route, sets no label and is left out of check 6."
-- Document 01's "A passage known to be blocked is written with the highest cost" is void since. Here that passage i isn't blocked, which is what routes, labels, check 6 and going back ask.
abbrev pub blocked : ℕ
blocked = 4294967295

unfoldable pub is_clear : List ℕ → ℕ → Bool
is_clear passages i = not (eqb (cost passages i) blocked)

-- "Estimates: a lent slice of n × n u32 numbers, h(a,b) at a × n + b"
abbrev pub estimate : List ℕ → ℕ → ℕ → ℕ → ℕ
estimate estimates n a b = get_or estimates (a * n + b) 0
