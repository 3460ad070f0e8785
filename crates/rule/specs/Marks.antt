-- "The machine": what a mark says of a state.
use Rattle.std.specs.Prelude.{Bool, ◌||◌, ℕ, leb, eqb}

-- "Marks: 0 unseen, 1 open, 2 out (dealt, not yet back), 3 finished."
abbrev pub unseen : ℕ
unseen = 0

abbrev pub waiting : ℕ
waiting = 1

abbrev pub out : ℕ
out = 2

abbrev pub finished : ℕ
finished = 3

abbrev pub is_mark : ℕ → Bool
is_mark k = leb k finished

abbrev pub is_unseen : ℕ → Bool
is_unseen k = eqb k unseen

abbrev pub is_open : ℕ → Bool
is_open k = eqb k waiting

abbrev pub is_out : ℕ → Bool
is_out k = eqb k out

-- "open or out": the states that a candidate is compared with
abbrev pub is_live : ℕ → Bool
is_live k = is_open k || is_out k

-- "“no passage” and “holds nothing” are 65,535"
abbrev pub none : ℕ
none = 65535
