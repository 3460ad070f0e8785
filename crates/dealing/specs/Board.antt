-- The board: each state's mark and label, with the table and the weight that they are compared by. Dependence, safety and the choice are read off it.
use Rattle.std.specs.Prelude.{Bool, ◌&&◌, not, List, ℕ, get_or, eqb}
use Rattle.laws.specs.First.{first, any}
use Rattle.laws.specs.Least.{least}
use Rattle.rule.specs.Task.{estimate}
use Rattle.rule.specs.Marks.{is_open, is_out}
use Rattle.rule.specs.Rule.{holds_back, key_of}

pub record Board : Type 0 where
  pub n : ℕ
  pub excess : ℕ
  pub estimates : List ℕ
  pub mark : List ℕ
  pub label : List ℕ

abbrev pub board : ℕ → ℕ → List ℕ → List ℕ → List ℕ → Board
board n excess estimates mark label = record { n = n; excess = excess; estimates = estimates; mark = mark; label = label }

abbrev pub mark_at : Board → ℕ → ℕ
mark_at b s = get_or b.mark s 0

abbrev pub label_at : Board → ℕ → ℕ
label_at b s = get_or b.label s 0

abbrev pub h : Board → ℕ → ℕ → ℕ
h b a c = estimate b.estimates b.n a c

-- s depends on t: t is another state, open or out, and s isn't independent of it
unfoldable pub depends_on : Board → ℕ → ℕ → Bool
depends_on b s t = not (eqb t s) && holds_back (mark_at b t) (label_at b s) (label_at b t) b.excess (h b t s)

-- "The test goes by rising state number and stops at the first state it depends on": that state, or n
unfoldable pub first_dependence : Board → ℕ → ℕ
first_dependence b s = first (depends_on b s) b.n

-- "An open s is safe when it is independent of every other open or out state."
unfoldable pub safe : Board → ℕ → Bool
safe b s = is_open (mark_at b s) && eqb (first_dependence b s) b.n

-- "The key of s is 100 × label + W × h(s, goal)."
unfoldable pub key : ℕ → ℕ → Board → ℕ → ℕ
key goal pull b s = key_of (label_at b s) pull (h b s goal)

-- the safe state "with the smallest key, the lowest number among equals"; or n
unfoldable pub choice : ℕ → ℕ → Board → ℕ
choice goal pull b = least (safe b) (key goal pull b) b.n b.n

-- the open state with the smallest key, the lowest number among equals; or n
unfoldable pub foremost : ℕ → ℕ → Board → ℕ
foremost goal pull b = least (λ s. is_open (mark_at b s)) (key goal pull b) b.n b.n

-- something is open; something is out
unfoldable pub any_open : Board → Bool
any_open b = any (λ s. is_open (mark_at b s)) b.n

unfoldable pub any_out : Board → Bool
any_out b = any (λ s. is_out (mark_at b s)) b.n

-- the lowest state with a mark, or n
unfoldable pub first_marked : List ℕ → ℕ → ℕ → ℕ
first_marked mark n wanted = first (λ s. eqb (get_or mark s 0) wanted) n
