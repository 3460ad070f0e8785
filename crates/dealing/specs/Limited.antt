-- Order 7, "A Take that knows when to stop": "Take's steps and Wait, whose test compares a candidate only with states that are out or have a smaller key".
use Rattle.std.specs.Prelude.{Bool, ◌&&◌, ◌||◌, not, cond, Option, Some, None, List, [], ◌∷◌, ◌++◌, ℕ, zero, suc, ◌+◌, ltb, leb, eqb}
use Rattle.laws.specs.First.{first}
use Rattle.laws.specs.Count.{count}
use Rattle.laws.specs.Least.{least}
use Rattle.rule.specs.Marks.{out, is_open, is_out}
use Rattle.dealing.specs.declared.Decision.{Decision}
use Rattle.dealing.specs.declared.Decided.{Decided}
use Rattle.dealing.specs.Board.{Board, mark_at, depends_on, key, foremost, any_open, first_marked}
use Rattle.dealing.specs.Decision.{steps}

-- a step that is decided on, with the count
abbrev pub decided : Decision → ℕ → Option Decided
decided d made = Some (record { decision = d; comparisons = made })

-- what trying candidates comes to: the one that passed, or n; and the comparisons made
pub record Trial : Type 0 where
  pub chosen : ℕ
  pub made : ℕ

module _ (goal pull : ℕ) (b : Board) where
  -- a candidate s is compared with t: another state that is out, or open with a smaller key
  unfoldable pub compared : ℕ → ℕ → Bool
  compared s t = not (eqb t s) && (is_out (mark_at b t) || (is_open (mark_at b t) && ltb (key goal pull b t) (key goal pull b s)))

  -- it "compares by rising number until a dependence": the state at which the test of s stops, or n
  unfoldable pub stops_at : ℕ → ℕ
  stops_at s = first (λ t. compared s t && depends_on b s t) b.n

  -- how many comparisons the test of s makes: with the states compared, up to the one at which it stops
  unfoldable pub comparisons : ℕ → ℕ
  comparisons s = count (λ t. compared s t && leb t (stops_at s)) b.n

  -- s passes the test
  unfoldable pub passes : ℕ → Bool
  passes s = is_open (mark_at b s) && eqb (stops_at s) b.n

  -- t comes after s "by key and number"; after n, which is no state, come all
  unfoldable pub follows : ℕ → ℕ → Bool
  follows s t = eqb s b.n || (ltb (key goal pull b s) (key goal pull b t) || (eqb (key goal pull b s) (key goal pull b t) && ltb s t))

  -- the next of "the other open states" after s: of those that come after it the one with the smallest key, the lowest number among equals; or n
  unfoldable pub next : ℕ → ℕ
  next s = least (λ t. is_open (mark_at b t) && (not (eqb t goal) && follows s t)) (key goal pull b) b.n b.n

  -- so many of them at most, from s on
  unfoldable pub others : ℕ → ℕ → List ℕ
  others zero s = []
  others (suc more) s = cond (eqb s b.n) [] (s ∷ others more (next s))

  -- "It tries the goal first if open, then the other open states by key and number"
  unfoldable pub candidates : List ℕ
  candidates = cond (is_open (mark_at b goal)) (goal ∷ []) [] ++ others b.n (next b.n)

  -- one after the other until one passes
  unfoldable pub tried : List ℕ → Trial
  tried [] = record { chosen = b.n; made = 0 }
  tried (s ∷ rest) =
      cond (eqb (stops_at s) b.n) (record { chosen = s; made = comparisons s })
      (record { chosen = (tried rest).chosen; made = comparisons s + (tried rest).made })

  -- "how many comparisons it made": all of them, where no limit cuts it short
  unfoldable pub full_count : ℕ
  full_count = (tried candidates).made

  -- the state at which the "test of the smallest-key open state stopped"; with nothing open, the lowest-numbered out state
  unfoldable pub stopped_by : ℕ
  stopped_by = cond (any_open b) (stops_at (foremost goal pull b)) (first_marked b.mark b.n out)

  -- Take's five steps, with this test
  unfoldable pub limited_decision : Decision
  limited_decision = steps b goal (passes goal) (tried candidates).chosen stopped_by

  -- "With a limit smaller than that full count it replies Cut", here none; else the step, and the count
  unfoldable pub limited : ℕ → Option Decided
  limited limit = cond (ltb limit full_count) None (decided limited_decision full_count)
