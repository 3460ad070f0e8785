-- "Take(worker), first that holds": which of the five steps it is, with the number that the step names.
use Rattle.std.specs.Prelude.{Bool, ◌&&◌, not, cond, ℕ, ltb}
use Rattle.rule.specs.Marks.{out}
use Rattle.dealing.specs.declared.Decision.{Decision}
use Rattle.dealing.specs.declared.Decision.TheVariants.{Found, NoPath, Deal, Stuck, Wait}
use Rattle.dealing.specs.Board.{Board, label_at, first_dependence, safe, choice, foremost, any_open, any_out, first_marked}

-- order 1: "with something open, the lowest-numbered state that the smallest-key open state depends on (lowest number among equal keys); with nothing open, the lowest-numbered out state"
unfoldable pub waited_for : ℕ → ℕ → Board → ℕ
waited_for goal pull b = cond (any_open b) (first_dependence b (foremost goal pull b)) (first_marked b.mark b.n out)

-- the five steps, given whether the goal is open and safe, the safe state to deal, or n, and the state that Wait carries
-- 1 "the goal is open and safe: Found with its label"
-- 2 "nothing is open or out: NoPath"
-- 3 "some open state is safe: Took the one with the smallest key, the lowest number among equals"
-- 4 "nothing is out: refusal 12"
-- 5 "otherwise Wait", which carries a state
abbrev pub steps : Board → ℕ → Bool → ℕ → ℕ → Decision
steps b goal goalSafe chosen waited =
    cond goalSafe (Found (label_at b goal))
    (cond (not (any_open b) && not (any_out b)) NoPath
    (cond (ltb chosen b.n) (Deal chosen)
    (cond (not (any_out b)) Stuck
    (Wait waited))))

unfoldable pub decision : ℕ → ℕ → Board → Decision
decision goal pull b = steps b goal (safe b goal) (choice goal pull b) (waited_for goal pull b)
