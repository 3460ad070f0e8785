-- The refusals of opening, 1 to 7: what a task must be. Each condition here is the one that the refusal of its number finds broken.
use Rattle.std.specs.Prelude.{Bool, ◌&&◌, ◌||◌, not, List, ℕ, ◌+◌, ◌*◌, ◌%◌, length, ltb, leb, eqb, Result, Ok, Err}
use Rattle.laws.specs.Truth.{provided}
use Rattle.laws.specs.All.{all}
use Rattle.rule.specs.Task.{passage_count, near, far, cost, is_clear, estimate}
use Rattle.rule.specs.declared.refusals.Refusal.{Refusal}
use Rattle.rule.specs.declared.refusals.Refusal.TheVariants.{BadSizes, BadEnds, BadWeights, BadPassage, BadEstimate, AbovePassage, AboveDetour}
use Rattle.checks.specs.declared.task.Task.{Task as Told}

-- what a task is made of
pub record Task : Type 0 where
  pub n : ℕ
  pub k : ℕ
  pub start : ℕ
  pub goal : ℕ
  pub pull : ℕ
  pub excess : ℕ
  pub passages : List ℕ
  pub estimates : List ℕ

abbrev pub task : ℕ → ℕ → ℕ → ℕ → ℕ → ℕ → List ℕ → List ℕ → Task
task n k start goal pull excess passages estimates = record { n = n; k = k; start = start; goal = goal; pull = pull; excess = excess; passages = passages; estimates = estimates }

-- the same, of what a caller tells: the numbers, and what the lent slices hold
abbrev pub told : Told → Task
told t = task t.n t.k t.start t.goal t.pull t.excess t.passages.now t.estimates.now

-- 1 "n or k out of range, passage slice not a multiple of 3 or over 12,288 numbers, estimate slice not n × n"; "n states, 1 to 256; k workers, 1 to 32"
unfoldable pub sizes_right : ℕ → ℕ → ℕ → ℕ → Bool
sizes_right n k passages estimates =
    (leb 1 n && leb n 256) && ((leb 1 k && leb k 32) && ((eqb (passages % 3) 0 && leb passages 12288) && eqb estimates (n * n)))

-- 2 "start or goal not below n"
unfoldable pub ends_right : ℕ → ℕ → ℕ → Bool
ends_right n start goal = ltb start n && ltb goal n

-- 3 "E or W out of range"; "E (allowed excess) 100 to 10,000; W (pull to the goal) 0 to E"
unfoldable pub weights_right : ℕ → ℕ → Bool
weights_right pull excess = (leb 100 excess && leb excess 10000) && leb pull excess

-- 4 "a passage end not below n, or a cost over 1,000,000"; order 4: "for costs above 1,000,000 other than this one", a blocked passage's
abbrev pub passage_right : List ℕ → ℕ → ℕ → Bool
passage_right passages n i = (ltb (near passages i) n && ltb (far passages i) n) && (not (is_clear passages i) || leb (cost passages i) 1000000)

unfoldable pub passages_right : List ℕ → ℕ → Bool
passages_right passages n = all (passage_right passages n) (passage_count passages)

-- 5 "an estimate too large, or h(a,a) not 0"; "each at most 255,000,000"
abbrev pub row_right : List ℕ → ℕ → ℕ → Bool
row_right estimates n a = all (λ b. leb (estimate estimates n a b) 255000000) n && eqb (estimate estimates n a a) 0

unfoldable pub estimates_right : List ℕ → ℕ → Bool
estimates_right estimates n = all (row_right estimates n) n

-- 6 "a passage a to b with h(a,b) above its cost"; order 4: a blocked passage "is left out of check 6"
abbrev pub passage_bounds : List ℕ → List ℕ → ℕ → ℕ → Bool
passage_bounds passages estimates n i = not (is_clear passages i) || leb (estimate estimates n (near passages i) (far passages i)) (cost passages i)

unfoldable pub passages_bound : List ℕ → List ℕ → ℕ → Bool
passages_bound passages estimates n = all (passage_bounds passages estimates n) (passage_count passages)

-- 7 "some h(a,c) above h(a,b) + h(b,c)"
abbrev pub detour_bounds : List ℕ → ℕ → ℕ → ℕ → ℕ → Bool
detour_bounds estimates n a b c = leb (estimate estimates n a c) (estimate estimates n a b + estimate estimates n b c)

unfoldable pub detours_by : List ℕ → ℕ → ℕ → ℕ → Bool
detours_by estimates n a b = all (detour_bounds estimates n a b) n

unfoldable pub detours_from : List ℕ → ℕ → ℕ → Bool
detours_from estimates n a = all (detours_by estimates n a) n

unfoldable pub detours_bound : List ℕ → ℕ → Bool
detours_bound estimates n = all (detours_from estimates n) n

-- the conditions of a whole task
abbrev pub holds1 : Task → Bool
holds1 t = sizes_right t.n t.k (length t.passages) (length t.estimates)

abbrev pub holds2 : Task → Bool
holds2 t = ends_right t.n t.start t.goal

abbrev pub holds3 : Task → Bool
holds3 t = weights_right t.pull t.excess

abbrev pub holds4 : Task → Bool
holds4 t = passages_right t.passages t.n

abbrev pub holds5 : Task → Bool
holds5 t = estimates_right t.estimates t.n

abbrev pub holds6 : Task → Bool
holds6 t = passages_bound t.passages t.estimates t.n

abbrev pub holds7 : Task → Bool
holds7 t = detours_bound t.estimates t.n

-- "Checked in this order; the first that applies is given": the first of 1 to 4 that applies, or else what the later checks come to
abbrev pub early_or : Task → Result (Unit {0}) Refusal → Result (Unit {0}) Refusal
early_or t late =
    provided (holds1 t) (Err BadSizes)
    (provided (holds2 t) (Err BadEnds)
    (provided (holds3 t) (Err BadWeights)
    (provided (holds4 t) (Err BadPassage)
    late)))

-- the first of 1 to 4 that applies, if one does: what "Fits" asks of a task
unfoldable pub early_fault : Task → Result (Unit {0}) Refusal
early_fault t = early_or t (Ok tt)

-- the first of 1 to 7 that applies: what opening refuses with, or `Ok` where it accepts
unfoldable pub fault : Task → Result (Unit {0}) Refusal
fault t =
    early_or t
    (provided (holds5 t) (Err BadEstimate)
    (provided (holds6 t) (Err AbovePassage)
    (provided (holds7 t) (Err AboveDetour)
    (Ok tt))))
