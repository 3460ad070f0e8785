-- What the argument sees of a machine, and the invariant of every reached machine; its instance midway through a Bring.
-- A machine is seen with its own numbers and the two lent slices; that its numbers stay the task's is in Runs.
use Rattle.std.specs.Prelude.{◌≡◌, refl, ◌≢◌, cond, List, ℕ, ◌*◌, ◌≤◌, get_or, eqb}
use Rattle.std.proofs.Common.{eq-eqb, ne_eqb}
use Rattle.rule.specs.Task.{passage_count, estimate}
use Rattle.rule.specs.Marks.{finished}
use Rattle.argument.specs.View.{View}
use Rattle.argument.specs.Good.{Good, Step, good_step}
use Rattle.desk.specs.declared.Machine.{Machine}
use Rattle.desk.specs.Machine.{mark_of, label_of, task_of}
use Rattle.desk.specs.Laws.{Sized}
use Rattle.promises.specs.Demand.{graph}
use Rattle.promises.specs.Accepted.{Sound}

abbrev pub via_of : Machine → ℕ → ℕ
via_of m s = get_or m.via s 0

-- the view, where `places` says how far each state's passages are applied
abbrev pub view : Machine → (ℕ → ℕ) → View
view m places = record { mark = mark_of m; label = label_of m; via = via_of m; front = λ s. 100 * label_of m s; bound = λ s. 100 * label_of m s; place = places }

-- between calls: of a finished state all passages are applied, of every other none
abbrev pub applied : List ℕ → Machine → ℕ → ℕ
applied passages m s = cond (eqb (mark_of m s) finished) (passage_count passages) 0

-- while p is brought: those of p below i
abbrev pub midway : List ℕ → Machine → ℕ → ℕ → ℕ → ℕ
midway passages m p i s = cond (eqb s p) i (applied passages m s)

-- the view between calls, and while p is brought
abbrev pub between : List ℕ → Machine → View
between passages m = view m (applied passages m)

abbrev pub during : List ℕ → ℕ → ℕ → Machine → View
during passages p i m = view m (midway passages m p i)

pub applied_none : (passages : List ℕ) (m : Machine) (s : ℕ) → mark_of m s ≢ finished → applied passages m s ≡ 0
applied_none passages m s u = rw (ne_eqb (mark_of m s) finished u)

pub applied_same : (passages : List ℕ) (m m' : Machine) (s : ℕ) → mark_of m' s ≡ mark_of m s → applied passages m' s ≡ applied passages m s
applied_same passages m m' s e = rw e

pub midway_at : (passages : List ℕ) (m : Machine) (p i : ℕ) → midway passages m p i p ≡ i
midway_at passages m p i = rw (eq-eqb p p refl)

pub midway_other : (passages : List ℕ) (m : Machine) (p i s : ℕ) → s ≢ p → midway passages m p i s ≡ applied passages m s
midway_other passages m p i s u = rw (ne_eqb s p u)

module _ (passages estimates : List ℕ) where
  -- the argument's invariant and its steps, at a machine's numbers
  abbrev pub GoodAt : Machine → View → Type 0
  GoodAt m v = Good (graph (task_of m passages estimates)) m.n m.excess m.start m.goal (passage_count passages) v

  abbrev pub StepAt : Machine → View → View → Type 0
  StepAt m v w = Step (graph (task_of m passages estimates)) m.n m.excess (estimate estimates m.n) m.start m.goal (passage_count passages) v w

  -- the invariant, with each state's passages applied up to its place
  pub record SureAt (m : Machine) (places : ℕ → ℕ) : Type 0 where
    pub task : Sound (task_of m passages estimates)
    pub sized : Sized m
    pub marks : (s : ℕ) → mark_of m s ≤ 3
    pub good : GoodAt m (view m places)

  abbrev pub Sure : Machine → Type 0
  Sure m = SureAt m (applied passages m)

  abbrev pub Midway : ℕ → ℕ → Machine → Type 0
  Midway p i m = SureAt m (midway passages m p i)

  -- a step of the argument keeps the invariant
  pub good_on : (m : Machine) {v w : View} → Sound (task_of m passages estimates) → GoodAt m v → StepAt m v w → GoodAt m w
  good_on m {v} {w} t a s =
      good_step (graph (task_of m passages estimates)) m.n m.excess (estimate estimates m.n) t.consistent m.start m.goal (passage_count passages) v w a s
