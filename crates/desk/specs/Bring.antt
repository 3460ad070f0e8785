-- "Bring(worker)": the held state's passages in slice order, and the refusals 8 to 11 before them.
use Rattle.std.specs.Prelude.{◌&&◌, not, cond, List, ℕ, ◌+◌, get_or, set, eqb}
use Rattle.laws.specs.Fold.{fold}
use Rattle.rule.specs.Task.{passage_count, near, far, cost, is_clear}
use Rattle.rule.specs.Marks.{waiting, finished, none}
use Rattle.rule.specs.Rule.{lowers}
use Rattle.desk.specs.declared.Machine.{Machine}
use Rattle.desk.specs.declared.Reply.TheVariants.{Brought}
use Rattle.desk.specs.declared.Answer.{Answer}
use Rattle.desk.specs.Machine.{with_mark, with_label, with_via, with_key, with_hands, hands_of, held_by, label_of, key_for}
use Rattle.desk.specs.Reply.{answer}
use Rattle.desk.specs.Admission.{admitted}

-- a pass over passages that has come so far: the machine, and how many times a label was set or lowered
pub record Swept : Type 0 where
  pub machine : Machine
  pub many : ℕ

abbrev pub swept : Machine → ℕ → Swept
swept m many = record { machine = m; many = many }

-- "it becomes open with that sum and that passage"; order 8: its key is set with its label
abbrev pub labelled : Machine → List ℕ → ℕ → ℕ → ℕ → Machine
labelled m estimates s sum i = with_key (with_via (with_label (with_mark m s waiting) s sum) s i) s (key_for m estimates s sum)

-- the far end s of passage i, with the sum of held label and cost
abbrev pub reach : List ℕ → ℕ → ℕ → ℕ → Swept → Swept
reach estimates s sum i w = cond (lowers (get_or w.machine.mark s 0) (label_of w.machine s) sum) (swept (labelled w.machine estimates s sum i) (w.many + 1)) w

-- passage i, where it is one of the held state's; order 4: a blocked passage "sets no label"
unfoldable pub apply_passage : List ℕ → List ℕ → ℕ → ℕ → ℕ → Swept → Swept
apply_passage passages estimates state label i w = cond (eqb (near passages i) state && is_clear passages i) (reach estimates (far passages i) (label + cost passages i) i w) w

-- "goes through the held state's passages in slice order"
unfoldable pub sweep_of : Machine → List ℕ → List ℕ → ℕ → Swept
sweep_of m passages estimates state = fold (apply_passage passages estimates state (label_of m state)) (swept m 0) (passage_count passages)

-- "Then the held state is finished, the worker holds nothing. Reply: Brought with how many times a label was set or lowered."
abbrev pub finish : List ℕ → ℕ → ℕ → Swept → Answer
finish held worker state w = answer (with_hands (with_mark w.machine state finished) (set held worker none)) (Brought w.many)

unfoldable pub bring_step : Machine → List ℕ → List ℕ → List ℕ → ℕ → Answer
bring_step m held passages estimates worker = finish held worker (held_by held worker) (sweep_of m passages estimates (held_by held worker))

-- 11 "Bring: it holds none"
unfoldable pub bring_of : Machine → List ℕ → List ℕ → ℕ → Answer
bring_of m passages estimates worker =
    let held = hands_of m in
    admitted m held passages estimates worker (not (eqb (held_by held worker) none)) (bring_step m held passages estimates worker)
