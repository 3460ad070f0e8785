-- An accepted task has its start among the rows' places, and its table is whole.
use Rattle.std.proofs.Common.{◌≡◌, ◌<◌, sym, Ok, arith}
use Rattle.checks.specs.Opening.{task, fault}
use Rattle.checks.specs.Laws.{right, whole, fault_none}
use Rattle.desk.specs.Laws.{start_in}
use Rattle.desk.proofs.Machine.opening.Goals as goal
use Rattle.desk.proofs.Machine.opening.Goals.{In_default}

accepted : (c : In_default) → fault (task c.args.n c.args.k c.args.start c.args.goal c.args.pull c.args.excess c.args.passages.now c.args.estimates.now) ≡ Ok tt
accepted c = sym c.in_default.ensures

pub bounds-machine-start : goal.bounds-machine-start
bounds-machine-start c = start_in _ (accepted c)

pub invariant_of-table : goal.invariant_of-table
invariant_of-table c = record { whole = whole _ (right _ (fault_none _ (accepted (goal.at.invariant_of-table c).In_default))) }

pub between-requires : goal.between-requires
between-requires c = let r = right _ (fault_none _ (accepted (goal.at.between-requires c).In_default)) in (r.start_in, r.goal_in)

pub offset_bounds-machine-start : goal.offset_bounds-machine-start
offset_bounds-machine-start c = let l : c.args.start < 256 = start_in _ (accepted (goal.at.offset_bounds-machine-start c).In_default) in omega arith

pub bounds-machine-start-2 : goal.bounds-machine-start-2
bounds-machine-start-2 c = start_in _ (accepted (goal.at.bounds-machine-start-2 c).In_default)
