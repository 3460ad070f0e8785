-- A worker that may call is below k, and has a place in the row.
use Rattle.std.proofs.Common.{◌<◌, sym, arith}
use Rattle.laws.specs.Truth.{and_left}
use Rattle.desk.specs.Laws.{call_passed}
use Rattle.desk.proofs.Machine.hands.Goals as goal
use Rattle.desk.proofs.Machine.hands.Goals.{In_ok-call_fault}

placed : (c : In_ok-call_fault) → c.args.worker < 32
placed c =
    let (fit, below, searching) = call_passed _ _ _ _ (sym c.in_ok-call_fault.ensures) in
    omega (arith, below, c.requires (and_left _ _ fit))

pub offset_bounds-self-worker : goal.offset_bounds-self-worker
offset_bounds-self-worker c = let l = placed c in omega arith

pub bounds-self-worker : goal.bounds-self-worker
bounds-self-worker c = placed (goal.at.bounds-self-worker c).In_ok-call_fault
