-- A refused Bring leaves the machine, and so the row, as `turn_refused` says; with any other reply what the call can change is written.
use Rattle.std.proofs.Common.{sym, ◌∙◌, rules}
use Rattle.desk.specs.declared.Event.TheVariants.{Bring}
use Rattle.deskc.specs.Laws.{turn_made, turn_refused}
use Rattle.deskc.proofs.desk_bring.Goals as goal
use Rattle.deskc.proofs.desk_bring.Goals.{then-not-matches, else-not-matches, in-Refused, in_default}

pub returns-clause-machine_after : goal.returns-clause-machine_after
returns-clause-machine_after c =
    let given = rw c.unpack.ensures at c.bring-answer.ensures in
    let held = sym c.if-not-is_row.ensures in
    elim c.if-not-matches.branch [
      | then-not-matches w ↦ (turn_made _ _ _ _ _ held given c.from.ensures (w.machine-is ∙ w.put_changing.ensures)).1
      | else-not-matches w ↦ elim c.match-matches.branch [
        | in-Refused v ↦ w.machine-is ∙ (turn_refused _ _ _ held _ _ c.from.ensures (Bring _) _ given v.in-Refused.is).1
        | in_default v ↦ absurd (search rules)
      ]
    ]
