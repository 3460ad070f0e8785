-- The loop's invariant: `best` leads the states from `from` on and below `t` that come on after the last one. Where `from` isn't below n the loop makes no turn.
use Rattle.std.proofs.Common.{◌≡◌, ◌≤◌, ◌⊎◌}
use Rattle.dealing.specs.LimitedLeadLaws.{Leading}
use Rattle.dealing.proofs.Ranked.lead.Given as goal

abbrev pub invariant-loop-t : goal.invariant-loop-t
invariant-loop-t l =
    Leading l.self.board.mark.now l.self.key.now l.self.board.table.n l.self.goal l.last l.from l.end l.t l.best
    × ((l.t ≤ l.t-end) ⊎ (l.t ≡ l.from))
