-- The loop's invariant: what is left to try brings the whole to what it comes to, and past the first candidate the one to try is the foremost of the leads. It ends, since fewer states come after the next one.
use Rattle.std.proofs.Common.{◌≡◌, ◌⊎◌, None}
use Rattle.dealing.specs.Places.{leads_at}
use Rattle.dealing.specs.Seen.{seen}
use Rattle.dealing.specs.LimitedOrderLaws.{rank}
use Rattle.dealing.specs.LimitedStepLaws.{Trying}
use Rattle.dealing.specs.LimitedLeadLaws.{Led}
use Rattle.dealing.proofs.Ranked.try_others.Given as goal

abbrev pub invariant-loop-candidate : goal.invariant-loop-candidate
invariant-loop-candidate l =
    Trying l.self.goal l.self.pull (seen l.self.board) l.self.key.now l.fn.first l.before l.limit l.candidate l.stop l.made
    × ((l.stop ≡ None) ⊎ Led l.self.board.mark.now l.self.key.now l.self.board.table.n l.self.goal (leads_at l.self.board.table.n l.candidate) l.leads)

abbrev pub decreases-loop-candidate : goal.decreases-loop-candidate
decreases-loop-candidate l = rank l.self.goal l.self.pull (seen l.self.board) (leads_at l.self.board.table.n l.candidate)
