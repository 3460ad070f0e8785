-- The outer loop's invariant: `best` leads the safe states below `s`, and as long as none is safe `front` says where the test of the open state that leads stopped; the inner loop keeps it, and `s` depends on no state below `t`.
use Rattle.std.proofs.Common.{◌≡◌}
use Rattle.laws.specs.First.{first}
use Rattle.dealing.specs.Board.{depends_on}
use Rattle.dealing.specs.Seen.{seen}
use Rattle.dealing.specs.Laws.{Leads}
use Rattle.dealing.proofs.Ranked.choose.Given as goal

abbrev pub invariant-candidates : goal.invariant-candidates
invariant-candidates l = Leads l.self.goal l.self.pull (seen l.self.board) l.s l.best l.front

abbrev pub invariant-loop-t : goal.invariant-loop-t
invariant-loop-t l = Leads l.self.goal l.self.pull (seen l.self.board) l.s l.best l.front × (first (depends_on (seen l.self.board) l.s) l.t ≡ l.t)
