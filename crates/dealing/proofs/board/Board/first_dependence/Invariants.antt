-- The loop's invariant: `s` depends on no state below `t`.
use Rattle.std.proofs.Common.{◌≡◌}
use Rattle.laws.specs.First.{first}
use Rattle.dealing.specs.Board.{depends_on}
use Rattle.dealing.specs.Seen.{seen}
use Rattle.dealing.proofs.board.Board.first_dependence.Given as goal

abbrev pub invariant-loop-t : goal.invariant-loop-t
invariant-loop-t l = first (depends_on (seen l.self) l.s) l.t ≡ l.t
