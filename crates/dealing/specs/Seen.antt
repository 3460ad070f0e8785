-- The board as the code has it, lent, and as the definitions see it.
use Rattle.dealing.specs.declared.board.Board.{Board as Lent}
use Rattle.dealing.specs.Board.{Board, board}

abbrev pub seen : Lent → Board
seen b = board b.table.n b.excess b.table.estimates.now b.mark.now b.label.now
