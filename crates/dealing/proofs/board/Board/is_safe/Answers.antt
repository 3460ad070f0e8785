-- An open state is safe where it depends on none; one that isn't open is not.
use Rattle.std.proofs.Common.{◌∙◌, sym, ne_eqb}
use Rattle.dealing.specs.Laws.{safe_shut, safe_none}
use Rattle.dealing.proofs.board.Board.is_safe.Goals as goal

pub returns-then-self-s-eq-OPEN : goal.returns-then-self-s-eq-OPEN
returns-then-self-s-eq-OPEN c = safe_none _ _ _ _ c.if-self-s-eq-OPEN.true c.first_dependence.ensures c.is_none.ensures

pub returns-else-self-s-eq-OPEN : goal.returns-else-self-s-eq-OPEN
returns-else-self-s-eq-OPEN c = ne_eqb _ _ c.if-self-s-eq-OPEN.false ∙ sym (safe_shut _ _ c.if-self-s-eq-OPEN.false)
