-- Nothing is tested of the keys' halves, which every row's numbers pass, as `halves_fit` says.
use Rattle.std.proofs.Common.{arith}
use Rattle.std.proofs.lemmas.Grind.{common_steps}
use Rattle.deskc.specs.Row.{is_row}
use Rattle.deskc.specs.Laws.{halves_fit}
use Rattle.deskc.proofs.row.is_row.Goals as goal

pub returns-then-at_most-4 : goal.returns-then-at_most-4
unfolding is_row
returns-then-at_most-4 c = let h = halves_fit c.args.row.now (λ i. omega (arith, c.type_inv.row i)) in grind (arith, common_steps)
