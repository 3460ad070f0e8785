-- The loop keeps that each state's place has how many of the workers seen hold it.
use Rattle.checks.specs.Laws.{Counted}
use Rattle.checks.proofs.fits.holder_counts.Given as goal

abbrev pub invariant-loop-s : goal.invariant-loop-s
invariant-loop-s l = Counted l.held l.many l.s-index
