-- The loop's invariant: the word and the states so far stand on the page.
use Rattle.laws.specs.Ascii.{ascii}
use Rattle.report.specs.LineLaws.{Listed}
use Rattle.report.proofs.page.Page.path.Given as goal

abbrev pub invariant-loop-s : goal.invariant-loop-s
invariant-loop-s l = Listed (ascii "path") l.s-items l.fn.self l.self l.s-index
