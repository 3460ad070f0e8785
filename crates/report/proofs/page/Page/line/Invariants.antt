-- The loop's invariant: the word and the numbers so far stand on the page.
use Rattle.report.specs.LineLaws.{Listed}
use Rattle.report.proofs.page.Page.line.Given as goal

abbrev pub invariant-loop-value : goal.invariant-loop-value
invariant-loop-value l = Listed l.word l.values l.fn.self l.self l.value-index
