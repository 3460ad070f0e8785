-- Each worker that holds a state adds one to its place, which is at most the workers seen.
use Rattle.std.proofs.Common.{◌≡◌, ◌∙◌, arith, get_or}
use Rattle.std.proofs.lemmas.List.{get_or-take, length-take-le}
use Rattle.checks.specs.Laws.{counted_zero, counted_more, counted_past, counted_low}
use Rattle.checks.proofs.fits.holder_counts.Goals as goal
use Rattle.checks.proofs.fits.holder_counts.Goals.{then-s-lt256, else-s-lt256}

-- the state that the next worker holds
abbrev held-is : (c : goal.Joined-s-lt256) → c.from-s.result ≡ get_or c.args.held.now c.loop-s.s-index 0
held-is c = c.from-s.ensures ∙ get_or-take c.args.k c.args.held.now c.loop-s.s-index 0 (omega (arith, c.loop-s-test.true, length-take-le c.args.k c.args.held.now (omega (arith, c.requires, c.told-held))))

pub loop-s-init : goal.loop-s-init
loop-s-init c = counted_zero _

pub overflow_add-many : goal.overflow_add-many
overflow_add-many c = omega (arith, counted_low _ _ _ c.loop-s.invariant c.from-s.result c.if-s-lt256.true)

pub loop-s-preserved : goal.loop-s-preserved
loop-s-preserved c =
    elim c.if-s-lt256.branch [
      | then-s-lt256 w ↦ rw w.many-is (counted_more _ _ _ c.loop-s.invariant _ (held-is c) w.if-s-lt256.true)
      | else-s-lt256 w ↦ rw w.many-is (counted_past _ _ _ c.loop-s.invariant _ (held-is c) w.if-s-lt256.false)
    ]
