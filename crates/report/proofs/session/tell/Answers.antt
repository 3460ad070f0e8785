-- `tell`: the call's reply is put, then what comes after it, for which the call leaves the places that a path line may take.
use Rattle.std.proofs.Common.{arith}
use Rattle.report.specs.SessionLaws.{answer_spends, said}
use Rattle.report.proofs.session.tell.Goals as goal

pub put_after-requires : goal.put_after-requires
put_after-requires c =
    let a = c.called-answer in
    omega (
      arith,
      answer_spends c.args.m c.args.passages.now c.args.estimates.now c.args.event a.result a.ensures,
      c.reply.ensures.short,
      c.reply.ensures.text.long,
      c.requires.0,
    )

pub returns : goal.returns
returns c = said _ _ _ _ _ c.called-answer.ensures _ _ _ (rw c.from.ensures at c.reply.ensures) c.put_after.ensures
