-- The reply and the comparisons that are made of what was answered are those of the limited Take: a refusal has none.
use Rattle.std.proofs.Common.{◌≡◌, ℕ, subst, MatchResult}
use Rattle.desk.specs.declared.Reply.{Reply}
use Rattle.desk.specs.declared.Reply.TheVariants.{Refused}
use Rattle.desk.specs.Limited.{limited_of}
use Rattle.desk.specs.LimitedLaws.{limited_spared}
use Rattle.desk.proofs.Calls.{counts_back}
use Rattle.desk.proofs.Machine.take_limited.Goals as goal

pub returns : goal.returns
returns c =
    let w = limited_of c.args.self c.args.passages.now c.args.estimates.now c.args.worker c.args.limit in
    let l = c.limited_checked.ensures in
    let p = c.unwrap_or_else-reply.result in
    let q : p ≡ (w.answer.reply, w.comparisons) =
    counts_back w.answer.reply w.comparisons (limited_spared c.args.self _ _ _ _) p
    (subst (λ o. MatchResult o (λ (x : Reply × ℕ). p ≡ x) (λ refusal. p ≡ (Refused refusal, 0))) l.0 c.unwrap_or_else-reply.ensures) in
    λ i. record { answer = record { machine = l.1 i; reply = (q i).0 }; comparisons = (q i).1 }
