-- The first place where no digit stands, or none below three.
use Rattle.std.proofs.Common.{◌+◌, ◌∙◌, arith, rules}
use Rattle.std.specs.Prelude.{is_none}
use Rattle.std.proofs.iter.runs.Sources.{ranges}
use Rattle.laws.specs.First.{first_le}
use Rattle.laws.specs.Chains.{find_by}
use Rattle.gridmap.specs.Chains.{find_or}
use Rattle.gridmap.specs.Text.{digit, digits}
use Rattle.gridmap.proofs.header.digits.Goals as goal

pub returns : goal.returns
unfolding digits
returns c =
    let found = find_by (λ i. is_none (digit c.args.text.now (c.args.at + i))) 3 c.find.result (λ e x l. search (rules, ranges)) (λ i e. search (rules, ranges)) in
    let many = c.unwrap_or.ensures ∙ find_or (λ i. is_none (digit c.args.text.now (c.args.at + i))) 3 c.find.result found in
    (many, omega (arith, many, first_le (λ i. is_none (digit c.args.text.now (c.args.at + i))) 3))
