-- Of the numbers looked at so far, all were small enough or one was not.
use Rattle.std.proofs.Common.{◌≡◌, refl, Bool, List, ℕ, leb, rules}
use Rattle.std.specs.List.{list_all}
use Rattle.std.proofs.lemmas.Fn.{fold_over, slice_gives, fronts}
use Rattle.deskc.specs.Row.{at_most}
use Rattle.deskc.specs.Laws.{all_and_last}
use Rattle.deskc.proofs.row.at_most.Goals as goal

pub returns : goal.returns
unfolding at_most
returns c =
    let test : ℕ → Bool = λ x. leb x c.args.most in
    let all : c.fold.result ≡ list_all test c.iter.result.rest.now =
    fold_over fronts _ _ (λ (xs : List ℕ) (fit : Bool). fit ≡ list_all test xs) _ (λ xs fit x next f' e k. (all_and_last test xs x.now fit next e (search rules), search rules)) c.iter.result _ _ _ (slice_gives _) refl c.fold.ensures.ran in
    cc
