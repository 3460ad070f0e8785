-- Each return is one law on the decision's ladder, applied to what `choose` and the search for an out state came to.
use Rattle.std.proofs.Common.{◌∙◌, sym, ap}
use Rattle.dealing.specs.declared.Decision.TheVariants.{Wait}
use Rattle.dealing.specs.Laws.{decides_found, decides_none, decides_deal, decides_stuck, decides_wait, decides_quiet}
use Rattle.dealing.proofs.Ranked.decide.Goals as goal

pub returns-then-is_safe : goal.returns-then-is_safe
returns-then-is_safe c = decides_found _ _ _ (sym c.is_safe.ensures ∙ c.if-is_safe.true)

pub returns-in-NoneOpen-None : goal.returns-in-NoneOpen-None
returns-in-NoneOpen-None c =
    decides_none _ _ _ (sym c.is_safe.ensures ∙ c.if-is_safe.false) (sym c.in-NoneOpen-None.is-0 ∙ c.choose.ensures) (sym c.in-NoneOpen-None.is-1 ∙ c.first_marked-out.ensures)

pub returns-in-NoneOpen-Some : goal.returns-in-NoneOpen-Some
returns-in-NoneOpen-Some c =
    decides_quiet _ _ _ (sym c.is_safe.ensures ∙ c.if-is_safe.false) (sym c.in-NoneOpen-Some.is-0 ∙ c.choose.ensures) _ (sym c.in-NoneOpen-Some.is-1 ∙ c.first_marked-out.ensures)

pub returns-in-Safe-default : goal.returns-in-Safe-default
returns-in-Safe-default c = decides_deal _ _ _ (sym c.is_safe.ensures ∙ c.if-is_safe.false) _ (sym c.in-Safe-default.is-0 ∙ c.choose.ensures)

pub returns-in-Stopped-None : goal.returns-in-Stopped-None
returns-in-Stopped-None c =
    decides_stuck _ _ _ (sym c.is_safe.ensures ∙ c.if-is_safe.false) _ (sym c.in-Stopped-None.is-0 ∙ c.choose.ensures) (sym c.in-Stopped-None.is-1 ∙ c.first_marked-out.ensures)

pub returns-in-Stopped-Some : goal.returns-in-Stopped-Some
returns-in-Stopped-Some c =
    ap Wait c.in-Stopped-Some.t-is
    ∙ decides_wait _ _ _ (sym c.is_safe.ensures ∙ c.if-is_safe.false) _ (sym c.in-Stopped-Some.is-0 ∙ c.choose.ensures) _ (sym c.in-Stopped-Some.is-1 ∙ c.first_marked-out.ensures)
