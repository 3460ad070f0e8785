-- "Take(worker)": what each of its five steps does to the machine, and the refusals 8 to 11 before them.
use Rattle.std.specs.Prelude.{List, ℕ, set, eqb}
use Rattle.rule.specs.Marks.{out, none}
use Rattle.rule.specs.declared.refusals.Refusal.TheVariants.{NothingOut}
use Rattle.dealing.specs.declared.Decision.{Decision}
use Rattle.dealing.specs.declared.Decision.TheVariants.{Found as FoundAt, NoPath as NoPathLeft, Deal, Stuck, Wait as WaitOn}
use Rattle.dealing.specs.Decision.{decision}
use Rattle.desk.specs.declared.Machine.{Machine}
use Rattle.desk.specs.declared.Reply.TheVariants.{Took, Found, NoPath, Wait}
use Rattle.desk.specs.declared.Answer.{Answer}
use Rattle.desk.specs.Machine.{with_phase, with_mark, with_hands, hands_of, held_by, board_of}
use Rattle.desk.specs.Reply.{answer, refused}
use Rattle.desk.specs.Admission.{admitted}

-- "its mark becomes out, the worker holds it"
abbrev pub dealt : Machine → List ℕ → ℕ → ℕ → Machine
dealt m held worker s = with_hands (with_mark m s out) (set held worker s)

-- 1 "Found with its label, phase 1"; 2 "NoPath, phase 2"; 3 "Took"; 4 "refusal 12"; 5 "Wait, machine unchanged", with the state waited for
abbrev pub act : Machine → List ℕ → ℕ → Decision → Answer
act m held worker (FoundAt cost) = answer (with_phase m 1) (Found cost)
act m held worker NoPathLeft = answer (with_phase m 2) NoPath
act m held worker (Deal s) = answer (dealt m held worker s) (Took s)
act m held worker Stuck = refused m NothingOut
act m held worker (WaitOn s) = answer m (Wait s)

unfoldable pub take_step : Machine → List ℕ → List ℕ → ℕ → Answer
take_step m held estimates worker = act m held worker (decision m.goal m.pull (board_of m estimates))

-- 11 "Take: worker already holds a state"
unfoldable pub take_of : Machine → List ℕ → List ℕ → ℕ → Answer
take_of m passages estimates worker =
    let held = hands_of m in
    admitted m held passages estimates worker (eqb (held_by held worker) none) (take_step m held estimates worker)
