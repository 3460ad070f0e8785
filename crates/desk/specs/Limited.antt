-- Order 7, "A Take that knows when to stop": Take's refusals, its steps by the limited test, Cut, and the count of comparisons.
use Rattle.std.specs.Prelude.{Option, Some, None, List, ℕ, eqb}
use Rattle.rule.specs.Marks.{none}
use Rattle.rule.specs.declared.refusals.Refusal.{Refusal}
use Rattle.dealing.specs.declared.Decided.{Decided}
use Rattle.dealing.specs.Limited.{limited}
use Rattle.desk.specs.declared.Machine.{Machine}
use Rattle.desk.specs.declared.Reply.TheVariants.{Cut}
use Rattle.desk.specs.declared.Answer.{Answer}
use Rattle.desk.specs.declared.Counted.{Counted}
use Rattle.desk.specs.Machine.{hands_of, held_by, board_of}
use Rattle.desk.specs.Reply.{answer, refused, refusal, when}
use Rattle.desk.specs.Admission.{admitted}
use Rattle.desk.specs.Take.{act}

-- "it replies Cut, reports the limit and leaves the machine"; else the step is done as Take does it
abbrev pub act_within : Machine → List ℕ → ℕ → ℕ → Option Decided → Answer
act_within m held worker limit None = answer m (Cut limit)
act_within m held worker limit (Some d) = act m held worker d.decision

-- the comparisons that were made: where it was cut short, as many as the limit allows
abbrev pub comparisons_in : ℕ → Option Decided → ℕ
comparisons_in limit None = limit
comparisons_in limit (Some d) = d.comparisons

-- what the limited test comes to on a machine
abbrev pub limited_on : Machine → List ℕ → ℕ → Option Decided
limited_on m estimates limit = limited m.goal m.pull (board_of m estimates) limit

-- a refusal made none
abbrev pub counted_refusal : Machine → Refusal → Counted
counted_refusal m refusal = record { answer = refused m refusal; comparisons = 0 }

-- refusals as Take's; "Its reply carries how many comparisons it made ..; 0 where refused."
unfoldable pub limited_answer : Machine → List ℕ → List ℕ → ℕ → ℕ → Answer
limited_answer m passages estimates worker limit =
    let held = hands_of m in
    admitted m held passages estimates worker (eqb (held_by held worker) none) (act_within m held worker limit (limited_on m estimates limit))

unfoldable pub limited_of : Machine → List ℕ → List ℕ → ℕ → ℕ → Counted
limited_of m passages estimates worker limit =
    let a = limited_answer m passages estimates worker limit in
    record { answer = a; comparisons = when refusal a.reply (λ _. 0) (comparisons_in limit (limited_on m estimates limit)) }
