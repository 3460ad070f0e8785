-- Refusals 8 to 11, which come before what a worker's call does, in this order.
use Rattle.std.specs.Prelude.{Bool, List, ℕ, ltb, eqb}
use Rattle.laws.specs.Truth.{provided}
use Rattle.rule.specs.declared.refusals.Refusal.TheVariants.{Unfit, NoWorker, NotSearching, WrongHands}
use Rattle.desk.specs.declared.Machine.{Machine}
use Rattle.desk.specs.declared.Answer.{Answer}
use Rattle.desk.specs.Reply.{refused}
use Rattle.desk.specs.Fits.{fits}

-- 8 "task or machine doesn't fit"; 9 "worker number not below k"; 10 "phase isn't 0"; 11 is the call's own: `ready` says what it asks of the worker's hands
unfoldable pub admitted : Machine → List ℕ → List ℕ → List ℕ → ℕ → Bool → Answer → Answer
admitted m held passages estimates worker ready call =
    provided (fits m held passages estimates) (refused m Unfit)
    (provided (ltb worker m.k) (refused m NoWorker)
    (provided (eqb m.phase 0) (refused m NotSearching)
    (provided ready (refused m WrongHands)
    call)))
