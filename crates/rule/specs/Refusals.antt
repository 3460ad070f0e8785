-- "Refusal numbers": the number of each refusal of the desk's calls. Definitions and laws say the refusal by its name.
use Rattle.std.specs.Prelude.{cond, Option, Some, None, ℕ, eqb}
use Rattle.rule.specs.declared.refusals.Refusal.{Refusal}
use Rattle.rule.specs.declared.refusals.Refusal.TheVariants.{BadSizes, BadEnds, BadWeights, BadPassage, BadEstimate, AbovePassage, AboveDetour, Unfit, NoWorker, NotSearching, WrongHands, NothingOut, NotFound, BrokenTrail, ShortBuffer, ShortRow, NoEvent}

-- opening, 1 to 7; Take, Bring and path reading, 8 to 15; order 2's morning, 16 and 18
abbrev pub number_of : Refusal → ℕ
number_of BadSizes = 1
number_of BadEnds = 2
number_of BadWeights = 3
number_of BadPassage = 4
number_of BadEstimate = 5
number_of AbovePassage = 6
number_of AboveDetour = 7
number_of Unfit = 8
number_of NoWorker = 9
number_of NotSearching = 10
number_of WrongHands = 11
number_of NothingOut = 12
number_of NotFound = 13
number_of BrokenTrail = 14
number_of ShortBuffer = 15
number_of ShortRow = 16
number_of NoEvent = 18

-- and back: the refusal of a number; none where no refusal has it
abbrev pub refusal_with : ℕ → Option Refusal
refusal_with number =
    cond (eqb number 1) (Some BadSizes)
    (cond (eqb number 2) (Some BadEnds)
    (cond (eqb number 3) (Some BadWeights)
    (cond (eqb number 4) (Some BadPassage)
    (cond (eqb number 5) (Some BadEstimate)
    (cond (eqb number 6) (Some AbovePassage)
    (cond (eqb number 7) (Some AboveDetour)
    (cond (eqb number 8) (Some Unfit)
    (cond (eqb number 9) (Some NoWorker)
    (cond (eqb number 10) (Some NotSearching)
    (cond (eqb number 11) (Some WrongHands)
    (cond (eqb number 12) (Some NothingOut)
    (cond (eqb number 13) (Some NotFound)
    (cond (eqb number 14) (Some BrokenTrail)
    (cond (eqb number 15) (Some ShortBuffer)
    (cond (eqb number 16) (Some ShortRow)
    (cond (eqb number 18) (Some NoEvent)
    None))))))))))))))))
