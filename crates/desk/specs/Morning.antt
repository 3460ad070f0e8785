-- Order 2, "A whole morning in one call": "One call takes a list of Take and Bring events and writes one reply for each into a lent row; replies and last machine equal those of the calls made singly, refused ones included. The row past the last event keeps what it had."
use Rattle.std.specs.Prelude.{Bool, cond, Result, Ok, Err, List, map, ℕ, ◌/◌, ◌%◌, length, get_or, leb, eqb}
use Rattle.laws.specs.Truth.{provided}
use Rattle.laws.specs.All.{all}
use Rattle.laws.specs.Part.{overlaid}
use Rattle.rule.specs.declared.refusals.Refusal.{Refusal}
use Rattle.rule.specs.declared.refusals.Refusal.TheVariants.{ShortRow, NoEvent}
use Rattle.desk.specs.declared.Machine.{Machine}
use Rattle.desk.specs.declared.Reply.TheVariants.{Done}
use Rattle.desk.specs.declared.Answer.{Answer}
use Rattle.desk.specs.Reply.{answer, refused, code_of}
use Rattle.desk.specs.declared.Event.{Event}
use Rattle.desk.specs.declared.Event.TheVariants.{Take, Bring}
use Rattle.desk.specs.Calls.{replies, after}

-- an event as one number: 65,536 × call + worker, where call 0 is Take and 1 is Bring
abbrev pub is_event : ℕ → Bool
is_event number = leb (number / 65536) 1

abbrev pub event_of : ℕ → Event
event_of number = cond (eqb (number / 65536) 0) (Take (number % 65536)) (Bring (number % 65536))

unfoldable pub events_of : List ℕ → List Event
events_of events = map event_of events

-- 18 "where an event is neither Take nor Bring"
unfoldable pub events_right : List ℕ → Bool
events_right events = all (λ i. is_event (get_or events i 0)) (length events)

-- "Refusals, before all others: 16 where the row has fewer places than events, then 18": the first that applies, if one does
unfoldable pub morning_fault : List ℕ → ℕ → Result (Unit {0}) Refusal
morning_fault events places = provided (leb (length events) places) (Err ShortRow) (provided (events_right events) (Err NoEvent) (Ok tt))

-- the answer to the whole list, and the row: each reply as its number
pub record Morning : Type 0 where
  pub given : Answer
  pub row : List ℕ

-- by what was found of the list and the row
abbrev pub served : Machine → List ℕ → List ℕ → List ℕ → List ℕ → Result (Unit {0}) Refusal → Morning
served m passages estimates events row (Ok u) = record {
  given = answer (after passages estimates m (events_of events)) Done;
  row = overlaid 0 (map code_of (replies passages estimates m (events_of events))) row;
}
served m passages estimates events row (Err refusal) = record { given = refused m refusal; row = row }

unfoldable pub morning_of : Machine → List ℕ → List ℕ → List ℕ → List ℕ → Morning
morning_of m passages estimates events row = served m passages estimates events row (morning_fault events (length row))
