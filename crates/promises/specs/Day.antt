-- A day at the desk: calls of every kind, one after the other, "(refused ones too), each given that task and the machine last handed back".
use mathlib.Core.List.{List, [], ◌∷◌, ◌++◌, map, Memᴰ}
use Rattle.std.specs.Prelude.{ℕ, length, take}
use Rattle.checks.specs.Opening.{Task}
use Rattle.desk.specs.declared.Machine.{Machine}
use Rattle.desk.specs.declared.Reply.{Reply}
use Rattle.desk.specs.declared.Answer.{Answer}
use Rattle.desk.specs.Reply.{refusal, when, reply_of}
use Rattle.desk.specs.Opening.{opening_of}
use Rattle.desk.specs.Limited.{limited_answer}
use Rattle.desk.specs.Path.{path_of}
use Rattle.desk.specs.declared.Event.{Event}
use Rattle.desk.specs.Calls.{call}
use Rattle.desk.specs.Morning.{Morning, morning_of}

-- a call; later orders add theirs here
pub data Call : Type 0 where
  -- Take or Bring of a worker
  single : Event → Call
  -- order 2: a list of events, as numbers, and the row that is lent for their replies
  morning : List ℕ → List ℕ → Call
  -- path reading: the buffer that is lent, and the place from which on it is written
  reading : List ℕ → ℕ → Call
  -- order 7: a limited Take of a worker, and its limit
  limited : ℕ → ℕ → Call

-- its answer, given the task and a machine
abbrev pub answer_to : Task → Machine → Call → Answer
answer_to t m (single e) = call t.passages t.estimates m e
answer_to t m (morning events row) = (morning_of m t.passages t.estimates events row).given
answer_to t m (reading buffer at) = (path_of m t.passages t.estimates buffer at).given
answer_to t m (limited worker limit) = limited_answer m t.passages t.estimates worker limit

-- the replies that stand in a morning's row, one for each of so many events; a morning that was refused wrote none
abbrev pub in_row : ℕ → Morning → List Reply
in_row many o = when refusal o.given.reply (λ number. []) (map reply_of (take many o.row))

-- what a call replied through what was lent
abbrev pub written_by : Task → Machine → Call → List Reply
written_by t m (single e) = []
written_by t m (morning events row) = in_row (length events) (morning_of m t.passages t.estimates events row)
written_by t m (reading buffer at) = []
written_by t m (limited worker limit) = []

-- and all that it replied, its own reply last
abbrev pub replies_to : Task → Machine → Call → List Reply
replies_to t m c = written_by t m c ++ ((answer_to t m c).reply ∷ [])

-- a day from a machine on: the machine last handed back, and all replies in their order
unfoldable pub reached_from : Task → Machine → List Call → Machine
reached_from t m [] = m
reached_from t m (c ∷ day) = reached_from t (answer_to t m c).machine day

unfoldable pub said_from : Task → Machine → List Call → List Reply
said_from t m [] = []
said_from t m (c ∷ day) = replies_to t m c ++ said_from t (answer_to t m c).machine day

-- a day from opening on
abbrev pub reached : Task → List Call → Machine
reached t day = reached_from t (opening_of t).machine day

abbrev pub said : Task → List Call → List Reply
said t day = said_from t (opening_of t).machine day

-- a reply that stands among the day's
abbrev pub Said : Task → List Call → Reply → Type 0
Said t day r = Memᴰ r (said t day)
