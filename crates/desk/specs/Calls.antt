-- Calls one after the other: each is given the task's slices and the machine last handed back.
use Rattle.std.specs.Prelude.{List, [], ◌∷◌, map, ℕ}
use Rattle.desk.specs.declared.Machine.{Machine}
use Rattle.desk.specs.declared.Reply.{Reply}
use Rattle.desk.specs.declared.Answer.{Answer}
use Rattle.desk.specs.declared.Event.{Event}
use Rattle.desk.specs.declared.Event.TheVariants.{Take, Bring}
use Rattle.desk.specs.Take.{take_of}
use Rattle.desk.specs.Bring.{bring_of}

-- the worker of a call
abbrev pub worker_of : Event → ℕ
worker_of (Take worker) = worker
worker_of (Bring worker) = worker

abbrev pub call : List ℕ → List ℕ → Machine → Event → Answer
call passages estimates m (Take worker) = take_of m passages estimates worker
call passages estimates m (Bring worker) = bring_of m passages estimates worker

-- the answers in their order: whatever speaks of several calls speaks of these
unfoldable pub answers : List ℕ → List ℕ → Machine → List Event → List Answer
answers passages estimates m [] = []
answers passages estimates m (e ∷ es) = let a = call passages estimates m e in a ∷ answers passages estimates a.machine es

-- the replies in their order
unfoldable pub replies : List ℕ → List ℕ → Machine → List Event → List Reply
replies passages estimates m es = map (λ (a : Answer). a.reply) (answers passages estimates m es)

-- the machine last handed back
abbrev pub last_of : Machine → List Answer → Machine
last_of m [] = m
last_of m (a ∷ rest) = last_of a.machine rest

unfoldable pub after : List ℕ → List ℕ → Machine → List Event → Machine
after passages estimates m es = last_of m (answers passages estimates m es)
