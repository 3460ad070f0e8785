-- The answers to a list of events, taken one more at a time, what they leave as it was, and the numbers that replies are in a row.
use Rattle.std.specs.Prelude.{◌≡◌, Bool, true, false, cond, Some, Ok, Err, ℕ, ◌+◌, ◌*◌, ◌/◌, ◌%◌, ◌≤◌, ◌<◌, length, get_or, set, take as front, leb, eqb}
use Rattle.std.proofs.Math.Path.{refl, ap}
use Rattle.std.proofs.Common.{◌∙◌, arith, add-one, length-set, take-suc, take_all, length-take-le}
use mathlib.Core.List.{List, [], ◌∷◌, ◌++◌, map}
use Rattle.std.proofs.lemmas.List.{length-map}
use borrow.Author.Tests.{leb-true}
use Rattle.laws.specs.Truth.{provided_ok}
use Rattle.laws.specs.Part.{overlaid}
use Rattle.laws.specs.Put.{Put, put_none, put_next, put_one}
use Rattle.laws.specs.Map.{map_append}
use Rattle.rule.specs.declared.refusals.Refusal.{Refusal}
use Rattle.rule.specs.declared.refusals.Refusal.TheVariants.{BadSizes, BadEnds, BadWeights, BadPassage, BadEstimate, AbovePassage, AboveDetour, Unfit, NoWorker, NotSearching, WrongHands, NothingOut, NotFound, BrokenTrail, ShortBuffer, ShortRow, NoEvent}
use Rattle.rule.specs.Refusals.{number_of, refusal_with}
use Rattle.dealing.specs.declared.Decision.{Decision}
use Rattle.dealing.specs.declared.Decision.TheVariants.{Found as FoundAt, NoPath as NoPathLeft, Deal, Stuck, Wait as WaitOn}
use Rattle.dealing.specs.Decision.{decision}
use Rattle.desk.specs.declared.Machine.{Machine}
use Rattle.desk.specs.declared.Reply.{Reply}
use Rattle.desk.specs.declared.Reply.TheVariants.{Opened, Took, Brought, Found, NoPath, Wait, Read, Refused, Done, Cut}
use Rattle.desk.specs.declared.Answer.{Answer}
use Rattle.desk.specs.Machine.{hands_of, held_by, task_of, board_of}
use Rattle.desk.specs.Take.{act, take_step, take_of}
use Rattle.desk.specs.Bring.{bring_step, bring_of}
use Rattle.desk.specs.Laws.{admitted_either, sweep_leaves}
use Rattle.desk.specs.Reply.{answer, refused, value_of, code_of, refused_with, reply_with, reply_of}
use Rattle.desk.specs.declared.Event.{Event}
use Rattle.desk.specs.declared.Event.TheVariants.{Take, Bring}
use Rattle.desk.specs.Calls.{worker_of, call, answers, replies, last_of, after}
use Rattle.desk.specs.Morning.{event_of, events_of, morning_fault, morning_of}

-- the worker of an event's number
pub event_worker : (number : ℕ) → worker_of (event_of number) ≡ number % 65536
event_worker number = go (eqb (number / 65536) 0)
  where
    go : (b : Bool) → worker_of (cond b (Take (number % 65536)) (Bring (number % 65536))) ≡ number % 65536
    go true = refl
    go false = refl

-- no call changes the task's numbers
act_task : (passages estimates : List ℕ) (m : Machine) (held : List ℕ) (worker : ℕ) (d : Decision) → task_of (act m held worker d).machine passages estimates ≡ task_of m passages estimates
act_task passages estimates m held worker (FoundAt cost) = refl
act_task passages estimates m held worker NoPathLeft = refl
act_task passages estimates m held worker (Deal s) = refl
act_task passages estimates m held worker Stuck = refl
act_task passages estimates m held worker (WaitOn s) = refl

pub call_task : (passages estimates : List ℕ) (m : Machine) (e : Event) → task_of (call passages estimates m e).machine passages estimates ≡ task_of m passages estimates
unfolding take_of take_step bring_of bring_step
call_task passages estimates m (Take worker) =
    admitted_either m (hands_of m) passages estimates (λ a. task_of a.machine passages estimates ≡ task_of m passages estimates) worker _ _ (λ _ _. refl)
    (λ _ _. act_task passages estimates m (hands_of m) worker (decision m.goal m.pull (board_of m estimates)))
call_task passages estimates m (Bring worker) =
    admitted_either m (hands_of m) passages estimates (λ a. task_of a.machine passages estimates ≡ task_of m passages estimates) worker _ _ (λ _ _. refl)
    (λ _ _. sweep_leaves (λ (x : Machine). task_of x passages estimates) (λ _ _ _ _ _. refl) m passages estimates (held_by (hands_of m) worker))

-- events after others, and one event more
last_append : (m : Machine) (given more : List Answer) → last_of m (given ++ more) ≡ last_of (last_of m given) more
last_append m [] more = refl
last_append m (a ∷ given) more = last_append a.machine given more

module _ (passages estimates : List ℕ) where
  pub answers_append : (m : Machine) (es later : List Event) → answers passages estimates m (es ++ later) ≡ answers passages estimates m es ++ answers passages estimates (after passages estimates m es) later
  unfolding answers after
  answers_append m [] later = refl
  answers_append m (x ∷ es) later = rw (answers_append (call passages estimates m x).machine es later)

  pub after_append : (m : Machine) (es later : List Event) → after passages estimates m (es ++ later) ≡ after passages estimates (after passages estimates m es) later
  unfolding after
  after_append m es later = ap (last_of m) (answers_append m es later) ∙ last_append m (answers passages estimates m es) (answers passages estimates (after passages estimates m es) later)

  pub replies_append : (m : Machine) (es later : List Event) → replies passages estimates m (es ++ later) ≡ replies passages estimates m es ++ replies passages estimates (after passages estimates m es) later
  unfolding replies
  replies_append m es later =
      ap (map (λ (a : Answer). a.reply)) (answers_append m es later)
      ∙ map_append (λ (a : Answer). a.reply) (answers passages estimates m es) (answers passages estimates (after passages estimates m es) later)

  pub after_more : (m : Machine) (es : List Event) (e : Event) → after passages estimates m (es ++ (e ∷ [])) ≡ (call passages estimates (after passages estimates m es) e).machine
  unfolding after answers
  after_more m es e = after_append m es (e ∷ [])

  pub replies_more : (m : Machine) (es : List Event) (e : Event) → replies passages estimates m (es ++ (e ∷ [])) ≡ replies passages estimates m es ++ ((call passages estimates (after passages estimates m es) e).reply ∷ [])
  unfolding replies answers
  replies_more m es e = replies_append m es (e ∷ [])

  pub replies_length : (m : Machine) (es : List Event) → length (replies passages estimates m es) ≡ length es
  unfolding replies answers
  replies_length m [] = refl
  replies_length m (x ∷ es) = rw (replies_length (call passages estimates m x).machine es)

-- the first so many events of a list of numbers
abbrev pub firsts : List ℕ → ℕ → List Event
firsts events i = events_of (front i events)

pub firsts_more : (events : List ℕ) (i : ℕ) → i < length events → firsts events (i + 1) ≡ firsts events i ++ (event_of (get_or events i 0) ∷ [])
unfolding events_of
firsts_more events i l = rw (add-one i, take-suc events i 0 l) (map_append event_of (front i events) (get_or events i 0 ∷ []))

pub firsts_all : (events : List ℕ) (i : ℕ) → length events ≤ i → firsts events i ≡ events_of events
firsts_all events i l = rw (take_all i events l)

pub firsts_length : (events : List ℕ) (i : ℕ) → i ≤ length events → length (firsts events i) ≡ i
unfolding events_of
firsts_length events i l = length-map (front i events) event_of ∙ length-take-le i events l

-- what the loop over a morning knows at i: the machine, and the replies of the first i events at the front of the row
pub record Served (passages estimates : List ℕ) (m₀ : Machine) (events l₀ l : List ℕ) (m : Machine) (i : ℕ) : Type 0 where
  pub machine : m ≡ after passages estimates m₀ (firsts events i)
  pub row : Put 0 (map code_of (replies passages estimates m₀ (firsts events i))) l₀ l i
  pub long : length l ≡ length l₀

module _ (passages estimates : List ℕ) (m₀ : Machine) (events l₀ : List ℕ) where
  pub served_zero : Served passages estimates m₀ events l₀ l₀ m₀ 0
  unfolding events_of after replies answers
  served_zero = record { machine = refl; row = put_none 0 l₀; long = refl }

  pub served_more : (l : List ℕ) (m : Machine) (i : ℕ) (a : Answer) (code : ℕ) → Served passages estimates m₀ events l₀ l m i → i < length events → i < length l₀
      → a ≡ call passages estimates m (event_of (get_or events i 0)) → code ≡ code_of a.reply → Served passages estimates m₀ events l₀ (set l i code) a.machine (i + 1)
  served_more l m i a code w h r e c =
      let q : a ≡ call passages estimates (after passages estimates m₀ (firsts events i)) (event_of (get_or events i 0)) = e ∙ ap (λ (x : Machine). call passages estimates x (event_of (get_or events i 0))) w.machine in
      let n : length (map code_of (replies passages estimates m₀ (firsts events i))) ≡ i =
      length-map (replies passages estimates m₀ (firsts events i)) code_of ∙ replies_length passages estimates m₀ (firsts events i) ∙ firsts_length events i (omega arith) in
      record {
        machine = rw (firsts_more events i h, after_more passages estimates m₀ (firsts events i) (event_of (get_or events i 0)), ← q);
        row = rw (firsts_more events i h, replies_more passages estimates m₀ (firsts events i) (event_of (get_or events i 0)), ← q, map_append, ← c)
            (put_next 0 i (i + 1) _ (code ∷ []) l₀ l (set l i code) w.row (put_one i code l (omega (arith, w.long))) (omega (arith, n)));
        long = length-set l i code ∙ w.long;
      }

  pub served_end : (l : List ℕ) (m : Machine) (i : ℕ) → Served passages estimates m₀ events l₀ l m i → length events ≤ i
      → (m ≡ after passages estimates m₀ (events_of events)) × (l ≡ overlaid 0 (map code_of (replies passages estimates m₀ (events_of events))) l₀)
  served_end l m i w h = rw (← firsts_all events i h) (w.machine, w.row.done)

-- a morning, by what its refusals come to
pub morning_room : (events : List ℕ) (places : ℕ) → morning_fault events places ≡ Ok tt → length events ≤ places
unfolding morning_fault
morning_room events places e = leb-true (length events) places (provided_ok (leb (length events) places) ShortRow _ e).0

module _ (m : Machine) (passages estimates events row : List ℕ) where
  pub morning_refused : (refusal : Refusal) → Err refusal ≡ morning_fault events (length row) → morning_of m passages estimates events row ≡ record { given = refused m refusal; row = row }
  unfolding morning_of
  morning_refused refusal q = rw (← q)

  pub morning_served : Ok tt ≡ morning_fault events (length row)
      → morning_of m passages estimates events row ≡ record {
        given = answer (after passages estimates m (events_of events)) Done;
        row = overlaid 0 (map code_of (replies passages estimates m (events_of events))) row;
      }
  unfolding morning_of
  morning_served q = rw (← q)

-- a refusal comes back from its number
pub refusal_back : (refusal : Refusal) → refusal_with (number_of refusal) ≡ Some refusal
refusal_back BadSizes = refl
refusal_back BadEnds = refl
refusal_back BadWeights = refl
refusal_back BadPassage = refl
refusal_back BadEstimate = refl
refusal_back AbovePassage = refl
refusal_back AboveDetour = refl
refusal_back Unfit = refl
refusal_back NoWorker = refl
refusal_back NotSearching = refl
refusal_back WrongHands = refl
refusal_back NothingOut = refl
refusal_back NotFound = refl
refusal_back BrokenTrail = refl
refusal_back ShortBuffer = refl
refusal_back ShortRow = refl
refusal_back NoEvent = refl

-- a reply comes back from its number, where the number that it carries has 32 bits
code_parts : (case value : ℕ) → value < 4294967296 → reply_of (case * 4294967296 + value) ≡ reply_with case value
unfolding reply_of
code_parts case value l =
    let q : (case * 4294967296 + value) / 4294967296 ≡ case = omega arith in
    let r : (case * 4294967296 + value) % 4294967296 ≡ value = omega arith in
    rw (q, r)

pub code_back : (r : Reply) → value_of r < 4294967296 → reply_of (code_of r) ≡ r
unfolding code_of
code_back Opened l = code_parts 0 0 l
code_back (Took s) l = code_parts 1 s l
code_back (Brought many) l = code_parts 2 many l
code_back (Found cost) l = code_parts 3 cost l
code_back NoPath l = code_parts 4 0 l
code_back (Wait s) l = code_parts 5 s l
code_back (Read many) l = code_parts 6 many l
code_back (Refused refusal) l = code_parts 7 (number_of refusal) l ∙ ap refused_with (refusal_back refusal)
code_back Done l = code_parts 8 0 l
code_back (Cut limit) l = code_parts 9 limit l
