-- A session's text as its functions build it: what each call spends of the buffer, the text after so many events, and the report by what reading a file comes to.
use Rattle.std.specs.Prelude.{◌≡◌, Bool, true, false, cond, List, [], ◌∷◌, ◌++◌, ℕ, ◌+◌, ◌-◌, ◌*◌, ◌%◌, ◌≤◌, ◌<◌, length, get_or, replicate, take, leb, eqb, Result, Ok, Err}
use Rattle.std.proofs.Math.Path.{refl, ap, subst⁻¹}
use Rattle.std.proofs.Common.{sym, append-nil, append_assoc, arith, length-append, length-take, length-drop}
use borrow.Author.Tests.{eq-eqb, le-leb, lt-leb}
use Rattle.laws.specs.Truth.{provided, provided_either}
use Rattle.laws.specs.Part.{overlaid}
use Rattle.laws.specs.Put.{Put}
use Rattle.rule.specs.declared.refusals.Refusal.{Refusal}
use Rattle.rule.specs.Refusals.{number_of}
use Rattle.dealing.specs.declared.Decision.{Decision}
use Rattle.dealing.specs.declared.Decision.TheVariants.{Found as FoundAt, NoPath as NoPathLeft, Deal, Stuck, Wait as WaitOn}
use Rattle.dealing.specs.Decision.{decision}
use Rattle.desk.specs.declared.Machine.{Machine}
use Rattle.desk.specs.declared.Answer.{Answer}
use Rattle.desk.specs.declared.Event.{Event}
use Rattle.desk.specs.declared.Event.TheVariants.{Take as takes, Bring as brings}
use Rattle.desk.specs.Machine.{hands_of, held_by, board_of}
use Rattle.desk.specs.Fits.{is_sound}
use Rattle.desk.specs.KeyLaws.{opened_sound}
use Rattle.desk.specs.declared.Reply.TheVariants.{Refused}
use Rattle.desk.specs.Reply.{when, found}
use Rattle.desk.specs.Take.{act, take_step, take_of}
use Rattle.desk.specs.Bring.{bring_step, bring_of}
use Rattle.desk.specs.Path.{path_of}
use Rattle.desk.specs.Laws.{admitted_either, sweep_leaves, path_either}
use Rattle.desk.specs.Calls.{worker_of, call, answers, after}
use Rattle.desk.specs.Morning.{event_of, events_of}
use Rattle.desk.specs.CallLaws.{event_worker, after_more, firsts, firsts_more, firsts_all}
use Rattle.taskfile.specs.declared.Contents.{Contents}
use Rattle.taskfile.specs.declared.Scan.{Scan}
use Rattle.taskfile.specs.declared.faults.Fault.{Fault}
use Rattle.taskfile.specs.Faults.{fault_number}
use Rattle.taskfile.specs.Scan.{scanned}
use Rattle.taskfile.specs.Contents.{FileReading, roomy_for, reading_of, read_of}
use Rattle.taskfile.specs.Laws.{roomy}
use Rattle.report.specs.declared.page.Page.{Page}
use Rattle.report.specs.Line.{line, line_of, spoken}
use Rattle.report.specs.Text.{opening_read, conversation, session, task_text, outcome_text, reading, printed, room, report_length, report_buffer}
use Rattle.report.specs.PageLaws.{Room, Written, WrittenIn, written_none, written_next}
use Rattle.report.specs.Laws.{NotRefused, not_refused, path_text, PathFits, reserve, spare, Said, Counts}

-- what a call prints after its line was kept back before: Found comes once
abbrev Spends : Machine → Answer → Type 0
Spends m a = spare a.machine + reserve a.reply ≤ spare m

act_spends : (m : Machine) (held : List ℕ) (worker : ℕ) (d : Decision) → m.phase ≡ 0 → Spends m (act m held worker d)
act_spends m held worker (FoundAt cost) e = rw (eq-eqb m.phase 0 e) (omega arith)
act_spends m held worker NoPathLeft e = omega arith
act_spends m held worker (Deal s) e = omega arith
act_spends m held worker Stuck e = omega arith
act_spends m held worker (WaitOn s) e = omega arith

bring_spends : (m : Machine) (held passages estimates : List ℕ) (worker : ℕ) → Spends m (bring_step m held passages estimates worker)
unfolding bring_step
bring_spends m held passages estimates worker = rw (sweep_leaves (λ (x : Machine). x.phase) (λ _ _ _ _ _. refl) m passages estimates (held_by held worker)) (omega arith)

pub call_spends : (passages estimates : List ℕ) (m : Machine) (e : Event) → spare (call passages estimates m e).machine + reserve (call passages estimates m e).reply ≤ spare m
unfolding take_of take_step bring_of
call_spends passages estimates m (takes worker) =
    admitted_either m (hands_of m) passages estimates (Spends m) worker _ _ (λ _ _. omega arith)
    (λ a _. act_spends m (hands_of m) worker (decision m.goal m.pull (board_of m estimates)) a.searching)
call_spends passages estimates m (brings worker) =
    admitted_either m (hands_of m) passages estimates (Spends m) worker _ _ (λ _ _. omega arith) (λ _ _. bring_spends m (hands_of m) passages estimates worker)

-- a path that is read into 256 places has at most so many states
pub path_fits : (m : Machine) (passages estimates : List ℕ) → PathFits (path_of m passages estimates (replicate 256 0) 0).given.reply
path_fits m passages estimates =
    path_either m passages estimates (replicate 256 0) 0 (λ r. PathFits r.given.reply) (λ refusal other. omega arith) (λ some room. omega arith)

-- a call's answer: the places that it spends, and its two lines in a row
module _ (m : Machine) (passages estimates : List ℕ) (event : ℕ) (a : Answer) (e : a ≡ call passages estimates m (event_of event)) where
  pub answer_spends : spare a.machine + reserve a.reply ≤ spare m
  answer_spends = rw e (call_spends passages estimates m (event_of event))

  pub said : (p q r : Page) → WrittenIn 50 (line_of (event % 65536) a.reply) p q
      → WrittenIn (reserve a.reply) (when found a.reply (λ _. path_text a.machine passages estimates) []) q r
      → Said m passages estimates event p r a.machine
  unfolding spoken
  said p q r x y = record {
    machine = ap (λ (b : Answer). b.machine) e;
    text = rw (← e, event_worker event) (written_next _ _ p q r x.text y.text);
    within = omega (arith, answer_spends, x.short, y.short);
  }

-- one event more is one answer more to say
pub session_more : (passages estimates : List ℕ) (m : Machine) (es : List Event) (e : Event)
    → session passages estimates m (es ++ (e ∷ [])) ≡ session passages estimates m es ++ spoken passages estimates (worker_of e) (call passages estimates (after passages estimates m es) e)
unfolding session conversation answers after
session_more passages estimates m [] e = append-nil _
session_more passages estimates m (x ∷ es) e =
    rw (session_more passages estimates (call passages estimates m x).machine es e) (sym (append_assoc (spoken passages estimates (worker_of x) (call passages estimates m x)) _ _))

-- the text of the events so far, and what is left for the others
pub record Played (passages estimates : List ℕ) (m₀ : Machine) (events : List ℕ) (p q : Page) (m : Machine) (i : ℕ) : Type 0 where
  pub machine : m ≡ after passages estimates m₀ (firsts events i)
  pub text : Written (session passages estimates m₀ (firsts events i)) p q
  pub left : Room (50 * (length events - i) + spare m) q

spare_max : (m : Machine) → spare m ≤ 8192
spare_max m = go (eqb m.phase 0)
  where
    go : (t : Bool) → cond t 8192 0 ≤ 8192
    go true = omega arith
    go false = omega arith

module _ (passages estimates : List ℕ) (m₀ : Machine) (events : List ℕ) (p : Page) where
  pub played_zero : Room (50 * length events + 8192) p → Played passages estimates m₀ events p p m₀ 0
  unfolding events_of session conversation answers after
  played_zero h = record { machine = refl; text = written_none p (omega arith); left = omega (arith, spare_max m₀) }

  module _ (q : Page) (m : Machine) (i : ℕ) (w : Played passages estimates m₀ events p q m i) where
    pub played_more : i < length events → (event : ℕ) → event ≡ get_or events i 0 → (r : Page) (next : Machine) → Said m passages estimates event q r next → Played passages estimates m₀ events p r next (i + 1)
    played_more h event e r next s =
        let more : Room (50 * (length events - (i + 1)) + spare next) r = omega (arith, w.left, s.within, s.text.long) in
        record {
          machine = rw (firsts_more events i h, after_more passages estimates m₀ (firsts events i) (event_of (get_or events i 0)), ← w.machine, ← e) s.machine;
          text = rw (firsts_more events i h, session_more passages estimates m₀ (firsts events i) (event_of (get_or events i 0)), ← w.machine, ← e)
              (written_next _ _ p q r w.text s.text);
          left = more;
        }

    pub played_end : length events ≤ i → Written (session passages estimates m₀ (events_of events)) p q
    played_end b = rw (← firsts_all events i b) w.text

-- a task's text: the refusal alone where opening refuses it, else the session of a machine that is sound
module _ (c : Contents) (passages estimates : List ℕ) (a : Answer) (e : a ≡ opening_read c passages estimates) where
  pub played_sound : NotRefused a.reply → is_sound a.machine passages estimates ≡ true
  played_sound n = opened_sound _ a e (rw (not_refused a.reply n))

  module _ (events : List ℕ) (p q : Page) where
    pub put_refused : (why : Refusal) → a.reply ≡ Refused why → Written (line "opening" (number_of why ∷ [])) p q → Written (task_text c passages estimates events) p q
    unfolding task_text
    put_refused why x w = rw (← e, x) w

    pub put_played : NotRefused a.reply → Written (session passages estimates a.machine (events_of events)) p q → Written (task_text c passages estimates events) p q
    unfolding task_text
    put_played n w = rw (← e, not_refused a.reply n) w

-- what was read of a file fits the slices that it was read into
abbrev Bounded : ℕ → ℕ → ℕ → Result Contents Fault → Type 0
Bounded passages estimates calls (Ok c) = Counts c passages estimates calls
Bounded passages estimates calls (Err fault) = Unit {0}

pub read_bounds : (file passages estimates calls : List ℕ) (c : Contents) → Ok c ≡ (read_of file passages estimates calls).outcome → Counts c (length passages) (length estimates) (length calls)
unfolding read_of
read_bounds file passages estimates calls c e = subst⁻¹ (Bounded (length passages) (length estimates) (length calls)) e all
  where
    P : FileReading → Type 0
    P r = Bounded (length passages) (length estimates) (length calls) r.outcome

    of_scan : (s : Result Scan Fault) → P (reading_of s file passages estimates calls)
    of_scan (Err fault) = tt
    of_scan (Ok s) =
        provided_either P (roomy_for s (length passages) (length estimates) (length calls)) _ _ tt
        (λ r.
        let f = roomy s (length passages) (length estimates) (length calls) r in
        record { passages_in = f.passages_in; estimates_in = f.estimates_in; calls_in = f.calls_in })

    all : P (read_of file passages estimates calls)
    all =
        provided_either P (leb (length file) 65536) _ _ tt (λ _. of_scan (scanned file))

pub reading_bounds : (file : List ℕ) (c : Contents) → Ok c ≡ (reading file).outcome → Counts c 1536 4096 11008
reading_bounds file c e = read_bounds file (replicate 1536 0) (replicate 4096 0) (replicate 11008 0) c e

-- what is printed, by what reading the file comes to: its fault, or its task
printed_as : (file : List ℕ) (o : Result Contents Fault) → o ≡ (reading file).outcome → outcome_text (reading file) o ≡ printed file
unfolding printed
printed_as file o e = ap (outcome_text (reading file)) e

pub printed_fault : (file : List ℕ) (fault : Fault) → Err fault ≡ (reading file).outcome → line "file" (fault_number fault.kind ∷ fault.at ∷ []) ≡ printed file
printed_fault file fault e = printed_as file (Err fault) e

pub printed_task : (file : List ℕ) (c : Contents) (passages estimates calls : List ℕ) → Ok c ≡ (reading file).outcome → passages ≡ (reading file).passages → estimates ≡ (reading file).estimates → calls ≡ (reading file).calls
    → task_text c (take (3 * c.passages) passages) (take (c.n * c.n) estimates) (take c.calls calls) ≡ printed file
printed_task file c passages estimates calls e x y z = rw (x, y, z) (printed_as file (Ok c) e)

-- a report: nothing where the buffer is too short, else the printed text at its front
module _ (file out : List ℕ) where
  pub report_short : length out < room → (0 ≡ report_length file out) × (out ≡ report_buffer file out)
  unfolding report_length report_buffer
  report_short h = rw (lt-leb room (length out) h) (refl, refl)

  pub report_put : room ≤ length out → (l : List ℕ) (r : ℕ) → Put 0 (printed file) out l r → (r ≡ report_length file out) × (l ≡ report_buffer file out)
  unfolding report_length report_buffer
  report_put h l r p = rw (le-leb room (length out) h) (omega (arith, p.next), p.done)

-- what is written fits the buffer, since the buffer keeps its length
pub report_within : (file out : List ℕ) → length (report_buffer file out) ≡ length out → report_length file out ≤ length out
unfolding report_buffer report_length
report_within file out = go (leb room (length out))
  where
    go : (b : Bool) → length (provided b out (overlaid 0 (printed file) out)) ≡ length out → provided b 0 (length (printed file)) ≤ length out
    go false e = omega arith
    go true e = omega (arith, simp (length-append, length-take, length-drop) at e)
