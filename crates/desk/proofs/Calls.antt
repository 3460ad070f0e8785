-- What the inner functions of the calls leave, by the answers that the calls come to, and what a call knows of a worker whose hands it was told.
use Rattle.std.proofs.Common.{◌≡◌, ◌∙◌, refl, sym, ap, ℕ, List, Bool, not, eqb, Option, Some, None, is_some, Result, Ok, Err, MatchResult, false, ◌<◌, arith}
use Rattle.std.proofs.Math.Path.{subst⁻¹}
use Rattle.std.specs.Option.{ok_or}
use Rattle.std.specs.Result.{IsErrAnd}
use Rattle.std.proofs.lemmas.Result.{err_from_is_err_and}
use Rattle.laws.specs.Truth.{not_refused}
use Rattle.rule.specs.Task.{cost, blocked, is_clear}
use Rattle.rule.specs.Marks.{none}
use Rattle.rule.specs.declared.refusals.Refusal.{Refusal}
use Rattle.dealing.specs.declared.Decision.{Decision}
use Rattle.dealing.specs.Decision.{decision}
use Rattle.desk.specs.declared.Machine.{Machine}
use Rattle.desk.specs.declared.Reply.{Reply}
use Rattle.desk.specs.declared.Reply.TheVariants.{Opened, Took, Brought, Found, NoPath, Wait, Read, Refused, Done, Cut}
use Rattle.desk.specs.declared.Answer.{Answer}
use Rattle.desk.specs.declared.Counted.{Counted}
use Rattle.desk.specs.Reply.{answer, refused}
use Rattle.desk.specs.Machine.{hands_of, held_by, board_of}
use Rattle.desk.specs.Fits.{is_sound}
use Rattle.desk.specs.Take.{act, take_step, take_of}
use Rattle.desk.specs.Path.{PathReading, path_refused}
use Rattle.desk.specs.StepLaws.{fault_of, outcome_of, Leaves, beside, LeavesCounted, ReadsAs}
use Rattle.desk.specs.LimitedLaws.{counted}
use Rattle.desk.specs.Laws.{Fitting, fitting, Admitted, hands_if, may_call, hands_hold, held_none, held_some, goes_on, Placed, placed, Carried, carried}

-- an answer is left by its reply beside its machine, and what leaves it leaves an equal one
pub leaves : {m : Machine} {r : Reply} {a : Answer} → answer m r ≡ a → Leaves (outcome_of r) m a
leaves e = (ap (λ (a : Answer). outcome_of a.reply) e, ap (λ (a : Answer). a.machine) e)

pub leaves_as : {o : Result Reply Refusal} {m : Machine} {a b : Answer} → Leaves o m a → a ≡ b → Leaves o m b
leaves_as l e = (l.0 ∙ ap (λ (a : Answer). outcome_of a.reply) e, l.1 ∙ ap (λ (a : Answer). a.machine) e)

-- what the exit of a `?` answers
pub turned : {T : Type 0} (r : Result T Refusal) (refusal : Refusal) → IsErrAnd r (λ y. y ≡ refusal) → r ≡ Err refusal
turned r refusal h = let (y, is, same) = err_from_is_err_and r h in is ∙ ap Err same

pub leaves_turned : {m : Machine} {a : Answer} {refusal : Refusal} (r : Result Reply Refusal) → IsErrAnd r (λ y. y ≡ refusal) → refused m refusal ≡ a → Leaves r m a
leaves_turned {refusal = refusal} r h e = let l = leaves e in (turned r refusal h ∙ l.0, l.1)

pub refused_by : {T : Type 0} (h : Option T) (e other : Refusal) → Err e ≡ ok_or h other → (e ≡ other) × (is_some h ≡ false)
refused_by None e other q = (cc, refl)
refused_by (Some x) e other q = absurd (not_refused (sym q))

-- a reading is left by its reply and its buffer
pub reads_as : {m : Machine} {reply : Reply} {buffer : List ℕ} {r : PathReading} → r ≡ record { given = answer m reply; buffer = buffer } → ReadsAs (outcome_of reply) m buffer r
reads_as e = (leaves (sym (ap (λ (s : PathReading). s.given) e)), sym (ap (λ (s : PathReading). s.buffer) e))

pub reads_turned : {m : Machine} {buffer : List ℕ} {reading : PathReading} {refusal : Refusal} (r : Result Reply Refusal) → IsErrAnd r (λ y. y ≡ refusal) → reading ≡ path_refused m buffer refusal → ReadsAs r m buffer reading
reads_turned r h e = (leaves_turned r h (sym (ap (λ (s : PathReading). s.given) e)), sym (ap (λ (s : PathReading). s.buffer) e))

-- the same with comparisons beside it
pub leaves_counted : {m : Machine} {r : Reply} {made : ℕ} {c : Counted} → counted (answer m r) made ≡ c → LeavesCounted (beside made (outcome_of r)) m c
leaves_counted e = (ap (λ (c : Counted). beside c.comparisons (outcome_of c.answer.reply)) e, ap (λ (c : Counted). c.answer.machine) e)

pub counted_turned : {m : Machine} {c : Counted} {refusal : Refusal} (r : Result (Reply × ℕ) Refusal) → IsErrAnd r (λ y. y ≡ refusal) → counted (refused m refusal) 0 ≡ c → LeavesCounted r m c
counted_turned {refusal = refusal} r h e = let l = leaves_counted e in (turned r refusal h ∙ l.0, l.1)

pub counts : {o : Result Reply Refusal} {m : Machine} {a : Answer} {c : Counted} (made : ℕ) → Leaves o m a → counted a made ≡ c → LeavesCounted (beside made o) m c
counts made l e = let k = leaves_counted e in (ap (beside made) l.0 ∙ k.0, l.1 ∙ k.1)

-- and what is made of that is the reply and the comparisons, where a refusal has none
pub counts_back : (s : Reply) (made : ℕ) → ((refusal : Refusal) → s ≡ Refused refusal → made ≡ 0) → (p : Reply × ℕ)
    → MatchResult (beside made (outcome_of s)) (λ (x : Reply × ℕ). p ≡ x) (λ refusal. p ≡ (Refused refusal, 0)) → p ≡ (s, made)
counts_back Opened made z p h = h
counts_back (Took s) made z p h = h
counts_back (Brought many) made z p h = h
counts_back (Found cost) made z p h = h
counts_back NoPath made z p h = h
counts_back (Wait s) made z p h = h
counts_back (Read many) made z p h = h
counts_back (Refused refusal) made z p h = h ∙ (λ i. (Refused refusal, sym (z refusal refl) i))
counts_back Done made z p h = h
counts_back (Cut limit) made z p h = h

module _ (m : Machine) (passages estimates : List ℕ) (worker : ℕ) (sound : Bool) (s : sound ≡ is_sound m passages estimates) (h : Option ℕ)
    (q : Ok h ≡ hands_if (fault_of sound m worker) (held_by (hands_of m) worker)) where
  pub let_in : Admitted m (hands_of m) passages estimates worker
  let_in = may_call m (hands_of m) passages estimates worker sound s h q

  -- the machine fits, and the worker has a place in the row
  pub facts : Fitting m (hands_of m) passages estimates
  facts = fitting m (hands_of m) passages estimates let_in.fit

  pub worker_in : worker < 32
  worker_in = omega (arith, let_in.worker_in, facts.task.workers)

  -- what the worker holds: nothing, or a state
  pub empty : eqb (held_by (hands_of m) worker) none ≡ not (is_some h)
  empty = held_none _ ∙ ap (λ (x : Option ℕ). not (is_some x)) (sym (hands_hold m (hands_of m) passages estimates worker sound s h q))

  pub holds : (state : ℕ) → h ≡ Some state → (state ≡ held_by (hands_of m) worker) × (held_by (hands_of m) worker ≡ none → ⊥)
  holds state e = held_some _ state (sym e ∙ hands_hold m (hands_of m) passages estimates worker sound s h q)

  -- a state that is decided has a place in the rows
  pub in_rows : (d : Decision) → d ≡ decision m.goal m.pull (board_of m estimates) → Placed d
  in_rows d e = subst⁻¹ Placed e (placed m.goal m.pull (board_of m estimates) facts.task.states)

  -- once it is decided, the answer is what `act` makes of the decision
  pub acts : is_some h ≡ false → (d : Decision) → d ≡ decision m.goal m.pull (board_of m estimates) → act m (hands_of m) worker d ≡ take_of m passages estimates worker
  unfolding take_of take_step
  acts z d e = ap (act m (hands_of m) worker) e ∙ goes_on m (hands_of m) passages estimates worker _ _ let_in (empty ∙ ap not z)

  -- the state that the worker holds can be brought
  pub carries : (state : ℕ) → h ≡ Some state → Carried m passages estimates state
  carries state e = let (is, some) = holds state e in subst⁻¹ (λ (x : ℕ). Carried m passages estimates x) is (carried m (hands_of m) passages estimates worker facts let_in.worker_in some)

-- a passage that was read says whether it is blocked as the slice does
pub clear : (passages : List ℕ) (i : ℕ) {c : ℕ} {b : Bool} → c ≡ cost passages i → not (eqb c blocked) ≡ b → is_clear passages i ≡ b
unfolding is_clear
clear passages i e h = ap (λ (x : ℕ). not (eqb x blocked)) (sym e) ∙ h
