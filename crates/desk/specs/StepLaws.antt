-- What the inner functions of the calls answer and leave, beside the answers that the calls come to.
use Rattle.std.specs.Prelude.{◌≡◌, Bool, ◌&&◌, true, Result, Ok, Err, List, ℕ, ◌≤◌}
use Rattle.rule.specs.declared.refusals.Refusal.{Refusal}
use Rattle.desk.specs.declared.Machine.{Machine}
use Rattle.desk.specs.declared.Reply.{Reply}
use Rattle.desk.specs.declared.Reply.TheVariants.{Opened, Took, Brought, Found, NoPath, Wait, Read, Refused, Done, Cut}
use Rattle.desk.specs.declared.Answer.{Answer}
use Rattle.desk.specs.declared.Counted.{Counted}
use Rattle.desk.specs.Machine.{hands_of}
use Rattle.desk.specs.Fits.{rows_fit}
use Rattle.desk.specs.Path.{PathReading}
use Rattle.desk.specs.Laws.{call_fault}

-- where conditions 1 to 4 and the keys came to `sound`: whether the machine fits, the first of 8, 9 and 10 that applies, and what the worker holds where none does
abbrev pub fit_of : Bool → Machine → Bool
fit_of sound m = sound && rows_fit m.n m.k m.phase m.mark m.label (hands_of m)

abbrev pub fault_of : Bool → Machine → ℕ → Result (Unit {0}) Refusal
fault_of sound m worker = call_fault (fit_of sound m) m.k m.phase worker

-- a machine for which they hold has its numbers within its rows
abbrev pub Bounded : Bool → Machine → Type 0
Bounded sound m = sound ≡ true → (m.n ≤ 256) × (m.k ≤ 32)

-- a reply as they answer it: a refusal apart from all other replies
abbrev pub outcome_of : Reply → Result Reply Refusal
outcome_of Opened = Ok Opened
outcome_of (Took s) = Ok (Took s)
outcome_of (Brought many) = Ok (Brought many)
outcome_of (Found cost) = Ok (Found cost)
outcome_of NoPath = Ok NoPath
outcome_of (Wait s) = Ok (Wait s)
outcome_of (Read many) = Ok (Read many)
outcome_of (Refused refusal) = Err refusal
outcome_of Done = Ok Done
outcome_of (Cut limit) = Ok (Cut limit)

-- what is answered and the machine that is left are an answer's; so a refusal leaves the machine wherever that answer does
abbrev pub Leaves : Result Reply Refusal → Machine → Answer → Type 0
Leaves outcome m a = (outcome ≡ outcome_of a.reply) × (m ≡ a.machine)

-- the same of a limited Take, whose reply comes with its comparisons
abbrev pub beside : ℕ → Result Reply Refusal → Result (Reply × ℕ) Refusal
beside made (Ok reply) = Ok (reply, made)
beside made (Err refusal) = Err refusal

abbrev pub LeavesCounted : Result (Reply × ℕ) Refusal → Machine → Counted → Type 0
LeavesCounted outcome m c = (outcome ≡ beside c.comparisons (outcome_of c.answer.reply)) × (m ≡ c.answer.machine)

-- and of path reading, with the buffer
abbrev pub ReadsAs : Result Reply Refusal → Machine → List ℕ → PathReading → Type 0
ReadsAs outcome m buffer r = Leaves outcome m r.given × (buffer ≡ r.buffer)
