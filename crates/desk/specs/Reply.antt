-- Replies: a machine handed back with a reply beside it. Each case has a number, which is ours (the document numbers only refusals), and the value that the document gives it.
-- A case that is added, or gains a number, is added here; what callers make of one case they say by `when`.
use Rattle.std.specs.Prelude.{cond, Option, Some, None, ℕ, ◌+◌, ◌*◌, ◌/◌, ◌%◌, eqb}
use Rattle.rule.specs.declared.refusals.Refusal.{Refusal}
use Rattle.rule.specs.Refusals.{number_of, refusal_with}
use Rattle.desk.specs.declared.Machine.{Machine}
use Rattle.desk.specs.declared.Reply.{Reply}
use Rattle.desk.specs.declared.Reply.TheVariants.{Opened, Took, Brought, Found, NoPath, Wait, Read, Refused, Done, Cut}
use Rattle.desk.specs.declared.Answer.{Answer}

-- "Each call takes a machine and replies beside the machine that the call hands back."
abbrev pub answer : Machine → Reply → Answer
answer m r = record { machine = m; reply = r }

-- "Nothing is written, the machine comes back as it went in"
abbrev pub refused : Machine → Refusal → Answer
refused m refusal = answer m (Refused refusal)

-- the number of the case
abbrev pub case_of : Reply → ℕ
case_of Opened = 0
case_of (Took s) = 1
case_of (Brought many) = 2
case_of (Found cost) = 3
case_of NoPath = 4
case_of (Wait s) = 5
case_of (Read many) = 6
case_of (Refused refusal) = 7
case_of Done = 8
case_of (Cut limit) = 9

-- the number that the reply carries: the state taken, the labels set or lowered, the cost found, the state waited for, the states of the path, the refusal's number, the limit that a Take was cut short at; 0 where it carries none
abbrev pub value_of : Reply → ℕ
value_of Opened = 0
value_of (Took s) = s
value_of (Brought many) = many
value_of (Found cost) = cost
value_of NoPath = 0
value_of (Wait s) = s
value_of (Read many) = many
value_of (Refused refusal) = number_of refusal
value_of Done = 0
value_of (Cut limit) = limit

-- the cases that callers look for
abbrev pub took : ℕ
took = 1

abbrev pub found : ℕ
found = 3

abbrev pub read : ℕ
read = 6

abbrev pub refusal : ℕ
refusal = 7

-- what is made of a reply's number where the reply is of a case, and what stands for every other reply
abbrev pub when : {A : Type 0} → ℕ → Reply → (ℕ → A) → A → A
when case r f other = cond (eqb (case_of r) case) (f (value_of r)) other

-- the refusal's number; 0 where the call was not refused
abbrev pub refusal_of : Reply → ℕ
refusal_of r = when refusal r (λ number. number) 0

-- a reply as one number: its case times 2^32, plus its value
unfoldable pub code_of : Reply → ℕ
code_of r = case_of r * 4294967296 + value_of r

-- and back: the reply of a case with a value; Opened where there is no such case, or no refusal has the value for its number
abbrev pub refused_with : Option Refusal → Reply
refused_with (Some refusal) = Refused refusal
refused_with None = Opened

abbrev pub reply_with : ℕ → ℕ → Reply
reply_with case value =
    cond (eqb case 1) (Took value)
    (cond (eqb case 2) (Brought value)
    (cond (eqb case 3) (Found value)
    (cond (eqb case 4) NoPath
    (cond (eqb case 5) (Wait value)
    (cond (eqb case 6) (Read value)
    (cond (eqb case 7) (refused_with (refusal_with value))
    (cond (eqb case 8) Done
    (cond (eqb case 9) (Cut value)
    Opened))))))))

unfoldable pub reply_of : ℕ → Reply
reply_of code = reply_with (code / 4294967296) (code % 4294967296)
