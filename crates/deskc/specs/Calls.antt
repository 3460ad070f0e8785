-- The calls over a row: what each returns as a number, and what the row then holds.
use Rattle.std.specs.Prelude.{List, ℕ, ◌+◌, ◌*◌, length, eqb, Result, Ok, Err}
use Rattle.laws.specs.Truth.{provided}
use Rattle.rule.specs.declared.refusals.Refusal.{Refusal}
use Rattle.rule.specs.declared.refusals.Refusal.TheVariants.{Unfit}
use Rattle.checks.specs.Opening.{Task}
use Rattle.desk.specs.declared.Reply.TheVariants.{Refused}
use Rattle.desk.specs.declared.Answer.{Answer}
use Rattle.desk.specs.declared.Counted.{Counted}
use Rattle.desk.specs.Reply.{code_of}
use Rattle.desk.specs.Opening.{opening_of}
use Rattle.desk.specs.Take.{take_of}
use Rattle.desk.specs.Limited.{limited_of}
use Rattle.desk.specs.Bring.{bring_of}
use Rattle.desk.specs.Path.{PathReading, path_of}
use Rattle.desk.specs.Morning.{Morning, morning_fault, morning_of}
use Rattle.deskc.specs.Row.{row_length, is_row, unpacked, changed, packed}

-- a reply's number, and the row
pub record Turn : Type 0 where
  pub code : ℕ
  pub row : List ℕ

-- a row that holds no machine: refusal 8, and nothing is written
abbrev pub unturned : List ℕ → Turn
unturned row = record { code = code_of (Refused Unfit); row = row }

abbrev pub turned : List ℕ → Answer → Turn
turned row a = record { code = code_of a.reply; row = changed row a.machine }

unfoldable pub open_row : Task → List ℕ → Turn
open_row t row =
    provided (eqb (length row) row_length) (unturned row)
    (record { code = code_of (opening_of t).reply; row = packed (opening_of t).machine })

-- a worker's call: on the machine that the row holds, where it holds one
unfoldable pub turn_of : List ℕ → Answer → Turn
turn_of row a = provided (is_row row) (unturned row) (turned row a)

abbrev pub take_row : List ℕ → List ℕ → List ℕ → ℕ → Turn
take_row row passages estimates worker = turn_of row (take_of (unpacked row) passages estimates worker)

-- a limited Take: "Its reply carries how many comparisons it made", times 2^40 above the reply's own number
abbrev pub counting : List ℕ → Counted → Turn
counting row c = record { code = c.comparisons * 1099511627776 + code_of c.answer.reply; row = changed row c.answer.machine }

unfoldable pub take_limited_row : List ℕ → List ℕ → List ℕ → ℕ → ℕ → Turn
take_limited_row row passages estimates worker limit = provided (is_row row) (unturned row) (counting row (limited_of (unpacked row) passages estimates worker limit))

abbrev pub bring_row : List ℕ → List ℕ → List ℕ → ℕ → Turn
bring_row row passages estimates worker = turn_of row (bring_of (unpacked row) passages estimates worker)

-- path reading: the reply's number, and the buffer
pub record Lines : Type 0 where
  pub code : ℕ
  pub buffer : List ℕ

abbrev pub lines : PathReading → Lines
lines r = record { code = code_of r.given.reply; buffer = r.buffer }

unfoldable pub path_row : List ℕ → List ℕ → List ℕ → List ℕ → ℕ → Lines
path_row row passages estimates buffer at =
    provided (is_row row) (record { code = code_of (Refused Unfit); buffer = buffer }) (lines (path_of (unpacked row) passages estimates buffer at))

-- a morning over a row: the reply's number, the machine's row, and the row of replies; "Refusals, before all others: 16 .., then 18"
pub record Served : Type 0 where
  pub code : ℕ
  pub row : List ℕ
  pub replies : List ℕ

abbrev pub unserved : List ℕ → List ℕ → Refusal → Served
unserved row replies refusal = record { code = code_of (Refused refusal); row = row; replies = replies }

abbrev pub served : List ℕ → Morning → Served
served row o = record { code = code_of o.given.reply; row = changed row o.given.machine; replies = o.row }

-- refused, or what it comes to past these two
abbrev pub past_fault : List ℕ → List ℕ → Result (Unit {0}) Refusal → Served → Served
past_fault row replies (Ok u) then = then
past_fault row replies (Err refusal) then = unserved row replies refusal

unfoldable pub morning_row : List ℕ → List ℕ → List ℕ → List ℕ → List ℕ → Served
morning_row row passages estimates events replies =
    past_fault row replies (morning_fault events (length replies))
    (provided (is_row row) (unserved row replies Unfit) (served row (morning_of (unpacked row) passages estimates events replies)))
