-- Each contract of this crate determines its answer. What that is, and how a line here is read, says `crates/determined/specs/Fixes.antt`.
-- Assumes nothing.
use mir.Syntax.{w64}
use mir.Val.{Fits}
use denote.RattleType.{RattleType}
use Rattle.std.specs.Prelude.{ℕ}
use Rattle.determined.specs.Fixes.{Fixes, Answers, same}
use Rattle.taskfile.specs.contracts as c
use Rattle.taskfile.proofs as f

-- lib.rt
pub read : Answers c.read.ended f.read.Reads.Asked f.read.Reads.Learnt
read = (λ κs a. tt, λ κs a x y p q i. (same p.0 q.0 i, (tt, (same p.1.0 q.1.0 i, (same p.1.1.0 q.1.1.0 i, (same p.1.1.1 q.1.1.1 i, tt))))))

pub write : Answers c.write.ended f.write.Reads.Asked f.write.Reads.Learnt
write = (λ κs a. tt, λ κs a x y p q i. (same p.0 q.0 i, (tt, (tt, (tt, (tt, (same p.1 q.1 i, tt)))))))

-- records.rt
pub complete : Answers c.Scan.complete.ended f.Scan.complete.Reads.Asked f.Scan.complete.Reads.Learnt
complete = (λ κs a. tt, λ κs a x y p q i. (same p q i, x.1))

pub length : Answers c.records.Record.length.ended f.records.Record.length.Reads.Asked f.records.Record.length.Reads.Learnt
length = (λ κs a. tt, λ κs a x y p q i. (same p q i, x.1))

pub head : Answers c.records.Record.head.ended f.records.Record.head.Reads.Asked f.records.Record.head.Reads.Learnt
head = (λ κs a. tt, λ κs a x y p q i. (same p q i, x.1))

pub passage : Answers c.records.Record.passage.ended f.records.Record.passage.Reads.Asked f.records.Record.passage.Reads.Learnt
passage = (λ κs a. tt, λ κs a x y p q i. (same p q i, x.1))

pub row : Fixes c.records.Record.row.ended f.records.Record.row.Reads.Learnt
row κs a x y p q i = (same p q i, x.1)

pub call : Fixes c.records.Record.call.ended f.records.Record.call.Reads.Learnt
call κs a x y p q i = (same p q i, x.1)

pub read_record : Fixes c.records.Record.read.ended f.records.Record.read.Reads.Learnt
read_record κs a x y p q i = (same p q i, x.1)

pub advance : Fixes c.records.advance.ended f.records.advance.Reads.Learnt
advance κs a x y p q i = (same p q i, x.1)

pub scan : Fixes c.records.scan.ended f.records.scan.Reads.Learnt
scan κs a x y p q i = (same p q i, x.1)

-- fill.rt
pub put_passage : Fixes c.fill.put_passage.ended f.fill.put_passage.Reads.Learnt
put_passage κs a x y p q i = (tt, (tt, (tt, (same p q i, tt))))

pub put_row : Fixes c.fill.put_row.ended f.fill.put_row.Reads.Learnt
put_row κs a x y p q i = (tt, (tt, (tt, (same p q i, tt))))

pub worker : Fixes c.fill.worker.ended f.fill.worker.Reads.Learnt
worker κs a x y p q i = (same p q i, x.1)

pub contents : Answers c.fill.Whole.contents.ended f.fill.Whole.contents.Reads.Asked f.fill.Whole.contents.Reads.Learnt
contents = (λ κs a. tt, λ κs a x y p q i. (same p q i, x.1))

pub roomy : Answers c.fill.Whole.roomy.ended f.fill.Whole.roomy.Reads.Asked f.fill.Whole.roomy.Reads.Learnt
roomy = (λ κs a. tt, λ κs a x y p q i. (same p q i, x.1))

pub put_passages : Fixes c.fill.Whole.put_passages.ended f.fill.Whole.put_passages.Reads.Learnt
put_passages κs a x y p q i = (tt, (tt, (same p q i, tt)))

pub put_rows : Fixes c.fill.Whole.put_rows.ended f.fill.Whole.put_rows.Reads.Learnt
put_rows κs a x y p q i = (tt, (tt, (same p q i, tt)))

pub put_calls : Fixes c.fill.Whole.put_calls.ended f.fill.Whole.put_calls.Reads.Learnt
put_calls κs a x y p q i = (tt, (tt, (same p q i, tt)))

-- bytes.rt
pub word : Fixes c.bytes.word.ended f.bytes.word.Reads.Learnt
word κs a x y p q i = (same p q i, x.1)

pub long : Fixes c.bytes.long.ended f.bytes.long.Reads.Learnt
long κs a x y p q i = (same p q i, x.1)

-- layout.rt
pub kind : Answers c.layout.RecordKindTryFromU16.try_from.ended f.layout.RecordKindTryFromU16.try_from.Reads.Asked f.layout.RecordKindTryFromU16.try_from.Reads.Learnt
kind = (λ κs a. tt, λ κs a x y p q i. (same p q i, x.1))

pub kind_number : Answers c.layout.UsizeFromRecordKind.from.ended f.layout.UsizeFromRecordKind.from.Reads.Asked f.layout.UsizeFromRecordKind.from.Reads.Learnt
kind_number = (λ κs a. tt, λ κs a x y p q i. (same p q i, x.1))

pub row_length : Fixes c.layout.row_length.ended f.layout.row_length.Reads.Learnt
row_length κs a x y p q i = (same p q i, x.1)

pub passage_place : Fixes c.layout.passage_place.ended f.layout.passage_place.Reads.Learnt
passage_place κs a x y p q i = (same p q i, x.1)

pub row_place : Fixes c.layout.row_place.ended f.layout.row_place.Reads.Learnt
row_place κs a x y p q i = (same p q i, x.1)

pub call_place : Fixes c.layout.call_place.ended f.layout.call_place.Reads.Learnt
call_place κs a x y p q i = (same p q i, x.1)

-- carry.rt
pub carried : Answers c.carry.Task.carried.ended f.carry.Task.carried.Reads.Asked f.carry.Task.carried.Reads.Learnt
carried = (λ κs a. tt, λ κs a x y p q i. (same p q i, x.1))

pub writable : Answers c.carry.Task.writable.ended f.carry.Task.writable.Reads.Asked f.carry.Task.writable.Reads.Learnt
writable = (λ κs a. tt, λ κs a x y p q i. (same p q i, x.1))

pub sizes_carried : Answers c.carry.sizes_carried.ended f.carry.sizes_carried.Reads.Asked f.carry.sizes_carried.Reads.Learnt
sizes_carried = (λ κs a. tt, λ κs a x y p q i. (same p q i, x.1))

pub fits_word : Answers c.carry.fits_word.ended f.carry.fits_word.Reads.Asked f.carry.fits_word.Reads.Learnt
fits_word = (λ κs a. tt, λ κs a x y p q i. (same p q i, x.1))

pub head_carried : Answers c.carry.head_carried.ended f.carry.head_carried.Reads.Asked f.carry.head_carried.Reads.Learnt
head_carried = (λ κs a. tt, λ κs a x y p q i. (same p q i, x.1))

pub ends_carried : Answers c.carry.ends_carried.ended f.carry.ends_carried.Reads.Asked f.carry.ends_carried.Reads.Learnt
ends_carried = (λ κs a. tt, λ κs a x y p q i. (same p q i, x.1))

pub call_carried : Answers c.carry.call_carried.ended f.carry.call_carried.Reads.Asked f.carry.call_carried.Reads.Learnt
call_carried = (λ κs a. tt, λ κs a x y p q i. (same p q i, x.1))

pub calls_carried : Answers c.carry.calls_carried.ended f.carry.calls_carried.Reads.Asked f.carry.calls_carried.Reads.Learnt
calls_carried = (λ κs a. tt, λ κs a x y p q i. (same p q i, x.1))

pub file_small : Answers c.carry.file_small.ended f.carry.file_small.Reads.Asked f.carry.file_small.Reads.Learnt
file_small = (λ κs a. tt, λ κs a x y p q i. (same p q i, x.1))

-- put.rt

-- at each width
pub put : (t : RattleType) (width : ℕ) (fits : Fits w64 width) → Fixes (c.put.Cursor.put.ended t) (f.put.Cursor.put.Reads.Learnt width fits)
put t width fits κs a x y p q i = (tt, (same p.after q.after i, (tt, tt)))

pub put_length_and_kind : Fixes c.put.Cursor.put_length_and_kind.ended f.put.Cursor.put_length_and_kind.Reads.Learnt
put_length_and_kind κs a x y p q i = (tt, (same p.after q.after i, (tt, (tt, tt))))

pub put_head : Fixes c.put.Cursor.put_head.ended f.put.Cursor.put_head.Reads.Learnt
put_head κs a x y p q i = (tt, (same p.after q.after i, (tt, tt)))

pub write_passage : Fixes c.put.Cursor.put_passage.ended f.put.Cursor.put_passage.Reads.Learnt
write_passage κs a x y p q i = (tt, (same p.after q.after i, (tt, tt)))

pub write_passages : Fixes c.put.Cursor.put_passages.ended f.put.Cursor.put_passages.Reads.Learnt
write_passages κs a x y p q i = (tt, (same p.after q.after i, (tt, tt)))

pub put_estimates : Fixes c.put.Cursor.put_estimates.ended f.put.Cursor.put_estimates.Reads.Learnt
put_estimates κs a x y p q i = (tt, (same p.after q.after i, (tt, tt)))

pub write_row : Fixes c.put.Cursor.put_row.ended f.put.Cursor.put_row.Reads.Learnt
write_row κs a x y p q i = (tt, (same p.after q.after i, (tt, (tt, tt))))

pub write_rows : Fixes c.put.Cursor.put_rows.ended f.put.Cursor.put_rows.Reads.Learnt
write_rows κs a x y p q i = (tt, (same p.after q.after i, (tt, (tt, tt))))

pub put_worker : Fixes c.put.Cursor.put_worker.ended f.put.Cursor.put_worker.Reads.Learnt
put_worker κs a x y p q i = (tt, (same p.after q.after i, (tt, tt)))

pub write_call : Fixes c.put.Cursor.put_call.ended f.put.Cursor.put_call.Reads.Learnt
write_call κs a x y p q i = (tt, (same p.after q.after i, (tt, tt)))

pub write_calls : Fixes c.put.Cursor.put_calls.ended f.put.Cursor.put_calls.Reads.Learnt
write_calls κs a x y p q i = (tt, (same p.after q.after i, (tt, tt)))

pub put_file : Fixes c.carry.Task.put.ended f.carry.Task.put.Reads.Learnt
put_file κs a x y p q i = (same p.0 q.0 i, (tt, (same p.1 q.1 i, tt)))

-- faults.rt

pub fault_number : Answers c.faults.U8FromFaultKind.from.ended f.faults.U8FromFaultKind.from.Reads.Asked f.faults.U8FromFaultKind.from.Reads.Learnt
fault_number = (λ κs a. tt, λ κs a x y p q i. (same p q i, x.1))

pub unwritable_number : Answers c.faults.U8FromUnwritable.from.ended f.faults.U8FromUnwritable.from.Reads.Asked f.faults.U8FromUnwritable.from.Reads.Learnt
unwritable_number = (λ κs a. tt, λ κs a x y p q i. (same p q i, x.1))
