-- Each contract of this crate determines its answer. What that is, and how a line here is read, says `crates/determined/specs/Fixes.antt`.
-- Assumes nothing.
use Rattle.determined.specs.Fixes.{Fixes, Answers, same}
use Rattle.desk.specs.contracts as c
use Rattle.desk.proofs as f

-- lib.rt
pub refused_code : Answers c.refused_code.ended f.refused_code.Reads.Asked f.refused_code.Reads.Learnt
refused_code = (λ κs a. tt, λ κs a x y p q i. (same p q i, x.1))

pub reply_code : Answers c.U64FromReply.from.ended f.U64FromReply.from.Reads.Asked f.U64FromReply.from.Reads.Learnt
reply_code = (λ κs a. tt, λ κs a x y p q i. (same p q i, x.1))

pub event : Answers c.EventFromU32.from.ended f.EventFromU32.from.Reads.Asked f.EventFromU32.from.Reads.Learnt
event = (λ κs a. tt, λ κs a x y p q i. (same p q i, x.1))

-- opening.rt
pub blank : Answers c.Machine.blank.ended f.Machine.blank.Reads.Asked f.Machine.blank.Reads.Learnt
blank = (λ κs a. tt, λ κs a x y p q i. (same p q i, x.1))

pub opening : Answers c.Machine.opening.ended f.Machine.opening.Reads.Asked f.Machine.opening.Reads.Learnt
opening = (λ κs a. tt, λ κs a x y p q i. (same p q i, x.1))

-- take.rt
pub act : Fixes c.Machine.act.ended f.Machine.act.Reads.Learnt
act κs a x y p q i = (same p.0 q.0 i, (same p.1 q.1 i, (tt, (tt, tt))))

pub decide : Fixes c.Machine.decide.ended f.Machine.decide.Reads.Learnt
decide κs a x y p q i = (same p q i, x.1)

pub take_checked : Fixes c.Machine.take_checked.ended f.Machine.take_checked.Reads.Learnt
take_checked κs a x y p q i = (same p.0 q.0 i, (same p.1 q.1 i, (tt, (tt, (tt, (tt, tt))))))

pub take : Answers c.Machine.take.ended f.Machine.take.Reads.Asked f.Machine.take.Reads.Learnt
take = (λ κs a. tt, λ κs a x y p q i. (same p q i, x.1))

-- limited.rt
pub limited_refused : Answers c.limited.refused.ended f.limited.refused.Reads.Asked f.limited.refused.Reads.Learnt
limited_refused = (λ κs a. tt, λ κs a x y p q i. (same p q i, x.1))

pub decide_limited : Fixes c.Machine.decide_limited.ended f.Machine.decide_limited.Reads.Learnt
decide_limited κs a x y p q i = (same p q i, x.1)

pub limited_checked : Fixes c.Machine.limited_checked.ended f.Machine.limited_checked.Reads.Learnt
limited_checked κs a x y p q i = (same p.0 q.0 i, (same p.1 q.1 i, (tt, (tt, (tt, (tt, (tt, tt)))))))

pub take_limited : Answers c.Machine.take_limited.ended f.Machine.take_limited.Reads.Asked f.Machine.take_limited.Reads.Learnt
take_limited = (λ κs a. tt, λ κs a x y p q i. (same p q i, x.1))

-- bring.rt
pub lower : Fixes c.Machine.lower.ended f.Machine.lower.Reads.Learnt
lower κs a x y p q i = (same p.0 q.0 i, (same p.1 q.1 i, (tt, (tt, (tt, (tt, tt))))))

pub bring_checked : Fixes c.Machine.bring_checked.ended f.Machine.bring_checked.Reads.Learnt
bring_checked κs a x y p q i = (same p.0 q.0 i, (same p.1 q.1 i, (tt, (tt, (tt, (tt, tt))))))

pub bring : Answers c.Machine.bring.ended f.Machine.bring.Reads.Asked f.Machine.bring.Reads.Learnt
bring = (λ κs a. tt, λ κs a x y p q i. (same p q i, x.1))

-- path.rt
pub read_path : Answers c.Machine.read_path.ended f.Machine.read_path.Reads.Asked f.Machine.read_path.Reads.Learnt
read_path = (λ κs a. tt, λ κs a x y p q i. (same p.0.0 q.0.0 i, (tt, (tt, (tt, (same p.1 q.1 i, (tt, tt)))))))

pub path : Answers c.Machine.path.ended f.Machine.path.Reads.Asked f.Machine.path.Reads.Learnt
path = (λ κs a. tt, λ κs a x y p q i. (same p.0 q.0 i, (tt, (tt, (tt, (same p.1 q.1 i, (tt, tt)))))))

-- mornings.rt
pub are_events : Answers c.mornings.are_events.ended f.mornings.are_events.Reads.Asked f.mornings.are_events.Reads.Learnt
are_events = (λ κs a. tt, λ κs a x y p q i. (same p q i, x.1))

pub morning_fault : Answers c.mornings.morning_fault.ended f.mornings.morning_fault.Reads.Asked f.mornings.morning_fault.Reads.Learnt
morning_fault = (λ κs a. tt, λ κs a x y p q i. (same p q i, x.1))

pub called : Fixes c.mornings.called.ended f.mornings.called.Reads.Learnt
called κs a x y p q i = (same p q i, x.1)

pub call : Fixes c.Machine.call.ended f.Machine.call.Reads.Learnt
call κs a x y p q i = let e = same p q in ((e i).reply, ((e i).machine, (tt, (tt, (tt, (tt, tt))))))

pub morning : Answers c.Machine.morning.ended f.Machine.morning.Reads.Asked f.Machine.morning.Reads.Learnt
morning = (λ κs a. tt, λ κs a x y p q i. (same p.0 q.0 i, (tt, (tt, (tt, (tt, (same p.1 q.1 i, tt)))))))

-- fits.rt
pub is_sound : Answers c.Machine.is_sound.ended f.Machine.is_sound.Reads.Asked f.Machine.is_sound.Reads.Learnt
is_sound = (λ κs a. tt, λ κs a x y p q i. (same p q i, x.1))

pub rows_fit : Fixes c.Machine.rows_fit.ended f.Machine.rows_fit.Reads.Learnt
rows_fit κs a x y p q i = (same p q i, x.1)

pub fits : Fixes c.Machine.fits.ended f.Machine.fits.Reads.Learnt
fits κs a x y p q i = (same p q i, x.1)

pub call_fault : Fixes c.Machine.call_fault.ended f.Machine.call_fault.Reads.Learnt
call_fault κs a x y p q i = (same p q i, x.1)

pub hands : Fixes c.Machine.hands.ended f.Machine.hands.Reads.Learnt
hands κs a x y p q i = (same p q i, x.1)
