-- Each contract of this crate determines its answer. What that is, and how a line here is read, says `crates/determined/specs/Fixes.antt`.
-- Assumes nothing.
use Rattle.determined.specs.Fixes.{Fixes, Answers, same}
use Rattle.rule.specs.contracts as c
use Rattle.rule.proofs as f

-- lib.rt
pub independent : Answers c.independent.ended f.independent.Reads.Asked f.independent.Reads.Learnt
independent = (λ κs a. tt, λ κs a x y p q i. (same p q i, x.1))

pub is_live : Answers c.is_live.ended f.is_live.Reads.Asked f.is_live.Reads.Learnt
is_live = (λ κs a. tt, λ κs a x y p q i. (same p q i, x.1))

pub key : Answers c.key.ended f.key.Reads.Asked f.key.Reads.Learnt
key = (λ κs a. tt, λ κs a x y p q i. (same p q i, x.1))

pub lowers : Answers c.lowers.ended f.lowers.Reads.Asked f.lowers.Reads.Learnt
lowers = (λ κs a. tt, λ κs a x y p q i. (same p q i, x.1))

pub adds_up : Answers c.adds_up.ended f.adds_up.Reads.Asked f.adds_up.Reads.Learnt
adds_up = (λ κs a. tt, λ κs a x y p q i. (same p q i, x.1))

-- passage.rt
pub read : Fixes c.passage.Passage.read.ended f.passage.Passage.read.Reads.Learnt
read κs a x y p q i = (record { near = same p.0 q.0 i; far = same p.1.0 q.1.0 i; cost = same p.1.1 q.1.1 i }, x.1)

pub passage_clear : Answers c.passage.Passage.is_clear.ended f.passage.Passage.is_clear.Reads.Asked f.passage.Passage.is_clear.Reads.Learnt
passage_clear = (λ κs a. tt, λ κs a x y p q i. (same p q i, x.1))

-- refusals.rt
pub number : Answers c.refusals.U8FromRefusal.from.ended f.refusals.U8FromRefusal.from.Reads.Asked f.refusals.U8FromRefusal.from.Reads.Learnt
number = (λ κs a. tt, λ κs a x y p q i. (same p q i, x.1))

-- table.rt
pub between : Fixes c.table.Table.between.ended f.table.Table.between.Reads.Learnt
between κs a x y p q i = (same p q i, x.1)
