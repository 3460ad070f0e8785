-- Each contract of this crate determines its answer. What that is, and how a line here is read, says `crates/determined/specs/Fixes.antt`.
-- Assumes nothing.
use Rattle.determined.specs.Fixes.{Fixes, Answers, same}
use Rattle.dealing.specs.contracts as c
use Rattle.dealing.proofs as f

-- board.rt
pub holds_off_by : Fixes c.board.Board.holds_off_by.ended f.board.Board.holds_off_by.Reads.Learnt
holds_off_by κs a x y p q i = (same p q i, x.1)

pub holds_off : Fixes c.board.Board.holds_off.ended f.board.Board.holds_off.Reads.Learnt
holds_off κs a x y p q i = (same p q i, x.1)

pub depends_by : Fixes c.board.Board.depends_by.ended f.board.Board.depends_by.Reads.Learnt
depends_by κs a x y p q i = (same p q i, x.1)

pub depends_on : Fixes c.board.Board.depends_on.ended f.board.Board.depends_on.Reads.Learnt
depends_on κs a x y p q i = (same p q i, x.1)

pub first_dependence : Fixes c.board.Board.first_dependence.ended f.board.Board.first_dependence.Reads.Learnt
first_dependence κs a x y p q i = (same p q i, x.1)

pub is_safe : Fixes c.board.Board.is_safe.ended f.board.Board.is_safe.Reads.Learnt
is_safe κs a x y p q i = (same p q i, x.1)

pub first_marked : Fixes c.board.first_marked.ended f.board.first_marked.Reads.Learnt
first_marked κs a x y p q i = (same p q i, x.1)

-- lib.rt
pub wins : Answers c.wins.ended f.wins.Reads.Asked f.wins.Reads.Learnt
wins = (λ κs a. tt, λ κs a x y p q i. (same p q i, x.1))

pub choose : Answers c.Ranked.choose.ended f.Ranked.choose.Reads.Asked f.Ranked.choose.Reads.Learnt
choose = (λ κs a. tt, λ κs a x y p q i. (same p q i, x.1))

pub decide : Fixes c.Ranked.decide.ended f.Ranked.decide.Reads.Learnt
decide κs a x y p q i = (same p q i, x.1)

-- limits.rt
pub is_rival : Answers c.limits.is_rival.ended f.limits.is_rival.Reads.Asked f.limits.is_rival.Reads.Learnt
is_rival = (λ κs a. tt, λ κs a x y p q i. (same p q i, x.1))

pub comes_after : Answers c.limits.comes_after.ended f.limits.comes_after.Reads.Asked f.limits.comes_after.Reads.Learnt
comes_after = (λ κs a. tt, λ κs a x y p q i. (same p q i, x.1))

pub foremost_lead : Answers c.limits.foremost_lead.ended f.limits.foremost_lead.Reads.Asked f.limits.foremost_lead.Reads.Learnt
foremost_lead = (λ κs a. tt, λ κs a x y p q i. (same p q i, x.1))

pub front_stop : Answers c.limits.front_stop.ended f.limits.front_stop.Reads.Asked f.limits.front_stop.Reads.Learnt
front_stop = (λ κs a. tt, λ κs a x y p q i. (same p q i, x.1))

pub test_candidate : Fixes c.Ranked.test_candidate.ended f.Ranked.test_candidate.Reads.Learnt
test_candidate κs a x y p q i = (same p q i, x.1)

pub lead : Answers c.Ranked.lead.ended f.Ranked.lead.Reads.Asked f.Ranked.lead.Reads.Learnt
lead = (λ κs a. tt, λ κs a x y p q i. (same p q i, x.1))

pub block_lead : Fixes c.Ranked.block_lead.ended f.Ranked.block_lead.Reads.Learnt
block_lead κs a x y p q i = (same p q i, x.1)

pub block_leads : Answers c.Ranked.block_leads.ended f.Ranked.block_leads.Reads.Asked f.Ranked.block_leads.Reads.Learnt
block_leads = (λ κs a. tt, λ κs a x y p q i. (same p q i, x.1))

pub try_others : Fixes c.Ranked.try_others.ended f.Ranked.try_others.Reads.Learnt
try_others κs a x y p q i = (same p q i, x.1)

pub decide_limited : Fixes c.Ranked.decide_limited.ended f.Ranked.decide_limited.Reads.Learnt
decide_limited κs a x y p q i = (same p q i, x.1)
