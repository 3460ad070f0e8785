-- Each contract of this crate determines its answer. What that is, and how a line here is read, says `crates/determined/specs/Fixes.antt`.
-- Assumes nothing.
use Rattle.determined.specs.Fixes.{Fixes, Answers, same}
use Rattle.trail.specs.contracts as c
use Rattle.trail.proofs as f

-- lib.rt
pub is_home : Answers c.is_home.ended f.is_home.Reads.Asked f.is_home.Reads.Learnt
is_home = (λ κs a. tt, λ κs a x y p q i. (same p q i, x.1))

pub came_from : Fixes c.Trail.came_from.ended f.Trail.came_from.Reads.Learnt
came_from κs a x y p q i = (same p q i, x.1)

pub is_linked : Fixes c.Trail.is_linked.ended f.Trail.is_linked.Reads.Learnt
is_linked κs a x y p q i = (same p q i, x.1)

pub path_length : Fixes c.Trail.path_length.ended f.Trail.path_length.Reads.Learnt
path_length κs a x y p q i = (same p q i, x.1)

pub write_back : Fixes c.Trail.write_back.ended f.Trail.write_back.Reads.Learnt
write_back κs a x y p q i = (tt, (tt, (same p q i, (tt, tt))))
