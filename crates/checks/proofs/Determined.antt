-- Each contract of this crate determines its answer. What that is, and how a line here is read, says `crates/determined/specs/Fixes.antt`.
-- Assumes nothing.
use Prim.Native.Nat.{◌<◌}
use native.Mathlib.Omega.{arith}
use lib.Seq.{ext_get_or}
use Rattle.determined.specs.Fixes.{Fixes, Answers, same}
use Rattle.checks.specs.contracts as c
use Rattle.checks.proofs as f

-- opening.rt
pub sizes_right : Answers c.opening.sizes_right.ended f.opening.sizes_right.Reads.Asked f.opening.sizes_right.Reads.Learnt
sizes_right = (λ κs a. tt, λ κs a x y p q i. (same p q i, x.1))

pub ends_right : Answers c.opening.ends_right.ended f.opening.ends_right.Reads.Asked f.opening.ends_right.Reads.Learnt
ends_right = (λ κs a. tt, λ κs a x y p q i. (same p q i, x.1))

pub weights_right : Answers c.opening.weights_right.ended f.opening.weights_right.Reads.Asked f.opening.weights_right.Reads.Learnt
weights_right = (λ κs a. tt, λ κs a x y p q i. (same p q i, x.1))

pub span_right : Answers c.opening.span_right.ended f.opening.span_right.Reads.Asked f.opening.span_right.Reads.Learnt
span_right = (λ κs a. tt, λ κs a x y p q i. (same p q i, x.1))

pub passages_right : Answers c.opening.passages_right.ended f.opening.passages_right.Reads.Asked f.opening.passages_right.Reads.Learnt
passages_right = (λ κs a. tt, λ κs a x y p q i. (same p q i, x.1))

pub row_right : Fixes c.opening.row_right.ended f.opening.row_right.Reads.Learnt
row_right κs a x y p q i = (same p q i, x.1)

pub estimates_right : Answers c.opening.estimates_right.ended f.opening.estimates_right.Reads.Asked f.opening.estimates_right.Reads.Learnt
estimates_right = (λ κs a. tt, λ κs a x y p q i. (same p q i, x.1))

pub passages_bound : Fixes c.opening.passages_bound.ended f.opening.passages_bound.Reads.Learnt
passages_bound κs a x y p q i = (same p q i, x.1)

pub largest_from : Fixes c.opening.largest_from.ended f.opening.largest_from.Reads.Learnt
largest_from κs a x y p q i = (same p q i, x.1)

-- detours.rt
pub detour_bounds : Fixes c.detours.BoundedTable.detour_bounds.ended f.detours.BoundedTable.detour_bounds.Reads.Learnt
detour_bounds κs a x y p q i = (same p q i, x.1)

pub detours_by : Fixes c.detours.BoundedTable.detours_by.ended f.detours.BoundedTable.detours_by.Reads.Learnt
detours_by κs a x y p q i = (same p q i, x.1)

pub detours_from : Fixes c.detours.BoundedTable.detours_from.ended f.detours.BoundedTable.detours_from.Reads.Learnt
detours_from κs a x y p q i = (same p q i, x.1)

pub detours_bound : Answers c.detours.BoundedTable.detours_bound.ended f.detours.BoundedTable.detours_bound.Reads.Asked f.detours.BoundedTable.detours_bound.Reads.Learnt
detours_bound = (λ κs a. tt, λ κs a x y p q i. (same p q i, x.1))

-- task.rt
pub early_fault : Answers c.task.Task.early_fault.ended f.task.Task.early_fault.Reads.Asked f.task.Task.early_fault.Reads.Learnt
early_fault = (λ κs a. tt, λ κs a x y p q i. (same p q i, x.1))

pub fault : Answers c.task.Task.fault.ended f.task.Task.fault.Reads.Asked f.task.Task.fault.Reads.Learnt
fault = (λ κs a. tt, λ κs a x y p q i. (same p q i, x.1))

-- fits.rt
pub marks_right : Fixes c.fits.marks_right.ended f.fits.marks_right.Reads.Learnt
marks_right κs a x y p q i = (same p q i, x.1)

pub labels_right : Fixes c.fits.labels_right.ended f.fits.labels_right.Reads.Learnt
labels_right κs a x y p q i = (same p q i, x.1)

pub stored_key : Fixes c.fits.stored_key.ended f.fits.stored_key.Reads.Learnt
stored_key κs a x y p q i = (same p q i, x.1)

pub keys_right : Fixes c.fits.keys_right.ended f.fits.keys_right.Reads.Learnt
keys_right κs a x y p q i = (same p q i, x.1)

pub worker_right : Fixes c.fits.worker_right.ended f.fits.worker_right.Reads.Learnt
worker_right κs a x y p q i = (same p q i, x.1)

pub workers_right : Fixes c.fits.workers_right.ended f.fits.workers_right.Reads.Learnt
workers_right κs a x y p q i = (same p q i, x.1)

pub holder_counts : Fixes c.fits.holder_counts.ended f.fits.holder_counts.Reads.Learnt
holder_counts κs a x y p q i =
    (ext_get_or 0 x.0 y.0 (same p.long q.long) (λ s l. let low : s < 256 = omega (arith, p.long) in same (p.each s low) (q.each s low)) i, x.1)

pub held_once : Fixes c.fits.held_once.ended f.fits.held_once.Reads.Learnt
held_once κs a x y p q i = (same p q i, x.1)
