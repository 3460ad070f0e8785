-- Opening's checks 4 to 7 of a map's passages and estimates: each passes.
use Rattle.std.specs.Prelude.{◌≡◌, true, not, ℕ, ◌+◌, ◌≤◌, ◌<◌}
use Rattle.std.proofs.Common.{arith, le-leb, lt-ltb}
use Rattle.std.proofs.Math.Dec.{leb}
use Rattle.laws.specs.Truth.{and_both, or_second}
use Rattle.laws.specs.All.{all_of}
use Rattle.rule.specs.Task.{is_clear, estimate}
use Rattle.checks.specs.Opening.{passage_right, passages_right, row_right, estimates_right, passage_bounds, passages_bound, detour_bounds, detours_by, detours_from, detours_bound}
use Rattle.gridmap.specs.Map.{Map, stride, cell_of, state_count}
use Rattle.gridmap.specs.Passages.{cost_to, comes_from, heading_at, leads_to, passages_of}
use Rattle.gridmap.specs.Estimates.{between, estimates_of}
use Rattle.gridmap.specs.CellLaws.{row_in, column_in, cell_in}
use Rattle.gridmap.specs.EstimateLaws.{between_triangle, between_self, between_small, estimate_is}
use Rattle.gridmap.specs.PassageLaws.{from_in, to_in, passage_near, cost_small, listed_all}

module _ (m : Map) where
  pub right_four : passages_right (passages_of m) (state_count m) ≡ true
  unfolding passages_right
  right_four = listed_all m (passage_right (passages_of m) (state_count m)) (λ i j f.
      rw (f.near_is, f.far_is, f.cost_is)
      (and_both (and_both (lt-ltb (comes_from j) (state_count m) (from_in m j f.inside)) (lt-ltb (leads_to m j) (state_count m) (to_in m j f.passes)))
      (or_second (not (is_clear (passages_of m) i)) _ (le-leb (cost_to (heading_at j)) 1000000 (omega (arith, cost_small (heading_at j)))))))

  pub right_five : m.height ≤ 256 → m.width ≤ 256 → estimates_right (estimates_of m) (state_count m) ≡ true
  unfolding estimates_right
  right_five high wide = all_of (row_right (estimates_of m) (state_count m)) (state_count m) (λ a h. and_both
      (all_of (λ b. leb (estimate (estimates_of m) (state_count m) a b) 255000000) (state_count m) (λ b k. rw (estimate_is m a b h k) (le-leb (between (stride m) (cell_of m a) (cell_of m b)) 255000000 (small a b h k))))
      (rw (estimate_is m a a h h, between_self (stride m) (cell_of m a))))
    where
      small : (a b : ℕ) → a < state_count m → b < state_count m → between (stride m) (cell_of m a) (cell_of m b) ≤ 255000000
      small a b h k =
          between_small (stride m) (cell_of m a) (cell_of m b)
          (omega (arith, high, row_in m (cell_of m a) (cell_in m a h))) (omega (arith, wide, column_in m (cell_of m a)))
          (omega (arith, high, row_in m (cell_of m b) (cell_in m b k))) (omega (arith, wide, column_in m (cell_of m b)))

  pub right_six : passages_bound (passages_of m) (estimates_of m) (state_count m) ≡ true
  unfolding passages_bound
  right_six = listed_all m (passage_bounds (passages_of m) (estimates_of m) (state_count m)) (λ i j f.
      rw (f.near_is, f.far_is, f.cost_is, estimate_is m (comes_from j) (leads_to m j) (from_in m j f.inside) (to_in m j f.passes))
      (or_second (not (is_clear (passages_of m) i)) _ (le-leb (between (stride m) (cell_of m (comes_from j)) (cell_of m (leads_to m j))) (cost_to (heading_at j)) (passage_near m j f.passes))))

  pub right_seven : detours_bound (estimates_of m) (state_count m) ≡ true
  unfolding detours_bound detours_from detours_by
  right_seven =
      all_of (detours_from (estimates_of m) (state_count m)) (state_count m) (λ a h.
      all_of (detours_by (estimates_of m) (state_count m) a) (state_count m) (λ b k.
      all_of (detour_bounds (estimates_of m) (state_count m) a b) (state_count m) (λ c l.
      rw (estimate_is m a c h l, estimate_is m a b h k, estimate_is m b c k l)
      (le-leb (between (stride m) (cell_of m a) (cell_of m c)) (between (stride m) (cell_of m a) (cell_of m b) + between (stride m) (cell_of m b) (cell_of m c)) (between_triangle (stride m) (cell_of m a) (cell_of m b) (cell_of m c))))))
