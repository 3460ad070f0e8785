-- The passages of a map, put one after another to the front of a buffer that has room for them: three numbers each.
use Rattle.std.specs.Prelude.{◌≡◌, refl, true, false, List, [], ◌∷◌, ℕ, ◌+◌, ◌-◌, ◌*◌, ◌/◌, ◌%◌, ◌≤◌, ◌<◌}
use native.Mathlib.Omega.{arith}
use Rattle.std.proofs.Math.ListN.{length, set}
use Rattle.std.proofs.Common.{ap}
use borrow.Rule.Slice.PartMut.{put_mid}
use Rattle.laws.specs.Count.{count, count_rises, count_before}
use Rattle.laws.specs.Gather.{gathered}
use Rattle.laws.specs.Part.{overlaid}
use Rattle.laws.specs.Put.{Put, put_one, put_length, put_started, put_piece, put_skip}
use Rattle.gridmap.specs.declared.Spot.{Spot}
use Rattle.gridmap.specs.Map.{Map, places, open_at, state_of, state_count}
use Rattle.gridmap.specs.Laws.{spot_at, spot_piece, spots_of}
use Rattle.gridmap.specs.CellLaws.{pieces_count}
use Rattle.gridmap.specs.EstimateLaws.{put_part}
use Rattle.gridmap.specs.Passages.{cost_to, is_passage, leads_to, passage, passages_of, passages_many}
use Rattle.gridmap.specs.PassageLaws.{pieces_length}

module _ (m : Map) (l₀ : List ℕ) (room : 3 * passages_many m ≤ length l₀) where
  pub puts_zero : Put 0 (gathered (passage m) 0) l₀ l₀ 0
  puts_zero = put_started _ 0 l₀

  module _ (i r : ℕ) (l : List ℕ) (w : Put 0 (gathered (passage m) i) l₀ l r) (low : i ≤ 8 * state_count m) where
    fits : 0 + length (gathered (passage m) i) ≤ length l₀
    unfolding passages_many
    fits = omega (arith, pieces_length m i, count_rises (is_passage m) i (8 * state_count m) low)

    pub puts_length : length l ≡ length l₀
    puts_length = put_length 0 r (gathered (passage m) i) l₀ l w fits

    pub puts_skip : is_passage m i ≡ false → Put 0 (gathered (passage m) (i + 1)) l₀ l r
    unfolding passage
    puts_skip e = put_skip _ 0 i r l₀ l (rw e) w

    module _ (k : i < 8 * state_count m) (e : is_passage m i ≡ true) where
      pub puts_room : r + 3 ≤ length l
      unfolding passages_many
      puts_room = omega (arith, w.next, pieces_length m i, count_before (is_passage m) i (8 * state_count m) k e, puts_length)

      pub puts_more : (to cost : ℕ) → to ≡ leads_to m i → cost ≡ cost_to (i % 8)
          → (ys : List ℕ) → ys ≡ i / 8 ∷ to ∷ cost ∷ [] → Put 0 (gathered (passage m) (i + 1)) l₀ (put_mid r (r + 3 - r) l ys) (r + 3)
      unfolding passage
      puts_more to cost q c ys h =
          let long : r + 3 - r ≡ length (i / 8 ∷ to ∷ cost ∷ []) = omega arith in
          rw (put_part r l (i / 8 ∷ to ∷ cost ∷ []) ys h (r + 3 - r) long)
          (put_piece (passage m) 0 i r (r + 3) l₀ l _ w (rw (e, ← q, ← c) (record { done = refl; next = refl })) fits)

    pub puts_end : 8 * state_count m ≤ i → l ≡ overlaid 0 (passages_of m) l₀
    unfolding passages_of
    puts_end g = let q : i ≡ 8 * state_count m = omega arith in rw q at w.done

-- the spots of a map's open cells, put one after another to the front of a buffer that has room for them
module _ (m : Map) (l₀ : List Spot) (room : state_count m ≤ length l₀) where
  pub spots_zero : Put 0 (gathered (spot_piece m) 0) l₀ l₀ 0
  spots_zero = put_started _ 0 l₀

  module _ (p r : ℕ) (l : List Spot) (w : Put 0 (gathered (spot_piece m) p) l₀ l r) (low : p ≤ places m) where
    spots_fit : 0 + length (gathered (spot_piece m) p) ≤ length l₀
    unfolding state_of state_count
    spots_fit = omega (arith, pieces_count m p, count_rises (open_at m) p (places m) low)

    pub spots_skip : open_at m p ≡ false → Put 0 (gathered (spot_piece m) (p + 1)) l₀ l r
    spots_skip e = put_skip _ 0 p r l₀ l (rw e) w

    pub spots_room : p < places m → open_at m p ≡ true → r < length l
    unfolding state_of state_count
    spots_room k e = omega (arith, w.next, pieces_count m p, count_before (open_at m) p (places m) k e, put_length 0 r (gathered (spot_piece m) p) l₀ l w spots_fit)

    pub spots_more : p < places m → open_at m p ≡ true → Put 0 (gathered (spot_piece m) (p + 1)) l₀ (set l r (spot_at m p)) (r + 1)
    spots_more k e = put_piece (spot_piece m) 0 p r (r + 1) l₀ l _ w (rw e (put_one r (spot_at m p) l (spots_room k e))) spots_fit

    pub spots_end : places m ≤ p → (r ≡ state_count m) × (l ≡ overlaid 0 (spots_of m) l₀)
    unfolding spots_of state_of state_count
    spots_end g = let q : p ≡ places m = omega arith in (omega (arith, w.next, pieces_count m p, ap (count (open_at m)) q), rw q at w.done)
