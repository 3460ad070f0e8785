-- Past the refusals the array's front is the cells of the map, which the passages and the estimates are made of.
use Rattle.std.proofs.Common.{◌≡◌, Ok, sym, ap, ◌∙◌, List, ℕ, ◌*◌, ◌≤◌, ◌<◌, length, take, arith, mul-le-mul}
use Rattle.std.specs.Prelude.{◌&&◌, leb}
use Rattle.std.proofs.lemmas.Result.{err_from_is_err_and}
use borrow.Author.Tests.{le-leb, lt-leb}
use Rattle.laws.specs.Part.{overlaid}
use Rattle.gridmap.specs.declared.Spot.{Spot}
use Rattle.gridmap.specs.declared.faults.MapFault.TheVariants.{ShortSlice}
use Rattle.gridmap.specs.Map.{Map, map_of, state_count}
use Rattle.gridmap.specs.Passages.{passages_many}
use Rattle.gridmap.specs.Reading.{map_fault, roomy, map_refused, drawn, read_map}
use Rattle.gridmap.specs.Laws.{map_with, spots_of, table_of}
use Rattle.gridmap.specs.CellLaws.{spots_length}
use Rattle.gridmap.specs.EstimateLaws.{table_is}
use Rattle.gridmap.specs.RowLaws.{front_is, front_room}
use Rattle.gridmap.specs.ReadingLaws.{read_refused, read_short, read_drawn}
use Rattle.gridmap.proofs.Maps.{few}
use Rattle.gridmap.proofs.read_map.Goals as goal
use Rattle.gridmap.proofs.read_map.Goals.{then-passages-many-via-then-passages-many, then-passages-many-via-else-passages-many+then-estimates-n}

-- an array that the cells were put to the front of
front : (m : Map) (n : ℕ) (spots l : List Spot) → (n ≡ state_count m) × (spots ≡ overlaid 0 (spots_of m) l) → take n spots ≡ spots_of m
front m n spots l put = front_is (spots_of m) l spots put.1 n (spots_length m ∙ sym put.0)

-- what a reading comes to by the two tests of the lent slices
module _ (text passages estimates : List ℕ) (m : Map) (q : m ≡ map_of text) (z : map_fault text ≡ Ok tt)
    (n many : ℕ) (e : n ≡ state_count m) (d : many ≡ passages_many m) where
  tests : roomy m (length passages) (length estimates) ≡ (leb (3 * many) (length passages) && leb (n * n) (length estimates))
  unfolding roomy
  tests = rw (e, d)

  passages_short : length passages < 3 * many → read_map text passages estimates ≡ map_refused passages estimates ShortSlice
  passages_short l = read_short text passages estimates m q z (tests ∙ rw (lt-leb _ _ l))

  estimates_short : 3 * many ≤ length passages → length estimates < n * n → read_map text passages estimates ≡ map_refused passages estimates ShortSlice
  estimates_short k l = read_short text passages estimates m q z (tests ∙ rw (le-leb _ _ k, lt-leb _ _ l))

  room : 3 * many ≤ length passages → n * n ≤ length estimates → read_map text passages estimates ≡ drawn m passages estimates
  room k l = read_drawn text passages estimates m q z (tests ∙ rw (le-leb _ _ k, le-leb _ _ l))

pub returns-in_err-grid : goal.returns-in_err-grid
returns-in_err-grid c =
    let p = err_from_is_err_and c.from_residual.result c.from_residual.ensures.1 in
    let q = read_refused c.args.text.now c.args.passages.now c.args.estimates.now _ c.in_err-grid.ensures in
    record { value = rw (q, p.1, p.2); passages_after = rw q; estimates_after = rw q }

pub put_spots-n-requires : goal.put_spots-n-requires
put_spots-n-requires c = few c.args.text c.in_ok-grid.grid c.in_ok-grid.ensures

pub slice_bounds-spots-end : goal.slice_bounds-spots-end
slice_bounds-spots-end c = front_room _ _ _ c.put_spots-n.ensures.1 _ (spots_length _ ∙ sym c.put_spots-n.ensures.0)

pub slice_bounds-states-end : goal.slice_bounds-states-end
slice_bounds-states-end c =
    let m = map_with c.in_ok-grid.grid in
    c.put_spots-n.ensures.0 ∙ sym (spots_length m) ∙ ap length (sym (front m _ _ _ c.put_spots-n.ensures))

pub invariant_of-states : goal.invariant_of-states
invariant_of-states c =
    let m = map_with c.in_ok-grid.grid in
    let placed = front m _ _ _ c.put_spots-n.ensures in
    record { placed = placed; few = omega (arith, ap length placed, spots_length m, few c.args.text c.in_ok-grid.grid c.in_ok-grid.ensures) }

pub overflow_mul-n : goal.overflow_mul-n
overflow_mul-n c =
    let low : c.put_spots-n.result ≤ 256 = omega (arith, c.put_spots-n.ensures.0, few c.args.text c.in_ok-grid.grid c.in_ok-grid.ensures) in
    omega (arith, mul-le-mul low low)

pub returns-then-passages-many : goal.returns-then-passages-many
returns-then-passages-many c =
    let z = c.in_ok-grid.ensures in
    let m = map_with c.in_ok-grid.grid in
    let passages = passages_short c.args.text.now c.args.passages.now c.args.estimates.now m z.1 z.2 _ _ c.put_spots-n.ensures.0 c.count_passages-many.ensures.0 in
    let estimates = estimates_short c.args.text.now c.args.passages.now c.args.estimates.now m z.1 z.2 _ _ c.put_spots-n.ensures.0 c.count_passages-many.ensures.0 in
    let q : read_map c.args.text.now c.args.passages.now c.args.estimates.now ≡ map_refused c.args.passages.now c.args.estimates.now ShortSlice =
    elim c.then-passages-many.branch [
      | then-passages-many-via-then-passages-many w ↦ passages w.if-passages-many.true
      | then-passages-many-via-else-passages-many+then-estimates-n w ↦ estimates w.if-passages-many.false w.if-estimates-n.true
    ] in
    record { value = rw q; passages_after = rw q; estimates_after = rw q }

pub returns : goal.returns
returns c =
    let z = c.in_ok-grid.ensures in
    let m = map_with c.in_ok-grid.grid in
    let q = room c.args.text.now c.args.passages.now c.args.estimates.now m z.1 z.2 _ _ c.put_spots-n.ensures.0 c.count_passages-many.ensures.0 c.if-passages-many.false c.if-estimates-n.false in
    let placed = front m _ _ _ c.put_spots-n.ensures in
    record {
      value = rw (q, ← c.put_spots-n.ensures.0, ← c.count_passages-many.ensures.0);
      passages_after = rw q c.put_passages.ensures;
      estimates_after = rw (q, ← table_is m) (c.put_estimates.ensures ∙ ap (λ xs. overlaid 0 (table_of xs) c.args.estimates.now) placed);
    }
