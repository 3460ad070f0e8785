-- What is so of every map that is read: "Show once, over all maps, that opening refuses none of the resulting tasks for 4 to 7."
use Rattle.std.specs.Prelude.{◌≡◌, refl, Bool, true, false, List, ℕ, ◌*◌, ◌≤◌, ◌<◌, length, take, Some, Result, Ok, Err, IfErr}
use Rattle.std.proofs.Common.{ap, ◌∙◌, arith}
use Rattle.laws.specs.Truth.{provided}
use Rattle.rule.specs.Task.{passage_count, near, far, cost}
use Rattle.checks.specs.Opening.{task, passages_right, estimates_right, passages_bound, detours_bound, holds1, holds2, holds3, fault}
use Rattle.rule.specs.declared.refusals.Refusal.{Refusal}
use Rattle.rule.specs.declared.refusals.Refusal.TheVariants.{BadSizes, BadEnds, BadWeights}
use Rattle.rule.specs.Refusals.{number_of}
use Rattle.gridmap.specs.declared.faults.MapFault.{MapFault}
use Rattle.gridmap.specs.declared.faults.MapFault.TheVariants.{ShortSlice}
use Rattle.gridmap.specs.declared.Survey.{Survey}
use Rattle.gridmap.specs.declared.Spot.{Spot}
use Rattle.gridmap.specs.Map.{Map, map_of, place_of, state_of, state_count}
use Rattle.gridmap.specs.Passages.{passages_of, passages_many}
use Rattle.gridmap.specs.Estimates.{estimates_of}
use Rattle.gridmap.specs.Reading.{map_fault, roomy, MapReading, map_refused, survey_of, drawn, past_check, read_map, spot_of, state_at_spot}
use Rattle.gridmap.specs.HeadLaws.{height_most, width_most}
use Rattle.gridmap.specs.CellLaws.{cell_state}
use Rattle.gridmap.specs.EstimateLaws.{estimates_length}
use Rattle.gridmap.specs.PassageLaws.{passages_length, passages_most, mirrored_by}
use Rattle.gridmap.specs.RowLaws.{front_is}
use Rattle.gridmap.specs.CheckLaws.{right_four, right_five, right_six, right_seven}
use Rattle.gridmap.specs.ReadingLaws.{map_is}
use Rattle.gridmap.specs.SpotLaws.{spot_is, spot_of_lem, placed_standing, standing_is, standing_state, standing_placed}

-- the sizes of the two lists, and opening's checks 4 to 7
pub record MapRight (m : Map) : Type 0 where
  pub some : 1 ≤ state_count m
  pub few : state_count m ≤ 256
  pub listed : length (passages_of m) ≡ 3 * passages_many m
  pub most : passages_many m ≤ 2048
  pub table : length (estimates_of m) ≡ state_count m * state_count m
  pub four : passages_right (passages_of m) (state_count m) ≡ true
  pub five : estimates_right (estimates_of m) (state_count m) ≡ true
  pub six : passages_bound (passages_of m) (estimates_of m) (state_count m) ≡ true
  pub seven : detours_bound (estimates_of m) (state_count m) ≡ true
  -- every passage has its mirror, with the same cost
  pub mirrored : (i : ℕ) → i < passage_count (passages_of m)
      → (j : ℕ) × (j < passage_count (passages_of m)) × (near (passages_of m) j ≡ far (passages_of m) i) × (far (passages_of m) j ≡ near (passages_of m) i) × (cost (passages_of m) j ≡ cost (passages_of m) i)

pub map_right : (text : List ℕ) → map_fault text ≡ Ok tt → MapRight (map_of text)
map_right text e =
    let m = map_of text in
    let r = map_is text e in
    record {
      some = r.some;
      few = r.few;
      listed = passages_length m;
      most = omega (arith, passages_most m, r.few);
      table = estimates_length m;
      four = right_four m;
      five = right_five m (height_most text r.headed) (width_most text r.headed);
      six = right_six m;
      seven = right_seven m;
      mirrored = mirrored_by m r.rowed;
    }

-- opening accepts, or refuses with a number that is at most so large
abbrev pub RefusedWithin : ℕ → Result (Unit {0}) Refusal → Type 0
RefusedWithin most r = IfErr r (λ refusal. number_of refusal ≤ most)

-- a ladder of three refusals comes to 3 at most
within_three : (a b c : Bool) → RefusedWithin 3 (provided a (Err BadSizes) (provided b (Err BadEnds) (provided c (Err BadWeights) (Ok tt))))
within_three true true true = tt
within_three true true false = omega arith
within_three true false c = omega arith
within_three false b c = omega arith

-- opening refuses a map's task for 1, 2 or 3 if at all: for k, start and goal, W and E
pub map_opens : (text : List ℕ) → map_fault text ≡ Ok tt → (k start goal pull excess : ℕ)
    → RefusedWithin 3 (fault (task (state_count (map_of text)) k start goal pull excess (passages_of (map_of text)) (estimates_of (map_of text))))
unfolding fault
map_opens text e k start goal pull excess =
    let r = map_right text e in
    let t = task (state_count (map_of text)) k start goal pull excess (passages_of (map_of text)) (estimates_of (map_of text)) in
    rw (r.four, r.five, r.six, r.seven) (within_three (holds1 t) (holds2 t) (holds3 t))

-- the same of what the reader wrote: the counts of its reply, and the fronts of the two slices, are a task
pub reader_opens : (text passages estimates : List ℕ) (survey : Survey) → (read_map text passages estimates).reply ≡ Ok survey → (k start goal pull excess : ℕ)
    → RefusedWithin 3 (fault (task survey.cells k start goal pull excess (take (3 * survey.passages) (read_map text passages estimates).passages) (take (survey.cells * survey.cells) (read_map text passages estimates).estimates)))
unfolding read_map
reader_opens text passages estimates survey q k start goal pull excess = go (map_fault text) refl (roomy m (length passages) (length estimates)) q
  where
    m : Map
    m = map_of text

    Opens : MapReading → Type 0
    Opens r = r.reply ≡ Ok survey → RefusedWithin 3 (fault (task survey.cells k start goal pull excess (take (3 * survey.passages) r.passages) (take (survey.cells * survey.cells) r.estimates)))

    go : (b : Result (Unit {0}) MapFault) → map_fault text ≡ b → (c : Bool) → Opens (past_check passages estimates b (provided c (map_refused passages estimates ShortSlice) (drawn m passages estimates)))
    go (Ok tt) e true d =
        let r = map_right text e in
        let s : survey_of m ≡ survey = cc in
        rw (← s, front_is (passages_of m) passages _ refl (3 * passages_many m) r.listed, front_is (estimates_of m) estimates _ refl (state_count m * state_count m) r.table) (map_opens text e k start goal pull excess)
    go (Ok tt) e false d = cc
    go (Err fault) e c d = cc

-- no state loses its cell: from a state to its row and column and back, and from an open cell to its state and back
pub state_spot : (text : List ℕ) (s : ℕ) (spot : Spot) → spot_of text s ≡ Some spot → state_at_spot text spot.row spot.column ≡ Some s
state_spot text s spot e =
    let p = spot_is text s spot e in
    let (q, place) = placed_standing text s spot.row spot.column p in
    standing_state text spot.row spot.column q ∙ ap Some (rw place (cell_state (map_of text) s p.inside))

pub spot_state : (text : List ℕ) (row column s : ℕ) → state_at_spot text row column ≡ Some s → spot_of text s ≡ Some (record { row = row; column = column })
spot_state text row column s e =
    let p = standing_is text row column s e in
    let q : state_of (map_of text) (place_of (map_of text) row column) ≡ s = cc (standing_state text row column p) in
    rw q at (spot_of_lem text (state_of (map_of text) (place_of (map_of text) row column)) row column (standing_placed text row column p))
