-- Reading a map: the reply, and both slices. "Reply: the counts of cells and passages; places past them stay. Refusals, in order: 31 header, 32 row length, row count or character, 33 no open cell or more than 256, 34 a lent slice too short."
use Rattle.std.specs.Prelude.{Bool, ◌&&◌, List, ℕ, ◌+◌, ◌*◌, length, ltb, leb, Option, Some, None, Result, Ok, Err, is_ok}
use Rattle.laws.specs.Truth.{provided}
use Rattle.laws.specs.Part.{overlaid}
use Rattle.gridmap.specs.declared.faults.MapFault.{MapFault}
use Rattle.gridmap.specs.declared.faults.MapFault.TheVariants.{BadHead, BadRows, BadCount, ShortSlice}
use Rattle.gridmap.specs.declared.Survey.{Survey}
use Rattle.gridmap.specs.declared.Spot.{Spot}
use Rattle.gridmap.specs.Text.{head_right}
use Rattle.gridmap.specs.Map.{Map, map_of, rows_right, open_at, cell_of, row_of, column_of, place_of, state_of, state_count, count_right}
use Rattle.gridmap.specs.Passages.{passages_of, passages_many}
use Rattle.gridmap.specs.Estimates.{estimates_of}

-- the first broken condition of 31 to 33, if one is broken
unfoldable pub map_fault : List ℕ → Result (Unit {0}) MapFault
map_fault text = provided (head_right text) (Err BadHead) (provided (rows_right (map_of text)) (Err BadRows) (provided (count_right (map_of text)) (Err BadCount) (Ok tt)))

-- 34 "a lent slice too short"
unfoldable pub roomy : Map → ℕ → ℕ → Bool
roomy m passages estimates = leb (3 * passages_many m) passages && leb (state_count m * state_count m) estimates

-- what comes back, and the two slices
pub record MapReading : Type 0 where
  pub reply : Result Survey MapFault
  pub passages : List ℕ
  pub estimates : List ℕ

abbrev pub map_refused : List ℕ → List ℕ → MapFault → MapReading
map_refused passages estimates fault = record { reply = Err fault; passages = passages; estimates = estimates }

-- how many states and passages a map has
abbrev pub survey_of : Map → Survey
survey_of m = record { cells = state_count m; passages = passages_many m }

abbrev pub drawn : Map → List ℕ → List ℕ → MapReading
drawn m passages estimates = record {
  reply = Ok (survey_of m);
  passages = overlaid 0 (passages_of m) passages;
  estimates = overlaid 0 (estimates_of m) estimates;
}

-- what a reading comes to where a check found nothing; else the refusal that it found
abbrev pub past_check : List ℕ → List ℕ → Result (Unit {0}) MapFault → MapReading → MapReading
past_check passages estimates (Ok u) reading = reading
past_check passages estimates (Err fault) reading = map_refused passages estimates fault

unfoldable pub read_map : List ℕ → List ℕ → List ℕ → MapReading
read_map text passages estimates =
    past_check passages estimates (map_fault text)
    (provided (roomy (map_of text) (length passages) (length estimates)) (map_refused passages estimates ShortSlice)
    (drawn (map_of text) passages estimates))

-- a cell as one number, which rises as the states do
abbrev pub spot_number : Spot → ℕ
spot_number spot = spot.row * 65536 + spot.column

-- the row and column of a state, from 0: none where the text is no map, or has no such state
unfoldable pub spot_of : List ℕ → ℕ → Option Spot
spot_of text s =
    let m = map_of text in
    provided (is_ok (map_fault text) && ltb s (state_count m)) None
    (Some (record { row = row_of m (cell_of m s); column = column_of m (cell_of m s) }))

-- and back, the state at a row and column: none where the text is no map, or no open cell is there
unfoldable pub state_at_spot : List ℕ → ℕ → ℕ → Option ℕ
state_at_spot text row column =
    let m = map_of text in
    provided (is_ok (map_fault text) && ((ltb row m.height && ltb column m.width) && open_at m (place_of m row column))) None
    (Some (state_of m (place_of m row column)))
