-- What the readers of a map know of a text in which no fault was found: how many states it has; and of one in which a fault was found.
-- Assumes nothing.
use Rattle.std.proofs.Common.{◌≡◌, List, ℕ, ◌≤◌, Option, Some, None, Result, Ok, Err, MatchResult, Bor}
use Rattle.std.specs.Result.{result_ok}
use Rattle.gridmap.specs.declared.grid.Grid.{Grid}
use Rattle.gridmap.specs.declared.faults.MapFault.{MapFault}
use Rattle.gridmap.specs.Map.{map_of, state_count}
use Rattle.gridmap.specs.Reading.{map_fault}
use Rattle.gridmap.specs.Laws.{map_with}
use Rattle.gridmap.specs.ReadingLaws.{map_is}

-- what the check ensures
abbrev pub Known : Bor (List ℕ) → Grid → Type 0
Known text grid = (grid.text ≡ text) × (map_with grid ≡ map_of text.now) × (map_fault text.now ≡ Ok tt)

abbrev pub Checked : Bor (List ℕ) → Result Grid MapFault → Type 0
Checked text r = MatchResult r (Known text) (λ fault. map_fault text.now ≡ Err fault)

module _ (text : Bor (List ℕ)) where
  pub few : (grid : Grid) → Known text grid → state_count (map_with grid) ≤ 256
  few grid known = rw known.1 (map_is text.now known.2).few

  -- where the refusal isn't passed on
  pub known : (grid : Grid) (r : Result Grid MapFault) → Some grid ≡ result_ok r → Checked text r → Known text grid
  known grid (Ok g) e c = let same : grid ≡ g = cc in rw same c
  known grid (Err fault) e c = cc

  pub refused : (r : Result Grid MapFault) → ◌≡◌ {A = Option Grid} None (result_ok r) → Checked text r → (fault : MapFault) × (map_fault text.now ≡ Err fault)
  refused (Ok g) e c = cc
  refused (Err fault) e c = (fault, c)
