-- Maps over the C interface: what the reader and the two ways between states and cells return, as numbers.
use Rattle.std.specs.Prelude.{Option, Some, None, Result, Ok, Err, ℕ, ◌+◌, ◌*◌}
use Rattle.gridmap.specs.declared.Survey.{Survey}
use Rattle.gridmap.specs.declared.faults.MapFault.{MapFault}
use Rattle.gridmap.specs.Faults.{map_fault_number}
use Rattle.gridmap.specs.declared.Spot.{Spot}

-- cells × 2^32 + passages; the refusal's number alone, which is smaller
abbrev pub survey_code : Result Survey MapFault → ℕ
survey_code (Ok survey) = survey.cells * 4294967296 + survey.passages
survey_code (Err fault) = map_fault_number fault

-- row × 65,536 + column; 4,294,967,295 where there is none
abbrev pub spot_code : Option Spot → ℕ
spot_code (Some spot) = spot.row * 65536 + spot.column
spot_code None = 4294967295

-- a state; 65,535 where there is none
abbrev pub state_code : Option ℕ → ℕ
state_code (Some state) = state
state_code None = 65535
