-- "Refusals, in order: 31 header, 32 row length, row count or character, 33 no open cell or more than 256, 34 a lent slice too short": the number of each.
use Rattle.std.specs.Prelude.{ℕ}
use Rattle.gridmap.specs.declared.faults.MapFault.{MapFault}
use Rattle.gridmap.specs.declared.faults.MapFault.TheVariants.{BadHead, BadRows, BadCount, ShortSlice}

abbrev pub map_fault_number : MapFault → ℕ
map_fault_number BadHead = 31
map_fault_number BadRows = 32
map_fault_number BadCount = 33
map_fault_number ShortSlice = 34
