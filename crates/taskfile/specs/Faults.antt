-- The number of each fault of a file, and of each refusal to write one. Definitions and laws say them by their names.
use Rattle.std.specs.Prelude.{ℕ}
use Rattle.taskfile.specs.declared.faults.FaultKind.{FaultKind}
use Rattle.taskfile.specs.declared.faults.FaultKind.TheVariants.{CutShort, OutOfOrder, TooLarge, ShortSlice}
use Rattle.taskfile.specs.declared.faults.Unwritable.{Unwritable}
use Rattle.taskfile.specs.declared.faults.Unwritable.TheVariants.{Uncarried, FileTooLarge, ShortBuffer}

-- 21 the file ends too early; 22 a record that isn't right where it stands; 23 n, the passages or the file too large; 27 a lent slice too short
abbrev pub fault_number : FaultKind → ℕ
fault_number CutShort = 21
fault_number OutOfOrder = 22
fault_number TooLarge = 23
fault_number ShortSlice = 27

-- 24 a task or event that the file can't carry; 25 a file above 65,536 bytes; 26 buffer too short
abbrev pub unwritable_number : Unwritable → ℕ
unwritable_number Uncarried = 24
unwritable_number FileTooLarge = 25
unwritable_number ShortBuffer = 26
