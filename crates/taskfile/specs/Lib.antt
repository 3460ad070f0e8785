-- "Task file": what a file says, the faults that a file can have, and order 6: the file that carries a task and its events.
pub mod Bytes
pub mod Records
pub mod Kinds
pub mod Faults
pub mod Scan
pub mod Contents
pub mod Writing
pub mod Cursors
pub mod BytesLaws
pub mod ChunkLaws
pub mod Laws
pub mod FillLaws
pub mod CarriedLaws
pub mod WritingLaws
pub mod CursorLaws
pub mod PutLaws
pub mod LoopLaws
