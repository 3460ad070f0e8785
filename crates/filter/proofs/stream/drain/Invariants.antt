-- `drain`: so many bytes are done, within the buffer.
use Rattle.std.proofs.Common.{◌≤◌, length}
use Rattle.filter.proofs.stream.drain.Given as goal

abbrev pub invariant-loop : goal.invariant-loop
invariant-loop l = l.done ≤ length l.buf
