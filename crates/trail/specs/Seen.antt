-- What going back reads as the code has it, lent, and as the definitions see it; and its answer, a number of states.
use Rattle.std.specs.Prelude.{Option, Some, None, ℕ, zero, suc}
use Rattle.trail.specs.declared.Trail.{Trail as Lent}
use Rattle.trail.specs.Trail.{Trail, trail}

abbrev pub seen : Lent → Trail
seen t = trail t.n t.start t.goal t.passages.now t.label.now t.via.now

-- so many states; none where there are none, which is where going back fails
abbrev pub counted : ℕ → Option ℕ
counted zero = None
counted (suc more) = Some (suc more)
