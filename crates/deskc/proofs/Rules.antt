-- The laws that a function here takes several of, under one name for its attribute: of an opening, and of a limited Take.
use Rattle.desk.specs.ToldLaws.{limited_dealt, limited_few, limited_narrow}
use Rattle.deskc.specs.Laws.{packed_parts, opened_small, opened_sized, opening_clamped, counting_told}

pub ruleset opens = (opened_small, opened_sized, opening_clamped, packed_parts)

pub ruleset counts = (limited_dealt, limited_few, limited_narrow, counting_told)
