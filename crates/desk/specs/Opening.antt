-- Opening: the machine that a task starts with, or refusals 1 to 7 beside a machine of zeros.
use Rattle.std.specs.Prelude.{Result, Ok, Err, set, replicate}
use Rattle.rule.specs.Task.{estimate}
use Rattle.rule.specs.Marks.{unseen, waiting, none}
use Rattle.rule.specs.Rule.{key_of}
use Rattle.rule.specs.declared.refusals.Refusal.{Refusal}
use Rattle.checks.specs.Opening.{Task, fault}
use Rattle.desk.specs.declared.Machine.{Machine}
use Rattle.desk.specs.declared.Reply.TheVariants.{Opened}
use Rattle.desk.specs.declared.Answer.{Answer}
use Rattle.desk.specs.Reply.{answer, refused}

-- "Opening sets the start open with label 0. All other marks and labels are 0, including places past n; “no passage” and “holds nothing” are 65,535."
-- order 8: the start's key, "set by opening"; 0 for all other states, which are unseen, and past n
unfoldable pub opened_machine : Task → Machine
opened_machine t = record {
  n = t.n;
  k = t.k;
  start = t.start;
  goal = t.goal;
  pull = t.pull;
  excess = t.excess;
  phase = 0;
  mark = set (replicate 256 unseen) t.start waiting;
  label = replicate 256 0;
  via = replicate 256 none;
  held = replicate 32 none;
  key = set (replicate 256 0) t.start (key_of 0 t.pull (estimate t.estimates t.n t.start t.goal));
}

-- "opening hands back no machine to use: all numbers 0"
unfoldable pub blank_machine : Machine
blank_machine = record {
  n = 0;
  k = 0;
  start = 0;
  goal = 0;
  pull = 0;
  excess = 0;
  phase = 0;
  mark = replicate 256 0;
  label = replicate 256 0;
  via = replicate 256 0;
  held = replicate 32 0;
  key = replicate 256 0;
}

-- by what the checks of opening found
abbrev pub opened : Task → Result (Unit {0}) Refusal → Answer
opened t (Ok u) = answer (opened_machine t) Opened
opened t (Err refusal) = refused blank_machine refusal

unfoldable pub opening_of : Task → Answer
opening_of t = opened t (fault t)
